use Rattle.std.proofs.Common.{List, ℕ, subst}
use Rattle.std.specs.List.{flat_map}
use Rattle.nd_message.specs.Owned.{whole_of}
use Rattle.nd_message.specs.Spelling.{piece_of, fields_of, spelling}
use Rattle.nd_message.proofs.Formed.{fits_of}
use Rattle.nd_message.proofs.Looping.{fields_first}
use Rattle.nd_message.proofs.Putting.{IsPutting, begins, room_left, goes_on}
use Rattle.nd_message.proofs.encoding.put_without_sum.Goals as goal

pub put_fields-requires : goal.put_fields-requires
put_fields-requires g c =
    let m = whole_of c.args.body.now c.args.options.now in
    let out = c.args.out.now in
    let start = subst (λ (left : List ℕ). IsPutting out out left (spelling 0 m)) (fields_first m) (begins out (spelling 0 m)) in
    room_left out out (fields_of 0 m.body) (flat_map piece_of m.options) (spelling 0 m) c.requires.room start

pub loop-option-init : goal.loop-option-init
loop-option-init g c =
    let m = whole_of c.args.body.now c.args.options.now in
    let out = c.args.out.now in
    let start = subst (λ (left : List ℕ). IsPutting out out left (spelling 0 m)) (fields_first m) (begins out (spelling 0 m)) in
    (goes_on out out c.put_fields.new.out (fields_of 0 m.body) (flat_map piece_of m.options) (spelling 0 m) start c.put_fields.ensures, (fits_of m c.requires.formed).behind.each)

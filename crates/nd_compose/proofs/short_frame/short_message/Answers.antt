use Rattle.std.proofs.Common.{rules, ◌≡◌, ℕ, ◌≤◌, List, [], ◌∷◌, ◌++◌, length, slice_index, replicate, ap, ◌∙◌, arith}
use Rattle.std.proofs.lemmas.List.{append-nil, length-append}
use borrow.Rule.Slice.PartMut.{put_mid}
use Rattle.nd_addr.proofs.Filled.{first_part, next_part, length-put_mid}
use Rattle.nd_compose.proofs.ShortFrames.{six_bytes}
use Rattle.nd_compose.proofs.short_frame.short_message.Goals as goal

-- the array after two parts
pub slice_bounds-bytes-end-3 : goal.slice_bounds-bytes-end-3
slice_bounds-bytes-end-3 c =
    let one = c.copy_from_slice.new.self ++ replicate 24 0 in
    let whole : length one ≡ 32 = omega (arith, length-append c.copy_from_slice.new.self (replicate 24 0)) in
    let fits : 32 ≤ length (put_mid 8 16 one c.copy_from_slice-2.new.self) = omega (arith, length-put_mid 8 16 one c.copy_from_slice-2.new.self (omega arith) (omega arith), whole) in
    fits

pub returns : goal.returns
returns c =
    let fields = c.args.fields in
    let target = c.args.target.0 in
    let mac = c.args.mac.0 in
    let front = fields ++ target in
    let option : List ℕ = c.args.kind ∷ 1 ∷ mac in
    let placed : c.copy_from_slice-3.new.self ≡ c.args.kind ∷ 1 ∷ slice_index mac 0 ∷ slice_index mac 1 ∷ slice_index mac 2 ∷ slice_index mac 3 ∷ slice_index mac 4 ∷ slice_index mac 5 ∷ [] = search rules in
    let told : c.copy_from_slice-3.new.self ≡ option = placed ∙ ap (λ (bytes : List ℕ). c.args.kind ∷ 1 ∷ bytes) (six_bytes mac (omega arith)) in
    let long : length front ≡ 24 = omega (arith, length-append fields target) in
    let one = first_part c.copy_from_slice.new.self fields (replicate 24 0) (search rules) in
    let two = next_part 8 16 _ fields (replicate 24 0) c.copy_from_slice-2.new.self target (omega arith) one (search rules) in
    next_part 24 8 _ front (replicate 8 0) c.copy_from_slice-3.new.self option long two told
    ∙ append-nil (front ++ option)

use Rattle.std.proofs.Common.{rules, ◌≡◌, ℕ, ◌≤◌, List, [], ◌∷◌, ◌++◌, length, replicate, ◌∙◌, arith}
use Rattle.std.proofs.lemmas.List.{append-nil, length-append}
use borrow.Rule.Slice.PartMut.{put_mid}
use Rattle.nd_addr.specs.Ip6.{written_header}
use Rattle.nd_addr.proofs.Filled.{first_part, next_part, length-put_mid}
use Rattle.nd_addr.proofs.frame.headers.Goals as goal

-- the array after two parts, and after three
pub slice_bounds-bytes-end-3 : goal.slice_bounds-bytes-end-3
slice_bounds-bytes-end-3 c =
    let one = c.copy_from_slice.new.self ++ replicate 48 0 in
    let whole : length one ≡ 54 = omega (arith, length-append c.copy_from_slice.new.self (replicate 48 0)) in
    let fits : 14 ≤ length (put_mid 6 6 one c.copy_from_slice-2.new.self) = omega (arith, length-put_mid 6 6 one c.copy_from_slice-2.new.self (omega arith) (omega arith), whole) in
    fits

pub slice_bounds-bytes-end-4 : goal.slice_bounds-bytes-end-4
slice_bounds-bytes-end-4 c =
    let one = c.copy_from_slice.new.self ++ replicate 48 0 in
    let two = put_mid 6 6 one c.copy_from_slice-2.new.self in
    let whole : length one ≡ 54 = omega (arith, length-append c.copy_from_slice.new.self (replicate 48 0)) in
    let same : length two ≡ 54 = omega (arith, length-put_mid 6 6 one c.copy_from_slice-2.new.self (omega arith) (omega arith), whole) in
    let fits : 54 ≤ length (put_mid 12 2 two c.copy_from_slice-3.new.self) = omega (arith, length-put_mid 12 2 two c.copy_from_slice-3.new.self (omega arith) (omega arith), same) in
    fits

pub returns : goal.returns
returns c =
    let destination = c.args.destination.0 in
    let source = c.args.source.0 in
    let addresses = destination ++ source in
    let fields : List ℕ = addresses ++ 0x86 ∷ 0xdd ∷ [] in
    let header = written_header c.args.header.now c.args.length in
    let l12 : length addresses ≡ 12 = omega (arith, length-append destination source) in
    let l14 : length fields ≡ 14 = omega (arith, length-append addresses (0x86 ∷ 0xdd ∷ []), l12) in
    let one = first_part c.copy_from_slice.new.self destination (replicate 48 0) (search rules) in
    let two = next_part 6 6 _ destination (replicate 48 0) c.copy_from_slice-2.new.self source (omega arith) one (search rules) in
    let three = next_part 12 2 _ addresses (replicate 42 0) c.copy_from_slice-3.new.self (0x86 ∷ 0xdd ∷ []) l12 two (search rules) in
    next_part 14 40 _ fields (replicate 40 0) c.copy_from_slice-4.new.self header l14 three (search rules)
    ∙ append-nil (fields ++ header)

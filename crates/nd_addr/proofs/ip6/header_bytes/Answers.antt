use Rattle.std.proofs.Common.{rules, ◌≡◌, ℕ, ◌+◌, ◌*◌, ◌^◌, ◌%◌, List, [], ◌∷◌, ◌++◌, length, replicate, ◌∙◌, arith}
use Rattle.std.proofs.lemmas.List.{append-nil, length-append}
use Rattle.byteorder.specs.Endian.{big_bytes}
use Rattle.nd_addr.proofs.Filled.{first_part, next_part}
use Rattle.nd_addr.proofs.ip6.header_bytes.Goals as goal

pub returns : goal.returns
returns c =
    let header = c.args.header.now in
    let first : ℕ = 6 * 2 ^ 28 + header.traffic_class * 2 ^ 20 + header.flow_label % 2 ^ 20 in
    let fields : List ℕ = big_bytes 4 first ++ big_bytes 2 c.args.length ++ header.next_header ∷ header.hop_limit ∷ [] in
    let front = fields ++ header.source.0 in
    let l : length front ≡ 24 = omega (arith, length-append fields header.source.0) in
    let one = first_part c.copy_from_slice.new.self fields (replicate 32 0) (search rules) in
    let two = next_part 8 16 _ fields (replicate 32 0) c.copy_from_slice-2.new.self header.source.0 (omega arith) one (search rules) in
    next_part 24 16 _ front (replicate 16 0) c.copy_from_slice-3.new.self header.destination.0 l two (search rules)
    ∙ append-nil (front ++ header.destination.0)

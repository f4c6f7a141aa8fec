use Rattle.std.proofs.Common.{◌≡◌, slice_index}
use Rattle.nd_addr.proofs.Numbers.{first_ten_bits, tested_first, tested_second, same_test}
use Rattle.nd_addr.proofs.addr.Addr.is_link_local.Goals as goal

pub returns-then-bytes-first-clause-says : goal.returns-then-bytes-first-clause-says
returns-then-bytes-first-clause-says c =
    let bits = first_ten_bits c.args.self.now.0 c.as_bytes-bytes.ensures.bytes.len_is c.as_bytes-bytes.ensures.bytes.each in
    rw c.as_bytes-bytes.ensures.value (tested_second _ _ _ bits (rw c.as_bytes-bytes.ensures.value at c.if-bytes-first.true))

pub returns-then-bytes-first-clause-exactly : goal.returns-then-bytes-first-clause-exactly
returns-then-bytes-first-clause-exactly c =
    let bits = first_ten_bits c.args.self.now.0 c.as_bytes-bytes.ensures.bytes.len_is c.as_bytes-bytes.ensures.bytes.each in
    rw c.as_bytes-bytes.ensures.value (same_test _ _ _ (tested_second _ _ _ bits (rw c.as_bytes-bytes.ensures.value at c.if-bytes-first.true)))

pub returns-else-bytes-first-clause-says : goal.returns-else-bytes-first-clause-says
returns-else-bytes-first-clause-says c =
    let bits = first_ten_bits c.args.self.now.0 c.as_bytes-bytes.ensures.bytes.len_is c.as_bytes-bytes.ensures.bytes.each in
    let other : slice_index c.args.self.now.0 0 ≡ 254 → ⊥ = rw c.as_bytes-bytes.ensures.value at c.if-bytes-first.false in
    rw c.as_bytes-bytes.ensures.value (tested_first _ _ _ bits (c.as_bytes-bytes.ensures.bytes.each 1) other)

pub returns-else-bytes-first-clause-exactly : goal.returns-else-bytes-first-clause-exactly
returns-else-bytes-first-clause-exactly c =
    let bits = first_ten_bits c.args.self.now.0 c.as_bytes-bytes.ensures.bytes.len_is c.as_bytes-bytes.ensures.bytes.each in
    let other : slice_index c.args.self.now.0 0 ≡ 254 → ⊥ = rw c.as_bytes-bytes.ensures.value at c.if-bytes-first.false in
    rw c.as_bytes-bytes.ensures.value (same_test _ _ _ (tested_first _ _ _ bits (c.as_bytes-bytes.ensures.bytes.each 1) other))

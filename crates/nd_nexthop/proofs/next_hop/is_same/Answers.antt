use Rattle.std.proofs.Common.{◌≡◌, ◌∙◌, ⊎_elim, List, ℕ, ap, bytes_eq, nat_eq, sym}
use Rattle.std.proofs.lemmas.Bool.{eq-eqb, ne_eqb}
use Rattle.nd_addr.specs.declared.addr.Addr.{Addr}
use Rattle.nd_addr.specs.Number.{addr_at, number_of}
use Rattle.nd_addr.specs.Same.{bytes_tell}
use Rattle.nd_nexthop.proofs.next_hop.is_same.Goals as goal

same_bytes : (a b : Addr) → addr_at (number_of a.0) ≡ a → addr_at (number_of b.0) ≡ b → nat_eq (number_of a.0) (number_of b.0) ≡ bytes_eq a.0 b.0
same_bytes a b told_a told_b =
    ⊎_elim (λ same. eq-eqb (number_of a.0) (number_of b.0) (ap (λ (l : List ℕ). number_of l) same.1) ∙ sym same.0)
    (λ other. ne_eqb (number_of a.0) (number_of b.0) (λ same. other.1 (ap (λ (x : Addr). x.0) (sym told_a ∙ (ap addr_at same ∙ told_b)))) ∙ sym other.0)
    (bytes_tell a.0 b.0)

pub returns : goal.returns
returns c = rw (c.to_bits.ensures, c.to_bits-2.ensures)
    (same_bytes c.args.a c.args.b (c.addresses_are_told_by_numbers.ensures.addr c.args.a c.as_bytes-a.ensures.bytes) (c.addresses_are_told_by_numbers.ensures.addr c.args.b c.as_bytes-b.ensures.bytes))

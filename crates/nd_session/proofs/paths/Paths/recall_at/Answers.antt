use Rattle.std.proofs.Common.{ℕ, ◌∙◌, Contains, ap, rules, subst, sym}
use Rattle.nd_addr.specs.Number.{addr_at}
use Rattle.nd_session.specs.Slots.{Slots}
use Rattle.nd_session.proofs.paths.Paths.recall_at.Goals as goal

pub returns-then-now-path : goal.returns-then-now-path
returns-then-now-path c =
    let path = c.in_ok-path.path.now in record {
      there = subst (λ (s : Slots). Contains s.paths path) c.self.view_is (search rules);
      version = c.if-path-self.true ∙ ap (λ (s : Slots). s.version) c.self.view_is;
      destination_is = sym (c.addresses_are_told_by_numbers.ensures.addr path.destination c.as_bytes-bytes-2.ensures.bytes)
          ∙ (ap (λ (n : ℕ). addr_at n) (sym c.to_bits.ensures ∙ (c.if-to_bits.true ∙ c.to_bits-then-path-self.ensures))
          ∙ c.addresses_are_told_by_numbers.ensures.addr c.args.destination c.as_bytes-bytes.ensures.bytes);
      from = c.if-path-now.true;
      until = c.if-now-path.true;
    }

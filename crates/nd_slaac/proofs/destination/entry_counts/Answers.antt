use Rattle.std.proofs.Common.{◌≡◌, ℕ, ◌<◌, ◌-◌, zero, suc, Some, [], ◌∷◌, List, length, get_or, ap, sym, ◌∙◌, arith}
use Rattle.std.specs.Prelude.{slice_get}
use Rattle.std.specs.Cmp.Lexicographic.{bytes_decides}
use Rattle.nd_addr.specs.Number.{number_of}
use Rattle.nd_table.specs.Keyed.{at_key}
use Rattle.nd_table.proofs.Keyed.{at_place}
use Rattle.nd_slaac.specs.AddressKept.{Address}
use Rattle.nd_slaac.specs.TableKept.{key_of}
use Rattle.nd_slaac.specs.Destination.{counted_in}
use Rattle.nd_slaac.proofs.destination.entry_counts.Goals as goal

-- an entry that is got is there
got : (entries : List Address) (i : ℕ) (a : Address) → Some a ≡ slice_get entries i → (i < length entries) × (a ≡ get_or entries i a)
got [] i a is = absurd (cc)
got (x ∷ entries) zero a is = (omega arith, let e : a ≡ x = cc in e)
got (x ∷ entries) (suc i) a is = let rest = got entries i a is in (omega (arith, rest.0), rest.1)

pub returns-in-Some : goal.returns-in-Some
returns-in-Some c =
    let last = c.in-Some.last.now in
    let there = got c.args.entries.now (length c.args.entries.now - 1) last c.in-Some.ensures.value in
    let same : key_of last ≡ number_of c.args.addr.0 = sym c.addr.ensures ∙ ap number_of ((bytes_decides c.addr.result.0 c.args.addr.0).0 (sym c.eq.ensures ∙ c.if-eq.true)) in
    c.counts.ensures ∙ sym (ap (counted_in c.args.counted) (ap (λ k. at_key key_of k c.args.entries.now) (sym same) ∙ at_place key_of c.args.entries.now (length c.args.entries.now - 1) last c.requires there.0 there.1))

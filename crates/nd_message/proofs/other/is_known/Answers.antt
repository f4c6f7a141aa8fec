use Rattle.std.proofs.Common.{◌≡◌, ℕ, ◌+◌, ◌-◌, ◌/◌, ◌≤◌, true, false, List, length, take, drop, Option, Some, None, refl, sym, ap, ◌∙◌, arith}
use Rattle.std.specs.Prelude.{MatchOption}
use Rattle.std.specs.Option.{is_some}
use Rattle.std.proofs.lemmas.Bool.{le-leb}
use Rattle.std.proofs.lemmas.List.{length-drop, take_all}
use Rattle.nd_search_list.specs.Names.{spells_names, names_in}
use Rattle.nd_search_list.specs.NamesLeft.{names_left}
use Rattle.nd_search_list.specs.declared.names.Names.{Names}
use Rattle.nd_decode.specs.Option.{known_of}
use Rattle.nd_message.specs.Spelling.{other_piece}
use Rattle.nd_message.proofs.other.is_known.Goals as goal

-- whether names are read tells whether the piece reads as a DNS Search List
names_known : (rest : List ℕ) (r : Option Names) → 2 ≤ (length rest + 2) / 8
    → MatchOption r (spells_names (drop 6 rest) ≡ false) (λ n. (spells_names (drop 6 rest) ≡ true) × (names_left n ≡ names_in (drop 6 rest)))
    → is_some r ≡ is_some (known_of (other_piece 31 rest))
unfolding known_of
names_known rest None long h = rw (le-leb _ _ long, h) refl
names_known rest (Some n) long h = rw (le-leb _ _ long, h.0) refl

pub returns-then-units-3 : goal.returns-then-units-3
returns-then-units-3 c =
    let behind : take (length c.args.rest.now - 6) (drop 6 c.args.rest.now) ≡ drop 6 c.args.rest.now = take_all _ _ (omega (arith, length-drop 6 c.args.rest.now)) in
    let exactly = rw behind at c.read-then-units-3.ensures.exactly in
    c.is_some-then-units-3.ensures ∙ names_known c.args.rest.now c.read-then-units-3.result c.if-units-3.true exactly ∙ ap (λ (k : ℕ). is_some (known_of (other_piece k c.args.rest.now))) (sym c.in-31.is)

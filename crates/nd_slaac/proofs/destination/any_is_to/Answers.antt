use Rattle.std.proofs.Common.{◌≡◌, ◌∙◌, sym, true, false, Bool, refl}
use Rattle.std.specs.Prelude.{◌||◌}
use Rattle.std.specs.List.{list_any}
use Rattle.nd_addr.specs.Number.{number_of}
use Rattle.nd_slaac.specs.TableKept.{address_in}
use Rattle.nd_slaac.specs.Destination.{counted_in, is_asked}
use Rattle.nd_slaac.proofs.Destinations.{is_to_either}
use Rattle.nd_slaac.proofs.destination.any_is_to.Goals as goal

-- one of two, by the second
by_second : (first second : Bool) → second ≡ true → (first || second) ≡ true
by_second true second h = refl
by_second false second h = h

-- and where the second is none, by the first
by_first : (first second : Bool) → second ≡ false → (first || second) ≡ first
by_first true second h = refl
by_first false second h = h

pub returns-then-any_is_asked : goal.returns-then-any_is_asked
returns-then-any_is_asked c =
    let told = c.addresses_are_told_by_numbers.ensures.addr c.args.destination c.as_bytes-bytes.ensures.bytes in
    let counted = counted_in c.args.counted (address_in (number_of c.args.destination.0) c.args.entries.now) in
    let asked = list_any (is_asked c.args.counted c.args.destination) c.args.entries.now in
    c.if-any_is_asked.true ∙ sym (is_to_either c.args.counted c.args.destination c.args.entries.now c.requires told ∙ by_second counted asked (sym c.any_is_asked.ensures ∙ c.if-any_is_asked.true))

pub returns-else-any_is_asked : goal.returns-else-any_is_asked
returns-else-any_is_asked c =
    let told = c.addresses_are_told_by_numbers.ensures.addr c.args.destination c.as_bytes-bytes.ensures.bytes in
    let counted = counted_in c.args.counted (address_in (number_of c.args.destination.0) c.args.entries.now) in
    let asked = list_any (is_asked c.args.counted c.args.destination) c.args.entries.now in
    c.entry_counts.ensures ∙ sym (is_to_either c.args.counted c.args.destination c.args.entries.now c.requires told ∙ by_first counted asked (sym c.any_is_asked.ensures ∙ c.if-any_is_asked.false))

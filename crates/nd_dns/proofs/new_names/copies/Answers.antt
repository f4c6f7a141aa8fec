use Rattle.std.proofs.Common.{◌≡◌, ◌∙◌, ap, sym, subst, refl, arith, true, ℕ, List, [], ◌∷◌, ◌++◌, length}
use Rattle.std.specs.Prelude.{nat_le}
use Rattle.std.proofs.lemmas.Bool.{cond-true, le-leb}
use Rattle.nd_addr.specs.Same.{bytes_tell}
use Rattle.nd_search_list.specs.NameRef.{name_of}
use Rattle.nd_table.specs.declared.walk.Walk.{Walk}
use Rattle.nd_table.specs.Listing.{announced, open_at, with_room}
use Rattle.nd_table.specs.ListingKept.{entered, enters}
use Rattle.nd_table.specs.WalkKept.{LeadsTo}
use Rattle.nd_table.proofs.Behind.{entered_open}
use Rattle.nd_table.proofs.Walking.{begins}
use Rattle.nd_table.proofs.WithRoom.{next_has_room, with_room_open}
use Rattle.nd_dns.specs.AnnouncedNames.{same_name}
use Rattle.nd_dns.specs.AnnouncedNamesKept.{names_to_come}
use Rattle.nd_dns.proofs.Adding.{one_more, some_enters, with_next}
use Rattle.nd_dns.proofs.new_names.copies.Goals as goal

pub loop-name-init : goal.loop-name-init
loop-name-init g c =
    let all = names_to_come c.args.announced in
    let at = open_at c.args.now c.args.entries.now in
    let w : Walk (List ℕ) = record { entries = c.args.entries; limit = c.args.limit; now = c.args.now; standing = length at; changed = 0 } in (
      at,
      subst (λ (x : Walk (List ℕ)). LeadsTo same_name name_of x _ at) (sym c.new-walk.ensures)
          (begins same_name bytes_tell name_of w _ c.requires.distinct c.requires.few (omega (arith, c.requires.limit)) (omega (arith, c.requires.limit)) refl refl),
      ap (λ (xs : List (List ℕ)). xs ++ entered same_name c.new-walk.result.now (with_room same_name c.new-walk.result.limit c.new-walk.result.now all at) at) c.none-copies.ensures
          ∙ (ap (λ (x : Walk (List ℕ)). entered same_name x.now (with_room same_name x.limit x.now all at) at) c.new-walk.ensures
          ∙ (ap (λ (told : List (List ℕ × ℕ)). entered same_name c.args.now told at) (with_room_open same_name bytes_tell c.args.limit c.args.now all c.args.entries.now)
          ∙ entered_open same_name bytes_tell c.args.now (with_room same_name c.args.limit c.args.now all c.args.entries.now) c.args.entries.now)),
    )

pub loop-name-preserved-then-adds : goal.loop-name-preserved-then-adds
loop-name-preserved-then-adds g c =
    let so_far = c.loop-name.invariant in
    let limit = c.loop-name.walk.limit in
    let now = c.loop-name.walk.now in
    let named = name_of c.in-Some.name in
    let w = c.in-Some.lifetime in
    let at = so_far.0 in
    let next = announced same_name now named w at in
    let left = names_to_come c.next_name.new.self in
    let roomy = with_room same_name limit now left next in
    let copies = c.loop-name.copies in
    let taken = c.in-Some-true.ensures.adds at so_far.1 in
    let room : nat_le (length next) limit ≡ true = le-leb _ _ (omega (arith, taken.1.standing, taken.1.within, c.adds.ensures.limit)) in
    let adds = enters same_name now named w at in
    let more = c.in_ok-add-in-Some-true.ensures ∙ sym (cond-true adds (copies ++ named ∷ []) copies (sym taken.0 ∙ c.in-Some-true.field-0-test)) in
    let followed = with_next now named w _ roomy at copies _ (next_has_room same_name limit now named w left _ at c.in-Some.ensures room) so_far.2 in (
      next,
      taken.1,
      ap (λ n. c.add.new.self ++ entered same_name n (with_room same_name c.adds.new.self.limit n left next) next) c.adds.ensures.now
          ∙ (ap (λ m. c.add.new.self ++ entered same_name now (with_room same_name m now left next) next) c.adds.ensures.limit
          ∙ one_more copies c.add.new.self (entered same_name now roomy next) _ named adds followed more),
    )

pub returns-in_err-add-in-Some-true-clause-quiet : goal.returns-in_err-add-in-Some-true-clause-quiet
returns-in_err-add-in-Some-true-clause-quiet g c = λ none.
    let so_far = c.loop-name.invariant in
    let limit = c.loop-name.walk.limit in
    let now = c.loop-name.walk.now in
    let named = name_of c.in-Some.name in
    let w = c.in-Some.lifetime in
    let at = so_far.0 in
    let next = announced same_name now named w at in
    let left = names_to_come c.next_name.new.self in
    let roomy = with_room same_name limit now left next in
    let taken = c.in-Some-true.ensures.adds at so_far.1 in
    let room : nat_le (length next) limit ≡ true = le-leb _ _ (omega (arith, taken.1.standing, taken.1.within, c.adds.ensures.limit)) in
    let followed = with_next now named w _ roomy at c.loop-name.copies _ (next_has_room same_name limit now named w left _ at c.in-Some.ensures room) so_far.2 in
    absurd (some_enters c.loop-name.copies (entered same_name now roomy next) _ named _ (sym taken.0 ∙ c.in-Some-true.field-0-test) followed none)

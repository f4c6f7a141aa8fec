-- Names that are copied in front of those that are still to be.
use Rattle.std.proofs.Common.{◌≡◌, ◌≤◌, ℕ, Bool, true, false, cond, eqb, List, [], ◌∷◌, ◌++◌, length, refl, sym, ◌∙◌, ap, append_assoc}
use Rattle.std.specs.Prelude.{◌&&◌, ◌||◌, not, is_some, nat_lt}
use Rattle.std.proofs.lemmas.Bool.{leb-true, true≢false}
use Rattle.nd_addr.specs.Same.{bytes_tell}
use Rattle.nd_table.specs.declared.lasting.Lasting.{Lasting}
use Rattle.nd_table.specs.Listing.{announced, end_in, fits, open_at, with_room}
use Rattle.nd_table.specs.ListingKept.{entered, enters}
use Rattle.nd_table.proofs.Steps.{announced_length}
use Rattle.nd_table.proofs.WithRoom.{all_have_room}
use Rattle.nd_dns.specs.AnnouncedNames.{same_name}

pub one_more : (copied more rest all : List (List ℕ)) (name : List ℕ) (enters : Bool) → copied ++ cond enters (name ∷ rest) rest ≡ all → more ≡ cond enters (copied ++ name ∷ []) copied → more ++ rest ≡ all
one_more copied more rest all name true h is = ap (λ (xs : List (List ℕ)). xs ++ rest) is ∙ (append_assoc copied (name ∷ []) rest ∙ h)
one_more copied more rest all name false h is = ap (λ (xs : List (List ℕ)). xs ++ rest) is ∙ h

-- a name enters behind the copies, so something does
pub some_enters : (copied rest all : List (List ℕ)) (name : List ℕ) (enters : Bool) → enters ≡ true → copied ++ cond enters (name ∷ rest) rest ≡ all → all ≡ [] → ⊥
some_enters copied rest all name false is total none = absurd (true≢false (sym is))
some_enters [] rest all name true is total none = let e : name ∷ rest ≡ [] = total ∙ none in absurd (cc)
some_enters (x ∷ copied) rest all name true is total none = let e : (x ∷ copied) ++ name ∷ rest ≡ [] = total ∙ none in absurd (cc)

-- the copies so far, the next name if it enters, and those of the later ones that enter are all that enter
pub with_next : (now : ℕ) (name : List ℕ) (w : ℕ) (rest left : List (List ℕ × ℕ)) (es : List (Lasting (List ℕ))) (copied all : List (List ℕ)) → rest ≡ (name, w) ∷ left → copied ++ entered same_name now rest es ≡ all
    → copied ++ cond (enters same_name now name w es) (name ∷ entered same_name now left (announced same_name now name w es)) (entered same_name now left (announced same_name now name w es)) ≡ all
with_next now name w rest left es copied all is total = ap (λ (l : List (List ℕ × ℕ)). copied ++ entered same_name now l es) (sym is) ∙ total

none_entered : (enters : Bool) (name : List ℕ) (rest : List (List ℕ)) → cond enters (name ∷ rest) rest ≡ [] → (enters ≡ false) × (rest ≡ [])
none_entered true name rest none = absurd (cc)
none_entered false name rest none = (refl, none)

stays_within : (zero stands fewer : Bool) → (not zero && not stands) ≡ false → (zero || (stands || fewer)) ≡ true
stays_within true stands fewer none = refl
stays_within false true fewer none = refl
stays_within false false fewer none = absurd (true≢false none)

-- where no name enters there is room
pub fits_unentered : (limit now : ℕ) (more : List (List ℕ × ℕ)) (es : List (Lasting (List ℕ))) → length es ≤ limit → entered same_name now more es ≡ [] → fits same_name limit now more es ≡ true
fits_unentered limit now [] es few none = refl
fits_unentered limit now ((name, w) ∷ more) es few none =
    let next = announced same_name now name w es in
    let parts = none_entered (enters same_name now name w es) name (entered same_name now more next) none in
    let room = announced_length same_name bytes_tell now name w limit es few ∙ stays_within (eqb w 0) (is_some (end_in same_name name (open_at now es))) (nat_lt (length (open_at now es)) limit) parts.0 in
    ap (λ b. b && fits same_name limit now more next) room ∙ fits_unentered limit now more next (leb-true _ _ room) parts.1

-- nor is a name added where those without room are passed over
pub none_added : (limit now : ℕ) (more : List (List ℕ × ℕ)) (es : List (Lasting (List ℕ))) → length es ≤ limit → entered same_name now more es ≡ [] → entered same_name now (with_room same_name limit now more es) es ≡ []
none_added limit now more es few none =
    ap (λ (all : List (List ℕ × ℕ)). entered same_name now all es) (all_have_room same_name limit now more es (fits_unentered limit now more es few none)) ∙ none

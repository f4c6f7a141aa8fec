-- An address that is given by hand is determined by its words.
use Rattle.std.proofs.Common.{◌≡◌, ◌∙◌, ◌^◌, ℕ, List, [], ◌∷◌, Option, Some, None, true, refl, sym, subst, arith}
use Rattle.std.specs.Prelude.{IfSome}
use Rattle.std.specs.Option.{SomeIff}
use Rattle.nd_addr.specs.declared.addr.Addr.{Addr}
use Rattle.nd_slaac.specs.ByHand.{AddressByHand, may_be_own}
use Rattle.ndpctl_run.specs.OwnAddress.{AreOwnAddressWords, SpellOwnAddress}
use Rattle.ndpctl_run.specs.Words.{words_of}
use Rattle.ndpctl_run.proofs.AddressWords.{one_address}
use Rattle.ndpctl_run.proofs.NumberWords.{one_number_or}

-- such an address by its values
own_of : Addr → ℕ → ℕ → AddressByHand
own_of address valid preferred = record { address = address; lifetimes = record { valid = valid; preferred = preferred } }

of_values : (own : AddressByHand) → own ≡ own_of own.address own.lifetimes.valid own.lifetimes.preferred
unfolding own_of
of_values own = refl

pub one_spelled : (words : List (List ℕ)) (a b : AddressByHand) → SpellOwnAddress words a → SpellOwnAddress words b → a ≡ b
one_spelled (address ∷ valid ∷ preferred ∷ []) a b p q =
    let address_is = one_address address a.address b.address p.0 q.0 in
    let valid_is = one_number_or 4294967295 (2 ^ 32) (omega arith) valid a.lifetimes.valid b.lifetimes.valid p.1 q.1 in
    let preferred_is = one_number_or 4294967295 (2 ^ 32) (omega arith) preferred a.lifetimes.preferred b.lifetimes.preferred p.2 q.2 in
    of_values a ∙ (rw (address_is, valid_is, preferred_is) (sym (of_values b)))
one_spelled _ a b p q = absurd p

pub one_own_address : (text : List ℕ) (a b : AddressByHand) → AreOwnAddressWords text a → AreOwnAddressWords text b → a ≡ b
one_own_address text a b p q = one_spelled (words_of text) a b p.spelled q.spelled

pub spelled_at : (text : List ℕ) (words : List (List ℕ)) (own : AddressByHand) → words_of text ≡ words → AreOwnAddressWords text own → SpellOwnAddress words own
spelled_at text words own e are = subst (λ (ws : List (List ℕ)). SpellOwnAddress ws own) e are.spelled

pub are_words : (text : List ℕ) (words : List (List ℕ)) (own : AddressByHand) → words_of text ≡ words → SpellOwnAddress words own → may_be_own own ≡ true → AreOwnAddressWords text own
are_words text words own e spelled right = record { spelled = subst (λ (ws : List (List ℕ)). SpellOwnAddress ws own) (sym e) spelled; right = right }

-- what holds of such an address, if there is one
pub if_own : {T : Type 0} (o : Option T) (Right : Type 0) (own : T) (P : T → Type 0) → (Right → P own) → SomeIff o Right own → IfSome o P
if_own (Some t) Right own P right h = subst P (sym h.1) (right h.0)
if_own None Right own P right h = tt

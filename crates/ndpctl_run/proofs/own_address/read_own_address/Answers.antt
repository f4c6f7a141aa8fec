use Rattle.std.proofs.Common.{◌≡◌, ◌∙◌, ℕ, Some, List, [], ◌∷◌, true, sym, ap, subst}
use Rattle.nd_slaac.specs.ByHand.{AddressByHand, may_be_own}
use Rattle.ndpctl_run.specs.OwnAddress.{AreOwnAddressWords, SpellOwnAddress}
use Rattle.ndpctl_run.specs.Words.{words_of}
use Rattle.ndpctl_run.proofs.OwnAddressWords.{if_own, are_words, one_spelled, spelled_at}
use Rattle.ndpctl_run.proofs.Readings.{some_iff}
use Rattle.ndpctl_run.proofs.own_address.read_own_address.Goals as goal

pub returns-in_err-address-2-clause-only : goal.returns-in_err-address-2-clause-only
returns-in_err-address-2-clause-only c = λ own are.
    let spelled = spelled_at c.args.text.now _ own c.in_ok-address.ensures.found are in
    let none = c.in_err-address-2.ensures.only own.address spelled.0 in
    cc

pub returns-in_err-valid-clause-only : goal.returns-in_err-valid-clause-only
returns-in_err-valid-clause-only c = λ own are.
    let spelled = spelled_at c.args.text.now _ own c.in_ok-address.ensures.found are in
    let none = c.in_err-valid.ensures.only own.lifetimes.valid spelled.1 in
    cc

pub returns-in_err-preferred-clause-only : goal.returns-in_err-preferred-clause-only
returns-in_err-preferred-clause-only c = λ own are.
    let spelled = spelled_at c.args.text.now _ own c.in_ok-address.ensures.found are in
    let none = c.in_err-preferred.ensures.only own.lifetimes.preferred spelled.2 in
    cc

-- what was read, whether an interface may have it or not
read : goal.After-new → AddressByHand
read c = record {
  address = c.in_ok-address-2.address;
  lifetimes = record { valid = c.in_ok-valid.valid; preferred = c.in_ok-preferred.preferred };
}

words : goal.After-new → List (List ℕ)
words c = let w = c.in_ok-address in w.address.now ∷ w.valid.now ∷ w.preferred.now ∷ []

spelled : (c : goal.After-new) → SpellOwnAddress (words c) (read c)
unfolding words read
spelled c = (c.in_ok-address-2.ensures.found, c.in_ok-valid.ensures.found, c.in_ok-preferred.ensures.found)

words_are : (c : goal.After-new) → words_of c.args.text.now ≡ words c
unfolding words
words_are c = c.in_ok-address.ensures.found

pub returns-clause-found : goal.returns-clause-found
unfolding read
returns-clause-found c =
    if_own c.new.result (may_be_own (read c) ≡ true) (read c) (AreOwnAddressWords c.args.text.now) (are_words c.args.text.now (words c) (read c) (words_are c) (spelled c)) c.new.ensures

pub returns-clause-only : goal.returns-clause-only
unfolding read
returns-clause-only c = λ own are.
    let same = one_spelled (words c) own (read c) (spelled_at c.args.text.now (words c) own (words_are c) are) (spelled c) in
    let right = subst (λ (o : AddressByHand). may_be_own o ≡ true) same are.right in
    some_iff c.new.result (may_be_own (read c) ≡ true) (read c) c.new.ensures right ∙ ap (λ (o : AddressByHand). Some o) (sym same)

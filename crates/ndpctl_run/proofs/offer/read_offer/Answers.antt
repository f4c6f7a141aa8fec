use Rattle.std.proofs.Common.{◌≡◌, ◌∙◌, ℕ, Some, None, List, [], ◌∷◌, sym, ap, subst}
use Rattle.std.specs.Prelude.{IfSome, Option}
use Rattle.std.specs.Result.{result_ok}
use Rattle.nd_decode.specs.declared.prefix_info.PrefixInfo.{PrefixInfo}
use Rattle.nd_advertiser.specs.Config.{unless}
use Rattle.nd_advertiser.specs.Offer.{offer_fault}
use Rattle.ndpctl_run.specs.Offer.{IsOffer, SpellOffer}
use Rattle.ndpctl_run.specs.Words.{words_of}
use Rattle.ndpctl_run.proofs.Faults.{if_made, made}
use Rattle.ndpctl_run.proofs.OfferWords.{is_offer, one_spelled, spelled_at}
use Rattle.ndpctl_run.proofs.offer.read_offer.Goals as goal

pub returns-in_err-prefix-2-clause-only : goal.returns-in_err-prefix-2-clause-only
returns-in_err-prefix-2-clause-only c = λ info is.
    let spelled = spelled_at c.args.text.now _ info c.in_ok-prefix.ensures.found is in
    let none = c.in_err-prefix-2.ensures.only info.prefix spelled.0 in
    cc

pub returns-in_err-valid-clause-only : goal.returns-in_err-valid-clause-only
returns-in_err-valid-clause-only c = λ info is.
    let spelled = spelled_at c.args.text.now _ info c.in_ok-prefix.ensures.found is in
    let none = c.in_err-valid.ensures.only info.valid_lifetime spelled.1 in
    cc

pub returns-in_err-preferred-clause-only : goal.returns-in_err-preferred-clause-only
returns-in_err-preferred-clause-only c = λ info is.
    let spelled = spelled_at c.args.text.now _ info c.in_ok-prefix.ensures.found is in
    let none = c.in_err-preferred.ensures.only info.preferred_lifetime spelled.2 in
    cc

-- what was read, whether it breaks a rule or not
read : goal.After-ok → PrefixInfo
read c = record {
  prefix = c.in_ok-prefix-2.prefix;
  on_link = c.in_ok-on_link.on_link;
  autonomous = c.in_ok-on_link.autonomous;
  valid_lifetime = c.in_ok-valid.valid;
  preferred_lifetime = c.in_ok-preferred.preferred;
}

words : goal.After-ok → List (List ℕ)
words c = let w = c.in_ok-prefix in w.prefix.now ∷ w.valid.now ∷ w.preferred.now ∷ w.flags.now ∷ []

spelled : (c : goal.After-ok) → SpellOffer (words c) (read c)
unfolding words read
spelled c = (c.in_ok-prefix-2.ensures.found, c.in_ok-valid.ensures.found, c.in_ok-preferred.ensures.found, c.in_ok-on_link.ensures.found)

made_of : (c : goal.After-ok) → c.ok.result ≡ result_ok (unless (offer_fault (read c)) (read c))
unfolding read
made_of c = c.ok.ensures.value ∙ ap result_ok c.new.ensures

words_are : (c : goal.After-ok) → words_of c.args.text.now ≡ words c
unfolding words
words_are c = c.in_ok-prefix.ensures.found

pub returns-clause-found : goal.returns-clause-found
returns-clause-found c =
    let text = c.args.text.now in
    let right = if_made (offer_fault (read c)) (read c) (IsOffer text) (is_offer text (words c) (read c) (words_are c) (spelled c)) in
    subst (λ (o : Option PrefixInfo). IfSome o (IsOffer text)) (sym (made_of c)) right

pub returns-clause-only : goal.returns-clause-only
returns-clause-only c = λ info is.
    let same = one_spelled (words c) info (read c) (spelled_at c.args.text.now (words c) info (words_are c) is) (spelled c) in
    let right = subst (λ (i : PrefixInfo). offer_fault i ≡ None) same is.right in
    made_of c ∙ made (offer_fault (read c)) (read c) right ∙ ap (λ (i : PrefixInfo). Some i) (sym same)

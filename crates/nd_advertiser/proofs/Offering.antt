-- What is offered, as what happened and as the list that is kept of it.
use Rattle.std.proofs.Common.{◌≡◌, true, false, List, [], ◌∷◌, ◌++◌, Option, Some, refl, sym, ◌∙◌, ap, subst, inl, inr}
use Rattle.std.specs.Prelude.{◌||◌, if◌then◌else◌, option_to_list, OnOk, Result, Ok, Err}
use Rattle.std.specs.List.{flat_map}
use Rattle.std.proofs.lemmas.Bool.{cond-true, cond-false, cond_both, cases_Bool, or_parts, or_from, false≢true}
use Rattle.nd_addr.specs.Prefix.{PrefixValue}
use Rattle.nd_addr.specs.Same.{same_prefix}
use Rattle.nd_addr.proofs.SamePrefix.{same_is, same_self, same_turned}
use Rattle.nd_decode.specs.declared.prefix_info.PrefixInfo.{PrefixInfo}
use Rattle.nd_advertiser.specs.History.{Row, Advertises, Assigned, Solicited, Sent, Ceased, Offered}
use Rattle.nd_advertiser.specs.Offers.{is_among, prefixes, offer_of, offers_of}
use Rattle.nd_advertiser.specs.declared.offers.Full.{Full}
use Rattle.nd_advertiser.specs.Table.{Table, GainsRow}
use Rattle.nd_advertiser.specs.Calls.{prefixes_in, with_offer}

module _ (f : PrefixValue → Option PrefixInfo) where
  -- what is said of each prefix
  abbrev pub listed : List PrefixValue → List PrefixInfo
  listed ps = flat_map (λ p. option_to_list (f p)) ps

  -- each of them has an offer, which is of it
  abbrev pub AreOffered : List PrefixValue → Type 0
  AreOffered [] = Unit {0}
  AreOffered (p ∷ ps) = ((o : PrefixInfo) × (f p ≡ Some o) × (o.prefix ≡ p)) × AreOffered ps

  pub prefixes_listed : (ps : List PrefixValue) → AreOffered ps → prefixes_in (listed ps) ≡ ps
  prefixes_listed [] h = refl
  prefixes_listed (p ∷ ps) h =
      ap (λ o. prefixes_in (option_to_list o ++ listed ps)) h.0.1 ∙ (ap (λ q. q ∷ prefixes_in (listed ps)) h.0.2 ∙ ap (λ l. p ∷ l) (prefixes_listed ps h.1))

-- none comes twice
abbrev pub AreApart : List PrefixValue → Type 0
AreApart [] = Unit {0}
AreApart (p ∷ ps) = (is_among p ps ≡ false) × AreApart ps

-- what is said once one more is offered
abbrev pub said_after : PrefixInfo → (PrefixValue → Option PrefixInfo) → PrefixValue → Option PrefixInfo
said_after info f p = if same_prefix p info.prefix then Some info else f p

-- another prefix has what it had
listed_others : (info : PrefixInfo) (f : PrefixValue → Option PrefixInfo) (ps : List PrefixValue) → is_among info.prefix ps ≡ false → listed (said_after info f) ps ≡ listed f ps
listed_others info f [] h = refl
listed_others info f (p ∷ ps) h =
    let parts = or_parts (same_prefix info.prefix p) (is_among info.prefix ps) h in
    ap (λ o. option_to_list o ++ listed (said_after info f) ps) (cond-false (same_prefix p info.prefix) (Some info) (f p) (same_turned p info.prefix ∙ parts.0))
    ∙ ap (λ l. option_to_list (f p) ++ l) (listed_others info f ps parts.1)

-- a prefix that is there is replaced in its place
listed_there : (info : PrefixInfo) (f : PrefixValue → Option PrefixInfo) (ps : List PrefixValue) → is_among info.prefix ps ≡ true → AreApart ps → AreOffered f ps
    → with_offer info (listed f ps) ≡ listed (said_after info f) ps
listed_there info f [] h a o = absurd (false≢true h)
listed_there info f (p ∷ ps) h a o =
    let q = info.prefix in
    let offer = o.0.0 in
    let front : with_offer info (listed f (p ∷ ps)) ≡ with_offer info (offer ∷ listed f ps) = ap (λ m. with_offer info (option_to_list m ++ listed f ps)) o.0.1 in
    elim (cases_Bool (same_prefix q p)) [
      | inl same ↦
          let is : q ≡ p = same_is q p same in
          let lacks : is_among q ps ≡ false = subst (λ (r : PrefixValue). is_among r ps ≡ false) (sym is) a.0 in
          let turned : same_prefix p q ≡ true = subst (λ (r : PrefixValue). same_prefix p r ≡ true) (sym is) (same_self p) in
          front
          ∙ (cond-true (same_prefix q offer.prefix) (info ∷ listed f ps) (offer ∷ with_offer info (listed f ps)) (ap (same_prefix q) o.0.2 ∙ same)
          ∙ (ap (λ l. info ∷ l) (sym (listed_others info f ps lacks))
          ∙ sym (ap (λ m. option_to_list m ++ listed (said_after info f) ps) (cond-true (same_prefix p q) (Some info) (f p) turned))))
      | inr differ ↦
          let more : is_among q ps ≡ true = sym (ap (λ b. b || is_among q ps) differ) ∙ h in
          front
          ∙ (cond-false (same_prefix q offer.prefix) (info ∷ listed f ps) (offer ∷ with_offer info (listed f ps)) (ap (same_prefix q) o.0.2 ∙ differ)
          ∙ (ap (λ l. offer ∷ l) (listed_there info f ps more a.1 o.1)
          ∙ sym (ap (λ m. option_to_list m ++ listed (said_after info f) ps) (cond-false (same_prefix p q) (Some info) (f p) (same_turned p q ∙ differ) ∙ o.0.1))))
    ]

-- a new one goes behind the others
listed_new : (info : PrefixInfo) (f : PrefixValue → Option PrefixInfo) (ps : List PrefixValue) → is_among info.prefix ps ≡ false → AreOffered f ps
    → with_offer info (listed f ps) ≡ listed (said_after info f) (ps ++ info.prefix ∷ [])
listed_new info f [] h o = sym (ap (λ m. option_to_list m ++ []) (cond-true (same_prefix info.prefix info.prefix) (Some info) (f info.prefix) (same_self info.prefix)))
listed_new info f (p ∷ ps) h o =
    let q = info.prefix in
    let offer = o.0.0 in
    let parts = or_parts (same_prefix q p) (is_among q ps) h in
    ap (λ m. with_offer info (option_to_list m ++ listed f ps)) o.0.1
    ∙ (cond-false (same_prefix q offer.prefix) (info ∷ listed f ps) (offer ∷ with_offer info (listed f ps)) (ap (same_prefix q) o.0.2 ∙ parts.0)
    ∙ (ap (λ l. offer ∷ l) (listed_new info f ps parts.1 o.1)
    ∙ sym (ap (λ m. option_to_list m ++ listed (said_after info f) (ps ++ q ∷ [])) (cond-false (same_prefix p q) (Some info) (f p) (same_turned p q ∙ parts.0) ∙ o.0.1))))

still_offered : (info : PrefixInfo) (f : PrefixValue → Option PrefixInfo) (ps : List PrefixValue) → AreOffered f ps → AreOffered (said_after info f) ps
still_offered info f [] h = tt
still_offered info f (p ∷ ps) h = (
  elim (cases_Bool (same_prefix p info.prefix)) [
    | inl same ↦ (info, cond-true (same_prefix p info.prefix) (Some info) (f p) same, sym (same_is p info.prefix same))
    | inr differ ↦ (h.0.0, cond-false (same_prefix p info.prefix) (Some info) (f p) differ ∙ h.0.1, h.0.2)
  ],
  still_offered info f ps h.1,
)

new_offered : (info : PrefixInfo) (f : PrefixValue → Option PrefixInfo) (ps : List PrefixValue) → AreOffered (said_after info f) ps → AreOffered (said_after info f) (ps ++ info.prefix ∷ [])
new_offered info f [] h = ((info, cond-true (same_prefix info.prefix info.prefix) (Some info) (f info.prefix) (same_self info.prefix), refl), tt)
new_offered info f (p ∷ ps) h = (h.0, new_offered info f ps h.1)

among_behind : (p q : PrefixValue) (ps : List PrefixValue) → is_among p ps ≡ false → same_prefix p q ≡ false → is_among p (ps ++ q ∷ []) ≡ false
among_behind p q [] h d = or_from (same_prefix p q) false d refl
among_behind p q (r ∷ ps) h d =
    let parts = or_parts (same_prefix p r) (is_among p ps) h in
    or_from (same_prefix p r) (is_among p (ps ++ q ∷ [])) parts.0 (among_behind p q ps parts.1 d)

still_apart : (q : PrefixValue) (ps : List PrefixValue) → is_among q ps ≡ false → AreApart ps → AreApart (ps ++ q ∷ [])
still_apart q [] h a = (refl, tt)
still_apart q (p ∷ ps) h a =
    let parts = or_parts (same_prefix q p) (is_among q ps) h in
    (among_behind p q ps a.0 (same_turned p q ∙ parts.0), still_apart q ps parts.1 a.1)

-- the prefixes are apart, and each has an offer
pub record AreGood (history : List Row) : Type 0 where
  pub apart : AreApart (prefixes history)
  pub offered : AreOffered (λ p. offer_of p history) (prefixes history)

pub good : (history : List Row) → AreGood history
good [] = record { apart = tt; offered = tt }
good (Advertises at settings ∷ history) = let g = good history in record { apart = g.apart; offered = g.offered }
good (Assigned at ∷ history) = let g = good history in record { apart = g.apart; offered = g.offered }
good (Solicited at delay ∷ history) = let g = good history in record { apart = g.apart; offered = g.offered }
good (Sent at interval ∷ history) = let g = good history in record { apart = g.apart; offered = g.offered }
good (Ceased at ∷ history) = let g = good history in record { apart = g.apart; offered = g.offered }
good (Offered info ∷ history) =
    let g = good history in
    let ps = prefixes history in
    let f : PrefixValue → Option PrefixInfo = λ p. offer_of p history in
    let after = still_offered info f ps g.offered in
    record {
      apart = cond_both (is_among info.prefix ps) ps (ps ++ info.prefix ∷ []) AreApart (λ _. g.apart) (λ lacks. still_apart info.prefix ps lacks g.apart);
      offered = cond_both (is_among info.prefix ps) ps (ps ++ info.prefix ∷ []) (AreOffered (said_after info f)) (λ _. after) (λ _. new_offered info f ps after);
    }

-- the list that is kept is what happened, also once one more is offered
pub offered_is : (info : PrefixInfo) (history : List Row) → with_offer info (offers_of history) ≡ offers_of (Offered info ∷ history)
offered_is info history =
    let g = good history in
    let ps = prefixes history in
    let f : PrefixValue → Option PrefixInfo = λ p. offer_of p history in
    cond_both (is_among info.prefix ps) ps (ps ++ info.prefix ∷ []) (λ qs. with_offer info (listed f ps) ≡ listed (said_after info f) qs)
    (λ there. listed_there info f ps there g.apart g.offered)
    (λ lacks. listed_new info f ps lacks g.offered)

-- the prefixes of the list are those that were offered
pub prefixes_are : (history : List Row) → prefixes_in (offers_of history) ≡ prefixes history
prefixes_are history = prefixes_listed (λ p. offer_of p history) (prefixes history) (good history).offered

-- a table that has one more offer gains the row
pub gains : (r : Result (Unit {0}) Full) (old new : Table) (info : PrefixInfo) → new.assigned ≡ old.assigned → new.last ≡ old.last → new.advertising ≡ old.advertising
    → OnOk r (new.offers ≡ with_offer info old.offers) → OnOk r (GainsRow old new (Offered info))
gains (Ok done) old new info a l on h =
    record { stands = λ history s. record { assigned = a ∙ s.assigned; last = l ∙ s.last; advertising = on ∙ s.advertising; offers = h ∙ (ap (with_offer info) s.offers ∙ offered_is info history) } }
gains (Err full) old new info a l on h = tt

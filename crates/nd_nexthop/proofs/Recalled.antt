-- What is remembered of the next hops is what they are.
use Rattle.std.proofs.Common.{◌≡◌, ℕ, Bool, true, List, Option, Some, None, Contains, IfSome, OnOk, OnErr, Result, Ok, Err, ◌⊎◌, inl, inr, nat_eq, sym, ◌∙◌, ap, subst}
use Rattle.std.specs.Map.{lookup}
use Rattle.std.proofs.lemmas.Bool.{eqb-true}
use Rattle.lru.specs.LruCache.{LruCache, lru_cache, promoted, put_entries}
use Rattle.lru.proofs.CallerLemmas.{Contains-lookup, Contains-promoted, Contains-put_entries}
use Rattle.nd_addr.specs.declared.addr.Addr.{Addr}
use Rattle.nd_addr.specs.Number.{number_of, addr_at}
use Rattle.nd_nexthop.specs.Choice.{Table, Agrees, Stands, target_in}
use Rattle.nd_nexthop.specs.DefaultRouter.{DefaultRouter}
use Rattle.nd_nexthop.specs.History.{RedirectRow, kept}
use Rattle.nd_nexthop.specs.Memo.{Memory, is_asked}
use Rattle.nd_nexthop.specs.NextHop.{NextHop, hop}
use Rattle.nd_nexthop.specs.NextHopKept.{hop_of}
use Rattle.nd_nexthop.specs.declared.next_hop.Hop.{Hop}
use Rattle.nd_nexthop.proofs.Places.{look_remembered}

-- a pair was remembered before, or is the answer of a moment at which it may be asked for
abbrev pub Remembers : ℕ → ℕ → Hop → Memory → ℕ × Hop → Type 0
Remembers now key h old e = Contains old.hops e ⊎ ((is_asked now old.until ≡ true) × (e ≡ (key, h)))

-- the same where no more was remembered before
pub remembers_less : (now key : ℕ) (h : Hop) (mid old : Memory) (e : ℕ × Hop) → mid.until ≡ old.until → (Contains mid.hops e → Contains old.hops e) → Remembers now key h mid e → Remembers now key h old e
remembers_less now key h mid old e until less (inl was) = inl (less was)
remembers_less now key h mid old e until less (inr this) = inr (subst (λ u. is_asked now u ≡ true) until this.0, this.1)

-- a pair that a look-up finds is there
pub pair_found : (key k : ℕ) (found : Option Hop) (es kept : List (ℕ × Hop)) → found ≡ lookup (nat_eq k) es → k ≡ key → es ≡ kept → IfSome found (λ h. Contains kept (key, h))
pair_found key k None es kept is same all = tt
pair_found key k (Some h) es kept is same all =
    let at = Contains-lookup (nat_eq k) es h (sym is) in
    subst (λ (l : List (ℕ × Hop)). Contains l (key, h)) all (subst (λ (j : ℕ). Contains es (j, h)) (sym (eqb-true k at.0 at.2) ∙ same) at.1)

-- a look-up brings no pair
pub pair_kept : (k : ℕ) (es kept new : List (ℕ × Hop)) → new ≡ promoted (nat_eq k) es → es ≡ kept → (e : ℕ × Hop) → Contains new e → Contains kept e
pair_kept k es kept new is all e there =
    subst (λ (l : List (ℕ × Hop)). Contains l e) all (Contains-promoted (nat_eq k) es e (subst (λ (l : List (ℕ × Hop)). Contains l e) is there))

-- each pair behind a put was there, or is the one that was put
pair_is : (key : ℕ) (h : Hop) (e : ℕ × Hop) → e.0 ≡ key → e.1 ≡ h → e ≡ (key, h)
pair_is key h e first second = ap (λ (k : ℕ). (k, e.1)) first ∙ ap (λ (v : Hop). (key, v)) second

pub pair_put : (key k : ℕ) (h : Hop) (cache : LruCache ℕ Hop) (e : ℕ × Hop) → k ≡ key → Contains (put_entries nat_eq cache k h) e → Contains cache.entries e ⊎ (e ≡ (key, h))
pair_put key k h cache e same c = elim (Contains-put_entries nat_eq cache k h e c) [
  | inl was ↦ inl was
  | inr put ↦ elim put.1 [
    | inl first ↦ inr (pair_is key h e (first ∙ same) put.0)
    | inr other ↦ inr (pair_is key h e (sym (eqb-true k e.0 other.2) ∙ same) put.0)
  ]
]

-- the same where the put may have been refused, which changes nothing
pub pair_remembered : {T E : Type 0} (answer : Result T E) (key k now : ℕ) (h : Hop) (old new : LruCache ℕ Hop) (kept : Memory) → OnOk answer (new ≡ lru_cache (put_entries nat_eq old k h) old.cap) → OnErr answer (new ≡ old)
    → k ≡ key → old.entries ≡ kept.hops → is_asked now kept.until ≡ true → (e : ℕ × Hop) → Contains new.entries e → Remembers now key h kept e
pair_remembered (Ok x) key k now h old new kept put same is all asked e there =
    elim (pair_put key k h old e is (subst (λ (c : LruCache ℕ Hop). Contains c.entries e) put there)) [
      | inl was ↦ inl (subst (λ (l : List (ℕ × Hop)). Contains l e) all was)
      | inr this ↦ inr (asked, this)
    ]
pair_remembered (Err x) key k now h old new kept put same is all asked e there =
    inl (subst (λ (l : List (ℕ × Hop)). Contains l e) all (subst (λ (c : LruCache ℕ Hop). Contains c.entries e) same there))

module _ (own linked : List ℕ → Bool) (routers : List DefaultRouter) where
  -- the next hop by what is kept is that by what happened
  pub by_history_of : (choice : Table) (destination : Addr) (next : NextHop)
      → next ≡ hop own linked routers (target_in (number_of destination.0) choice.redirects.entries) destination.0
      → (history : List RedirectRow) → Stands choice history → next ≡ hop own linked routers (kept choice.redirects.limit (number_of destination.0) history) destination.0
  by_history_of choice destination next is history s =
      let key = number_of destination.0 in
      is ∙ ap (λ k. hop own linked routers k destination.0) (ap (target_in key) s.entries_are ∙ look_remembered choice.redirects.limit key history)

  -- the one that is remembered is that by what is kept
  pub recalled : (now : ℕ) (choice : Table) (destination : Addr) (h : Hop) → Agrees now own linked routers choice → is_asked now choice.memory.until ≡ true
      → Contains choice.memory.hops (number_of destination.0, h) → addr_at (number_of destination.0) ≡ destination
      → hop_of h ≡ hop own linked routers (target_in (number_of destination.0) choice.redirects.entries) destination.0
  recalled now choice destination h agrees asked there same =
      let key = number_of destination.0 in
      agrees asked (key, h) there ∙ ap (λ (a : Addr). hop own linked routers (target_in key choice.redirects.entries) a.0) same

  -- with no more than the answer that was given what is remembered still agrees
  pub agrees_with : (now : ℕ) (old new : Table) (destination : Addr) (h : Hop) → Agrees now own linked routers old → new.redirects.entries ≡ old.redirects.entries → new.memory.until ≡ old.memory.until
      → addr_at (number_of destination.0) ≡ destination → hop_of h ≡ hop own linked routers (target_in (number_of destination.0) old.redirects.entries) destination.0
      → ((e : ℕ × Hop) → Contains new.memory.hops e → Remembers now (number_of destination.0) h old.memory e) → Agrees now own linked routers new
  agrees_with now old new destination h agrees redirects until same is more = λ asked e there. elim (more e there) [
    | inl was ↦ rw redirects (agrees (subst (λ u. is_asked now u ≡ true) until asked) e was)
    | inr this ↦ rw (redirects, this.1) (is ∙ sym (ap (λ (a : Addr). hop own linked routers (target_in (number_of destination.0) old.redirects.entries) a.0) same))
  ]

-- One next hop, and what is heard in a frame.
use Rattle.std.proofs.Common.{◌≡◌, ℕ, List, refl, sym, ◌∙◌, ap, subst}
use Rattle.std.specs.Prelude.{map}
use Rattle.std.proofs.lemmas.Bool.Decides.{eqb_tells}
use Rattle.nd_addr.specs.declared.addr.Addr.{Addr}
use Rattle.nd_addr.specs.declared.mac.Mac.{Mac}
use Rattle.nd_addr.specs.Number.{number_of}
use Rattle.nd_addr.specs.Prefix.{PrefixValue}
use Rattle.nd_decode.specs.declared.body.Body.{Body}
use Rattle.nd_decode.specs.declared.body.Body.TheVariants as bodies
use Rattle.nd_table.specs.declared.lasting.Lasting.{Lasting}
use Rattle.nd_table.specs.Listing.{Lists}
use Rattle.nd_table.proofs.UniqueKeys.{one_listing}
use Rattle.nd_routers.specs.History.{announcements}
use Rattle.nd_routers.specs.OnLink.{is_held}
use Rattle.nd_routers.specs.Routers.{same}
use Rattle.nd_routers.proofs.Unique.{one_failures}
use Rattle.nd_nexthop.specs.DefaultRouter.{DefaultRouter}
use Rattle.nd_nexthop.specs.History.{kept}
use Rattle.nd_nexthop.specs.NextHop.{NextHop, via, hop}
use Rattle.nd_validity.specs.Hearing.{Outcome}
use Rattle.nd_validity.proofs.Deciding.{hears_one}
use Rattle.nd_chronicle.specs.Start.{Policies, Start}
use Rattle.nd_chronicle.specs.Happening.{Chronicle}
use Rattle.nd_chronicle.specs.Histories.{router_history, prefix_history, redirect_history}
use Rattle.nd_chronicle.specs.OwnAddress.{is_own}
use Rattle.nd_addr.specs.declared.role.Role.{Role}
use Rattle.nd_addr.specs.declared.role.Role.TheVariants.{Host, Router}
use Rattle.nd_addr.specs.Same.{same_prefix, prefixes_tell}
use Rattle.nd_chronicle.specs.NextHop.{candidate, AreRouters, IsNextHop, IsHopOf}
use Rattle.nd_chronicle.specs.Reading.{IsRead, read_outcome}
use Rattle.nd_chronicle.specs.Solicited.{IsReadAt, outcome_at}
use Rattle.nd_chronicle.specs.Hearing.{FromFirstHop, NotFromFirstHop, Verdict, Judges, IsDropped, IsTaken, IsStrange, IsMisdirected, IsPacket, IsPassing, IsStrangePacket, IsHeard}

-- a frame is read in one way
one_read : (frame : List ℕ) (policies : Policies) (mac : Mac) (role : Role) (a b : Outcome) → IsRead policies mac frame role a → IsRead policies mac frame role b → a ≡ b
one_read frame policies mac role a b h k = h.as_read ∙ ap (λ (o : Outcome). read_outcome policies mac o) (hears_one frame role h.said k.said h.by_frame k.by_frame) ∙ sym k.as_read

-- and in one way at a moment
one_read_at : (start : Start) (c : Chronicle) (now : ℕ) (frame : List ℕ) (a b : Outcome) → IsReadAt start c now frame a → IsReadAt start c now frame b → a ≡ b
one_read_at start c now frame a b h k =
    h.at_moment ∙ ap (λ (o : Outcome). outcome_at start c now o) (one_read frame start.policies start.mac start.role h.read k.read h.by_frame k.by_frame) ∙ sym k.at_moment

module _ (c : Chronicle) (now : ℕ) where
  pub one_router_list : (es fs : List (Lasting ℕ)) → Lists same (announcements (router_history c)) now es → Lists same (announcements (router_history c)) now fs → es ≡ fs
  one_router_list es fs l m = one_listing same eqb_tells (announcements (router_history c)) now es fs l m

  one_routers : (rs ss : List DefaultRouter) → AreRouters c now rs → AreRouters c now ss → rs ≡ ss
  one_routers rs ss a b =
      a.routers_are
      ∙ ap (λ (failed : List ℕ). map (λ (e : Lasting ℕ). candidate c failed e.key) a.entries) (one_failures (router_history c) a.failed b.failed a.failures b.failures)
      ∙ ap (λ (es : List (Lasting ℕ)). map (λ (e : Lasting ℕ). candidate c b.failed e.key) es) (one_listing same eqb_tells (announcements (router_history c)) now a.entries b.entries a.listed b.listed)
      ∙ sym b.routers_are

  pub one_next_hop : (start : Start) (destination : Addr) (m n : NextHop) → IsNextHop start c now destination m → IsNextHop start c now destination n → m ≡ n
  one_next_hop start destination m n h k =
      h.next_is
      ∙ ap (λ (es : List (Lasting PrefixValue)). hop (is_own c) (λ (a : List ℕ). is_held a es) h.routers (kept start.limits.redirects (number_of destination.0) (redirect_history c)) destination.0)
      (one_listing same_prefix prefixes_tell (prefix_history c) now h.prefixes k.prefixes h.standing k.standing)
      ∙ ap (λ (rs : List DefaultRouter). hop (is_own c) (λ (a : List ℕ). is_held a k.prefixes) rs (kept start.limits.redirects (number_of destination.0) (redirect_history c)) destination.0)
      (one_routers h.routers k.routers h.those k.those)
      ∙ sym k.next_is

  pub one_hop : (start : Start) (role : Role) (destination : Addr) (m n : NextHop) → IsHopOf start role c now destination m → IsHopOf start role c now destination n → m ≡ n
  one_hop start Host destination m n h k = one_next_hop start destination m n h k
  one_hop start Router destination m n h k = h ∙ sym k

  not_both : (start : Start) (source : Addr) (body : Body) → FromFirstHop start c now source body → NotFromFirstHop start c now source body → ⊥
  not_both start source (bodies.Redirect r) h k = k.2 (one_next_hop start r.destination k.0 (via (number_of source.0)) k.1 h)
  not_both start source bodies.Rs h k = k
  not_both start source (bodies.Ra ra) h k = k
  not_both start source (bodies.Ns ns) h k = k
  not_both start source (bodies.Na na) h k = k

  module _ (start : Start) where
    one_judged : {frame : List ℕ} {said : Outcome} {a b : Verdict} → Judges start c now frame said a → Judges start c now frame said b → a ≡ b
    one_judged IsDropped IsDropped = refl
    one_judged (IsTaken u f) (IsTaken u' f') = refl
    one_judged (IsTaken u f) (IsStrange n) = absurd (n u)
    one_judged (IsTaken {source = source} {message = message} u f) (IsMisdirected u' n) = absurd (not_both start source message.body f n)
    one_judged (IsStrange n) (IsTaken u f) = absurd (n u)
    one_judged (IsStrange n) (IsStrange n') = refl
    one_judged (IsStrange n) (IsMisdirected u n') = absurd (n u)
    one_judged (IsMisdirected {source = source} {message = message} u n) (IsTaken u' f) = absurd (not_both start source message.body f n)
    one_judged (IsMisdirected u n) (IsStrange n') = absurd (n' u)
    one_judged (IsMisdirected u n) (IsMisdirected u' n') = refl
    one_judged (IsPacket u) (IsPacket u') = refl
    one_judged (IsPacket u) (IsPassing t) = absurd (t.not_ours u)
    one_judged (IsPacket u) (IsStrangePacket n m) = absurd (n u)
    one_judged (IsPassing t) (IsPacket u) = absurd (t.not_ours u)
    one_judged (IsPassing t) (IsPassing t') = refl
    one_judged (IsPassing t) (IsStrangePacket n m) = absurd (m t)
    one_judged (IsStrangePacket n m) (IsPacket u) = absurd (n u)
    one_judged (IsStrangePacket n m) (IsPassing t) = absurd (m t)
    one_judged (IsStrangePacket n m) (IsStrangePacket n' m') = refl

    pub one_heard : (frame : List ℕ) (a b : Verdict) → IsHeard start c now frame a → IsHeard start c now frame b → a ≡ b
    one_heard frame a b h k =
        one_judged (subst (λ (o : Outcome). Judges start c now frame o a) (one_read_at start c now frame h.outcome k.outcome h.by_frame k.by_frame) h.by_node) k.by_node

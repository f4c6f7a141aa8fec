-- The paths that a session remembers.
use Rattle.std.proofs.Common.{◌≡◌, Bool, true, false, ℕ, ◌+◌, ◌<◌, ◌≤◌, ◌-◌, Contains, Option, Some, None, refl, sym, ◌∙◌, ap, subst, arith, inl, inr, ⊎_elim}
use Rattle.std.specs.Prelude.{◌⊎◌, IfSome, nat_lt}
use Rattle.std.proofs.lemmas.Bool.Decides.{nat_tests}
use Rattle.std.proofs.lemmas.Bool.{cases_Bool, cond-false, cond-true}
use Rattle.std.specs.Global.{Global}
use Rattle.nd_addr.specs.declared.addr.Addr.{Addr}
use Rattle.nd_addr.specs.declared.mac.Mac.{Mac}
use Rattle.nd_addr.specs.Number.{number_of}
use Rattle.nd_table.specs.Listing.{open_at}
use Rattle.nd_neighbour.specs.declared.shown.Reachability.{Reachability}
use Rattle.nd_neighbour.specs.declared.shown.Reachability.TheVariants.{Delay}
use Rattle.nd_nexthop.specs.NextHop.{NextHop}
use Rattle.nd_out.specs.declared.out.Way.{Way}
use Rattle.nd_out.specs.declared.out.Way.TheVariants as ways
use Rattle.nd_node.specs.declared.node.Node.{Node}
use Rattle.nd_node.specs.declared.resolve.Resolution.TheVariants as resolutions
use Rattle.nd_node.specs.NodeKept.{Stands, next_of}
use Rattle.nd_node.specs.Path.{IsPath, PathSeen, first_end}
use Rattle.nd_node.specs.PathKept.{InLease, hop_kept, left_by_hop, left_kept, path_by_hop, path_kept, towards, up_kept}
use Rattle.nd_node.specs.ResolveKept.{IsWay}
use Rattle.nd_node.proofs.Lasting.{kept_lasts}
use Rattle.nd_node.proofs.Leaving.{LeftGoesOn, left_lasts, passing_leaves}
use Rattle.nd_node.proofs.Leases.{kept_is_path, lease_settled}
use Rattle.nd_random.specs.declared.source.Source.{Source}
use Rattle.nd_random.specs.Source.{stream_of_source}
use Rattle.nd_session.specs.declared.paths.LeasedPath.{LeasedPath}
use Rattle.nd_session.specs.declared.resolve.PathAnswer.TheVariants.{Path}
use Rattle.nd_session.specs.declared.session.Session.{Session}
use Rattle.nd_session.specs.Paths.{AreRemembered, IsPathAt, left_at}
use Rattle.nd_session.specs.Resolve.{GoesThere, IsLeased}
use Rattle.nd_session.specs.Slots.{AreForgotten, IsRecalled, Slots}

-- ---- what is remembered

-- the time that has passed decides no path
hop_later : (node : Node Source Global) (at now : ℕ) (destination : Addr) → hop_kept node.role (record node { last = at }) now destination ≡ hop_kept node.role node now destination
hop_later node at now destination = (passing_leaves node at).hop now destination

pub path_later : (node : Node Source Global) (at now : ℕ) (destination : Addr) → path_kept (record node { last = at }) now destination ≡ path_kept node now destination
path_later node at now destination =
    ap (λ (h : NextHop). path_by_hop (up_kept node) now (next_of node) (first_end node.role (open_at now node.prefixes.entries)) node.neighbours.entries destination h) (hop_later node at now destination)

left_later : (node : Node Source Global) (at now : ℕ) (destination : Addr) → left_kept (record node { last = at }) now destination ≡ left_kept node now destination
left_later node at now destination = ap (λ (h : NextHop). left_by_hop now node.neighbours.entries destination h) (hop_later node at now destination)

-- what is remembered is so when time has passed
pub remembers_later : (slots : Slots) (node later : Node Source Global) (at : ℕ) → later ≡ record node { last = at } → AreRemembered slots node → AreRemembered slots later
remembers_later slots node later at is r path there version now from until =
    let was = r path there version now from until in
    let same : path_kept later now path.destination ≡ path_kept node now path.destination = ap (λ (n : Node Source Global). path_kept n now path.destination) is ∙ path_later node at now path.destination in
    let left : left_kept later now path.destination ≡ left_kept node now path.destination = ap (λ (n : Node Source Global). left_kept n now path.destination) is ∙ left_later node at now path.destination in (
      ap (λ (q : PathSeen). q.until) same ∙ was.0,
      ap (λ (q : PathSeen). towards q.next path.destination) same ∙ was.1,
      ap (λ (q : PathSeen). q.mac) same ∙ was.2,
      ap (λ (q : PathSeen). q.state) same ∙ was.3,
      left ∙ was.4,
    )

-- nothing is, at any node
pub remembers_nothing : (slots : Slots) (node : Node Source Global) → AreForgotten slots → AreRemembered slots node
remembers_nothing slots node none path there version now from until = absurd (none path there version)

-- where something has changed it is forgotten
pub remembers_where : (changed : Bool) (slots left : Slots) (node later : Node Source Global) (at : ℕ) → (changed ≡ true → AreForgotten left) → (changed ≡ false → left ≡ slots)
    → (changed ≡ false → later ≡ record node { last = at }) → AreRemembered slots node → AreRemembered left later
remembers_where changed slots left node later at forgotten kept same r = elim (cases_Bool changed) [
  | inl changes ↦ remembers_nothing left later (forgotten changes)
  | inr stays ↦ subst (λ (s : Slots). AreRemembered s later) (sym (kept stays)) (remembers_later slots node later at (same stays) r)
]

-- what is left by then of a state that goes on
left_then : (now x : ℕ) (was later : Option ℕ) (end : ℕ) → (was ≡ None → end ≡ 0) → IfSome was (λ time. end ≡ now + time) → LeftGoesOn now x was later → later ≡ left_at end x
left_then now x None later end none some goes = goes ∙ sym (cond-false (nat_lt x end) (Some (end - x)) None (grind (arith, nat_tests, none refl)))
left_then now x (Some time) later end none some goes =
    goes.1 ∙ (ap (λ (e : ℕ). Some (e - x)) (sym some) ∙ sym (cond-true (nat_lt x end) (Some (end - x)) None (let before = goes.0 in grind (arith, nat_tests, before, some))))

module _ (node : Node Source Global) (now : ℕ) (destination to : Addr) (mac : Mac) (state : Option Reachability) (end : ℕ) (p : PathSeen)
    (left : Option ℕ) (left_is : left ≡ left_kept node now destination) (none : left ≡ None → end ≡ 0) (some : IfSome left (λ time. end ≡ now + time))
    (is : p ≡ path_kept node now destination) (to_is : towards p.next destination ≡ number_of to.0) (mac_is : p.mac ≡ Some (number_of mac.0)) (state_is : p.state ≡ state)
    (steady : ((path_kept node (p.until - 1) destination).state ≡ p.state) ⊎ (p.state ≡ Some Delay → ⊥)) where
  -- a path in its lease
  lasts_until : (version t : ℕ) → now ≤ t → t < p.until → IsPathAt node (record { destination = destination; to = to; mac = mac; state = state; reachable_until = end; from = now; until = p.until; version = version }) t
  lasts_until version t from until =
      let same = kept_lasts node now destination t from (subst (λ (q : PathSeen). t < q.until) is until)
      (⊎_elim (λ at_end. inl (ap (λ (q : PathSeen). (path_kept node (q.until - 1) destination).state) (sym is) ∙ (at_end ∙ ap (λ (q : PathSeen). q.state) is)))
      (λ other. inr (λ delayed. other (ap (λ (q : PathSeen). q.state) is ∙ delayed))) steady)
      ∙ sym is in (
        ap (λ (q : PathSeen). q.until) same,
        ap (λ (q : PathSeen). towards q.next destination) same ∙ to_is,
        ap (λ (q : PathSeen). q.mac) same ∙ mac_is,
        ap (λ (q : PathSeen). q.state) same ∙ state_is,
        left_then now t left (left_kept node t destination) end none some
            (subst (λ (o : Option ℕ). LeftGoesOn now t o (left_kept node t destination)) (sym left_is) (left_lasts node now t destination from (subst (λ (q : PathSeen). t < q.until) is until))),
      )

  -- it is remembered besides the others
  pub remembers_one : (old new : Slots) → new.version ≡ old.version
      → ((q : LeasedPath) → Contains new.paths q → Contains old.paths q ⊎ (q ≡ record { destination = destination; to = to; mac = mac; state = state; reachable_until = end; from = now; until = p.until; version = old.version }))
      → AreRemembered old node → AreRemembered new node
  remembers_one old new same more r path there version t from until = by (more path there)
    where
      by : Contains old.paths path ⊎ (path ≡ record { destination = destination; to = to; mac = mac; state = state; reachable_until = end; from = now; until = p.until; version = old.version }) → IsPathAt node path t
      by (inl was) = r path was (version ∙ same) t from until
      by (inr this) =
          subst (λ (q : LeasedPath). IsPathAt node q t) (sym this)
          (lasts_until old.version t (subst (λ (q : LeasedPath). q.from ≤ t) this from) (subst (λ (q : LeasedPath). t < q.until) this until))

-- ---- what is recalled

-- a path that is remembered is recalled
pub recalls_one : (slots : Slots) (now version : ℕ) (path : LeasedPath) (found : Option LeasedPath) → slots.version ≡ version → path.from ≡ now → now < path.until
    → IfSome found (λ p. Contains slots.paths p) → IfSome found (λ p. p ≡ record path { version = version }) → IfSome found (λ p. IsRecalled slots now path.destination p)
recalls_one slots now version path None same from until there is = there
recalls_one slots now version path (Some p) same from until there is = record {
  there = there;
  version = ap (λ (q : LeasedPath). q.version) is ∙ sym same;
  destination_is = ap (λ (q : LeasedPath). q.destination) is;
  from = subst (λ (q : LeasedPath). q.from ≤ now) (sym is) (omega (arith, from));
  until = subst (λ (q : LeasedPath). now < q.until) (sym is) until;
}

module _ (slots : Slots) (node : Node Source Global) (now : ℕ) (destination : Addr) (path : LeasedPath) (r : AreRemembered slots node) (recalled : IsRecalled slots now destination path) where
  here : IsPathAt node path now
  here = r path recalled.there recalled.version now recalled.from recalled.until

  -- it is in its lease
  pub recalled_in_lease : InLease node now destination path.to path.mac
  recalled_in_lease = record {
    holds = subst (λ (d : Addr). now < (path_kept node now d).until) recalled.destination_is (omega (arith, here.0, recalled.until));
    to_is = subst (λ (d : Addr). towards (path_kept node now d).next d ≡ number_of path.to.0) recalled.destination_is here.1;
    mac_is = subst (λ (d : Addr). (path_kept node now d).mac ≡ Some (number_of path.mac.0)) recalled.destination_is here.2;
  }

  -- its neighbour is seen as it was
  pub recalled_state : (path_kept node now destination).state ≡ path.state
  recalled_state = subst (λ (d : Addr). (path_kept node now d).state ≡ path.state) recalled.destination_is here.3

  pub recalled_left : left_kept node now destination ≡ left_at path.reachable_until now
  recalled_left = subst (λ (d : Addr). left_kept node now d ≡ left_at path.reachable_until now) recalled.destination_is here.4

  pub recalled_settled : now < next_of node
  recalled_settled = lease_settled node now now destination (omega arith) recalled_in_lease.holds

  -- packets go there at the node at which the time has passed
  pub recalled_goes : (way : Way) → ways.To path.to (Some path.mac) ≡ way → (later : Node Source Global) → later ≡ record node { last = now } → GoesThere now destination (Path way path.state path.until) later
  recalled_goes way way_is later is =
      let at : path_kept node now destination ≡ path_kept later now destination = sym (ap (λ (n : Node Source Global). path_kept n now destination) is ∙ path_later node now now destination) in
      subst (λ (w : Way). GoesThere now destination (Path w path.state path.until) later) way_is
      (λ lt. record {
        holds = subst (λ (p : PathSeen). now < p.until) at recalled_in_lease.holds;
        to_is = subst (λ (p : PathSeen). towards p.next destination ≡ number_of path.to.0) at recalled_in_lease.to_is;
        mac_is = subst (λ (p : PathSeen). p.mac ≡ Some (number_of path.mac.0)) at recalled_in_lease.mac_is;
      })

  -- and so is it at the node at which the time has passed
  pub recalled_leased : (session : Session) → session.node ≡ record node { last = now } → IsLeased now destination path.state path.until session
  recalled_leased session is =
      let at_node : (d : Addr) → path_kept session.node now d ≡ path_kept node now d = λ d. ap (λ (n : Node Source Global). path_kept n now d) is ∙ path_later node now now d in
      let same_next : next_of session.node ≡ next_of node = ap (λ (n : Node Source Global). next_of n) is in record {
        settled = λ lt start c s le. (
          path_kept session.node now destination,
          kept_is_path stream_of_source start session.node c s now destination le lt,
          sym (subst (λ (d : Addr). (path_kept session.node now d).state ≡ path.state) recalled.destination_is (ap (λ (q : PathSeen). q.state) (at_node path.destination) ∙ here.3)),
          sym (subst (λ (d : Addr). (path_kept session.node now d).until ≡ path.until) recalled.destination_is (ap (λ (q : PathSeen). q.until) (at_node path.destination) ∙ here.0)),
        );
        due = λ le. absurd (omega (arith, le, same_next, recalled_settled));
      }

-- ---- what is answered

-- the path by the tables is that of what happened
pub kept_leased : (node : Node Source Global) (session : Session) (now : ℕ) (destination : Addr) (path : PathSeen) → path ≡ path_kept node now destination → now < next_of node → session.node ≡ node
    → IsLeased now destination path.state path.until session
kept_leased node session now destination path is settled same = record {
  settled = λ lt start c s le. (
    path,
    subst (λ (q : PathSeen). IsPath start c now destination q) (sym is)
        (kept_is_path stream_of_source start node c (subst (λ (n : Node Source Global). Stands stream_of_source start n c) same s) now destination le settled),
    refl,
    refl,
  );
  due = λ le. absurd (let next = ap (λ (n : Node Source Global). next_of n) same in omega (arith, le, settled, next));
}

-- within its lease packets go where they go by the node
pub way_goes : (node later : Node Source Global) (now : ℕ) (destination : Addr) (way : Way) (path : PathSeen) → path ≡ path_kept node now destination → later ≡ node
    → IsWay node now destination (resolutions.Path way) → GoesThere now destination (Path way path.state path.until) later
way_goes node later now destination (ways.To to (Some mac)) path is same goes = λ lt.
    subst (λ (n : Node Source Global). InLease n now destination to mac) (sym same) (record { holds = subst (λ (p : PathSeen). now < p.until) is lt; to_is = goes.0; mac_is = goes.1 })
way_goes node later now destination (ways.To to None) path is same goes = tt
way_goes node later now destination ways.NoRoute path is same goes = tt

-- an answer without a lease says nothing of that
pub nothing_goes : (node : Node Source Global) (now : ℕ) (destination : Addr) (way : Way) → GoesThere now destination (Path way None now) node
nothing_goes node now destination (ways.To to (Some mac)) = λ lt. absurd (omega (arith, lt))
nothing_goes node now destination (ways.To to None) = tt
nothing_goes node now destination ways.NoRoute = tt

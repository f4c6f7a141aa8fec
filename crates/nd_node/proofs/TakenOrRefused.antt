-- A Router Advertisement is heard at a node: it is taken, or refused.
use Rattle.std.proofs.Common.{◌≡◌, ℕ, ◌≤◌, Bool, true, false, List, [], ◌∷◌, ◌++◌, append-nil, Option, Some, None, refl, sym, ◌∙◌, ap, subst}
use Rattle.std.specs.Option.{option_map}
use Rattle.rand_core.specs.Stream.{Stream}
use Rattle.nd_addr.specs.declared.addr.Addr.{Addr}
use Rattle.nd_decode.specs.Option.{Said}
use Rattle.nd_decode.specs.declared.body.Body.TheVariants as bodies
use Rattle.nd_decode.specs.declared.router_advertisement.RouterAdvertisement.{RouterAdvertisement}
use Rattle.nd_neighbour.specs.declared.news.News.{News}
use Rattle.nd_neighbour.specs.declared.news.Times.{Times}
use Rattle.nd_neighbour.specs.History.{RowKind}
use Rattle.nd_neighbour.specs.TableKept as cache
use Rattle.nd_chronicle.specs.Start.{Policies, Start}
use Rattle.nd_chronicle.specs.Happening as happenings
use Rattle.nd_chronicle.specs.Happening.{Chronicle, Happening, Passed, Heard, Refused, Full, last_moment}
use Rattle.nd_chronicle.specs.Histories.{neighbour_history, said_of_neighbour}
use Rattle.nd_chronicle.specs.Full.{entering, needs, Placed, AdvertisementFills}
use Rattle.nd_chronicle.specs.Message.{makes_way, said}
use Rattle.nd_chronicle.specs.RouterAdvertisement.{then_advertised}
use Rattle.nd_chronicle.specs.Told.{Told, items_at, items}
use Rattle.nd_out.specs.declared.out.Out.{Out}
use Rattle.nd_out.specs.declared.out.Out.TheVariants as outs
use Rattle.nd_out.specs.Out.{happening}
use Rattle.nd_steps.specs.NeighbourCache.{said_by}
use Rattle.nd_steps.specs.Outputs.{Tells}
use Rattle.nd_steps.specs.Outputs as told
use Rattle.nd_steps.proofs.Telling.{above_silent, handed_out, Tells-then}
use Rattle.nd_chronicle.specs.Answer as answers
use Rattle.nd_chronicle.proofs.Answering.{message_done}
use Rattle.nd_node.specs.declared.node.Node.{Node}
use Rattle.nd_node.specs.Hearing.{AddsMessage}
use Rattle.nd_node.specs.NodeKept.{Stands}
use Rattle.nd_node.specs.RouterAdvertisement.{advertised, TakesAdvertisement}
use Rattle.nd_node.specs.Frame.{AddsAlone}

-- one is reported, which is reported as this
pub tells_one : {A : Type 0} (c : Chronicle) (now : ℕ) (told_is what : Happening) (x y : List (ℕ × Out A)) (out : Out A) → happening out ≡ told_is → items_at (now, what) ≡ items_at (now, told_is) → y ≡ x ++ (now, out) ∷ []
    → Tells c ((now, what) ∷ (now, Passed) ∷ c) x y
tells_one c now told_is what x y out out_is same is = record {
  newer = (now, told_is) ∷ [];
  told = ap (λ (l : List (ℕ × Told)). (items c ++ []) ++ l) same ∙ above_silent (items c) (items_at (now, told_is));
  outs = ap told.happenings is ∙ (sym (append-nil _) ∙ (handed_out x now out [] ∙ ap (λ (h : Happening). told.happenings x ++ (now, h) ∷ []) out_is));
}

module _ (now : ℕ) (source : Addr) (ra : RouterAdvertisement) (options : List Said) where
  -- the same table is full once time has passed
  pub fills_later : (start : Start) (c : Chronicle) (limit : Option happenings.Limit) → AdvertisementFills start c now source ra (advertised ra options) limit
      → AdvertisementFills start ((now, Passed) ∷ c) now source ra (advertised ra options) limit
  fills_later start c limit f = record {
    neighbours = f.neighbours;
    placed = f.placed;
    routers = f.routers;
    those_routers = f.those_routers;
    prefixes = f.prefixes;
    those_prefixes = f.those_prefixes;
    forms = f.forms;
    those_addresses = f.those_addresses;
    servers = f.servers;
    those_servers = f.those_servers;
    names = f.names;
    those_names = f.those_names;
    first = f.first;
  }

module _ {R A : Type 0} (stream : R → Stream) (now : ℕ) (source destination : Addr) (ra : RouterAdvertisement) (options : List Said) where
  -- whether its sender has a place
  pub sender_placed : (node : Node R A) (news : Option News) (place : Bool)
      → ((times : Times) → option_map (said_by times) news ≡ said_of_neighbour source (bodies.Ra ra) options times.reachable)
      → ((start : Start) (c : Chronicle) (times : Times) → node.neighbours.limit ≡ start.limits.neighbours → node.policies.speakers ≡ start.policies.speakers → cache.Stands node.neighbours.entries (neighbour_history c) → Placed start c now (makes_way start (option_map (said_by times) news)) (entering (option_map (said_by times) news)) place)
      → (start : Start) (c : Chronicle) → Stands stream start node c → Placed start c now (makes_way start (said c source (advertised ra options))) (needs c source (advertised ra options) (bodies.Ra ra)) place
  sender_placed node news place is placed start c s =
      let times : Times = record { retrans = 0; reachable = 0 } in
      subst (λ (said : Option (ℕ × RowKind)). Placed start c now (makes_way start said) (entering said) place) (is times)
      (placed start c times s.limits.neighbours (ap (λ (p : Policies). p.speakers) s.policies) s.neighbours)

  -- it is refused, since a table has no room
  pub refuses : (old new : Node R A) (x y : List (ℕ × Out A)) (limit : happenings.Limit) → old.policies.parts ≡ false
      → ((start : Start) (c : Chronicle) → Stands stream start old c → last_moment start.at c ≤ now → AdvertisementFills start c now source ra (advertised ra options) (Some limit))
      → AddsAlone stream old new x y now (Refused (Full limit)) → AddsMessage stream old new x y now source destination (advertised ra options) (answers.Refused (Full limit))
  refuses old new x y limit whole fills adds = record {
    each = λ start c s le target.
        let a = adds.each start c s le in (
          (now, Refused (Full limit)) ∷ (now, Passed) ∷ c,
          (Some limit, fills_later now source ra options start c (Some limit) (fills start c s le), rw (ap (λ (p : Policies). p.parts) (sym s.policies) ∙ whole) refl),
          a.0,
          a.1,
          refl,
        );
  }

  -- it is taken, since each has room
  pub takes : (old new : Node R A) (x same y z : List (ℕ × Out A)) (out : Out A) → out ≡ outs.Heard source destination (bodies.Ra ra)
      → ((start : Start) (c : Chronicle) → Stands stream start old c → last_moment start.at c ≤ now → AdvertisementFills start c now source ra (advertised ra options) None)
      → same ≡ x → y ≡ same ++ (now, out) ∷ []
      → TakesAdvertisement stream old new y z now source destination ra options true → AddsMessage stream old new x z now source destination (advertised ra options) answers.Done
  takes old new x same y z out out_is fills same_is told_is taken = record {
    each = λ start c s le target.
        let a = taken.each start c s le in (
          then_advertised start now source destination ra (advertised ra options) true a.gone (neighbour_history c) a.placed,
          (None, fills_later now source ra options start c None (fills start c s le), (a.gone, a.placed, a.room, refl)),
          a.stands,
          Tells-then c ((now, Heard source destination (advertised ra options)) ∷ (now, Passed) ∷ c) _ x y z
              (tells_one c now (Heard source destination (record { body = bodies.Ra ra; options = [] })) (Heard source destination (advertised ra options)) x y out (ap happening out_is) refl
              (told_is ∙ ap (λ (l : List (ℕ × Out A)). l ++ (now, out) ∷ []) same_is)) a.tells,
          sym (message_done start now source destination (advertised ra options) ((now, Passed) ∷ c) _ refl (a.gone, a.placed, a.room, refl)),
        );
  }

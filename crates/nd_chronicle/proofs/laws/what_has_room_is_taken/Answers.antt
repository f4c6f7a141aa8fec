use Rattle.std.proofs.Common.{◌≡◌, ℕ, Bool, true, false, List, ◌∷◌, length, Option, Some, None, cond, refl, sym, ◌∙◌, ap}
use Rattle.std.specs.Prelude.{◌&&◌, not, nat_le, nat_lt, if◌then◌else◌, IsSomeAnd}
use Rattle.std.proofs.lemmas.Bool.{true≢false}
use Rattle.std.proofs.Math.Bool.{and-true}
use Rattle.std.proofs.lemmas.Bool.Decides.{eqb_tells}
use Rattle.nd_addr.specs.declared.addr.Addr.{Addr}
use Rattle.nd_addr.specs.declared.mac.Mac.{Mac}
use Rattle.nd_addr.specs.Number.{number_of}
use Rattle.nd_addr.specs.Same.{addrs_tell, bytes_tell, prefixes_tell, same_addr, same_prefix}
use Rattle.nd_decode.specs.Message.{Parts}
use Rattle.nd_decode.specs.declared.body.Body.{Body}
use Rattle.nd_decode.specs.declared.body.Body.TheVariants as bodies
use Rattle.nd_decode.specs.declared.prefix_info.PrefixInfo.{PrefixInfo}
use Rattle.nd_dns.specs.AnnouncedNames.{same_name}
use Rattle.nd_neighbour.specs.Place.{WouldBeFull}
use Rattle.nd_routers.specs.Routers as routers
use Rattle.nd_slaac.specs.PrefixOption.{named_by}
use Rattle.nd_slaac.specs.Room as own
use Rattle.nd_table.proofs.Finding.{Tells}
use Rattle.nd_table.proofs.Steps.{announced_length}
use Rattle.nd_table.specs.Listing.{announced, with_room}
use Rattle.nd_chronicle.specs.Start.{Start}
use Rattle.nd_chronicle.specs.Happening.{Chronicle}
use Rattle.nd_chronicle.specs.Histories.{neighbour_history}
use Rattle.nd_chronicle.specs.Full.{Placed, needs}
use Rattle.nd_chronicle.specs.Message.{makes_way, said}
use Rattle.nd_chronicle.specs.Parts.{IsTakenInPart, Taken, TakesByRoom}
use Rattle.nd_chronicle.proofs.Parts.{addresses_have_room, alike_options, links_have_room, names_have_room, servers_have_room}
use Rattle.nd_chronicle.proofs.laws.what_has_room_is_taken.Goals as goal

pub returns-clause-prefixes : goal.returns-clause-prefixes
returns-clause-prefixes c = λ limits mac now f options. links_have_room limits mac now f options

pub returns-clause-addresses : goal.returns-clause-addresses
returns-clause-addresses c = λ limits mac now f options start to_all c'. alike_options (addresses_have_room limits mac now f options) start now to_all c'

pub returns-clause-servers : goal.returns-clause-servers
returns-clause-servers c = λ limits mac now f options. servers_have_room limits mac now f options

pub returns-clause-names : goal.returns-clause-names
returns-clause-names c = λ limits mac now f options. names_have_room limits mac now f options

by_room : {K : Type 0} (same : K → K → Bool) → Tells same → TakesByRoom same
by_room same tells = λ limit now key lifetime more es le.
    ap (λ (b : Bool). cond b ((key, lifetime) ∷ with_room same limit now more (announced same now key lifetime es)) (with_room same limit now more es))
    (announced_length same tells now key lifetime limit es le)

pub returns-clause-prefix : goal.returns-clause-prefix
returns-clause-prefix c = by_room same_prefix prefixes_tell

pub returns-clause-server : goal.returns-clause-server
returns-clause-server c = by_room same_addr addrs_tell

pub returns-clause-name : goal.returns-clause-name
returns-clause-name c = by_room same_name bytes_tell

-- ---- own addresses

address_by : (limit : ℕ) (mac : Mac) (keys : List ℕ) (info : PrefixInfo) (infos : List PrefixInfo) (forms room : Bool)
    → (if forms then (if room then info ∷ own.with_room limit mac (named_by mac info ∷ keys) infos else own.with_room limit mac keys infos) else info ∷ own.with_room limit mac keys infos)
    ≡ (if forms && not room then own.with_room limit mac keys infos else info ∷ own.with_room limit mac (if forms then named_by mac info ∷ keys else keys) infos)
address_by limit mac keys info infos true true = refl
address_by limit mac keys info infos true false = refl
address_by limit mac keys info infos false room = refl

pub returns-clause-address : goal.returns-clause-address
returns-clause-address c = λ limit mac keys info infos. address_by limit mac keys info infos (own.would_form mac keys info) (nat_lt (length keys) limit)

-- ---- the router and the neighbour

pub returns-clause-router : goal.returns-clause-router
returns-clause-router c = λ start c' now source ra message taken t few.
    t.listed_is
    ∙ (and-true (nat_le (length (announced routers.same now (number_of source.0) ra.router_lifetime t.routers)) start.limits.routers)
    ∙ announced_length routers.same eqb_tells now (number_of source.0) ra.router_lifetime start.limits.routers t.routers few)

module _ (start : Start) (c : Chronicle) (now : ℕ) (source : Addr) (message : Parts) (taken : Taken) where
  placed_in_part : (body : Body) → IsTakenInPart start c now source message body taken → Placed start c now (makes_way start (said c source message)) (needs c source message message.body) taken.place
  placed_in_part (bodies.Ra ra) t = t.placed
  placed_in_part (bodies.Rs) t = t.placed
  placed_in_part (bodies.Ns ns) t = t.placed
  placed_in_part (bodies.Na na) t = t.placed
  placed_in_part (bodies.Redirect r) t = t.placed

  full_if_not : (gives : Bool) (need : Option (ℕ × Bool)) (place : Bool) → Placed start c now gives need place → place ≡ false
      → IsSomeAnd need (λ n. (n.1 ≡ true) × WouldBeFull start.limits.neighbours now n.0 (neighbour_history c))
  full_if_not gives None place p is = absurd (true≢false (sym p ∙ is))
  full_if_not gives (Some need) true p is = absurd (true≢false is)
  full_if_not true (Some need) false p is = (p.0, p.1.full)
  full_if_not false (Some need) false p is = p

pub returns-clause-neighbour : goal.returns-clause-neighbour
returns-clause-neighbour c = λ start c' now source message taken t is.
    full_if_not start c' now source message taken (makes_way start (said c' source message)) (needs c' source message message.body) taken.place
    (placed_in_part start c' now source message taken message.body t) is

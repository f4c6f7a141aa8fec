-- What a Router Advertisement does to the parameters of the link and to the generator (RFC 4861, section 6.3.4).
use Rattle.std.specs.Prelude.{◌≡◌, ℕ, Bool, true, false, List, ◌∷◌, Option, Some, None}
use Rattle.rand_core.specs.Stream.{Stream, next_u32}
use Rattle.nd_addr.specs.declared.addr.Addr.{Addr}
use Rattle.nd_decode.specs.Option.{Said}
use Rattle.nd_decode.specs.declared.router_advertisement.RouterAdvertisement.{RouterAdvertisement}
use Rattle.nd_params.specs.Params.{redraws}
use Rattle.nd_params.specs.ParamsKept.{Values}
use Rattle.nd_chronicle.specs.Start.{Start}
use Rattle.nd_chronicle.specs.Happening.{Chronicle, Heard}
use Rattle.nd_chronicle.specs.Histories.{parameter_history}
use Rattle.nd_chronicle.specs.InForce.{base_reachable_time}
use Rattle.nd_chronicle.specs.Generator.{stream_left, reachable_drawn}
use Rattle.nd_chronicle.specs.RouterAdvertisement.{redrawing}
use Rattle.nd_decode.specs.declared.body.Body.TheVariants as bodies
use Rattle.nd_params.specs.ParamsKept as parameters

-- a ReachableTime for the base, and what the generator will answer then, where one is drawn
abbrev pub redraw_from : Bool → ℕ → Stream → Option ℕ × Stream
redraw_from true base stream = (Some (reachable_drawn base stream), (next_u32 stream).1)
redraw_from false base stream = (None, stream)

-- the advertisement is heard, and ReachableTime drawn where it changes the base
abbrev pub then_parameters : Start → ℕ → Addr → Addr → RouterAdvertisement → List Said → Chronicle → Chronicle
then_parameters start now source destination ra options c =
    redrawing start now ra.reachable_time (redraws (base_reachable_time c) ra.reachable_time)
    ((now, Heard source destination (record { body = bodies.Ra ra; options = options })) ∷ c)

-- From whatever chronicle they were those of, the parameters and the generator are those of it with the advertisement.
pub record HearsParameters (old new : Values) (before after : Stream) (now : ℕ) (ra : RouterAdvertisement) (options : List Said) : Type 0 where
  pub params : (start : Start) (c : Chronicle) (source destination : Addr) → parameters.Stands old (parameter_history c) → before ≡ stream_left start c
      → parameters.Stands new (parameter_history (then_parameters start now source destination ra options c))
  pub generator : (start : Start) (c : Chronicle) (source destination : Addr) → parameters.Stands old (parameter_history c) → before ≡ stream_left start c
      → after ≡ stream_left start (then_parameters start now source destination ra options c)

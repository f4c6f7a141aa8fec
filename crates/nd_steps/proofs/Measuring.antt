-- What a Router Advertisement does to the parameters of the link and to the generator.
use Rattle.std.proofs.Common.{◌≡◌, ℕ, Bool, true, false, List, ◌∷◌, Option, subst, ap, ◌∙◌}
use Rattle.rand_core.specs.Stream.{Stream}
use Rattle.nd_addr.specs.declared.addr.Addr.{Addr}
use Rattle.nd_decode.specs.Option.{Said}
use Rattle.nd_decode.specs.declared.body.Body.TheVariants as bodies
use Rattle.nd_decode.specs.declared.router_advertisement.RouterAdvertisement.{RouterAdvertisement}
use Rattle.nd_params.specs.History.{then_heard}
use Rattle.nd_params.specs.ParamsKept as parameters
use Rattle.nd_params.specs.Params.{redraws}
use Rattle.nd_params.specs.ParamsKept.{Values}
use Rattle.nd_chronicle.specs.Start.{Start}
use Rattle.nd_chronicle.specs.Happening.{Chronicle, Heard}
use Rattle.nd_chronicle.specs.Histories.{parameter_history}
use Rattle.nd_chronicle.specs.InForce.{base_reachable_time}
use Rattle.nd_chronicle.specs.Generator.{stream_left}
use Rattle.nd_chronicle.specs.RouterAdvertisement.{redrawing}
use Rattle.nd_steps.specs.Parameters.{redraw_from, HearsParameters}

module _ (old new : Values) (before after : Stream) (now : ℕ) (ra : RouterAdvertisement) (options : List Said) (drawn : Option ℕ)
    (is : (drawn, after) ≡ redraw_from (redraws old.base_reachable_time ra.reachable_time) ra.reachable_time before) (gains : parameters.GainsRows old new (then_heard now ra options drawn)) where
  module _ (start : Start) (c : Chronicle) (source destination : Addr) (s : parameters.Stands old (parameter_history c)) (left : before ≡ stream_left start c) where
    abbrev heard : Chronicle
    heard = (now, Heard source destination (record { body = bodies.Ra ra; options = options })) ∷ c

    params_by : (b : Bool) → (drawn, after) ≡ redraw_from b ra.reachable_time (stream_left start c) → parameters.Stands new (parameter_history (redrawing start now ra.reachable_time b heard))
    params_by true e = subst (λ (d : Option ℕ). parameters.Stands new (then_heard now ra options d (parameter_history c))) (ap (λ (p : Option ℕ × Stream). p.0) e) (gains.stands (parameter_history c) s)
    params_by false e = subst (λ (d : Option ℕ). parameters.Stands new (then_heard now ra options d (parameter_history c))) (ap (λ (p : Option ℕ × Stream). p.0) e) (gains.stands (parameter_history c) s)

    left_by : (b : Bool) → (drawn, after) ≡ redraw_from b ra.reachable_time (stream_left start c) → after ≡ stream_left start (redrawing start now ra.reachable_time b heard)
    left_by true e = ap (λ (p : Option ℕ × Stream). p.1) e
    left_by false e = ap (λ (p : Option ℕ × Stream). p.1) e

    by_chronicle : (drawn, after) ≡ redraw_from (redraws (base_reachable_time c) ra.reachable_time) ra.reachable_time (stream_left start c)
    by_chronicle = is ∙ (ap (λ (b : ℕ). redraw_from (redraws b ra.reachable_time) ra.reachable_time before) s.base_reachable_time
        ∙ ap (λ (x : Stream). redraw_from (redraws (base_reachable_time c) ra.reachable_time) ra.reachable_time x) left)

  pub hears_parameters : HearsParameters old new before after now ra options
  hears_parameters = record {
    params = λ start c source destination s left. params_by start c source destination s left (redraws (base_reachable_time c) ra.reachable_time) (by_chronicle start c source destination s left);
    generator = λ start c source destination s left. left_by start c source destination s left (redraws (base_reachable_time c) ra.reachable_time) (by_chronicle start c source destination s left);
  }

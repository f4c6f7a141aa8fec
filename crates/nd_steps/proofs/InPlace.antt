-- What a message says of a neighbour without its link-layer address is what it says without the option that gives it.
use Rattle.std.proofs.Common.{◌≡◌, ℕ, Bool, true, false, List, Option, Some, None, refl, ◌∙◌, ap}
use Rattle.std.specs.Prelude.{if◌then◌else◌, bytes_eq}
use Rattle.nd_addr.specs.declared.addr.Addr.{Addr}
use Rattle.nd_addr.specs.declared.mac.Mac.{Mac}
use Rattle.nd_addr.specs.Kind.{unspecified_address}
use Rattle.nd_addr.specs.Number.{number_of}
use Rattle.nd_decode.specs.Option.{Said}
use Rattle.nd_decode.specs.declared.body.Body.{Body}
use Rattle.nd_decode.specs.declared.body.Body.TheVariants as bodies
use Rattle.nd_chronicle.specs.Histories.{advertised_by, given_or_marked, mark_of_target, said_of_neighbour, said_of_source}
use Rattle.nd_chronicle.specs.LinkLayerAddress.{first_slla, first_tlla}
use Rattle.nd_chronicle.specs.Parts.{as_placed}
use Rattle.nd_chronicle.proofs.Reading.{no_slla_placed, no_tlla_placed}
use Rattle.nd_steps.specs.Parts.{said_in_place}

without_mac : (key : ℕ) (mac : Option Mac) (mark : Option Bool) → given_or_marked key None mark ≡ said_in_place false (given_or_marked key mac mark)
without_mac key None None = refl
without_mac key None (Some router) = refl
without_mac key (Some mac) None = refl
without_mac key (Some mac) (Some router) = refl

of_source_without : (unnamed : Bool) (key : ℕ) (mac : Option Mac) (mark : Option Bool) → (if unnamed then None else given_or_marked key None mark) ≡ said_in_place false (if unnamed then None else given_or_marked key mac mark)
of_source_without true key mac mark = refl
of_source_without false key mac mark = without_mac key mac mark

pub said_without : (source : Addr) (body : Body) (options : List Said) (reachable : ℕ) (place : Bool) → said_of_neighbour source body (as_placed place options) reachable ≡ said_in_place place (said_of_neighbour source body options reachable)
said_without source body options reachable true = refl
said_without source bodies.Rs options reachable false =
    ap (λ (mac : Option Mac). said_of_source source mac (Some false)) (no_slla_placed options) ∙ of_source_without (bytes_eq source.0 unspecified_address) (number_of source.0) (first_slla options) (Some false)
said_without source (bodies.Ra ra) options reachable false =
    ap (λ (mac : Option Mac). given_or_marked (number_of source.0) mac (Some true)) (no_slla_placed options) ∙ without_mac (number_of source.0) (first_slla options) (Some true)
said_without source (bodies.Ns ns) options reachable false =
    ap (λ (mac : Option Mac). said_of_source source mac None) (no_slla_placed options) ∙ of_source_without (bytes_eq source.0 unspecified_address) (number_of source.0) (first_slla options) None
said_without source (bodies.Na na) options reachable false =
    ap (λ (mac : Option Mac). Some (number_of na.target.0, advertised_by na mac reachable)) (no_tlla_placed options)
said_without source (bodies.Redirect r) options reachable false =
    ap (λ (mac : Option Mac). given_or_marked (number_of r.target.0) mac (mark_of_target r)) (no_tlla_placed options) ∙ without_mac (number_of r.target.0) (first_tlla options) (mark_of_target r)

-- What is shown of what a router advertises, by what is kept.
use Rattle.std.specs.Prelude.{ℕ, Bool, List, [], ◌∷◌, map}
use Rattle.nd_addr.specs.declared.role.Role.{Role}
use Rattle.nd_addr.specs.declared.role.Role.TheVariants.{Host, Router}
use Rattle.nd_decode.specs.declared.prefix_info.PrefixInfo.{PrefixInfo}
use Rattle.nd_chronicle.specs.Shown.{offer_row, on_text}

-- a host shows nothing
abbrev pub advertise_rows_of : Role → Bool → List PrefixInfo → List (List ℕ)
advertise_rows_of Host on offers = []
advertise_rows_of Router on offers = on_text on ∷ map offer_row offers

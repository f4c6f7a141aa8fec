-- What the policies leave as it is.
use Rattle.std.proofs.Common.{◌≡◌, ℕ, Bool, true, false, List, [], ◌∷◌, Option, None, refl, sym, ◌∙◌, ap, inl, inr}
use Rattle.std.specs.Prelude.{◌++◌, map}
use Rattle.std.specs.Option.{option_to_list}
use Rattle.std.proofs.lemmas.Bool.{cases_Bool}
use Rattle.nd_addr.specs.declared.addr.Addr.{Addr}
use Rattle.nd_addr.specs.declared.mac.Mac.{Mac}
use Rattle.nd_addr.specs.Prefix.{PrefixValue}
use Rattle.nd_decode.specs.Message.{Parts}
use Rattle.nd_decode.specs.Option.{Said, slla, tlla, prefix, redirected, mtu, rdnss, dnssl, other}
use Rattle.nd_decode.specs.Reading.{info_read, option_read, options_read}
use Rattle.nd_decode.specs.Reading as readings
use Rattle.nd_decode.proofs.ReadOptions.{read_as_said, read_first, read_none}
use Rattle.nd_decode.specs.declared.reading.Reading.{Reading}
use Rattle.nd_decode.specs.declared.body.Body.{Body}
use Rattle.nd_decode.specs.declared.body.Body.TheVariants as bodies
use Rattle.nd_decode.specs.declared.prefix_info.PrefixInfo.{PrefixInfo}
use Rattle.nd_params.specs.RouterAdvertisement.{first_mtu}
use Rattle.nd_routers.specs.OnLinkPrefixes as prefixes
use Rattle.nd_slaac.specs.PrefixOption as addresses
use Rattle.nd_dns.specs.AnnouncedServers.{servers_of, servers_told}
use Rattle.nd_dns.specs.AnnouncedNames.{names_of, names_told}
use Rattle.nd_chronicle.specs.Start.{Policies, no_policies}
use Rattle.nd_chronicle.specs.LinkLayerAddress.{first_slla, first_tlla}
use Rattle.nd_chronicle.specs.Parts.{as_placed}
use Rattle.nd_chronicle.specs.Reading.{is_passed_over, own_address, read_body, read_message, read_options, without}

-- ---- without a policy a message is read as it is

body_by_none : (body : Body) → read_body no_policies body ≡ body
body_by_none bodies.Rs = refl
body_by_none (bodies.Ra ra) = refl
body_by_none (bodies.Ns ns) = refl
body_by_none (bodies.Na na) = refl
body_by_none (bodies.Redirect r) = refl

without_none : (options : List Said) → without None options ≡ options
without_none [] = refl
without_none (slla mac ∷ options) = ap (λ (more : List Said). slla mac ∷ more) (without_none options)
without_none (tlla mac ∷ options) = ap (λ (more : List Said). tlla mac ∷ more) (without_none options)
without_none (prefix p ∷ options) = ap (λ (more : List Said). prefix p ∷ more) (without_none options)
without_none (redirected packet ∷ options) = ap (λ (more : List Said). redirected packet ∷ more) (without_none options)
without_none (mtu n ∷ options) = ap (λ (more : List Said). mtu n ∷ more) (without_none options)
without_none (rdnss lifetime servers ∷ options) = ap (λ (more : List Said). rdnss lifetime servers ∷ more) (without_none options)
without_none (dnssl lifetime names ∷ options) = ap (λ (more : List Said). dnssl lifetime names ∷ more) (without_none options)
without_none (other kind rest ∷ options) = ap (λ (more : List Said). other kind rest ∷ more) (without_none options)

pub read_by_none : (mac : Mac) (message : Parts) → read_message no_policies mac message ≡ message
read_by_none mac message =
    ap (λ (b : Body). let m : Parts = record { body = b; options = without None (options_read readings.as_said message.options) } in m) (body_by_none message.body)
    ∙ ap (λ (options : List Said). let m : Parts = record { body = message.body; options = options } in m)
    (without_none (options_read readings.as_said message.options) ∙ read_as_said message.options)

-- ---- what the options say but the link-layer addresses

module _ {A : Type 0} (f : List Said → A) (keeps : (option : Said) (a b : List Said) → f a ≡ f b → f (option ∷ a) ≡ f (option ∷ b))
    (no_slla : (mac : Mac) (options : List Said) → f (slla mac ∷ options) ≡ f options) (no_tlla : (mac : Mac) (options : List Said) → f (tlla mac ∷ options) ≡ f options) where
  by_others : (own : Option Mac) (options : List Said) → f (without own options) ≡ f options
  by_others own [] = refl
  by_others own (slla mac ∷ options) = elim (cases_Bool (is_passed_over own mac)) [
    | inl e ↦ rw e (by_others own options ∙ sym (no_slla mac options))
    | inr e ↦ rw e (keeps (slla mac) _ _ (by_others own options))
  ]
  by_others own (tlla mac ∷ options) = elim (cases_Bool (is_passed_over own mac)) [
    | inl e ↦ rw e (by_others own options ∙ sym (no_tlla mac options))
    | inr e ↦ rw e (keeps (tlla mac) _ _ (by_others own options))
  ]
  by_others own (prefix p ∷ options) = keeps (prefix p) _ _ (by_others own options)
  by_others own (redirected packet ∷ options) = keeps (redirected packet) _ _ (by_others own options)
  by_others own (mtu n ∷ options) = keeps (mtu n) _ _ (by_others own options)
  by_others own (rdnss lifetime servers ∷ options) = keeps (rdnss lifetime servers) _ _ (by_others own options)
  by_others own (dnssl lifetime names ∷ options) = keeps (dnssl lifetime names) _ _ (by_others own options)
  by_others own (other kind rest ∷ options) = keeps (other kind rest) _ _ (by_others own options)

  -- the same where all link-layer addresses are passed over
  by_unplaced : (options : List Said) → f (as_placed false options) ≡ f options
  by_unplaced [] = refl
  by_unplaced (slla mac ∷ options) = by_unplaced options ∙ sym (no_slla mac options)
  by_unplaced (tlla mac ∷ options) = by_unplaced options ∙ sym (no_tlla mac options)
  by_unplaced (prefix p ∷ options) = keeps (prefix p) _ _ (by_unplaced options)
  by_unplaced (redirected packet ∷ options) = keeps (redirected packet) _ _ (by_unplaced options)
  by_unplaced (mtu n ∷ options) = keeps (mtu n) _ _ (by_unplaced options)
  by_unplaced (rdnss lifetime servers ∷ options) = keeps (rdnss lifetime servers) _ _ (by_unplaced options)
  by_unplaced (dnssl lifetime names ∷ options) = keeps (dnssl lifetime names) _ _ (by_unplaced options)
  by_unplaced (other kind rest ∷ options) = keeps (other kind rest) _ _ (by_unplaced options)

  as_read : (place : Bool) (options : List Said) → f (as_placed place options) ≡ f options
  as_read true options = refl
  as_read false options = by_unplaced options

  as_said : (policies : Policies) (mac : Mac) (options : List Said) → f (read_options policies mac options) ≡ f options
  as_said policies mac options = by_others (own_address policies mac) options

mtu_kept : (option : Said) (a b : List Said) → first_mtu a ≡ first_mtu b → first_mtu (option ∷ a) ≡ first_mtu (option ∷ b)
mtu_kept (slla _) a b e = e
mtu_kept (tlla _) a b e = e
mtu_kept (prefix _) a b e = e
mtu_kept (redirected _) a b e = e
mtu_kept (mtu n) a b e = refl
mtu_kept (rdnss _ _) a b e = e
mtu_kept (dnssl _ _) a b e = e
mtu_kept (other _ _) a b e = e

pub mtu_as_said : (policies : Policies) (mac : Mac) (options : List Said) → first_mtu (read_options policies mac options) ≡ first_mtu options
mtu_as_said = as_said first_mtu mtu_kept (λ mac options. refl) (λ mac options. refl)

pub mtu_as_placed : (place : Bool) (options : List Said) → first_mtu (as_placed place options) ≡ first_mtu options
mtu_as_placed = as_read first_mtu mtu_kept (λ mac options. refl) (λ mac options. refl)

pub links_as_said : (policies : Policies) (mac : Mac) (options : List Said) → prefixes.prefixes_in (read_options policies mac options) ≡ prefixes.prefixes_in options
links_as_said =
    as_said prefixes.prefixes_in (λ option a b e. ap (λ (more : List (PrefixValue × ℕ)). option_to_list (prefixes.on_link_of option) ++ more) e) (λ mac options. refl) (λ mac options. refl)

pub links_as_placed : (place : Bool) (options : List Said) → prefixes.prefixes_in (as_placed place options) ≡ prefixes.prefixes_in options
links_as_placed =
    as_read prefixes.prefixes_in (λ option a b e. ap (λ (more : List (PrefixValue × ℕ)). option_to_list (prefixes.on_link_of option) ++ more) e) (λ mac options. refl) (λ mac options. refl)

prefixes_kept : (option : Said) (a b : List Said) → addresses.prefixes_in a ≡ addresses.prefixes_in b → addresses.prefixes_in (option ∷ a) ≡ addresses.prefixes_in (option ∷ b)
prefixes_kept (slla _) a b e = e
prefixes_kept (tlla _) a b e = e
prefixes_kept (prefix info) a b e = ap (λ (more : List PrefixInfo). info ∷ more) e
prefixes_kept (redirected _) a b e = e
prefixes_kept (mtu _) a b e = e
prefixes_kept (rdnss _ _) a b e = e
prefixes_kept (dnssl _ _) a b e = e
prefixes_kept (other _ _) a b e = e

pub prefixes_as_said : (policies : Policies) (mac : Mac) (options : List Said) → addresses.prefixes_in (read_options policies mac options) ≡ addresses.prefixes_in options
prefixes_as_said = as_said addresses.prefixes_in prefixes_kept (λ mac options. refl) (λ mac options. refl)

prefixes_first : (reading : Reading) (option : Said) (options : List Said)
    → map (info_read reading) (addresses.prefixes_in options) ≡ addresses.prefixes_in (options_read reading options)
    → map (info_read reading) (addresses.prefixes_in (option ∷ options)) ≡ addresses.prefixes_in (option_read reading option ∷ options_read reading options)
prefixes_first reading (slla _) options e = e
prefixes_first reading (tlla _) options e = e
prefixes_first reading (prefix info) options e = ap (λ (more : List PrefixInfo). info_read reading info ∷ more) e
prefixes_first reading (redirected _) options e = e
prefixes_first reading (mtu _) options e = e
prefixes_first reading (rdnss _ _) options e = e
prefixes_first reading (dnssl _ _) options e = e
prefixes_first reading (other _ _) options e = e

-- each Prefix Information is read by itself
pub prefixes_read : (reading : Reading) (options : List Said) → map (info_read reading) (addresses.prefixes_in options) ≡ addresses.prefixes_in (options_read reading options)
prefixes_read reading [] = sym (ap addresses.prefixes_in (read_none reading))
prefixes_read reading (option ∷ options) =
    prefixes_first reading option options (prefixes_read reading options) ∙ sym (ap addresses.prefixes_in (read_first reading option options))

pub prefixes_as_placed : (place : Bool) (options : List Said) → addresses.prefixes_in (as_placed place options) ≡ addresses.prefixes_in options
prefixes_as_placed = as_read addresses.prefixes_in prefixes_kept (λ mac options. refl) (λ mac options. refl)

pub servers_as_said : (policies : Policies) (mac : Mac) (options : List Said) → servers_told (read_options policies mac options) ≡ servers_told options
servers_as_said = as_said servers_told (λ option a b e. ap (λ (more : List (Addr × ℕ)). servers_of option ++ more) e) (λ mac options. refl) (λ mac options. refl)

pub servers_as_placed : (place : Bool) (options : List Said) → servers_told (as_placed place options) ≡ servers_told options
servers_as_placed = as_read servers_told (λ option a b e. ap (λ (more : List (Addr × ℕ)). servers_of option ++ more) e) (λ mac options. refl) (λ mac options. refl)

pub names_as_said : (policies : Policies) (mac : Mac) (options : List Said) → names_told (read_options policies mac options) ≡ names_told options
names_as_said = as_said names_told (λ option a b e. ap (λ (more : List (List ℕ × ℕ)). names_of option ++ more) e) (λ mac options. refl) (λ mac options. refl)

pub names_as_placed : (place : Bool) (options : List Said) → names_told (as_placed place options) ≡ names_told options
names_as_placed = as_read names_told (λ option a b e. ap (λ (more : List (List ℕ × ℕ)). names_of option ++ more) e) (λ mac options. refl) (λ mac options. refl)

-- then no link-layer address is given
pub no_slla_placed : (options : List Said) → first_slla (as_placed false options) ≡ None
no_slla_placed [] = refl
no_slla_placed (slla mac ∷ options) = no_slla_placed options
no_slla_placed (tlla mac ∷ options) = no_slla_placed options
no_slla_placed (prefix p ∷ options) = no_slla_placed options
no_slla_placed (redirected packet ∷ options) = no_slla_placed options
no_slla_placed (mtu n ∷ options) = no_slla_placed options
no_slla_placed (rdnss lifetime servers ∷ options) = no_slla_placed options
no_slla_placed (dnssl lifetime names ∷ options) = no_slla_placed options
no_slla_placed (other kind rest ∷ options) = no_slla_placed options

pub no_tlla_placed : (options : List Said) → first_tlla (as_placed false options) ≡ None
no_tlla_placed [] = refl
no_tlla_placed (slla mac ∷ options) = no_tlla_placed options
no_tlla_placed (tlla mac ∷ options) = no_tlla_placed options
no_tlla_placed (prefix p ∷ options) = no_tlla_placed options
no_tlla_placed (redirected packet ∷ options) = no_tlla_placed options
no_tlla_placed (mtu n ∷ options) = no_tlla_placed options
no_tlla_placed (rdnss lifetime servers ∷ options) = no_tlla_placed options
no_tlla_placed (dnssl lifetime names ∷ options) = no_tlla_placed options
no_tlla_placed (other kind rest ∷ options) = no_tlla_placed options

-- What happens leaves the histories of the tables that it isn't said to change.
use Rattle.std.proofs.Common.{◌≡◌, ℕ, true, false, List, ◌∷◌, refl}
use Rattle.std.proofs.lemmas.Bool.{true≢false}
use Rattle.nd_addr.specs.declared.addr.Addr.{Addr}
use Rattle.nd_addr.specs.Prefix.{PrefixValue}
use Rattle.nd_decode.specs.Option.{Said}
use Rattle.nd_decode.specs.declared.body.Body.{Body}
use Rattle.nd_decode.specs.declared.body.Body.TheVariants as bodies
use Rattle.nd_table.specs.Announcements as lifetimes
use Rattle.nd_params.specs.History as parameters
use Rattle.nd_neighbour.specs.History as neighbours
use Rattle.nd_routers.specs.History as routers
use Rattle.nd_nexthop.specs.History as redirects
use Rattle.nd_chronicle.specs.Happening.{Chronicle, Happening, ForReachableTime, Drew, Heard, Neighbour, Address, LeftRouter, Unlisted, ClearedPrefixes, ClearedRedirects, ClearedDns}
use Rattle.nd_chronicle.specs.Histories.{address_history, name_history, parameter_history, prefix_history, redirect_history, router_history, server_history, then_failed, then_names, then_parameters, then_prefixes, then_redirect, then_router, then_servers, then_target}
use Rattle.nd_c_types.specs.Changes.{changes_addresses, changes_dns, changes_parameters, changes_prefixes, changes_redirects, changes_routers, is_advertisement, is_failure}
use Rattle.nd_chronicle.specs.Hearing.{is_redirect}

never : {A : Type 0} → true ≡ false → A
never is = absurd (true≢false is)

-- ---- the messages that add nothing

-- what is reported by Router Advertisements alone
leaves_by : {A : Type 0} (then' : Body → A) (same : A) (body : Body) → is_advertisement body ≡ false
    → then' bodies.Rs ≡ same → ((ns : _) → then' (bodies.Ns ns) ≡ same) → ((na : _) → then' (bodies.Na na) ≡ same) → ((r : _) → then' (bodies.Redirect r) ≡ same) → then' body ≡ same
leaves_by then' same bodies.Rs is rs ns na r = rs
leaves_by then' same (bodies.Ra ra) is rs ns na r = never is
leaves_by then' same (bodies.Ns it) is rs ns na r = ns it
leaves_by then' same (bodies.Na it) is rs ns na r = na it
leaves_by then' same (bodies.Redirect it) is rs ns na r = r it

router_message : (at : ℕ) (source : Addr) (body : Body) (history : List routers.RouterRow) → is_advertisement body ≡ false → then_router at source body history ≡ history
router_message at source body history is = leaves_by (λ b. then_router at source b history) history body is refl (λ it. refl) (λ it. refl) (λ it. refl)

prefix_message : (at : ℕ) (body : Body) (options : List Said) (history : List (lifetimes.Row PrefixValue)) → is_advertisement body ≡ false → then_prefixes at body options history ≡ history
prefix_message at body options history is = leaves_by (λ b. then_prefixes at b options history) history body is refl (λ it. refl) (λ it. refl) (λ it. refl)

server_message : (at : ℕ) (body : Body) (options : List Said) (history : List (lifetimes.Row Addr)) → is_advertisement body ≡ false → then_servers at body options history ≡ history
server_message at body options history is = leaves_by (λ b. then_servers at b options history) history body is refl (λ it. refl) (λ it. refl) (λ it. refl)

name_message : (at : ℕ) (body : Body) (options : List Said) (history : List (lifetimes.Row (List ℕ))) → is_advertisement body ≡ false → then_names at body options history ≡ history
name_message at body options history is = leaves_by (λ b. then_names at b options history) history body is refl (λ it. refl) (λ it. refl) (λ it. refl)

parameter_message : (body : Body) (options : List Said) (history : List parameters.Row) → is_advertisement body ≡ false → then_parameters body options history ≡ history
parameter_message body options history is = leaves_by (λ b. then_parameters b options history) history body is refl (λ it. refl) (λ it. refl) (λ it. refl)

redirect_message : (at : ℕ) (body : Body) (history : List redirects.RedirectRow) → is_redirect body ≡ false → then_redirect at body history ≡ history
redirect_message at bodies.Rs history is = refl
redirect_message at (bodies.Ra ra) history is = refl
redirect_message at (bodies.Ns ns) history is = refl
redirect_message at (bodies.Na na) history is = refl
redirect_message at (bodies.Redirect r) history is = never is

-- ---- a neighbour that doesn't fail

router_neighbour : (at key : ℕ) (kind : neighbours.RowKind) (history : List routers.RouterRow) → is_failure kind ≡ false → then_failed at key kind history ≡ history
router_neighbour at key (neighbours.Forgot neighbours.Failed) history is = never is
router_neighbour at key kind history is = refl

redirect_neighbour : (at key : ℕ) (kind : neighbours.RowKind) (history : List redirects.RedirectRow) → is_failure kind ≡ false → then_target at key kind history ≡ history
redirect_neighbour at key (neighbours.Forgot neighbours.Failed) history is = never is
redirect_neighbour at key kind history is = refl

-- ---- each table

module _ (c : Chronicle) (at : ℕ) where
  pub leaves_routers : (what : Happening) → changes_routers what ≡ false → router_history ((at, what) ∷ c) ≡ router_history c
  leaves_routers (Heard source destination message) is = router_message at source message.body (router_history c) is
  leaves_routers (Neighbour key kind) is = router_neighbour at key kind (router_history c) is
  leaves_routers (LeftRouter key) is = never is
  leaves_routers (Unlisted key) is = never is
  leaves_routers what is = refl

  pub leaves_prefixes : (what : Happening) → changes_prefixes what ≡ false → prefix_history ((at, what) ∷ c) ≡ prefix_history c
  leaves_prefixes (Heard source destination message) is = prefix_message at message.body message.options (prefix_history c) is
  leaves_prefixes ClearedPrefixes is = never is
  leaves_prefixes what is = refl

  pub leaves_addresses : (what : Happening) → changes_addresses what ≡ false → address_history ((at, what) ∷ c) ≡ address_history c
  leaves_addresses (Address key kind) is = never is
  leaves_addresses what is = refl

  pub leaves_servers : (what : Happening) → changes_dns what ≡ false → server_history ((at, what) ∷ c) ≡ server_history c
  leaves_servers (Heard source destination message) is = server_message at message.body message.options (server_history c) is
  leaves_servers ClearedDns is = never is
  leaves_servers what is = refl

  pub leaves_names : (what : Happening) → changes_dns what ≡ false → name_history ((at, what) ∷ c) ≡ name_history c
  leaves_names (Heard source destination message) is = name_message at message.body message.options (name_history c) is
  leaves_names ClearedDns is = never is
  leaves_names what is = refl

  pub leaves_redirects : (what : Happening) → changes_redirects what ≡ false → redirect_history ((at, what) ∷ c) ≡ redirect_history c
  leaves_redirects (Heard source destination message) is = redirect_message at message.body (redirect_history c) is
  leaves_redirects (Neighbour key kind) is = redirect_neighbour at key kind (redirect_history c) is
  leaves_redirects (LeftRouter key) is = never is
  leaves_redirects ClearedRedirects is = never is
  leaves_redirects what is = refl

  pub leaves_parameters : (what : Happening) → changes_parameters what ≡ false → parameter_history ((at, what) ∷ c) ≡ parameter_history c
  leaves_parameters (Heard source destination message) is = parameter_message message.body message.options (parameter_history c) is
  leaves_parameters (Drew ForReachableTime value) is = never is
  leaves_parameters what is = refl

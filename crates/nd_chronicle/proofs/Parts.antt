-- What each table takes of a message in part is what has room there.
use Rattle.std.proofs.Common.{◌≡◌, ℕ, Bool, true, false, ltb, List, [], ◌∷◌, ◌++◌, length, map, refl, sym, ◌∙◌, ap, inl, inr, subst}
use Rattle.std.specs.Prelude.{nat_le, ◌&&◌, if◌then◌else◌}
use Rattle.std.proofs.lemmas.Bool.{cases_Bool, cond-true, cond-false}
use Rattle.std.proofs.Math.Bool.{and-true, and-false}
use Rattle.nd_addr.specs.declared.addr.Addr.{Addr}
use Rattle.nd_addr.specs.declared.mac.Mac.{Mac}
use Rattle.nd_addr.specs.Prefix.{PrefixValue}
use Rattle.nd_addr.specs.Same.{same_addr, same_prefix}
use Rattle.nd_decode.specs.Option.{Said, slla, tlla, prefix, redirected, mtu, rdnss, dnssl, other}
use Rattle.nd_decode.specs.declared.prefix_info.PrefixInfo.{PrefixInfo}
use Rattle.nd_table.specs.declared.lasting.Lasting.{Lasting}
use Rattle.nd_table.specs.Listing.{announced, fits, with_room}
use Rattle.nd_table.specs.ListingKept.{announced_all}
use Rattle.nd_params.specs.RouterAdvertisement.{first_mtu}
use Rattle.nd_routers.specs.OnLinkPrefixes as on_link
use Rattle.nd_slaac.specs.PrefixOption.{is_taken, named_by, prefixes_in}
use Rattle.nd_slaac.specs.Room.{fits_in, would_form}
use Rattle.nd_slaac.specs.Room as addresses
use Rattle.nd_slaac.specs.State.{is_by_hand, is_known}
use Rattle.nd_dns.specs.AnnouncedNames.{same_name, names_told}
use Rattle.nd_dns.specs.AnnouncedNames as search_names
use Rattle.nd_dns.specs.AnnouncedServers.{servers_told}
use Rattle.nd_dns.specs.AnnouncedServers as dns_servers
use Rattle.nd_chronicle.specs.LinkLayerAddress.{first_slla}
use Rattle.nd_chronicle.specs.Start.{Limits, Start}
use Rattle.nd_chronicle.specs.Happening.{Chronicle}
use Rattle.nd_chronicle.specs.OwnAddress.{story_of}
use Rattle.nd_chronicle.specs.RouterAdvertisement.{naming, then_option, then_options}
use Rattle.nd_chronicle.specs.Parts.{Filling, option_taken, filled, options_taken, then_known}

-- ---- announcements one behind the other

module _ {K : Type 0} (same : K → K → Bool) (limit now : ℕ) where
  -- those of one lifetime that have room, told again with that lifetime
  told_again : (lifetime : ℕ) (keys : List K) (es : List (Lasting K))
      → map (λ key. (key, lifetime)) (map (λ told. told.0) (with_room same limit now (map (λ key. (key, lifetime)) keys) es)) ≡ with_room same limit now (map (λ key. (key, lifetime)) keys) es
  told_again lifetime [] es = refl
  told_again lifetime (key ∷ keys) es = elim (cases_Bool (nat_le (length (announced same now key lifetime es)) limit)) [
    | inl t ↦ rw t (ap (λ (rest : List (K × ℕ)). (key, lifetime) ∷ rest) (told_again lifetime keys (announced same now key lifetime es)))
    | inr f ↦ rw f (told_again lifetime keys es)
  ]

  with_room_behind : (first more : List (K × ℕ)) (es : List (Lasting K))
      → with_room same limit now (first ++ more) es ≡ with_room same limit now first es ++ with_room same limit now more (announced_all same now (with_room same limit now first es) es)
  with_room_behind [] more es = refl
  with_room_behind ((key, w) ∷ first) more es = elim (cases_Bool (nat_le (length (announced same now key w es)) limit)) [
    | inl t ↦ rw t (ap (λ (rest : List (K × ℕ)). (key, w) ∷ rest) (with_room_behind first more (announced same now key w es)))
    | inr f ↦ rw f (with_room_behind first more es)
  ]

-- ---- the servers and the names

module _ (limits : Limits) (mac : Mac) (now : ℕ) where
  pub servers_have_room : (f : Filling) (options : List Said) → servers_told (options_taken limits mac now f options) ≡ with_room same_addr limits.servers now (servers_told options) f.servers
  servers_have_room f [] = refl
  servers_have_room f (slla m ∷ options) = servers_have_room (filled limits mac now (slla m) f) options
  servers_have_room f (tlla m ∷ options) = servers_have_room (filled limits mac now (tlla m) f) options
  servers_have_room f (prefix info ∷ options) = servers_have_room (filled limits mac now (option_taken limits mac now f (prefix info)) f) options
  servers_have_room f (redirected packet ∷ options) = servers_have_room (filled limits mac now (redirected packet) f) options
  servers_have_room f (mtu n ∷ options) = servers_have_room (filled limits mac now (mtu n) f) options
  servers_have_room f (dnssl lifetime told ∷ options) = servers_have_room (filled limits mac now (option_taken limits mac now f (dnssl lifetime told)) f) options
  servers_have_room f (other kind rest ∷ options) = servers_have_room (filled limits mac now (other kind rest) f) options
  servers_have_room f (rdnss lifetime told ∷ options) =
      let all = dns_servers.for_lifetime lifetime told in
      let roomy = with_room same_addr limits.servers now all f.servers in
      let again : dns_servers.for_lifetime lifetime (map (λ (server : Addr × ℕ). server.0) roomy) ≡ roomy = told_again same_addr limits.servers now lifetime told f.servers in
      let behind = filled limits mac now (option_taken limits mac now f (rdnss lifetime told)) f in
      ap (λ (first : List (Addr × ℕ)). first ++ servers_told (options_taken limits mac now behind options)) again
      ∙ (ap (λ (rest : List (Addr × ℕ)). roomy ++ rest) (servers_have_room behind options
      ∙ ap (λ (first : List (Addr × ℕ)). with_room same_addr limits.servers now (servers_told options) (announced_all same_addr now first f.servers)) again)
      ∙ sym (with_room_behind same_addr limits.servers now all (servers_told options) f.servers))

  pub names_have_room : (f : Filling) (options : List Said) → names_told (options_taken limits mac now f options) ≡ with_room same_name limits.names now (names_told options) f.names
  names_have_room f [] = refl
  names_have_room f (slla m ∷ options) = names_have_room (filled limits mac now (slla m) f) options
  names_have_room f (tlla m ∷ options) = names_have_room (filled limits mac now (tlla m) f) options
  names_have_room f (prefix info ∷ options) = names_have_room (filled limits mac now (option_taken limits mac now f (prefix info)) f) options
  names_have_room f (redirected packet ∷ options) = names_have_room (filled limits mac now (redirected packet) f) options
  names_have_room f (mtu n ∷ options) = names_have_room (filled limits mac now (mtu n) f) options
  names_have_room f (rdnss lifetime told ∷ options) = names_have_room (filled limits mac now (option_taken limits mac now f (rdnss lifetime told)) f) options
  names_have_room f (other kind rest ∷ options) = names_have_room (filled limits mac now (other kind rest) f) options
  names_have_room f (dnssl lifetime told ∷ options) =
      let all = search_names.for_lifetime lifetime told in
      let roomy = with_room same_name limits.names now all f.names in
      let again : search_names.for_lifetime lifetime (map (λ (name : List ℕ × ℕ). name.0) roomy) ≡ roomy = told_again same_name limits.names now lifetime told f.names in
      let behind = filled limits mac now (option_taken limits mac now f (dnssl lifetime told)) f in
      ap (λ (first : List (List ℕ × ℕ)). first ++ names_told (options_taken limits mac now behind options)) again
      ∙ (ap (λ (rest : List (List ℕ × ℕ)). roomy ++ rest) (names_have_room behind options
      ∙ ap (λ (first : List (List ℕ × ℕ)). with_room same_name limits.names now (names_told options) (announced_all same_name now first f.names)) again)
      ∙ sym (with_room_behind same_name limits.names now all (names_told options) f.names))

  -- ---- the parameters, and who speaks

  pub mtu_stays : (f : Filling) (options : List Said) → first_mtu (options_taken limits mac now f options) ≡ first_mtu options
  mtu_stays f [] = refl
  mtu_stays f (slla m ∷ options) = mtu_stays (filled limits mac now (slla m) f) options
  mtu_stays f (tlla m ∷ options) = mtu_stays (filled limits mac now (tlla m) f) options
  mtu_stays f (prefix info ∷ options) = mtu_stays (filled limits mac now (option_taken limits mac now f (prefix info)) f) options
  mtu_stays f (redirected packet ∷ options) = mtu_stays (filled limits mac now (redirected packet) f) options
  mtu_stays f (mtu n ∷ options) = refl
  mtu_stays f (rdnss lifetime told ∷ options) = mtu_stays (filled limits mac now (option_taken limits mac now f (rdnss lifetime told)) f) options
  mtu_stays f (dnssl lifetime told ∷ options) = mtu_stays (filled limits mac now (option_taken limits mac now f (dnssl lifetime told)) f) options
  mtu_stays f (other kind rest ∷ options) = mtu_stays (filled limits mac now (other kind rest) f) options

  pub slla_stays : (f : Filling) (options : List Said) → first_slla (options_taken limits mac now f options) ≡ first_slla options
  slla_stays f [] = refl
  slla_stays f (slla m ∷ options) = refl
  slla_stays f (tlla m ∷ options) = slla_stays (filled limits mac now (tlla m) f) options
  slla_stays f (prefix info ∷ options) = slla_stays (filled limits mac now (option_taken limits mac now f (prefix info)) f) options
  slla_stays f (redirected packet ∷ options) = slla_stays (filled limits mac now (redirected packet) f) options
  slla_stays f (mtu n ∷ options) = slla_stays (filled limits mac now (mtu n) f) options
  slla_stays f (rdnss lifetime told ∷ options) = slla_stays (filled limits mac now (option_taken limits mac now f (rdnss lifetime told)) f) options
  slla_stays f (dnssl lifetime told ∷ options) = slla_stays (filled limits mac now (option_taken limits mac now f (dnssl lifetime told)) f) options
  slla_stays f (other kind rest ∷ options) = slla_stays (filled limits mac now (other kind rest) f) options

  -- ---- the prefixes on the link

  -- what a prefix option says of the link, where it is taken so
  link_of : (info : PrefixInfo) (linked autonomous : Bool) → on_link.is_on_link (record info { on_link = linked; autonomous = autonomous }) ≡ (linked && on_link.is_on_link (record info { on_link = true; autonomous = true }))
  link_of info true autonomous = refl
  link_of info false autonomous = refl

  linked_as_said : (info : PrefixInfo) → on_link.is_on_link info ≡ (info.on_link && on_link.is_on_link (record info { on_link = true; autonomous = true }))
  linked_as_said info = link_of info info.on_link info.autonomous

  same_link : (info : PrefixInfo) (autonomous : Bool) → on_link.is_on_link (record info { on_link = info.on_link && true; autonomous = autonomous }) ≡ on_link.is_on_link info
  same_link info autonomous = link_of info (info.on_link && true) autonomous ∙ (ap (λ (b : Bool). b && on_link.is_on_link (record info { on_link = true; autonomous = true })) (and-true info.on_link) ∙ sym (linked_as_said info))

  no_link : (info : PrefixInfo) (autonomous : Bool) → on_link.is_on_link (record info { on_link = info.on_link && false; autonomous = autonomous }) ≡ false
  no_link info autonomous = link_of info (info.on_link && false) autonomous ∙ ap (λ (b : Bool). b && on_link.is_on_link (record info { on_link = true; autonomous = true })) (and-false info.on_link)

  -- the same prefix, with other flags
  abbrev flagged : PrefixInfo → Bool → Bool → PrefixInfo
  flagged info linked autonomous = record info { on_link = linked; autonomous = autonomous }

  pub links_have_room : (f : Filling) (options : List Said) → on_link.prefixes_in (options_taken limits mac now f options) ≡ with_room same_prefix limits.prefixes now (on_link.prefixes_in options) f.prefixes
  links_have_room f [] = refl
  links_have_room f (slla m ∷ options) = links_have_room (filled limits mac now (slla m) f) options
  links_have_room f (tlla m ∷ options) = links_have_room (filled limits mac now (tlla m) f) options
  links_have_room f (redirected packet ∷ options) = links_have_room (filled limits mac now (redirected packet) f) options
  links_have_room f (mtu n ∷ options) = links_have_room (filled limits mac now (mtu n) f) options
  links_have_room f (rdnss lifetime told ∷ options) = links_have_room (filled limits mac now (option_taken limits mac now f (rdnss lifetime told)) f) options
  links_have_room f (dnssl lifetime told ∷ options) = links_have_room (filled limits mac now (option_taken limits mac now f (dnssl lifetime told)) f) options
  links_have_room f (other kind rest ∷ options) = links_have_room (filled limits mac now (other kind rest) f) options
  links_have_room f (prefix info ∷ options) =
      by (on_link.is_on_link info) refl (nat_le (length (announced same_prefix now info.prefix info.valid_lifetime f.prefixes)) limits.prefixes) refl (fits_in limits.addresses mac f.addresses (info ∷ []))
      (λ linked autonomous. links_have_room (filled limits mac now (prefix (flagged info linked autonomous)) f) options)
    where
      next : List (Lasting PrefixValue)
      next = announced same_prefix now info.prefix info.valid_lifetime f.prefixes

      -- what is taken, by these flags, and what there is behind it
      behind : Bool → Bool → Filling
      behind linked autonomous = filled limits mac now (prefix (flagged info linked autonomous)) f

      taken : Bool → Bool → List (PrefixValue × ℕ)
      taken linked autonomous = on_link.prefixes_in (prefix (flagged info linked autonomous) ∷ options_taken limits mac now (behind linked autonomous) options)

      by : (linked : Bool) → on_link.is_on_link info ≡ linked → (room : Bool) → nat_le (length next) limits.prefixes ≡ room → (forms : Bool)
          → ((linked autonomous : Bool) → on_link.prefixes_in (options_taken limits mac now (behind linked autonomous) options) ≡ with_room same_prefix limits.prefixes now (on_link.prefixes_in options) (behind linked autonomous).prefixes)
          → taken (info.on_link && fits same_prefix limits.prefixes now (on_link.prefixes_in (prefix info ∷ [])) f.prefixes) (info.autonomous && forms) ≡ with_room same_prefix limits.prefixes now (on_link.prefixes_in (prefix info ∷ options)) f.prefixes
      by false idle room r forms more =
          let none : on_link.is_on_link (flagged info (info.on_link && true) (info.autonomous && forms)) ≡ false = same_link info (info.autonomous && forms) ∙ idle in
          let rest = more (info.on_link && true) (info.autonomous && forms) in
          rw (idle, none) (rw none at rest)
      by true links true r forms more =
          let linked : on_link.is_on_link (flagged info (info.on_link && true) (info.autonomous && forms)) ≡ true = same_link info (info.autonomous && forms) ∙ links in
          let rest = more (info.on_link && true) (info.autonomous && forms) in
          rw (links, r, linked) (ap (λ (l : List (PrefixValue × ℕ)). (info.prefix, info.valid_lifetime) ∷ l) (rw linked at rest))
      by true links false r forms more =
          let none : on_link.is_on_link (flagged info (info.on_link && false) (info.autonomous && forms)) ≡ false = no_link info (info.autonomous && forms) in
          let rest = more (info.on_link && false) (info.autonomous && forms) in
          rw (links, r, none) (rw none at rest)

-- ---- the addresses

-- options that form the same addresses: they differ in flags that say nothing of an address, and some of the first ones say nothing at all
pub data Alike : List PrefixInfo → List PrefixInfo → Type 0 where
  ends : Alike [] []
  keeps : {xs ys : List PrefixInfo} (info : PrefixInfo) (linked : Bool) → Alike xs ys → Alike (record info { on_link = linked } ∷ xs) (info ∷ ys)
  passes : {xs ys : List PrefixInfo} (info : PrefixInfo) (linked : Bool) → Alike xs ys → Alike (record info { on_link = linked; autonomous = false } ∷ xs) ys

module _ (mac : Mac) (keys : List ℕ) (info : PrefixInfo) (linked : Bool) where
  pub same_form : would_form mac keys (record info { on_link = linked }) ≡ would_form mac keys info
  unfolding is_taken named_by
  same_form = refl

  pub forms_no_address : would_form mac keys (record info { on_link = linked; autonomous = false }) ≡ false
  unfolding is_taken named_by
  forms_no_address = refl

module _ (start : Start) (now : ℕ) (to_all : Bool) (info : PrefixInfo) (linked : Bool) (c : Chronicle) where
  same_naming : (hand known : Bool) → naming start now to_all hand known (record info { on_link = linked }) c ≡ naming start now to_all hand known info c
  unfolding is_taken named_by
  same_naming true known = refl
  same_naming false true = refl
  same_naming false false = refl

  same_option : then_option start now to_all (record info { on_link = linked }) c ≡ then_option start now to_all info c
  unfolding is_taken named_by
  same_option =
      ap (λ (d : Chronicle). if is_taken info then d else c) (same_naming (is_by_hand (story_of c (named_by start.mac info))) (is_known (story_of c (named_by start.mac info))))

  no_option : then_option start now to_all (record info { on_link = linked; autonomous = false }) c ≡ c
  unfolding is_taken named_by
  no_option = refl

pub alike_options : {xs ys : List PrefixInfo} → Alike xs ys → (start : Start) (now : ℕ) (to_all : Bool) (c : Chronicle) → then_options start now to_all xs c ≡ then_options start now to_all ys c
alike_options ends start now to_all c = refl
alike_options (keeps {xs = xs} {ys = ys} info linked more) start now to_all c =
    ap (λ (d : Chronicle). then_options start now to_all xs d) (same_option start now to_all info linked c) ∙ alike_options more start now to_all (then_option start now to_all info c)
alike_options (passes {xs = xs} {ys = ys} info linked more) start now to_all c =
    ap (λ (d : Chronicle). then_options start now to_all xs d) (no_option start now to_all info linked c) ∙ alike_options more start now to_all c

module _ (mac : Mac) (keys : List ℕ) (info : PrefixInfo) (linked : Bool) where
  known_then : then_known mac (record info { on_link = linked } ∷ []) keys ≡ (if would_form mac keys info then named_by mac info ∷ keys else keys)
  unfolding is_taken named_by
  known_then = refl

  known_still : then_known mac (record info { on_link = linked; autonomous = false } ∷ []) keys ≡ keys
  unfolding is_taken named_by
  known_still = refl

module _ (limits : Limits) (mac : Mac) (now : ℕ) where
  pub addresses_have_room : (f : Filling) (options : List Said) → Alike (prefixes_in (options_taken limits mac now f options)) (addresses.with_room limits.addresses mac f.addresses (prefixes_in options))
  addresses_have_room f [] = ends
  addresses_have_room f (slla m ∷ options) = addresses_have_room (filled limits mac now (slla m) f) options
  addresses_have_room f (tlla m ∷ options) = addresses_have_room (filled limits mac now (tlla m) f) options
  addresses_have_room f (redirected packet ∷ options) = addresses_have_room (filled limits mac now (redirected packet) f) options
  addresses_have_room f (mtu n ∷ options) = addresses_have_room (filled limits mac now (mtu n) f) options
  addresses_have_room f (rdnss lifetime told ∷ options) = addresses_have_room (filled limits mac now (option_taken limits mac now f (rdnss lifetime told)) f) options
  addresses_have_room f (dnssl lifetime told ∷ options) = addresses_have_room (filled limits mac now (option_taken limits mac now f (dnssl lifetime told)) f) options
  addresses_have_room f (other kind rest ∷ options) = addresses_have_room (filled limits mac now (other kind rest) f) options
  addresses_have_room f (prefix info ∷ options) =
      by (would_form mac f.addresses info) refl (ltb (length f.addresses) limits.addresses) refl (info.on_link && fits same_prefix limits.prefixes now (on_link.prefixes_in (prefix info ∷ [])) f.prefixes)
      (λ linked autonomous. addresses_have_room (filled limits mac now (prefix (record info { on_link = linked; autonomous = autonomous })) f) options)
    where
      behind : Bool → Bool → Filling
      behind linked autonomous = filled limits mac now (prefix (record info { on_link = linked; autonomous = autonomous })) f

      taken : Bool → Bool → List PrefixInfo
      taken linked autonomous = record info { on_link = linked; autonomous = autonomous } ∷ prefixes_in (options_taken limits mac now (behind linked autonomous) options)

      by : (forms : Bool) → would_form mac f.addresses info ≡ forms → (room : Bool) → ltb (length f.addresses) limits.addresses ≡ room → (linked : Bool)
          → ((linked autonomous : Bool) → Alike (prefixes_in (options_taken limits mac now (behind linked autonomous) options)) (addresses.with_room limits.addresses mac (behind linked autonomous).addresses (prefixes_in options)))
          → Alike (taken linked (info.autonomous && fits_in limits.addresses mac f.addresses (info ∷ []))) (addresses.with_room limits.addresses mac f.addresses (info ∷ prefixes_in options))
      by false idle room r linked more =
          let known : (behind linked info.autonomous).addresses ≡ f.addresses = known_then mac f.addresses info linked ∙ cond-false (would_form mac f.addresses info) (named_by mac info ∷ f.addresses) f.addresses idle in
          let rest = subst (λ (keys : List ℕ). Alike (prefixes_in (options_taken limits mac now (behind linked info.autonomous) options)) (addresses.with_room limits.addresses mac keys (prefixes_in options))) known (more linked info.autonomous) in
          rw idle (subst (λ (a : Bool). Alike (taken linked a) (info ∷ addresses.with_room limits.addresses mac f.addresses (prefixes_in options))) (sym (and-true info.autonomous)) (keeps info linked rest))
      by true forms true r linked more =
          let known : (behind linked info.autonomous).addresses ≡ named_by mac info ∷ f.addresses = known_then mac f.addresses info linked ∙ cond-true (would_form mac f.addresses info) (named_by mac info ∷ f.addresses) f.addresses forms in
          let rest = subst (λ (keys : List ℕ). Alike (prefixes_in (options_taken limits mac now (behind linked info.autonomous) options)) (addresses.with_room limits.addresses mac keys (prefixes_in options))) known (more linked info.autonomous) in
          rw (forms, r) (subst (λ (a : Bool). Alike (taken linked a) (info ∷ addresses.with_room limits.addresses mac (named_by mac info ∷ f.addresses) (prefixes_in options))) (sym (and-true info.autonomous)) (keeps info linked rest))
      by true forms false r linked more =
          let rest = subst (λ (keys : List ℕ). Alike (prefixes_in (options_taken limits mac now (behind linked false) options)) (addresses.with_room limits.addresses mac keys (prefixes_in options))) (known_still mac f.addresses info linked) (more linked false) in
          rw (forms, r) (subst (λ (a : Bool). Alike (taken linked a) (addresses.with_room limits.addresses mac f.addresses (prefixes_in options))) (sym (and-false info.autonomous)) (passes info linked rest))

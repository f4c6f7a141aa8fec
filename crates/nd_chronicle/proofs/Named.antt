-- No prefix option that is taken names the link-local address: its prefix isn't link-local, and the identifier is the same.
use Rattle.std.proofs.Common.{◌≡◌, ℕ, ◌+◌, ◌-◌, ◌*◌, ◌/◌, ◌^◌, ◌<◌, Bool, true, false, List, [], ◌∷◌, ◌++◌, length, take, drop, slice_index, slice_range, refl, sym, ◌∙◌, ap, subst, arith}
use Rattle.std.specs.Prelude.{◌≢◌, ◌&&◌, not}
use Rattle.std.specs.List.{AllByRecursion}
use Rattle.std.proofs.lemmas.Bool.{eq-eqb, true≢false}
use Rattle.std.proofs.lemmas.List.{length-append, length-drop, take-append-drop}
use Rattle.std.proofs.lemmas.Nat.{pow-add, shr-shr, div-mul-add}
use Rattle.std.proofs.Math.Nat.{mul_assoc, add-mul}
use Rattle.nd_addr.specs.Bytes.{IsBytes, AreBytes}
use Rattle.nd_addr.specs.Ip6.{ipv6_header_length, payload_length_of}
use Rattle.nd_addr.specs.Kind.{multicast_prefix, link_local_prefix, link_local_address}
use Rattle.nd_addr.specs.InterfaceId.{address_from_mac}
use Rattle.nd_addr.specs.Number.{number_of, holds}
use Rattle.nd_addr.specs.Places.{packet_in, payload_in}
use Rattle.nd_addr.specs.declared.mac.Mac.{Mac}
use Rattle.nd_addr.proofs.ByteLists.{IsBytes-drop, IsBytes-take}
use Rattle.nd_addr.proofs.Numbers.{number_below}
use Rattle.nd_decode.specs.Message.{Parts, Spells, behind_fields, least_length}
use Rattle.nd_decode.specs.Option.{Said, slla, tlla, prefix, redirected, mtu, rdnss, dnssl, other}
use Rattle.nd_decode.specs.declared.prefix_info.PrefixInfo.{PrefixInfo}
use Rattle.nd_message.specs.Fitting.{FitsOption, FitsPrefix}
use Rattle.nd_message.proofs.Formed.{options_fit}
use Rattle.nd_chronicle.specs.Start.{Limits}
use Rattle.nd_chronicle.specs.Parts.{Filling, option_taken, filled, options_taken}
use Rattle.nd_slaac.specs.PrefixOption.{is_taken, named_by, link_local_of, prefixes_in}

joined : (front back tail here more whole : ℕ) → front ≡ here → back ≡ more + tail → whole ≡ here + more → front + back ≡ whole + tail
joined front back tail here more whole f b w = omega (arith, f, b, w)

number_append : (xs ys : List ℕ) → number_of (xs ++ ys) ≡ number_of xs * 2 ^ (8 * length ys) + number_of ys
number_append [] ys = omega arith
number_append (x ∷ xs) ys =
    let l : 8 * length (xs ++ ys) ≡ 8 * length xs + 8 * length ys = omega (arith, length-append xs ys) in
    let power : 2 ^ (8 * length (xs ++ ys)) ≡ 2 ^ (8 * length xs) * 2 ^ (8 * length ys) = ap (λ (n : ℕ). 2 ^ n) l ∙ pow-add 2 (8 * length xs) (8 * length ys) in
    let front : x * 2 ^ (8 * length (xs ++ ys)) ≡ x * 2 ^ (8 * length xs) * 2 ^ (8 * length ys) = ap (λ (n : ℕ). x * n) power ∙ sym (mul_assoc x (2 ^ (8 * length xs)) (2 ^ (8 * length ys))) in
    joined (x * 2 ^ (8 * length (xs ++ ys))) (number_of (xs ++ ys)) (number_of ys) (x * 2 ^ (8 * length xs) * 2 ^ (8 * length ys)) (number_of xs * 2 ^ (8 * length ys)) _
    front (number_append xs ys) (add-mul (x * 2 ^ (8 * length xs)) (number_of xs) (2 ^ (8 * length ys)))

-- bytes behind the first 64 bits
number_behind : (xs ys : List ℕ) → length ys ≡ 8 → number_of (xs ++ ys) ≡ number_of xs * 2 ^ 64 + number_of ys
number_behind xs ys l = number_append xs ys ∙ ap (λ (n : ℕ). number_of xs * 2 ^ (8 * n) + number_of ys) l

cancelled : (a b t : ℕ) → a * 2 ^ 64 + t ≡ b * 2 ^ 64 + t → a ≡ b
cancelled a b t e = omega (arith, e)

-- where the first 64 bits are those of fe80::, so are the first ten
link_local_by : (address identifier : List ℕ) → AreBytes 16 address → length identifier ≡ 8
    → number_of (take 8 address ++ identifier) ≡ number_of (take 8 link_local_address ++ identifier) → holds link_local_prefix address ≡ true
link_local_by address identifier a l e =
    let same : number_of (take 8 address) ≡ number_of (take 8 link_local_address) =
    cancelled _ _ (number_of identifier) (sym (number_behind (take 8 address) identifier l) ∙ e ∙ number_behind (take 8 link_local_address) identifier l) in
    let behind : length (drop 8 address) ≡ 8 = omega (arith, length-drop 8 address, a.len_is) in
    let below : number_of (drop 8 address) < 2 ^ 64 = subst (λ (n : ℕ). number_of (drop 8 address) < 2 ^ (8 * n)) behind (number_below (drop 8 address) (IsBytes-drop 8 address a.each)) in
    let whole : number_of address ≡ number_of (take 8 address) * 2 ^ 64 + number_of (drop 8 address) = ap number_of (sym (take-append-drop 8 address)) ∙ number_behind (take 8 address) (drop 8 address) behind in
    let first : number_of address / 2 ^ 64 ≡ number_of (take 8 link_local_address) = ap (λ (n : ℕ). n / 2 ^ 64) whole ∙ div-mul-add (number_of (take 8 address)) (2 ^ 64) (number_of (drop 8 address)) below ∙ same in
    eq-eqb _ _ (sym (shr-shr (number_of address) 64 54) ∙ ap (λ (n : ℕ). n / 2 ^ 54) first)

not_link_local : (auto multicast local lives long : Bool) → (auto && not multicast && not local && lives && long) ≡ true → local ≡ false
not_link_local true false false lives long h = refl
not_link_local true false true lives long h = absurd (let no : ⊥ = cc in no)
not_link_local true true local lives long h = absurd (let no : ⊥ = cc in no)
not_link_local false multicast local lives long h = absurd (let no : ⊥ = cc in no)

pub names_another : (mac : Mac) (info : PrefixInfo) → AreBytes 16 info.prefix.address.0 → is_taken info ≡ true → named_by mac info ≢ link_local_of mac
unfolding is_taken named_by link_local_of
names_another mac info a taken e =
    let local = link_local_by info.prefix.address.0 (drop 8 (address_from_mac link_local_address mac.0)) a refl e in
    true≢false (sym local ∙ not_link_local info.autonomous (holds multicast_prefix info.prefix.address.0) (holds link_local_prefix info.prefix.address.0) _ _ taken)

-- ---- the prefixes of a message that bytes spell are addresses

prefixes_fit : (options : List Said) → AllByRecursion FitsOption options → AllByRecursion FitsPrefix (prefixes_in options)
prefixes_fit [] h = tt
prefixes_fit (slla mac ∷ options) h = prefixes_fit options h.1
prefixes_fit (tlla mac ∷ options) h = prefixes_fit options h.1
prefixes_fit (prefix info ∷ options) h = (h.0, prefixes_fit options h.1)
prefixes_fit (redirected packet ∷ options) h = prefixes_fit options h.1
prefixes_fit (mtu n ∷ options) h = prefixes_fit options h.1
prefixes_fit (rdnss lifetime servers ∷ options) h = prefixes_fit options h.1
prefixes_fit (dnssl lifetime names ∷ options) h = prefixes_fit options h.1
prefixes_fit (other kind rest ∷ options) h = prefixes_fit options h.1

bytes_between : (bytes : List ℕ) (from to : ℕ) → IsBytes bytes → IsBytes (slice_range bytes from to)
bytes_between bytes from to h = IsBytes-take (to - from) (drop from bytes) (IsBytes-drop from bytes h)

pub heard_fit : (frame : List ℕ) (message : Parts) → IsBytes frame → Spells (payload_in frame) message → AllByRecursion FitsPrefix (prefixes_in message.options)
heard_fit frame message bytes s =
    let packet = packet_in frame in
    let payload = bytes_between packet ipv6_header_length (ipv6_header_length + payload_length_of packet) (IsBytes-drop 14 frame bytes) in
    prefixes_fit message.options
    (options_fit message.options (behind_fields (payload_in frame)) (IsBytes-drop (least_length (slice_index (payload_in frame) 0)) (payload_in frame) payload) s.options).0

-- prefixes with other flags
abbrev Fit : List Said → Type 0
Fit options = AllByRecursion FitsPrefix (prefixes_in options)

pub part_fits : (limits : Limits) (mac : Mac) (now : ℕ) (f : Filling) (options : List Said) → Fit options → Fit (options_taken limits mac now f options)
part_fits limits mac now f [] h = tt
part_fits limits mac now f (slla m ∷ options) h = part_fits limits mac now (filled limits mac now (slla m) f) options h
part_fits limits mac now f (tlla m ∷ options) h = part_fits limits mac now (filled limits mac now (tlla m) f) options h
part_fits limits mac now f (prefix info ∷ options) h =
    (record { prefix_is = h.0.prefix_is; valid = h.0.valid; preferred = h.0.preferred }, part_fits limits mac now (filled limits mac now (option_taken limits mac now f (prefix info)) f) options h.1)
part_fits limits mac now f (redirected packet ∷ options) h = part_fits limits mac now (filled limits mac now (redirected packet) f) options h
part_fits limits mac now f (mtu n ∷ options) h = part_fits limits mac now (filled limits mac now (mtu n) f) options h
part_fits limits mac now f (rdnss lifetime told ∷ options) h = part_fits limits mac now (filled limits mac now (option_taken limits mac now f (rdnss lifetime told)) f) options h
part_fits limits mac now f (dnssl lifetime told ∷ options) h = part_fits limits mac now (filled limits mac now (option_taken limits mac now f (dnssl lifetime told)) f) options h
part_fits limits mac now f (other kind rest ∷ options) h = part_fits limits mac now (filled limits mac now (other kind rest) f) options h

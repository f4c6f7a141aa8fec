-- The Redirect that a router sends has a spelling.
use Rattle.std.proofs.Common.{◌≡◌, ◌∙◌, ℕ, ◌+◌, ◌-◌, ◌%◌, ◌/◌, ◌≤◌, List, [], ◌∷◌, ◌++◌, length, take, map, Option, Some, None, ap, arith}
use Rattle.std.specs.Prelude.{replicate, IfSome}
use Rattle.std.proofs.lemmas.List.{length-append, length-replicate, length-take, map-append}
use Rattle.nd_addr.specs.Bytes.{IsBytes, AreBytes}
use Rattle.nd_addr.proofs.ByteLists.{AreSmall, AreSmall-append, AreSmall-from, IsBytes-from, IsBytes-take}
use Rattle.nd_addr.specs.declared.addr.Addr.{Addr}
use Rattle.nd_addr.specs.declared.mac.Mac.{Mac}
use Rattle.nd_decode.specs.Option.{Said, redirected, tlla}
use Rattle.nd_decode.specs.declared.body.Body.TheVariants as bodies
use Rattle.nd_message.specs.Fitting.{FitsRedirected}
use Rattle.nd_message.specs.Owned.{said}
use Rattle.nd_message.specs.declared.opt.Opt.{Opt}
use Rattle.nd_message.specs.WellFormed.{IsWellFormed}
use Rattle.nd_message.proofs.Formed.{formed}
use Rattle.nd_message.proofs.SearchNames.{zeros_small}
use Rattle.nd_compose.specs.Redirect.{padded, target_options}

-- ---- the quoted packet

abbrev padding : List ℕ → ℕ
padding bytes = (8 - length bytes % 8) % 8

padded_length : (bytes : List ℕ) → length (padded bytes) ≡ length bytes + padding bytes
padded_length bytes = length-append bytes (replicate (padding bytes) 0) ∙ ap (λ (n : ℕ). length bytes + n) (length-replicate (padding bytes) 0)

whole_units : (n : ℕ) → (n + (8 - n % 8) % 8) % 8 ≡ 0
whole_units n = omega arith

short : (most : ℕ) (bytes : List ℕ) → most ≤ 1192 → length (take most bytes) ≤ 1192
short most bytes le = omega (arith, le, length-take most bytes)

-- it fits an option
pub quoted_fits : (most : ℕ) (packet : List ℕ) → most ≤ 1192 → IsBytes packet → FitsRedirected (padded (take most packet))
quoted_fits most packet le bytes =
    let taken : List ℕ = take most packet in record {
      bytes = IsBytes-from (padded taken) (AreSmall-append taken (replicate (padding taken) 0) (AreSmall-from taken (IsBytes-take most packet bytes)) (zeros_small (padding taken)));
      most = omega (arith, padded_length taken, short most packet le);
      eights = ap (λ (n : ℕ). n % 8) (padded_length taken) ∙ whole_units (length taken);
    }

-- ---- the message

module _ (target destination : Addr) (quoted : List ℕ) (t : AreBytes 16 target.0) (d : AreBytes 16 destination.0) (q : FitsRedirected quoted) where
  without_address : IsWellFormed (record { body = bodies.Redirect (record { target = target; destination = destination }); options = redirected quoted ∷ [] })
  without_address =
      formed (record { body = bodies.Redirect (record { target = target; destination = destination }); options = redirected quoted ∷ [] }) (t, d)
      (record { each = (q, tt); most = omega (arith, t.len_is, d.len_is, q.most, length-append target.0 destination.0, length-append quoted []) })

  with_address : (mac : Mac) → AreBytes 6 mac.0
      → IsWellFormed (record { body = bodies.Redirect (record { target = target; destination = destination }); options = tlla mac ∷ redirected quoted ∷ [] })
  with_address mac m =
      formed (record { body = bodies.Redirect (record { target = target; destination = destination }); options = tlla mac ∷ redirected quoted ∷ [] }) (t, d)
      (record {
        each = (m, (q, tt));
        most = omega (arith, t.len_is, d.len_is, q.most, m.len_is, length-append target.0 destination.0, length-append quoted [], length-append mac.0 (4 ∷ ((length quoted + 8) / 8) ∷ 0 ∷ 0 ∷ 0 ∷ 0 ∷ 0 ∷ 0 ∷ quoted ++ []));
      })

  pub redirect_formed : (mac : Option Mac) → IfSome mac (λ m. AreBytes 6 m.0)
      → IsWellFormed (record { body = bodies.Redirect (record { target = target; destination = destination }); options = target_options mac ++ redirected quoted ∷ [] })
  redirect_formed None m = without_address
  redirect_formed (Some mac) m = with_address mac m

-- one more option behind those
pub options_behind : {A : Type 0} (options all : List (Opt A)) (first : List Said) (quoted : Opt A) → map said options ≡ first → all ≡ options ++ quoted ∷ [] → map said all ≡ first ++ said quoted ∷ []
options_behind options all first quoted e is = ap (map said) is ∙ map-append said options (quoted ∷ []) ∙ ap (λ (l : List Said). l ++ said quoted ∷ []) e

-- Going over the options of one type.
use Rattle.std.proofs.Common.{◌≡◌, ℕ, suc, ◌<◌, ◌≤◌, true, false, eqb, List, [], ◌∷◌, length, take, drop, slice_index, Option, Some, None, refl, sym, ap, ◌∙◌, arith, inl, inr, eq-eqb, ne_eqb}
use Rattle.std.proofs.lemmas.Bool.{cases_Bool}
use Rattle.std.specs.Option.{option_map}
use Rattle.nd_decode.specs.Option.{Said, slla, tlla, prefix, redirected, mtu, rdnss, dnssl, other, IsPiece, Says, option_of}
use Rattle.nd_decode.specs.Whole.{piece_length, begins_whole}
use Rattle.nd_decode.specs.Pieces.{options_in}
use Rattle.nd_decode.specs.declared.prefix_info.PrefixInfo.{PrefixInfo}
use Rattle.nd_decode.specs.Reading.{info_read, option_read, options_read}
use Rattle.nd_decode.specs.declared.reading.Reading.{Reading}
use Rattle.nd_decode.specs.OfType.{kind_of, from_kind, prefix_said, or_later, first_prefix}
use Rattle.nd_decode.proofs.Walk.{front_is, options_in_step, options_in_stop}
use Rattle.nd_decode.proofs.ReadOptions.{kind_read, read_first, read_none}
use Rattle.nd_decode.proofs.Says.{option_says}
use Rattle.nd_decode.proofs.Spelling.{front_piece}

kind_said : (piece : List ℕ) (option : Said) → Says piece option → kind_of option ≡ slice_index piece 0
kind_said piece (slla mac) s = sym s.0.kind_is
kind_said piece (tlla mac) s = sym s.0.kind_is
kind_said piece (prefix p) s = sym s.0.kind_is
kind_said piece (redirected packet) s = sym s.0
kind_said piece (mtu n) s = sym s.0.kind_is
kind_said piece (rdnss lifetime servers) s = sym s.0.kind_is
kind_said piece (dnssl lifetime names) s = sym s.0.kind_is
kind_said piece (other kind rest) s = s.1

-- a piece in front, and what is behind it
abbrev pub IsSplit : List ℕ → List ℕ → List ℕ → Type 0
IsSplit bytes piece rest = (begins_whole bytes ≡ true) × (piece ≡ take (piece_length bytes) bytes) × (rest ≡ drop (piece_length bytes) bytes)

split_kind : (reading : Reading) (bytes piece rest : List ℕ) → IsSplit bytes piece rest → kind_of (option_read reading (option_of piece)) ≡ slice_index piece 0
split_kind reading bytes piece rest s =
    let p : IsPiece piece = rw (s.1) (front_piece bytes (front_is bytes s.0)) in kind_read reading (option_of piece) ∙ kind_said piece (option_of piece) (option_says piece p)

pub split_step : (reading : Reading) (bytes piece rest : List ℕ) → IsSplit bytes piece rest
    → options_read reading (options_in bytes) ≡ option_read reading (option_of piece) ∷ options_read reading (options_in rest)
split_step reading bytes piece rest s =
    let step : options_in bytes ≡ option_of piece ∷ options_in rest = rw (s.1, s.2) (options_in_step bytes s.0) in
    ap (options_read reading) step ∙ read_first reading (option_of piece) (options_in rest)

pub split_stop : (reading : Reading) (bytes : List ℕ) → begins_whole bytes ≡ false → options_read reading (options_in bytes) ≡ []
split_stop reading bytes over = ap (options_read reading) (options_in_stop bytes over) ∙ read_none reading

-- the first piece is of the type: the options from there on
pub from_kind_here : (reading : Reading) (kind : ℕ) (bytes piece rest : List ℕ) → IsSplit bytes piece rest → slice_index piece 0 ≡ kind
    → from_kind kind (options_read reading (options_in bytes)) ≡ option_read reading (option_of piece) ∷ options_read reading (options_in rest)
from_kind_here reading kind bytes piece rest s e =
    let t : eqb (kind_of (option_read reading (option_of piece))) kind ≡ true = eq-eqb _ _ (split_kind reading bytes piece rest s ∙ e) in
    rw (split_step reading bytes piece rest s, t) refl

-- it is of another: those behind it
pub from_kind_behind : (reading : Reading) (kind : ℕ) (bytes piece rest : List ℕ) → IsSplit bytes piece rest → (slice_index piece 0 ≡ kind → ⊥)
    → from_kind kind (options_read reading (options_in bytes)) ≡ from_kind kind (options_read reading (options_in rest))
from_kind_behind reading kind bytes piece rest s n =
    let t : eqb (kind_of (option_read reading (option_of piece))) kind ≡ false = ne_eqb _ _ (λ e. n (sym (split_kind reading bytes piece rest s) ∙ e)) in
    rw (split_step reading bytes piece rest s, t) refl

pub from_kind_none : (reading : Reading) (kind : ℕ) (bytes : List ℕ) → begins_whole bytes ≡ false → from_kind kind (options_read reading (options_in bytes)) ≡ []
from_kind_none reading kind bytes over = rw (split_stop reading bytes over) refl

-- no more than there were
from_kind_few : (kind : ℕ) (options : List Said) → length (from_kind kind options) ≤ length options
from_kind_few kind [] = omega arith
from_kind_few kind (option ∷ options) =
    elim (cases_Bool (eqb (kind_of option) kind)) [
      | inl e ↦ rw e (omega arith)
      | inr e ↦ let ih = from_kind_few kind options in rw e (omega (arith, ih))
    ]

pub fewer_left : (kind : ℕ) (before after : List Said) (option : Said) → from_kind kind before ≡ option ∷ after → length after < length before
fewer_left kind before after option e =
    let few : length (from_kind kind before) ≤ length before = from_kind_few kind before in
    let len : length (from_kind kind before) ≡ suc (length after) = ap length e in
    omega (arith, few, len)

-- ---- Prefix Informations

prefix_read : (reading : Reading) (option : Said) → prefix_said (option_read reading option) ≡ option_map (info_read reading) (prefix_said option)
prefix_read reading (slla _) = refl
prefix_read reading (tlla _) = refl
prefix_read reading (prefix _) = refl
prefix_read reading (redirected _) = refl
prefix_read reading (mtu _) = refl
prefix_read reading (rdnss _ _) = refl
prefix_read reading (dnssl _ _) = refl
prefix_read reading (other _ _) = refl

-- the first piece in front says this, or else those behind it do
pub first_prefix_step : (reading : Reading) (bytes piece rest : List ℕ) (said : Option PrefixInfo) → IsSplit bytes piece rest → said ≡ prefix_said (option_of piece)
    → first_prefix (options_read reading (options_in bytes))
    ≡ or_later (option_map (info_read reading) said) (options_read reading (options_in rest)) (first_prefix (options_read reading (options_in rest)))
first_prefix_step reading bytes piece rest said s e =
    let left = options_read reading (options_in rest) in
    ap first_prefix (split_step reading bytes piece rest s)
    ∙ ap (λ (p : Option PrefixInfo). or_later p left (first_prefix left)) (prefix_read reading (option_of piece) ∙ ap (option_map (info_read reading)) (sym e))

pub first_prefix_none : (reading : Reading) (bytes : List ℕ) → begins_whole bytes ≡ false → first_prefix (options_read reading (options_in bytes)) ≡ None
first_prefix_none reading bytes over = ap first_prefix (split_stop reading bytes over)

abbrev behind : Option (PrefixInfo × List Said) → List Said
behind None = []
behind (Some found) = found.1

pub first_prefix_fewer : (options rest : List Said) (info : PrefixInfo) → first_prefix options ≡ Some (info, rest) → length rest < length options
first_prefix_fewer [] rest info e = absurd cc
first_prefix_fewer (option ∷ options) rest info e = by_said (prefix_said option) e (first_prefix_fewer options rest info)
  where
    by_said : (said : Option PrefixInfo) → or_later said options (first_prefix options) ≡ Some (info, rest) → (first_prefix options ≡ Some (info, rest) → length rest < length options) → length rest < length (option ∷ options)
    by_said (Some found) e later = omega (arith, ap length (ap behind e))
    by_said None e later = omega (arith, later e)

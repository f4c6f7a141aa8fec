-- When two addresses or two prefixes are the same, and what the test of it returns.
use Rattle.std.proofs.Common.{◌≡◌, ◌≢◌, ℕ, Bool, true, false, List, refl, sym, ◌∙◌, ap, ◌⊎◌, inl, inr, ⊎_elim}
use Rattle.std.specs.Prelude.{◌&&◌, nat_eq, bytes_eq}
use Rattle.std.proofs.lemmas.Bool.Decides.{eqb_tells}
use Rattle.std.proofs.lemmas.Bool.{true≢false}
use Rattle.std.proofs.lemmas.Slice.Eq.{bytes_eq-Decides}
use Rattle.nd_addr.specs.Prefix.{PrefixValue}
use Rattle.nd_addr.specs.declared.addr.Addr.{Addr}

abbrev pub same_addr : Addr → Addr → Bool
same_addr a b = bytes_eq a.0 b.0

-- the same bits, and as many
abbrev pub same_prefix : PrefixValue → PrefixValue → Bool
same_prefix a b = bytes_eq a.address.0 b.address.0 && nat_eq a.length b.length

pub bytes_tell : (a b : List ℕ) → ((bytes_eq a b ≡ true) × (a ≡ b)) ⊎ ((bytes_eq a b ≡ false) × (a ≢ b))
bytes_tell a b = by (bytes_eq a b) refl
  where
    by : (t : Bool) → bytes_eq a b ≡ t → ((bytes_eq a b ≡ true) × (a ≡ b)) ⊎ ((bytes_eq a b ≡ false) × (a ≡ b → ⊥))
    by true e = inl (e, (bytes_eq-Decides a b).0 e)
    by false e = inr (e, λ same. true≢false (sym ((bytes_eq-Decides a b).1 same) ∙ e))

abbrev addr_of : List ℕ → Addr
addr_of bytes = record { 0 = bytes }

pub addrs_tell : (a b : Addr) → ((same_addr a b ≡ true) × (a ≡ b)) ⊎ ((same_addr a b ≡ false) × (a ≢ b))
addrs_tell a b = ⊎_elim (λ s. inl (s.0, ap addr_of s.1)) (λ d. inr (d.0, λ same. d.1 (ap (λ (x : Addr). x.0) same))) (bytes_tell a.0 b.0)

abbrev made : List ℕ → ℕ → PrefixValue
made bytes length = record { address = record { 0 = bytes }; length = length }

pub prefixes_tell : (a b : PrefixValue) → ((same_prefix a b ≡ true) × (a ≡ b)) ⊎ ((same_prefix a b ≡ false) × (a ≢ b))
prefixes_tell a b = ⊎_elim
    (λ s. ⊎_elim
    (λ l. inl (ap (λ t. t && nat_eq a.length b.length) s.0 ∙ l.0, ap (λ bytes. made bytes a.length) s.1 ∙ ap (λ n. made b.address.0 n) l.1))
    (λ d. inr (ap (λ t. t && nat_eq a.length b.length) s.0 ∙ d.0, λ same. d.1 (ap (λ (p : PrefixValue). p.length) same)))
    (eqb_tells a.length b.length))
    (λ d. inr (ap (λ t. t && nat_eq a.length b.length) d.0, λ same. d.1 (ap (λ (p : PrefixValue). p.address.0) same)))
    (bytes_tell a.address.0 b.address.0)

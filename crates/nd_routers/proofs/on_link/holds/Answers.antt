use Rattle.std.proofs.Common.{◌≡◌, ℕ, ◌-◌, ◌/◌, ◌^◌, ◌<◌, ap, sym, subst, ◌∙◌, arith, true, eqb}
use Rattle.std.proofs.Math.Nat.{div-eq_of_lt}
use Rattle.std.proofs.lemmas.Bool.{eq-eqb}
use Rattle.nd_addr.specs.declared.addr.Addr.{Addr}
use Rattle.nd_addr.specs.Number.{number_of}
use Rattle.nd_routers.proofs.on_link.holds.Goals as goal

-- with no bits to compare, all addresses are alike
all_alike : (n m length : ℕ) → length ≡ 0 → n < 2 ^ 128 → m < 2 ^ 128 → true ≡ eqb (n / 2 ^ (128 - length)) (m / 2 ^ (128 - length))
all_alike n m length none n_lt m_lt =
    let e : 128 - length ≡ 128 = omega arith in
    sym (eq-eqb (n / 2 ^ (128 - length)) (m / 2 ^ (128 - length))
    (ap (λ (k : ℕ). n / 2 ^ k) e ∙ (div-eq_of_lt {n = n} {m = 2 ^ 128} n_lt ∙ sym (ap (λ (k : ℕ). m / 2 ^ k) e ∙ div-eq_of_lt {n = m} {m = 2 ^ 128} m_lt))))

pub returns-then-length-eq0 : goal.returns-then-length-eq0
returns-then-length-eq0 c =
    all_alike c.args.number (number_of c.args.prefix.now.address.0) c.args.prefix.now.length (sym c.length-length.ensures.value ∙ c.if-length-eq0.true) c.ranges.number.fits
    (subst (λ (n : ℕ). n < 2 ^ 128) (c.to_bits-other.ensures ∙ ap (λ (a : Addr). number_of a.0) c.address.ensures.value) c.to_bits-other.type_inv)

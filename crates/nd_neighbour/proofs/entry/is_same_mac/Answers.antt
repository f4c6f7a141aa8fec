use Rattle.std.proofs.Common.{◌≡◌, ℕ, List, Bool, eqb, ap, sym, ◌∙◌, eq-eqb}
use Rattle.std.proofs.lemmas.Bool.{eqb-true}
use Rattle.std.proofs.lemmas.Bool.Decides.{same_from_decides, Decides-eqb}
use Rattle.std.proofs.lemmas.Slice.Eq.{slice_eq-Decides}
use lib.Pointwise.{pointwise}
use Rattle.nd_addr.specs.Bytes.{AreBytes}
use Rattle.nd_addr.specs.Number.{number_of}
use Rattle.nd_addr.proofs.Numbers.{number_injective}
use Rattle.nd_neighbour.proofs.entry.is_same_mac.Goals as goal

-- bytes of one length are the same where their numbers are
by_number : (r : Bool) (xs ys : List ℕ) → AreBytes 6 xs → AreBytes 6 ys → r ≡ pointwise eqb xs ys → r ≡ eqb (number_of xs) (number_of ys)
by_number r xs ys a b is =
    same_from_decides {P = xs ≡ ys} r (eqb (number_of xs) (number_of ys)) (slice_eq-Decides Decides-eqb xs ys r is)
    ((λ e. number_injective xs ys (a.len_is ∙ sym b.len_is) a.each b.each (eqb-true (number_of xs) (number_of ys) e)), (λ p. eq-eqb (number_of xs) (number_of ys) (ap number_of p)))

pub returns : goal.returns
returns c = by_number c.eq.result c.args.a.0 c.args.b.0 c.as_bytes-a.ensures.bytes c.as_bytes-b.ensures.bytes c.eq.ensures

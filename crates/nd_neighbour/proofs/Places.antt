-- The neighbour that makes room.
use Rattle.std.proofs.Common.{◌≡◌, ℕ, ◌+◌, ◌<◌, ◌≤◌, true, false, ltb, List, [], ◌∷◌, length, get_or, drop, Option, Some, None, refl, sym, ◌∙◌, ap, arith, suc, zero, inl, inr, add-one}
use Rattle.std.specs.Prelude.{slice_get}
use Rattle.std.specs.List.{remove}
use Rattle.std.proofs.lemmas.Bool.Decides.{nat_tests}
use Rattle.std.proofs.lemmas.Bool.{cond_both, cases_Bool}
use Rattle.std.proofs.lemmas.Option.{slice_get-get_or}
use Rattle.nd_neighbour.specs.EntryKept.{NeighbourEntry}
use Rattle.nd_neighbour.specs.PlaceKept.{since_of, longer, stalest, picked, picked_stale, Places, Went}

longer_assoc : (a b c : Option NeighbourEntry) → longer (longer a b) c ≡ longer a (longer b c)
longer_assoc None b c = refl
longer_assoc (Some x) None c = refl
longer_assoc (Some x) (Some y) None = cond_both (ltb (since_of y.stage) (since_of x.stage)) (Some y) (Some x) (λ o. longer o None ≡ o) (λ _. refl) (λ _. refl)
longer_assoc (Some x) (Some y) (Some z) = elim (cases_Bool (ltb (since_of y.stage) (since_of x.stage))) [
  | inl yx ↦ elim (cases_Bool (ltb (since_of z.stage) (since_of y.stage))) [
    | inl zy ↦ let zx : ltb (since_of z.stage) (since_of x.stage) ≡ true = grind (arith, nat_tests, yx, zy) in rw (yx, zy, zx) refl
    | inr zy ↦ rw (yx, zy, yx) refl
  ]
  | inr yx ↦ elim (cases_Bool (ltb (since_of z.stage) (since_of y.stage))) [
    | inl zy ↦ rw (yx, zy) refl
    | inr zy ↦ let zx : ltb (since_of z.stage) (since_of x.stage) ≡ false = grind (arith, nat_tests, yx, zy) in rw (yx, zy, zx, yx) refl
  ]
]

drop_stalest : (now : ℕ) (ns : List NeighbourEntry) (i : ℕ) → i < length ns → stalest now (drop i ns) ≡ longer (picked_stale now (slice_get ns i)) (stalest now (drop (suc i) ns))
drop_stalest now [] i lt = absurd (omega arith)
drop_stalest now (x ∷ ns) zero lt = refl
drop_stalest now (x ∷ ns) (suc i) lt = drop_stalest now ns i (omega arith)

-- one more is looked at
pub stalest_more : (now : ℕ) (ns : List NeighbourEntry) (i : ℕ) (best next : Option ℕ) → i < length ns → picked ns next ≡ longer (picked ns best) (picked_stale now (slice_get ns i)) → longer (picked ns best) (stalest now (drop i ns)) ≡ stalest now ns → longer (picked ns next) (stalest now (drop (i + 1) ns)) ≡ stalest now ns
stalest_more now ns i best next lt is all =
    rw (is, add-one) (longer_assoc (picked ns best) (picked_stale now (slice_get ns i)) (stalest now (drop (suc i) ns))
    ∙ (ap (longer (picked ns best)) (sym (drop_stalest now ns i lt)) ∙ all))

-- the entry that made place
pub went_out : (limit now : ℕ) (ns new : List NeighbourEntry) (i : ℕ) (n : NeighbourEntry) → limit ≤ length ns → i < length ns → n ≡ get_or ns i n → slice_get ns i ≡ stalest now ns → new ≡ remove ns i → Places limit now ns new
went_out limit now ns new i n many lt is first gone = Went i n many lt is (sym first ∙ (slice_get-get_or ns i n lt ∙ ap Some (sym is))) gone

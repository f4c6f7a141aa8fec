-- The two functions that count, at a call: what each is handed, and what a caller has of `give_back`. Assumes `Logic`.
use Rattle.std.proofs.Common.{◌≡◌, ℕ, ◌^◌, ◌<◌, w64, List, [], ◌∷◌, refl, ap}
use seplogic.Ra.Ura.{Ura}
use mir.Syntax.{Body, skip, seq}
use mir.Val.{Val, vint, vunit, vptr}
use base.Logic.{SProp, ent, sep, guard, id⊢}
use base.Fml.{Lft, Share, ftrue, fsep, flft}
use prog.Memory.{Memory}
use prog.Routine.{Routine}
use types.Logic.{Logic, sem}
use contract.Monad.{Fun}
use types.Kit.{‵, ◌⊛◌, some, later, ◌$◌, ◌∵◌, !, qed, move, keep, use1, split, join, pick, fjoin, feq_i, feq_l, flt_i, check, await, updating, now as at_once, done}
use denote.RattleType.{RattleType}
use denote.Memory.{hidden_shr}
use denote.Builtin.{unit}
use denote.Steps.{nothing, only}
use denote.Triple.Statement.{Contract}
use denote.Triple.Spec.{triple_of}
use Rattle.std.specs.contracts.cell.Cell as CE
use Rattle.nd_refusing.specs.contracts.Counts as CN
use Rattle.nd_refusing.specs.contracts.give_back as TK
use Rattle.nd_refusing.specs.contracts.is_refused as GT

-- what follows the first statement
abbrev pub rest : Body → Body
rest (seq first others) = others
rest _ = skip

abbrev Calls : RattleType
Calls = CE.the_row CN.the_row

module _ {M : Type 1} {𝓤 : Ura M} (𝓛 : Logic 𝓤) (at_mem : Memory → SProp 𝓤) (run : Routine → Fun 𝓤) where
  abbrev pub Counted : Contract 𝓤
  Counted = triple_of 𝓛 TK.signature (TK.spec 𝓛 at_mem run)

  abbrev pub at_counted : Lft → Share → ℕ × ℕ → ℕ → Counted.Ghost
  at_counted κ q c n = (((κ, tt), (q, tt), tt, (record { ref_ptr = c; now = record { value = tt } }, (n, tt)), (vptr c.0 c.1 ∷ [], (vint w64 n ∷ [], tt))), tt)

module _ {M : Type 1} {𝓤 : Ura M} (𝓛 : Logic 𝓤) (at_mem : Memory → SProp 𝓤) (run : Routine → Fun 𝓤) where
  abbrev pub Gate : Contract 𝓤
  Gate = triple_of 𝓛 GT.signature (GT.spec 𝓛 at_mem run)

  abbrev pub at_gate : Lft → Share → ℕ × ℕ → ℕ → Gate.Ghost
  at_gate κ q c n = (((κ, tt), (q, tt), tt, (record { ref_ptr = c; now = record { value = tt } }, (n, tt)), (vptr c.0 c.1 ∷ [], (vint w64 n ∷ [], tt))), tt)

module _ {M : Type 1} {𝓤 : Ura M} (𝓛 : Logic 𝓤) (at_mem : Memory → SProp 𝓤) (run : Routine → Fun 𝓤) (κ : Lft) (q : Share) (c : ℕ × ℕ) (n : ℕ) where
  open 𝓛 use {H, A}

  pub Counted-goes : n < 2 ^ 64 → ent 𝓤 (sep 𝓤 (sem 𝓛 (hidden_shr Calls κ (record { value = tt }) c.0 c.1)) (A.lft κ q)) ((Counted 𝓛 at_mem run).pre (at_counted 𝓛 at_mem run κ q c n))
  Counted-goes fn =
      qed 𝓛 (‵ (hidden_shr Calls κ (record { value = tt }) c.0 c.1) ∷ ‵ (flft κ q) ∷ []) ∵
      nothing ! $ flt_i ! n (2 ^ 64) fn $ feq_i ! (List Val) (vint w64 n ∷ []) (vint w64 n ∷ []) refl $ fjoin ! $ fjoin ! $ move ! (1 ∷ []) $ feq_i ! (List Val) (vptr c.0 c.1 ∷ []) (vptr c.0 c.1 ∷ []) refl $ fjoin ! $ move ! (0 ∷ 1 ∷ []) $ fjoin ! $
      nothing ! $ move ! (2 ∷ []) $ join ! $ join ! $ nothing ! $ move ! (1 ∷ []) $ done !

  pub Counted-gives : (v : Val) → ent 𝓤 ((Counted 𝓛 at_mem run).post (at_counted 𝓛 at_mem run κ q c n) v) (H.⇛ (guard 𝓤 (v ≡ vunit) (A.lft κ q)))
  Counted-gives v =
      qed 𝓛 (types.Kit.raw ((Counted 𝓛 at_mem run).post (at_counted 𝓛 at_mem run κ q c n) v) ∷ []) ∵ updating ! $
      use1 𝓛 (later (some (λ (r : Unit {0}). ((‵ (flft κ q) ⊛ ‵ ftrue) ⊛ ‵ (unit.own_val r (v ∷ []))) ⊛ some (λ (ws : Unit {0} × (Unit {0} × Unit {0})). ‵ (fsep ftrue (fsep ftrue ftrue)) ⊛ ‵ ftrue)))) (id⊢ 𝓤 _) $ await ! tt $ pick ! (λ r.
      split ! $ split ! $ move ! (1 ∷ []) $ feq_l ! (λ e. split ! $ at_once ! $ check ! (ap only e) $ keep ! (0 ∷ []) $ done !))

  pub Gate-goes : n < 2 ^ 64 → ent 𝓤 (sep 𝓤 (sem 𝓛 (hidden_shr Calls κ (record { value = tt }) c.0 c.1)) (A.lft κ q)) ((Gate 𝓛 at_mem run).pre (at_gate 𝓛 at_mem run κ q c n))
  Gate-goes fn =
      qed 𝓛 (‵ (hidden_shr Calls κ (record { value = tt }) c.0 c.1) ∷ ‵ (flft κ q) ∷ []) ∵
      nothing ! $ flt_i ! n (2 ^ 64) fn $ feq_i ! (List Val) (vint w64 n ∷ []) (vint w64 n ∷ []) refl $ fjoin ! $ fjoin ! $ move ! (1 ∷ []) $ feq_i ! (List Val) (vptr c.0 c.1 ∷ []) (vptr c.0 c.1 ∷ []) refl $ fjoin ! $ move ! (0 ∷ 1 ∷ []) $ fjoin ! $
      nothing ! $ move ! (2 ∷ []) $ join ! $ join ! $ nothing ! $ move ! (1 ∷ []) $ done !

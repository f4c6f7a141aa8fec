-- `of` turns the box into its pointer, and the handle owns what the box owned.
use mathlib.Core.Path.{refl, sym, subst, ap, ◌∙◌}
use mathlib.Core.List.{List, [], ◌∷◌, ◌++◌}
use seplogic.Ra.Ura.{Ura}
use mir.Syntax.{Args, a_type, dcons, dnil}
use mir.Raw.{raw as bare}
use mir.Val.{Val, vptr, vstruct, vcons, vnil}
use base.Fraction.{full_share}
use base.Logic.{SProp, ent, emp, id⊢, never, fst∗}
use base.Fml.{ftrue, fsep, flft}
use contract.BorrowLft.{◌⊑◌, ⊑_refl}
use prog.Memory.{Memory}
use prog.Routine.{Routine}
use prog.Wp.{WpFn, Tables}
use types.Logic.{Logic, sem}
use contract.Monad.{Fun, fact, fact_i}
use contract.Running.{tables, tables_of}
use sound.WpLaws.{fm_of, WpFn-mono}
use types.Kit.{Item, ‵, raw, ◌⊛◌, some, later, ◌$◌, ◌∵◌, !, qed, by, move, keep, drop, use0, use1, join, split, fsplit, fjoin, fpack, feq_i, feq_l, pick, suffices, await, done}
use types.Part.{agg}
use types.Run.{no_more, and_then, of_opd, returns, enter}
use types.ByLocal.{alloc_all, pass_all, free_all, look_at, get, sets, lands_as}
use denote.Builtin.{RawPtr}
use denote.Exit.{yes}
use denote.Param.{bounded}
use denote.RattleType.{Valss}
use denote.RawPtr.{Ptr, block_ptr, null_ptr, ptr_val, in_a_block}
use denote.Signature.{type_at}
use denote.Steps.{nothing, only}
use denote.Struct.Struct.{within}
use denote.Struct.Owning.{shape}
use denote.Triple.Call.{calls_at}
use denote.Triple.Spec.{triple_of}
use denote.Triple.Statement.{Triple, Contract}
use denote.Triple.Table.{entered}
use denote.Triple.Walked.{says, Stays, stay_dropped, walk_of, ends_at, Goes-dropped, walk_Meets}
use Rattle.std.specs.Prelude.{Some}
use Rattle.std.specs.Box.Ownership.{box_owns}
use Rattle.std.proofs.alloc.Calls.{token}
use Rattle.std.proofs.BoxSteps.Form.{D, R, τ}
use Rattle.std.proofs.BoxSteps.Steps.{el_tells}
use Rattle.std.proofs.impls.GlobalAllocator.TheImpl.Met as heap_met
use Rattle.std.specs.contracts.boxed.Box.into_raw as Into
use Rattle.std.proofs.boxed.Box.into_raw.Symbol as into_sym
use Rattle.std.proofs.boxed.Box.into_raw.Met as into_met
use Rattle.nd_session.specs.Held.{held}
use Rattle.nd_session.proofs.SessionBox.{E, In, none, a_box, box}
use Rattle.nd_session.proofs.LettingGo.{drops, lets_go}
use Rattle.nd_session.proofs.Destruct++none.drop.Symbol as none_sym
use Rattle.nd_session.specs.contracts.handle.Handle as Handle
use Rattle.nd_session.specs.contracts.handle.Handle.of as F
use Rattle.nd_session.specs.contracts.handle.Handle.of.Key.{name as #self}
use Rattle.nd_session.proofs.handle.Handle.of.Statement as stated
use Rattle.nd_session.proofs.handle.Handle.of.Code as code

abbrev args : Args
args = bounded (a_type ∷ a_type ∷ []) (E.row, (E.al.row, tt)) (dcons E.al.d (dcons none (dcons drops dnil)))

abbrev stayed : Stays (F.ended).signature.params (F.ended).kept
stayed = (stay_dropped box yes, tt)

module _ {M : Type 1} {𝓤 : Ura M} (𝓛 : Logic 𝓤) (at_mem : Memory → SProp 𝓤) (run : Routine → Fun 𝓤) (𝓣 : Tables 𝓤 𝓛.H) where
  open 𝓛 use {H}

  abbrev Opens : Contract 𝓤
  Opens = triple_of 𝓛 (Into.signature E.row E.al.row E.al.g E.al.d none drops) (Into.spec E.row E.al.row E.al.g E.al.d none drops 𝓛 at_mem run)

  walk : Triple 𝓤 (𝓣.C (into_sym.name args)) Opens → (z : (walk_of 𝓛 F.ended stayed (F.clauses 𝓛 at_mem run)).Ghost)
      → ent 𝓤 ((walk_of 𝓛 F.ended stayed (F.clauses 𝓛 at_mem run)).pre z) (WpFn 𝓤 H 𝓣.C 𝓣.Λ code.function (z.0.4.0 ++ []) ((walk_of 𝓛 F.ended stayed (F.clauses 𝓛 at_mem run)).post z))
  unfolding held
  walk opens z =
      let Post = (walk_of 𝓛 F.ended stayed (F.clauses 𝓛 at_mem run)).post z in
      let v : D E = z.0.3.0 in let a = v.alloc in
      let To = type_at (F.signature).result tt in
      let ts : Item 𝓤 = ‵ (flft [] full_share) ⊛ ‵ (flft [] full_share) ⊛ ‵ ftrue in
      qed 𝓛 ((‵ ftrue ⊛ ‵ (fsep (a_box.own_val v z.0.4.0) ftrue)) ∷ raw (emp 𝓤) ∷ []) ∵ split ! $ drop ! $ fsplit ! $
      el_tells In ! v z.0.4.0 (λ given are good. move ! (2 ∷ []) $ drop ! $
      let Γ : List (Item 𝓤) = ‵ (a_box.own_val v (given ∷ [])) ∷ ‵ ftrue ∷ [] in
      by ! (subst (λ (us : List Val). ent 𝓤 (types.Kit.⋆ 𝓛 Γ) (WpFn 𝓤 H 𝓣.C 𝓣.Λ code.function (us ++ []) Post)) (sym are)
      (qed 𝓛 Γ ∵ enter ! 𝓣.C 𝓣.Λ code.function (given ∷ []) _ $ alloc_all ! (λ ls. pass_all ! refl (good, tt) $
      sets ! (of_opd ! (get ! refl)) refl good $ fjoin ! $
      nothing ! $ use0 𝓛 (raw (fact 𝓤 ([] ⊑ E.al.row.lives))) (fact_i 𝓤 ([] ⊑ E.al.row.lives) (emp 𝓤) (⊑_refl [])) $ join ! $
      use0 𝓛 (raw (fact 𝓤 ([] ⊑ E.row.lives))) (fact_i 𝓤 ([] ⊑ E.row.lives) (emp 𝓤) (⊑_refl [])) $ join ! $
      nothing ! $ use0 𝓛 (‵ (flft [] full_share)) (𝓛.lfts.lft-nil full_share) $ join ! $ use0 𝓛 (‵ (flft [] full_share)) (𝓛.lfts.lft-nil full_share) $ join ! $
      move ! (0 ∷ 2 ∷ []) $ join ! $ join ! $
      let y : Opens.Ghost = ((([], ([], tt)), (full_share, (full_share, tt)), tt, (v, tt), (given ∷ [], tt)), tt) in
      use1 𝓛 (raw (Opens.pre y)) (id⊢ 𝓤 _) $
      calls_at ! (fm_of 𝓤 H 𝓛.laws 𝓣) Opens opens y (and_then ! (get ! refl) (no_more !)) (λ u.
      use1 𝓛 (later (some (λ (r : Ptr). (ts ⊛ ‵ (RawPtr.own_val r (u ∷ []))) ⊛ some (λ (_ : (Unit {0} × (Unit {0} × Unit {0})) × Unit {0}). ‵ (fsep (fsep ftrue (fsep ftrue ftrue)) ftrue) ⊛ ‵ (box_owns (token E.al a) (R E) r v.value))))) (id⊢ 𝓤 _) $
      await ! tt $ pick ! (λ r. split ! $ move ! (1 ∷ []) $ pick ! (λ _. split ! $ drop ! $
      in_a_block ! r (λ p. box_owns (token E.al a) (R E) p v.value) (fst∗ 𝓤 (never 𝓤) (sem 𝓛 (token E.al a (bare (τ E)) null_ptr))) (λ c i e'.
      move ! (1 ∷ []) $ split ! $ drop ! $ feq_l ! (λ eu. lands_as ! (ap only eu ∙ ap ptr_val e') refl (tt, tt) $
      let made : To.Denot = record { at = block_ptr c i; session = Some v.value } in
      let w : Val = vstruct (vcons (vptr c i) vnil) in
      nothing ! $ feq_i ! (List Val) (vptr c i ∷ []) (vptr c i ∷ []) refl $ fjoin ! $ feq_i ! (List Val) (w ∷ []) (w ∷ []) refl $ fjoin ! $
      fpack ! (Valss (RawPtr ∷ [])) (within (shape Handle.the_type) (block_ptr c i, tt) (w ∷ [])) (vptr c i ∷ [], tt) $ fjoin ! $
      use1 𝓛 (‵ (To.own_val made (w ∷ []))) (id⊢ 𝓤 _) $
      sets ! (of_opd ! (get ! refl)) refl (tt, tt) $
      sets ! (agg ! (and_then ! (get ! refl) (no_more !))) refl (tt, (tt, tt)) $ returns ! (look_at ! 0 refl) $ free_all ! refl $
      suffices ! _ (ends_at 𝓛 F.ended stayed (F.clauses 𝓛 at_mem run) z w made (tt, tt) (tt, tt)) $ says ! refl $
      nothing ! $ nothing ! $ fjoin ! $ join ! $ nothing ! $ join ! $ done !)))))))))

pub of_spec : {M : Type 1} → stated.statement M
unfolding tables_of
of_spec {M} 𝓤 𝓛 𝓜 𝓡 wired =
    let 𝓣 : Tables 𝓤 𝓛.H = tables_of 𝓤 𝓛.H 𝓜 (tables 𝓤 𝓛.H 𝓜 𝓡 𝓡.env) in
    let allocates = heap_met.passed 𝓡.env (code.calls-std_heap::GlobalAllocator::allocate 𝓡.env wired) (code.calls-std_heap::GlobalAllocator::deallocate 𝓡.env wired) (code.calls-std_heap::GlobalAllocator::grow 𝓡.env wired) (code.calls-std_heap::GlobalAllocator::shrink 𝓡.env wired) M 𝓤 𝓛 𝓜 𝓡 in
    let goes = none_sym.glues 𝓡.env (code.calls-nd_session::Destruct++none::drop 𝓡.env wired) E.al.row E.al.laws M 𝓤 𝓛 𝓜 𝓡 in
    entered 𝓤 𝓛.H (triple_of 𝓛 F.signature (F.spec 𝓛 𝓜.mem 𝓡.returns)) 𝓣.C 𝓣.Λ #self code.function (code.unfolded 𝓤 𝓛.H 𝓜 𝓡 wired)
    (walk_Meets 𝓛 F.ended stayed (Goes-dropped 𝓛 0 box yes (λ κs x f. refl), tt) (F.clauses 𝓛 𝓜.mem 𝓡.returns) (WpFn 𝓤 𝓛.H 𝓣.C 𝓣.Λ code.function) (WpFn-mono 𝓤 𝓛.H 𝓛.laws 𝓣 code.function)
    (walk 𝓛 𝓜.mem 𝓡.returns 𝓣 (into_met.met 𝓤 𝓛 𝓜 𝓡 (code.calls-std_alloc::boxed::Box::into_raw 𝓡.env wired) E.row E.al.row E.laws E.al.laws E.al.g E.al.d none drops allocates goes
    (lets_go 𝓤 𝓛 𝓜 𝓡 (code.calls-nd_session::nd_session++session++Session+Destruct::drop 𝓡.env wired)))))

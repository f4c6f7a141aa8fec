-- A session is let go by its own `drop`, as a function asks that lets a value of its type parameter go.
use mathlib.Core.Path.{refl}
use mathlib.Core.List.{[], ◌∷◌}
use seplogic.Ra.Ura.{Ura}
use mir.Syntax.{Dict, impl, method, no_args, tnil, dnil}
use base.Logic.{sep, emp, emp∗, comm∗, via}
use base.Fml.{ftrue, fsep}
use prog.Model.{Model}
use prog.Wired.{Wired}
use types.Logic.{Logic, sem}
use types.Kit.{raw, ◌$◌, ◌∵◌, !, qed, keep, join, show, done}
use contract.BorrowLft.{◌⊑◌}
use contract.Monad.{fact}
use contract.Running.{Running}
use denote.Param.Glue.{Met, signature, spent}
use denote.Steps.{nothing}
use denote.Triple.Carry.{beside, grown, spared}
use denote.Triple.Spec.{Spec}
use denote.Triple.Table.{run_framed, widened}
use Rattle.nd_session.specs.contracts.nd_session++session++Session+Destruct.drop as Drop
use Rattle.nd_session.proofs.nd_session++session++Session+Destruct.drop.Met.{met}
use Rattle.nd_session.proofs.nd_session++session++Session+Destruct.drop.Symbol.{symbol, name, code, as_method}
use Rattle.nd_session.proofs.SessionBox.{a_session}

-- the method that lets a session go
abbrev pub drops : Dict
drops = impl (symbol ∷ []) tnil dnil

pub lets_go : {M : Type 1} (𝓤 : Ura M) (𝓛 : Logic 𝓤) (𝓜 : Model 𝓤 𝓛.H) (𝓡 : Running 𝓤 𝓛.H 𝓜) → Wired 𝓡.env code → Met 𝓛 𝓜 𝓡 𝓡.env a_session drops
lets_go 𝓤 𝓛 𝓜 𝓡 wired =
    let it = method drops 0 no_args in
    let said = Drop.spec 𝓛 𝓜.mem 𝓡.returns in
    let itself = spared 𝓛 Drop.signature (𝓡.run (𝓡.env name)) (run_framed 𝓤 𝓛.H 𝓜 𝓡 (𝓡.env name)) 1 (a_session.lives, tt) said (met 𝓤 𝓛 𝓜 𝓡 wired) in
    let by_method = widened 𝓤 𝓛.H (grown 𝓛 Drop.signature 1 (a_session.lives, tt) said) 𝓜 𝓡 𝓡.env (𝓡.env name) (𝓡.env it) (as_method 𝓡.env wired it refl) itself in
    let known : Spec 𝓤 (signature a_session) = λ κs a. record { ghost = Unit {0}; requires = λ g. sep 𝓤 (fact 𝓤 (κs.0 ⊑ a_session.lives)) ((said tt a).requires g); ensures = (said tt a).ensures } in
    beside 𝓛 (signature a_session) (𝓡.run (𝓡.env it)) (run_framed 𝓤 𝓛.H 𝓜 𝓡 (𝓡.env it)) known (spent 𝓛 a_session) (λ κs a g. g) (λ κs a g. emp 𝓤)
    (λ κs a g. via 𝓤 (sep 𝓤 (emp 𝓤) ((known κs a).requires g)) (emp∗ 𝓤 ((known κs a).requires g)) (comm∗ 𝓤 (emp 𝓤) ((known κs a).requires g)))
    (λ κs a g r. qed 𝓛 (raw ((known κs a).ensures g r) ∷ raw (emp 𝓤) ∷ []) ∵ keep ! [] $ show ! (λ (ws : Unit {0} × Unit {0}). sep 𝓤 (sem 𝓛 (fsep ftrue ftrue)) (emp 𝓤)) (tt, tt) $
    nothing ! $ nothing ! $ nothing ! $ join ! $ done !)
    by_method

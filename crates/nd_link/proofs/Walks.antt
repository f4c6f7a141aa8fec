-- The walk over the milliseconds of a link, and the turns that make it.
use Rattle.std.proofs.Common.{◌≡◌, ℕ, zero, suc, ◌+◌, ◌-◌, ◌<◌, ◌≤◌, List, [], ◌++◌, append-nil, append_assoc, sym, ◌∙◌, ap, subst, arith, ⊎_elim}
use Rattle.std.proofs.lemmas.Bool.{cases_lt}
use Rattle.std.proofs.lemmas.Grind.{flat_map-append}
use Rattle.std.specs.List.{flat_map}
use Rattle.rand_core.specs.Stream.{Stream}
use Rattle.nd_link_log.specs.Log.{Log, adding, last_moment}
use Rattle.nd_link_log.specs.Told.{Report, reports}
use Rattle.nd_link_log.specs.History.{IsIdle, Walk, over, adds, passes}
use Rattle.nd_link.specs.declared.link.Link.{Link}
use Rattle.nd_link.specs.declared.told.Told.{Told}
use Rattle.nd_link.specs.Due.{AreDated, AreSettled}
use Rattle.nd_link.specs.Told.{Tells, TellsReports, told_reports}
use Rattle.nd_link.specs.Time.{Leads, Onward, Passes, Turns}
use Rattle.nd_link.proofs.Standing.{idle_at}

-- ---- what is reported

pub told_same : {A : Type 0} (log : Log) (told : List (Told A)) → Tells log log told told
told_same log told = record { newer = []; told = sym (append-nil (reports log)); all = sym (append-nil told) }

pub told_then : {A : Type 0} (log d e : Log) (x y z : List (Told A)) → Tells log d x y → Tells d e y z → Tells log e x z
told_then log d e x y z t u = record {
  newer = t.newer ++ u.newer;
  told = u.told ∙ (ap (λ l. l ++ flat_map told_reports u.newer) t.told ∙ (append_assoc (reports log) (flat_map told_reports t.newer) (flat_map told_reports u.newer)
      ∙ ap (λ l. reports log ++ l) (sym (flat_map-append told_reports t.newer u.newer))));
  all = u.all ∙ (ap (λ l. l ++ u.newer) t.all ∙ append_assoc x t.newer u.newer);
}

pub told_of_reports : {A : Type 0} (log d : Log) (x y : List (Told A)) (more : List Report) → TellsReports x y more → reports d ≡ reports log ++ more → Tells log d x y
told_of_reports log d x y more t e = record { newer = t.newer; told = e ∙ ap (λ l. reports log ++ l) (sym t.reports_are); all = t.all }

-- ---- time in which nothing is due

module _ (log d : Log) (next end : ℕ) (idle : (moment : ℕ) → moment < next → (i : ℕ) → IsIdle i log moment) where
  idle_left : next ≤ end + 1 → Walk log next end d → (left moment : ℕ) → moment + left ≡ next → Walk log moment end d
  idle_left le w zero moment e = subst (λ (m : ℕ). Walk log m end d) (omega (arith, e)) w
  idle_left le w (suc left) moment e = passes (omega (arith, le, e)) (idle moment (omega (arith, e))) (idle_left le w left (suc moment) (omega (arith, e)))

  pub idle_passes : (moment : ℕ) → moment ≤ next → next ≤ end + 1 → Walk log next end d → Walk log moment end d
  idle_passes moment le le' w = idle_left le' w (next - moment) moment (omega (arith, le))

-- ---- the turns

module _ {W R A : Type 0} (stream : R → Stream) where
  pub settle_more : (origin old new : Link W R A) (x y z : List (Told A)) (now next : ℕ) → Leads stream origin old x y (Onward now) → Leads stream old new y z (Turns next) → next ≤ now
      → Leads stream origin new x z (Onward now)
  settle_more origin old new x y z now next sofar turn le = record {
    each = λ log s.
        let l = sofar.each log s in
        let d = l.0 in
        let t = turn.each d l.2 in
        let r = t.1 in (
          t.0,
          λ e w.
              let rest : Walk (adding r.node r.rows d) next now e = subst (λ (x : Log). Walk x next now e) r.all (subst (λ (m : ℕ). Walk t.0 m now e) r.reaches w) in
              l.1 e (idle_passes d e next now r.before (last_moment d) r.in_time (omega (arith, le)) (adds r.node r.start r.what r.rows le r.starts r.due r.idle r.gives rest)),
          t.2,
          told_then log d t.0 x y z l.3 t.3,
        );
  }

  pub settle_end : (origin old : Link W R A) (x y : List (Told A)) (now : ℕ) → Leads stream origin old x y (Onward now) → AreDated stream old.nodes.items → AreSettled now old.nodes.items
      → Leads stream origin old x y (Passes now)
  settle_end origin old x y now sofar dated settled = record {
    each = λ log s.
        let l = sofar.each log s in
        let d = l.0 in
        let idle : (moment : ℕ) → moment < now + 1 → (i : ℕ) → IsIdle i d moment = λ moment lt i.
        idle_at stream old.nodes.items d (last_moment d) l.2.nodes moment dated i (λ n is. let before = settled i n is in omega (arith, lt, before)) in
        let rest : Walk d (last_moment d) now d = ⊎_elim
        (λ past. over past)
        (λ before. idle_passes d d (now + 1) now idle (last_moment d) (omega (arith, before)) (omega arith) (over (omega arith)))
        (cases_lt now (last_moment d)) in
        (d, l.1 d rest, l.2, l.3);
  }

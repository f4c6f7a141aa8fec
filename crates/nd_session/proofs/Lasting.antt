-- A lease holds as long as the version is the same.
use Rattle.std.proofs.Common.{◌≡◌, ◌<◌, ◌≤◌, ◌-◌, ◌^◌, ℕ, Bool, true, false, sym, ◌∙◌, subst, arith, inl, inr}
use Rattle.std.proofs.lemmas.Bool.{cases_Bool}
use Rattle.std.specs.Global.{Global}
use Rattle.nd_addr.specs.declared.addr.Addr.{Addr}
use Rattle.nd_chronicle.specs.Happening.{Chronicle, last_moment}
use Rattle.nd_chronicle.specs.Start.{Start}
use Rattle.nd_node.specs.declared.node.Node.{Node}
use Rattle.nd_node.specs.NodeKept.{Stands}
use Rattle.nd_node.specs.Path.{Lasts}
use Rattle.nd_node.specs.PathKept.{LeavesPaths, path_kept}
use Rattle.nd_node.proofs.Leaving.{leave_both, leaves_lasts, passing_leaves}
use Rattle.nd_random.specs.declared.source.Source.{Source}
use Rattle.nd_random.specs.Source.{stream_of_source}
use Rattle.nd_session.specs.declared.session.Session.{Session}
use Rattle.nd_session.specs.Leases.{KeepsLeases}

pub holds : (old new : Session) (start : Start) (c : Chronicle) (now moment : ℕ) (destination : Addr) → KeepsLeases old new → new.paths.leases ≡ old.paths.leases → old.paths.leases < 2 ^ 64 - 1
    → Stands stream_of_source start new.node c → last_moment start.at c ≤ moment → now ≤ moment → moment < (path_kept old.node now destination).until → Lasts start c moment destination (path_kept old.node now destination)
holds old new start c now moment destination keeps version lt s le from before =
    leaves_lasts old.node now moment destination from new.node (keeps.keeps version lt) before stream_of_source start c s le

pub one_after_another : (old mid new : Session) → KeepsLeases old mid → KeepsLeases mid new → KeepsLeases old new
one_after_another old mid new first second = record {
  grows = omega (arith, first.grows, second.grows);
  keeps = λ same lt.
      let mid_is : mid.paths.leases ≡ old.paths.leases = omega (arith, first.grows, second.grows, same) in
      leave_both old.node mid.node new.node (first.keeps mid_is lt) (second.keeps (same ∙ sym mid_is) (omega (arith, mid_is, lt)));
}

-- time alone has passed
pub alone_leaves : (node later : Node Source Global) (at : ℕ) → later ≡ record node { last = at } → LeavesPaths node later
alone_leaves node later at is = subst (λ (n : Node Source Global). LeavesPaths node n) (sym is) (passing_leaves node at)

pub keeps_alone : (old new : Session) (at : ℕ) → new.paths.leases ≡ old.paths.leases → new.node ≡ record old.node { last = at } → KeepsLeases old new
keeps_alone old new at version is = record { grows = omega (arith, version); keeps = λ same lt. alone_leaves old.node new.node at is }

-- the version grows where the paths may not be left
pub keeps_unless : (holds : Bool) (old new : Session) → old.paths.leases ≤ new.paths.leases → (holds ≡ false → old.paths.leases < 2 ^ 64 - 1 → old.paths.leases < new.paths.leases) → (holds ≡ true → LeavesPaths old.node new.node)
    → KeepsLeases old new
keeps_unless holds old new least grows leaves = record {
  grows = least;
  keeps = λ version lt. elim (cases_Bool holds) [
    | inl held ↦ leaves held
    | inr ended ↦ absurd (omega (arith, grows ended lt, version))
  ];
}

-- where nothing has changed but the last moment, and the version grows where something has
pub keeps_where : (changed : Bool) (old new : Session) (at : ℕ) → old.paths.leases ≤ new.paths.leases
    → (changed ≡ true → old.paths.leases < 2 ^ 64 - 1 → old.paths.leases < new.paths.leases) → (changed ≡ false → new.node ≡ record old.node { last = at }) → KeepsLeases old new
keeps_where changed old new at least grows same = record {
  grows = least;
  keeps = λ version lt. elim (cases_Bool changed) [
    | inl changes ↦ absurd (omega (arith, grows changes lt, version))
    | inr stays ↦ alone_leaves old.node new.node at (same stays)
  ];
}

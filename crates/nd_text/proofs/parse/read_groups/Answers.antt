use Rattle.std.proofs.Common.{refl, ap, ◌∙◌}
use Rattle.nd_text.specs.Parsing.{group_of}
use Rattle.nd_text.proofs.GroupLists.{none_yet, ends_bad, ends_good, goes_on, too_many}
use Rattle.nd_text.proofs.parse.read_groups.Goals as goal

pub returns-in_err-groups-clause-groups : goal.returns-in_err-groups-clause-groups
returns-in_err-groups-clause-groups c =
    rw c.from_residual.ensures (ends_bad _ _ _ _ c.loop-count.invariant c.loop-count-test.true (c.in_err-groups.ensures ∙ ap group_of c.split_word.ensures.word))

pub returns-in-None-clause-groups : goal.returns-in-None-clause-groups
returns-in-None-clause-groups c =
    ends_good _ _ _ _ _ c.loop-count.invariant c.loop-count-test.true (c.in_ok-groups.ensures ∙ ap group_of c.split_word.ensures.word) (rw c.in-None.is at c.split_word.ensures.behind)

pub loop-count-preserved : goal.loop-count-preserved
loop-count-preserved c =
    goes_on _ _ _ _ _ _ c.loop-count.invariant c.loop-count-test.true (c.in_ok-groups.ensures ∙ ap group_of c.split_word.ensures.word) (rw c.in-Some.is at c.split_word.ensures.behind)

pub returns-clause-groups : goal.returns-clause-groups
returns-clause-groups c = too_many _ _ _ _ c.loop-count.invariant c.loop-count-test.false

pub loop-count-init : goal.loop-count-init
loop-count-init c = none_yet c.args.text.now _ refl

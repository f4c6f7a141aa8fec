use Rattle.std.proofs.Common.{◌∙◌, sym, ap, ℕ}
use Rattle.nd_nexthop.specs.Choice.{target_in}
use Rattle.nd_nexthop.specs.History.{remembered}
use Rattle.nd_nexthop.proofs.Places.{look_remembered, look_redirects, few_redirects}
use Rattle.nd_nexthop.proofs.laws.one_answer.Goals as goal

pub returns-clause-table : goal.returns-clause-table
returns-clause-table c = λ history a b same s t. s.entries_are ∙ (ap (λ (n : ℕ). remembered n history) same ∙ sym t.entries_are)

pub returns-clause-found : goal.returns-clause-found
returns-clause-found c = λ history choice key s. ap (target_in key) s.entries_are ∙ look_remembered choice.redirects.limit key history

pub returns-clause-list : goal.returns-clause-list
returns-clause-list c = λ limit history key. look_redirects limit key history

pub returns-clause-few : goal.returns-clause-few
returns-clause-few c = few_redirects

use Rattle.nd_chronicle.proofs.TurnedAway.{turned_away}
use Rattle.nd_chronicle.proofs.Unchanged.{unchanged_by, unchanged_by_event}
use Rattle.nd_chronicle.proofs.laws.refusals_change_nothing.Goals as goal

pub returns-clause-turned_away : goal.returns-clause-turned_away
returns-clause-turned_away c = λ start c' d now event adds away. turned_away start now event c' d adds away

pub returns-clause-row : goal.returns-clause-row
returns-clause-row c = λ start c' at what yes. unchanged_by start c' at what yes

pub returns-clause-event : goal.returns-clause-event
returns-clause-event c = λ start c' now what yes. unchanged_by_event start c' now what yes

use Rattle.nd_chronicle.proofs.Pasts.{all_paired, history_past, place_of}
use Rattle.nd_chronicle.proofs.laws.rows_have_places.Goals as goal

pub returns-clause-place : goal.returns-clause-place
returns-clause-place c = λ c' at key kind below p. place_of at key kind below c' p

pub returns-clause-past : goal.returns-clause-past
returns-clause-past c = λ c' d p. history_past d c' p

pub returns-clause-sent : goal.returns-clause-sent
returns-clause-sent c = λ start events c' below at key runs p. (all_paired start events c' runs).each at key below p

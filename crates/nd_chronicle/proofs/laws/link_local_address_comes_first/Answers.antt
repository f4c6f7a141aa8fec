use Rattle.nd_chronicle.proofs.Grounded.{known_behind, own_behind, stays_up, up_later}
use Rattle.nd_chronicle.proofs.laws.link_local_address_comes_first.Goals as goal

pub returns-clause-known : goal.returns-clause-known
returns-clause-known c = λ start events c' d key bytes runs p not known. known_behind start events c' bytes runs d key p not known

pub returns-clause-own : goal.returns-clause-own
returns-clause-own c = λ start events c' d address bytes runs p not own. own_behind start events c' bytes runs d address p not own

pub returns-clause-stays : goal.returns-clause-stays
returns-clause-stays c = λ start events c' d e bytes runs p q up. stays_up start events c' bytes runs e d q p up

pub returns-clause-later : goal.returns-clause-later
returns-clause-later c = λ start events later c' d bytes more runs then up. up_later start events c' bytes runs later d more then up

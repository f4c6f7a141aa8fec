use Rattle.nd_chronicle.proofs.OwnKeys.{own_usable}
use Rattle.nd_chronicle.proofs.laws.own_addresses_are_unicast.Goals as goal

pub returns-clause-number : goal.returns-clause-number
returns-clause-number c = λ start events c' d key mac bytes runs p known. (own_usable start mac events c' d key bytes runs p known).number

pub returns-clause-unicast : goal.returns-clause-unicast
returns-clause-unicast c = λ start events c' d key mac bytes runs p known. (own_usable start mac events c' d key bytes runs p known).unicast

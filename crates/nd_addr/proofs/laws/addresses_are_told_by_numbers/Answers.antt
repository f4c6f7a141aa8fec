use Rattle.nd_addr.proofs.Numbered.{mac_back, addr_back, mac_number_back, addr_number_back, six, sixteen}
use Rattle.nd_addr.proofs.laws.addresses_are_told_by_numbers.Goals as goal

pub returns-clause-addr : goal.returns-clause-addr
returns-clause-addr c = addr_back

pub returns-clause-mac : goal.returns-clause-mac
returns-clause-mac c = mac_back

pub returns-clause-addr_number : goal.returns-clause-addr_number
returns-clause-addr_number c = addr_number_back

pub returns-clause-mac_number : goal.returns-clause-mac_number
returns-clause-mac_number c = mac_number_back

pub returns-clause-addr_bytes : goal.returns-clause-addr_bytes
returns-clause-addr_bytes c = sixteen

pub returns-clause-mac_bytes : goal.returns-clause-mac_bytes
returns-clause-mac_bytes c = six

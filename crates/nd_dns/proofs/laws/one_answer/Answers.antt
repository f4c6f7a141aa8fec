use Rattle.nd_addr.specs.Same.{same_addr, addrs_tell, bytes_tell}
use Rattle.nd_table.proofs.UniqueKeys.{one_listing}
use Rattle.nd_dns.specs.AnnouncedNames.{same_name}
use Rattle.nd_dns.proofs.laws.one_answer.Goals as goal

pub returns-clause-servers : goal.returns-clause-servers
returns-clause-servers c = one_listing same_addr addrs_tell

pub returns-clause-names : goal.returns-clause-names
returns-clause-names c = one_listing same_name bytes_tell

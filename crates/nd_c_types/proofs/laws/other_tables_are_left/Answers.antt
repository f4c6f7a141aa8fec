use Rattle.nd_c_types.proofs.Changing.{leaves_addresses, leaves_names, leaves_parameters, leaves_prefixes, leaves_redirects, leaves_routers, leaves_servers}
use Rattle.nd_c_types.proofs.laws.other_tables_are_left.Goals as goal

pub returns-clause-routers : goal.returns-clause-routers
returns-clause-routers c = λ c' at what is. leaves_routers c' at what is

pub returns-clause-prefixes : goal.returns-clause-prefixes
returns-clause-prefixes c = λ c' at what is. leaves_prefixes c' at what is

pub returns-clause-addresses : goal.returns-clause-addresses
returns-clause-addresses c = λ c' at what is. leaves_addresses c' at what is

pub returns-clause-servers : goal.returns-clause-servers
returns-clause-servers c = λ c' at what is. leaves_servers c' at what is

pub returns-clause-names : goal.returns-clause-names
returns-clause-names c = λ c' at what is. leaves_names c' at what is

pub returns-clause-redirects : goal.returns-clause-redirects
returns-clause-redirects c = λ c' at what is. leaves_redirects c' at what is

pub returns-clause-parameters : goal.returns-clause-parameters
returns-clause-parameters c = λ c' at what is. leaves_parameters c' at what is

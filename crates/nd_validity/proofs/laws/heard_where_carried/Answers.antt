use Rattle.nd_validity.proofs.Carried.{heard, in_some_role, heard_exactly, in_some_role_exactly}
use Rattle.nd_validity.proofs.laws.heard_where_carried.Goals as goal

pub returns-clause-heard : goal.returns-clause-heard
returns-clause-heard c = heard

pub returns-clause-in_some_role : goal.returns-clause-in_some_role
returns-clause-in_some_role c = in_some_role

pub returns-clause-heard_exactly : goal.returns-clause-heard_exactly
returns-clause-heard_exactly c = heard_exactly

pub returns-clause-in_some_role_exactly : goal.returns-clause-in_some_role_exactly
returns-clause-in_some_role_exactly c = in_some_role_exactly

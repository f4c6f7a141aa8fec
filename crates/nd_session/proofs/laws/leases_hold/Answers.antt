use Rattle.nd_node.proofs.Leaving.{leaves_in_lease}
use Rattle.nd_session.proofs.Lasting.{holds, one_after_another}
use Rattle.nd_session.proofs.laws.leases_hold.Goals as goal

pub returns-clause-path : goal.returns-clause-path
returns-clause-path c = holds

pub returns-clause-packet : goal.returns-clause-packet
returns-clause-packet c = λ old new now moment destination to mac keeps version lt from before. leaves_in_lease old.node now moment destination from new.node (keeps.keeps version lt) before to mac

pub returns-clause-calls : goal.returns-clause-calls
returns-clause-calls c = one_after_another

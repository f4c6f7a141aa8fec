use Rattle.nd_node.specs.Event.{request_of}
use Rattle.ndpctl_run.proofs.Readings.{if_read}
use Rattle.ndpctl_link.proofs.node_command.read_own_command.Goals as goal

pub returns-then-is_rx-clause-only : goal.returns-then-is_rx-clause-only
returns-then-is_rx-clause-only g c = λ event own. absurd (c.if-is_rx.ensures event own)

pub returns-clause-found : goal.returns-clause-found
returns-clause-found g c =
    if_read c.read_command.result _ _ (λ event is. record { spelled = is; unheard = c.if-is_rx.ensures (request_of event) is }) c.read_command.ensures.found

pub returns-clause-only : goal.returns-clause-only
returns-clause-only g c = λ event own. c.read_command.ensures.only event own.spelled

pub returns-clause-malformed : goal.returns-clause-malformed
returns-clause-malformed g c = λ none.
    c.read_command.ensures.malformed (λ event is. none event (record { spelled = is; unheard = c.if-is_rx.ensures event is }))

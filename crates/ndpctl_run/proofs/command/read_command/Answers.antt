use Rattle.std.proofs.Common.{Ok, ap, inl}
use Rattle.nd_node.specs.Event.{request_of}
use Rattle.ndpctl_run.proofs.CommandWords.{arguments_of, no_command, whole_command, command_of}
use Rattle.ndpctl_run.proofs.Readings.{if_read, nothing_read, some_more}
use Rattle.ndpctl_run.proofs.command.read_command.Goals as goal

pub returns-in_default-clause-only : goal.returns-in_default-clause-only
returns-in_default-clause-only g c = λ event e. c.read_whole_command.ensures.only event (whole_command c.args.bytes.now event c.in_default.ensures e)

pub returns-in_default-clause-malformed : goal.returns-in_default-clause-malformed
returns-in_default-clause-malformed g c = λ none. ap (λ read. Ok read) (nothing_read c.read_whole_command.result _ c.read_whole_command.ensures.found (λ event whole. none (request_of event) (inl whole)))

pub returns-in_default-clause-found : goal.returns-in_default-clause-found
returns-in_default-clause-found g c = some_more c.read_whole_command.result _ _ (λ event whole. inl whole) c.read_whole_command.ensures.found

pub returns-in_default-read_command_word-clause-only : goal.returns-in_default-read_command_word-clause-only
returns-in_default-read_command_word-clause-only g c = λ event e.
    absurd (no_command c.args.bytes.now c.in-Some.word.now c.in-Some.rest.now event c.in-Some.ensures (λ command is. (let r = c.in_default-read_command_word.ensures.only command is in let no : ⊥ = cc in no)) e)

pub returns-clause-found : goal.returns-clause-found
returns-clause-found g c =
    if_read c.read_arguments.result _ _ (λ event are. command_of c.args.bytes.now c.in-Some.word.now c.in-Some.rest.now c.in-Some-read_command_word.command (request_of event) c.in-Some.ensures c.in-Some-read_command_word.ensures.found are) c.read_arguments.ensures.found

pub returns-clause-only : goal.returns-clause-only
returns-clause-only g c = λ event e.
    c.read_arguments.ensures.only event (arguments_of c.args.bytes.now c.in-Some.word.now c.in-Some.rest.now c.in-Some-read_command_word.command event c.in-Some.ensures c.in-Some-read_command_word.ensures.found e)

pub returns-clause-malformed : goal.returns-clause-malformed
returns-clause-malformed g c = λ none.
    c.read_arguments.ensures.malformed (λ event are. none event (command_of c.args.bytes.now c.in-Some.word.now c.in-Some.rest.now c.in-Some-read_command_word.command event c.in-Some.ensures c.in-Some-read_command_word.ensures.found are))

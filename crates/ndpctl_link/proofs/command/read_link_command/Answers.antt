use Rattle.ndpctl_run.proofs.Readings.{if_read}
use Rattle.nd_random.specs.Source.{stream_of_source}
use Rattle.nd_link.specs.Event.{link_event}
use Rattle.ndpctl_link.proofs.LinkCommandWords.{link_arguments_of, link_command_of, no_link_command, no_link_words}
use Rattle.ndpctl_link.proofs.command.read_link_command.Goals as goal

pub returns-in_default-clause-only : goal.returns-in_default-clause-only
returns-in_default-clause-only g c = λ event is. absurd (no_link_words c.args.bytes.now event c.in_default.ensures is)

pub returns-in_default-read_link_word-clause-only : goal.returns-in_default-read_link_word-clause-only
returns-in_default-read_link_word-clause-only g c = λ event is.
    absurd (no_link_command c.args.bytes.now c.in-Some.word.now c.in-Some.rest.now event c.in-Some.ensures (λ command e. (let r = c.in_default-read_link_word.ensures.only command e in let no : ⊥ = cc in no)) is)

pub returns-clause-found : goal.returns-clause-found
returns-clause-found g c =
    if_read c.read_link_arguments.result _ _ (λ event are. link_command_of c.args.bytes.now c.in-Some.word.now c.in-Some.rest.now c.in-Some-read_link_word.command (link_event stream_of_source event) c.in-Some.ensures c.in-Some-read_link_word.ensures.found are) c.read_link_arguments.ensures.found

pub returns-clause-only : goal.returns-clause-only
returns-clause-only g c = λ event is.
    c.read_link_arguments.ensures.only event (link_arguments_of c.args.bytes.now c.in-Some.word.now c.in-Some.rest.now c.in-Some-read_link_word.command event c.in-Some.ensures c.in-Some-read_link_word.ensures.found is)

pub returns-clause-malformed : goal.returns-clause-malformed
returns-clause-malformed g c = λ none.
    c.read_link_arguments.ensures.malformed (λ event are. none event (link_command_of c.args.bytes.now c.in-Some.word.now c.in-Some.rest.now c.in-Some-read_link_word.command event c.in-Some.ensures c.in-Some-read_link_word.ensures.found are))

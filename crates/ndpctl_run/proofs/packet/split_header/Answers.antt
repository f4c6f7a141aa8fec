use Rattle.ndpctl_run.proofs.PacketWords.{header_of, source_of, destination_of, next_header_of}
use Rattle.ndpctl_run.proofs.packet.split_header.Goals as goal

pub returns-in_err-source-clause-only : goal.returns-in_err-source-clause-only
returns-in_err-source-clause-only c = λ source destination next_header rest h. absurd (c.in_err-source.ensures.only source h.rest (source_of c.args.text.now source destination next_header _ h))

pub returns-in_err-destination-clause-only : goal.returns-in_err-destination-clause-only
returns-in_err-destination-clause-only c = λ source destination next_header rest h.
    let first = c.in_ok-source.ensures.only source h.rest (source_of c.args.text.now source destination next_header _ h) in
    absurd (c.in_err-destination.ensures.only destination h.behind.rest (destination_of c.args.text.now source destination next_header _ h c.in_ok-source.rest.now first.1))

pub returns-in_err-next_header-clause-only : goal.returns-in_err-next_header-clause-only
returns-in_err-next_header-clause-only c = λ source destination next_header rest h.
    let first = c.in_ok-source.ensures.only source h.rest (source_of c.args.text.now source destination next_header _ h) in
    let second = c.in_ok-destination.ensures.only destination h.behind.rest (destination_of c.args.text.now source destination next_header _ h c.in_ok-source.rest.now first.1) in
    absurd (c.in_err-next_header.ensures.only next_header rest (next_header_of c.args.text.now source destination next_header _ h c.in_ok-destination.rest.now second.1))

pub returns-clause-only : goal.returns-clause-only
returns-clause-only c = λ source destination next_header rest h.
    let first = c.in_ok-source.ensures.only source h.rest (source_of c.args.text.now source destination next_header _ h) in
    let second = c.in_ok-destination.ensures.only destination h.behind.rest (destination_of c.args.text.now source destination next_header _ h c.in_ok-source.rest.now first.1) in
    let third = c.in_ok-next_header.ensures.only next_header rest (next_header_of c.args.text.now source destination next_header _ h c.in_ok-destination.rest.now second.1) in
    (first.0, second.0, third.0, third.1)

pub returns-clause-found : goal.returns-clause-found
returns-clause-found c =
    header_of c.args.text.now c.in_ok-source.source c.in_ok-destination.destination c.in_ok-next_header.next_header c.in_ok-source.rest.now c.in_ok-destination.rest.now c.in_ok-next_header.rest.now
    c.in_ok-source.ensures.found c.in_ok-destination.ensures.found c.in_ok-next_header.ensures.found

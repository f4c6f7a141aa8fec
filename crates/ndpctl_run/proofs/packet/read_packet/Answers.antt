use Rattle.std.proofs.Common.{List, ℕ, sym, subst}
use Rattle.ndpctl_run.specs.Bytes.{IsBytesWord}
use Rattle.ndpctl_run.proofs.PacketWords.{header_with, header_rest}
use Rattle.ndpctl_run.proofs.Readings.{some_is, some_and, none_and}
use Rattle.ndpctl_run.proofs.packet.read_packet.Goals as goal

pub returns-in_default-clause-only : goal.returns-in_default-clause-only
returns-in_default-clause-only g c = λ source destination next_header payload h.
    c.in_default.ensures.only source destination next_header h.behind.behind.rest (header_rest c.args.words.now source destination next_header _ h)

pub returns-in_err-payload-clause-malformed : goal.returns-in_err-payload-clause-malformed
returns-in_err-payload-clause-malformed g c = λ none.
    let header = c.in-Some.header in
    let r = c.in_err-payload.ensures.malformed (λ payload w. none header.source header.destination header.next_header payload
    (header_with c.args.words.now header.source header.destination header.next_header c.in-Some.word.now (λ word. IsBytesWord word payload) c.in-Some.ensures.found w)) in
    cc

pub returns-in-Some-2-clause-found : goal.returns-in-Some-2-clause-found
returns-in-Some-2-clause-found g c =
    let header = c.in-Some.header in
    header_with c.args.words.now header.source header.destination header.next_header c.in-Some.word.now (λ word. IsBytesWord word c.in-Some-2.payload.items) c.in-Some.ensures.found (some_is c.in_ok-payload.field-0 c.in-Some-2.payload (λ payload. IsBytesWord c.in-Some.word.now payload.items) c.in-Some-2.is c.in_ok-payload.ensures.found)

pub returns-in-Some-2-clause-only : goal.returns-in-Some-2-clause-only
returns-in-Some-2-clause-only g c = λ source destination next_header payload h.
    let same = c.in-Some.ensures.only source destination next_header h.behind.behind.rest (header_rest c.args.words.now source destination next_header _ h) in
    (same.0, same.1, same.2, some_and c.in_ok-payload.field-0 c.in-Some-2.payload _ c.in-Some-2.is (c.in_ok-payload.ensures.only payload (subst (λ (word : List ℕ). IsBytesWord word payload) (sym same.3) h.behind.behind.behind)))

pub returns-in-Some-2-clause-malformed : goal.returns-in-Some-2-clause-malformed
returns-in-Some-2-clause-malformed g c = λ none.
    let header = c.in-Some.header in
    absurd (none header.source header.destination header.next_header c.in-Some-2.payload.items
    (header_with c.args.words.now header.source header.destination header.next_header c.in-Some.word.now (λ word. IsBytesWord word c.in-Some-2.payload.items) c.in-Some.ensures.found (some_is c.in_ok-payload.field-0 c.in-Some-2.payload (λ payload. IsBytesWord c.in-Some.word.now payload.items) c.in-Some-2.is c.in_ok-payload.ensures.found)))

pub returns-in-None-clause-only : goal.returns-in-None-clause-only
returns-in-None-clause-only g c = λ source destination next_header payload h.
    let same = c.in-Some.ensures.only source destination next_header h.behind.behind.rest (header_rest c.args.words.now source destination next_header _ h) in
    none_and c.in_ok-payload.field-0 _ c.in-None.is (c.in_ok-payload.ensures.only payload (subst (λ (word : List ℕ). IsBytesWord word payload) (sym same.3) h.behind.behind.behind))

use Rattle.std.proofs.Common.{◌∙◌, List, ℕ, sym, ap}
use Rattle.nd_search_list.specs.Name.{lowered}
use Rattle.nd_search_list.specs.Text.{name_text}
use Rattle.nd_search_list.proofs.Labels.{spelled_says}
use Rattle.nd_search_list.proofs.Texts.{text_is, text_from_rest, low_rest}
use Rattle.nd_search_list.proofs.name_ref.NameRef.write_text.Goals as goal

pub push_from-requires-clause-low : goal.push_from-requires-clause-low
push_from-requires-clause-low g c = low_rest c.as_bytes.result.now c.as_bytes.ensures.spelled

pub returns-in_ok-reserve-in-len1-up-clause-written : goal.returns-in_ok-reserve-in-len1-up-clause-written
returns-in_ok-reserve-in-len1-up-clause-written g c =
    let text = ap (λ (t : List ℕ). name_text (lowered t)) (sym c.as_bytes.ensures.value) ∙ text_from_rest c.as_bytes.result.now c.as_bytes.ensures.spelled c.in-len1-up.len_at_least in
    rw (text, sym c.reserve.ensures.bytes) c.push_from.ensures.written

pub returns-in_ok-reserve-in-len1-up-clause-rules : goal.returns-in_ok-reserve-in-len1-up-clause-rules
returns-in_ok-reserve-in-len1-up-clause-rules g c = text_is c.args.self.now.bytes.now (spelled_says c.args.self.now.bytes.now c.args.self.now.spelled)

pub returns-in_err-reserve-in-len1-up-clause-rules : goal.returns-in_err-reserve-in-len1-up-clause-rules
returns-in_err-reserve-in-len1-up-clause-rules g c = text_is c.args.self.now.bytes.now (spelled_says c.args.self.now.bytes.now c.args.self.now.spelled)

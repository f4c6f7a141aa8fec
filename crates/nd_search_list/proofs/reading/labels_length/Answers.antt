use Rattle.std.proofs.Common.{◌≤◌, ◌+◌, ◌∙◌, ℕ, length, sym, ap, arith}
use Rattle.nd_search_list.specs.Reading.{labels_from, labels_length}
use Rattle.nd_search_list.proofs.Labels.{label_read, label_bad}
use Rattle.nd_search_list.proofs.reading.labels_length.Goals as goal

pub returns-then-not-begins_with_label : goal.returns-then-not-begins_with_label
unfolding labels_length
returns-then-not-begins_with_label c =
    let rest = c.loop-rest.rest.now in
    let byte = c.from-length.ensures in
    let some : 1 ≤ length rest = omega (arith, c.split_at.ensures.back_len) in
    let bad = label_bad c.loop-rest.before rest c.split_at.result.1.now some c.if-byte-lt1.false c.if-byte-gt-LONGEST_LABEL.false c.split_at.ensures.back (rw (sym byte) (sym c.begins_with_label.ensures ∙ c.if-not-begins_with_label.true)) in
    sym bad ∙ c.loop-rest.invariant.same

pub loop-rest-preserved : goal.loop-rest-preserved
loop-rest-preserved c =
    let rest = c.loop-rest.rest.now in
    let byte = c.from-length.ensures in
    let some : 1 ≤ length rest = omega (arith, c.split_at.ensures.back_len) in
    let read = label_read c.loop-rest.before rest c.split_at.result.1.now c.split_at-in-loop-rest.result.1.now some c.if-byte-lt1.false c.if-byte-gt-LONGEST_LABEL.false c.split_at.ensures.back
    (rw (sym byte) (sym c.begins_with_label.ensures ∙ c.if-not-begins_with_label.false)) (rw (sym byte) c.split_at-in-loop-rest.ensures.back) in
    record {
      same = ap (λ (n : ℕ). labels_from (c.loop-rest.before + (1 + n)) 0 c.split_at-in-loop-rest.result.1.now) byte ∙ (read ∙ c.loop-rest.invariant.same);
      within = omega (arith, c.split_at.ensures.back_len, c.split_at-in-loop-rest.ensures.back_len, c.loop-rest.invariant.within);
    }

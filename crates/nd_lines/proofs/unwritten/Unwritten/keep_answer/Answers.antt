use Rattle.std.proofs.Common.{rules, ◌≡◌, string_bytes}
use Rattle.std.proofs.lemmas.Result.{on_ok_weaker, on_err_weaker}
use Rattle.nd_lines.proofs.WrittenLemmas.{AppendsFront-both, AppendsFront-more, AppendsUpTo-both}
use Rattle.nd_lines.proofs.unwritten.Unwritten.keep_answer.Goals as goal

pub returns-in_err-write_and_clear-in-Err-clause-front : goal.returns-in_err-write_and_clear-in-Err-clause-front
returns-in_err-write_and_clear-in-Err-clause-front g c =
    let kept : string_bytes c.push_str.new.self ≡ string_bytes c.args.self.now.text = c.in-Err.ensures.bytes in
    let front = AppendsFront-more _ _ _ (string_bytes c.args.self.now.answer) (rw kept at c.in_err-write_and_clear-in-Err.ensures.front) in
    search rules

pub returns-in_ok-write_and_clear-in-Err-clause-ok : goal.returns-in_ok-write_and_clear-in-Err-clause-ok
returns-in_ok-write_and_clear-in-Err-clause-ok g c =
    let kept : string_bytes c.push_str.new.self ≡ string_bytes c.args.self.now.text = c.in-Err.ensures.bytes in
    let text = rw kept at c.in_ok-write_and_clear-in-Err.ensures.ok in
    on_ok_weaker c.write_whole.result (AppendsUpTo-both _ _ _ _ _ _ _ text c.as_bytes.ensures.value c.in_ok-write_and_clear-in-Err.ensures.emptied) c.write_whole.ensures.ok

pub returns-in_ok-write_and_clear-in-Err-clause-front : goal.returns-in_ok-write_and_clear-in-Err-clause-front
returns-in_ok-write_and_clear-in-Err-clause-front g c =
    let kept : string_bytes c.push_str.new.self ≡ string_bytes c.args.self.now.text = c.in-Err.ensures.bytes in
    let text = rw kept at c.in_ok-write_and_clear-in-Err.ensures.ok in
    on_err_weaker c.write_whole.result (AppendsFront-both _ _ _ _ _ _ text c.as_bytes.ensures.value) c.write_whole.ensures.front

use Rattle.std.proofs.Common.{◌≡◌, ℕ, ◌+◌, ◌-◌, length, take, replicate, arith, ap, ◌∙◌}
use Rattle.nd_text.proofs.GroupLists.{zeros_part, joined_parts}
use Rattle.nd_text.proofs.parse.with_zeros_between.Goals as goal

pub returns : goal.returns
returns c =
    let zeros = length c.split_at_mut-front.result.1.now - length c.args.after.now in
    let count : zeros ≡ 8 - (length c.args.before.now + length c.args.after.now) = omega arith in
    let middle = c.split_at_mut-end.ensures.front ∙ ap (take {A = ℕ} zeros) c.split_at_mut-front.ensures.back ∙ zeros_part 8 (length c.args.before.now) zeros (omega arith) ∙ ap (λ (n : ℕ). replicate {A = ℕ} n 0) count in
    joined_parts _ _ _ _ _ _ c.copy_from_slice.ensures.after middle c.copy_from_slice-2.ensures.after

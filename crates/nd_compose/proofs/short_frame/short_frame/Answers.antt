use Rattle.std.proofs.Common.{rules, ◌≡◌, ℕ, ◌++◌, length, replicate, sym, ap, ◌∙◌, arith}
use Rattle.std.proofs.lemmas.List.{append-nil}
use Rattle.nd_addr.specs.Frame.{written_headers, written_frame}
use Rattle.nd_addr.proofs.Filled.{first_part, next_part}
use Rattle.nd_addr.proofs.Written.{headers_first}
use Rattle.nd_message.specs.Frame.{message_header}
use Rattle.nd_compose.proofs.short_frame.short_frame.Goals as goal

pub returns : goal.returns
returns c =
    let to = c.args.to in
    let from = c.args.from in
    let header = message_header c.args.source c.args.destination in
    let message = c.summed.result in
    let head = written_headers to from header 32 in
    let one : c.copy_from_slice.new.self ≡ head = search rules in
    let long : length head ≡ 54 = omega (arith, ap length one) in
    let short : length message ≡ 32 = omega arith in
    next_part 54 32 _ head (replicate 32 0) c.copy_from_slice-2.new.self message long (first_part c.copy_from_slice.new.self head (replicate 32 0) one) (search rules)
    ∙ append-nil (head ++ message)
    ∙ ap (λ (n : ℕ). written_headers to from header n ++ message) (sym short)
    ∙ sym (headers_first to from header message)
    ∙ ap (written_frame to from header) c.summed.ensures

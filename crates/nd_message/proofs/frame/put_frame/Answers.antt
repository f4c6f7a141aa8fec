use Rattle.std.proofs.Common.{◌≡◌, ℕ, List, ◌++◌, sym, ap, subst, ◌∙◌}
use Rattle.nd_addr.specs.Frame.{written_headers}
use Rattle.nd_addr.specs.Room.{Puts}
use Rattle.nd_message.specs.Owned.{whole_of}
use Rattle.nd_message.specs.Spelling.{written_message}
use Rattle.nd_message.specs.Frame.{message_header, message_frame}
use Rattle.nd_message.proofs.Framing.{frame_parts}
use Rattle.nd_message.proofs.Putting.{puts_both}
use Rattle.nd_message.proofs.frame.put_frame.Goals as goal

pub returns : goal.returns
returns g c =
    let m = whole_of c.args.body.now c.args.options.now in
    let header = message_header c.args.source c.args.destination in
    let message = written_message c.args.source c.args.destination m in
    let old = c.args.out.now in
    let new = c.put_message.new.out in
    let whole : written_headers c.args.to c.args.from header c.in-Some.length ++ message ≡ message_frame c.args.to c.args.from c.args.source c.args.destination m =
    ap (λ (n : ℕ). written_headers c.args.to c.args.from header n ++ message) c.in-Some.ensures.len.1 ∙ sym (frame_parts c.args.to c.args.from c.args.source c.args.destination m) in
    subst (λ (bytes : List ℕ). Puts old new bytes) whole (puts_both old c.put_headers.new.out new (written_headers c.args.to c.args.from header c.in-Some.length) message c.put_headers.ensures c.put_message.ensures)

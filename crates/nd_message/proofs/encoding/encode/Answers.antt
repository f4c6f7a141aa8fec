use Rattle.std.proofs.Common.{arith, ap, ◌∙◌, ◌++◌, subst, sym, length, List, ℕ}
use Rattle.nd_addr.specs.Checksum.{IsGoodSum}
use Rattle.nd_decode.specs.Message.{Spells}
use Rattle.nd_decode.proofs.Types.{spelled_known}
use Rattle.nd_decode.proofs.Deciding.{decode_spelled}
use Rattle.nd_message.specs.Owned.{whole, whole_of}
use Rattle.nd_message.specs.Spelling.{written_message}
use Rattle.nd_message.proofs.Written.{message_good, message_spelled, message_short}
use Rattle.nd_message.proofs.encoding.encode.Goals as goal

pub returns-clause-exact : goal.returns-clause-exact
returns-clause-exact g c =
    let s = c.args.source in
    let d = c.args.destination in
    let body = c.args.message.now.body in
    c.put_message.ensures.0
    ∙ ap (λ (bytes : List ℕ). bytes ++ written_message s d (whole_of body c.deref-2.result.now)) c.in_ok-out.ensures.items
    ∙ ap (λ options. written_message s d (whole_of body options)) c.deref-2.ensures.value

pub returns-clause-spelled : goal.returns-clause-spelled
returns-clause-spelled g c =
    let m = whole c.args.message.now in
    subst (λ (bytes : List ℕ). Spells bytes m) (sym (returns-clause-exact g c)) (message_spelled c.args.source c.args.destination m c.requires)

pub returns-clause-good : goal.returns-clause-good
returns-clause-good g c =
    let s = c.args.source in
    let d = c.args.destination in
    subst (λ (bytes : List ℕ). IsGoodSum s.0 d.0 bytes) (sym (returns-clause-exact g c)) (message_good s d (whole c.args.message.now) (omega arith) (omega arith))

pub returns-clause-short : goal.returns-clause-short
returns-clause-short g c = omega (arith, ap length (returns-clause-exact g c), message_short c.args.source c.args.destination (whole c.args.message.now) c.requires)

pub returns-clause-known : goal.returns-clause-known
returns-clause-known g c = spelled_known c.put_message.new.out.items (whole c.args.message.now) (returns-clause-spelled g c)

pub returns-clause-read : goal.returns-clause-read
returns-clause-read g c = decode_spelled c.put_message.new.out.items (whole c.args.message.now) (returns-clause-spelled g c)

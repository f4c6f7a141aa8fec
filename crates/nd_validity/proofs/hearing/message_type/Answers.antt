use Rattle.std.proofs.Common.{◌∙◌, sym}
use Rattle.std.proofs.lemmas.Bool.{eqb-false}
use Rattle.nd_validity.proofs.Frames.{typed}
use Rattle.nd_validity.proofs.hearing.message_type.Goals as goal

pub returns : goal.returns
returns c = typed c.args.packet.now.header c.args.packet.now.payload.now c.of.result c.if-packet-ne-NEXT_HEADER_ICMPV6.false (eqb-false _ _ (sym c.is_empty.ensures ∙ c.if-is_empty.false)) c.of.ensures

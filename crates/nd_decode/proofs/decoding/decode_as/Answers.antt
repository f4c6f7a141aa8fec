use Rattle.std.proofs.Common.{◌≡◌, slice_index, sym, ap, ◌∙◌, arith}
use Rattle.nd_decode.specs.Message.{HasFields, least_length}
use Rattle.nd_decode.proofs.Types.{body_is}
use Rattle.nd_decode.proofs.Deciding.{code_is_zero, behind_is, decode_fault, decode_whole}
use Rattle.nd_decode.proofs.decoding.decode_as.Goals as goal
use Rattle.nd_decode.proofs.decoding.decode_as.Goals.{else-bytes-gt1-via-then-bytes-gt1+else-bytes-ne0, else-bytes-gt1-via-else-bytes-gt1}

pub returns-in-Some : goal.returns-in-Some
returns-in-Some c =
    let code : slice_index c.args.bytes.now 1 ≡ 0 = elim c.else-bytes-gt1.branch [
      | else-bytes-gt1-via-then-bytes-gt1+else-bytes-ne0 w ↦ w.if-bytes-ne0.false
      | else-bytes-gt1-via-else-bytes-gt1 w ↦ code_is_zero c.args.bytes.now w.if-bytes-gt1.false
    ] in
    let least : c.least_length-least.result ≡ least_length (slice_index c.args.bytes.now 0) = c.least_length-least.ensures ∙ ap least_length (sym c.requires.kind_is) in
    let fields : HasFields c.args.bytes.now = record { code = code; long = omega (arith, c.if-bytes-least.false, least) } in
    decode_fault c.args.bytes.now _ c.fault_in.result c.in-Some.why fields (behind_is c.args.bytes.now c.least_length-least.result least) c.fault_in.ensures c.in-Some.is

pub returns : goal.returns
returns c =
    let code : slice_index c.args.bytes.now 1 ≡ 0 = elim c.else-bytes-gt1.branch [
      | else-bytes-gt1-via-then-bytes-gt1+else-bytes-ne0 w ↦ w.if-bytes-ne0.false
      | else-bytes-gt1-via-else-bytes-gt1 w ↦ code_is_zero c.args.bytes.now w.if-bytes-gt1.false
    ] in
    let least : c.least_length-least.result ≡ least_length (slice_index c.args.bytes.now 0) = c.least_length-least.ensures ∙ ap least_length (sym c.requires.kind_is) in
    let fields : HasFields c.args.bytes.now = record { code = code; long = omega (arith, c.if-bytes-least.false, least) } in
    decode_whole c.args.bytes.now _ c.fault_in.result _ fields (behind_is c.args.bytes.now c.least_length-least.result least) c.fault_in.ensures c.in_default.is (c.read.ensures ∙ body_is c.args.kind c.args.bytes.now c.requires.kind_is) c.new.ensures

use Rattle.std.specs.Prelude.{string_bytes}
use Rattle.nd_text.proofs.HexTexts.{piece_written}
use Rattle.nd_text.proofs.digits.write_hex.Goals as goal

pub loop-rest-preserved : goal.loop-rest-preserved
loop-rest-preserved g c =
    piece_written (string_bytes c.loop-rest.text) (string_bytes c.push_piece.new.text) c.loop-rest.rest.now c.split_at.result.0.now c.split_at.result.1.now _ c.in_ok-push_piece.ensures c.split_at.ensures.by_index.0 c.loop-rest.invariant

use Rattle.std.proofs.Common.{◌∙◌}
use Rattle.hex.specs.Hex.{lower_digits}
use Rattle.hex.proofs.HexLemmas.{IsAscii-encode_with}
use Rattle.nd_text.proofs.HexTexts.{encoded_is_text, digits_are_ascii}
use Rattle.nd_text.proofs.digits.push_piece.Goals as goal

pub push_ascii-requires : goal.push_ascii-requires
push_ascii-requires g c = rw c.in-Ok.ensures.written (IsAscii-encode_with lower_digits c.args.piece.now digits_are_ascii)

pub returns : goal.returns
returns g c = rw (c.in-Ok.ensures.written ∙ encoded_is_text c.args.piece.now (λ k. (c.type_inv.piece k).fits)) at c.push_ascii.ensures

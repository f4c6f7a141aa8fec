use Rattle.std.proofs.Common.{sym}
use Rattle.nd_decode.specs.Pieces.{options_left}
use Rattle.nd_slaac.proofs.Counting.{fits_bytes}
use Rattle.nd_slaac.proofs.room.fits.Goals as goal

pub returns-then-entries-byte_len : goal.returns-then-entries-byte_len
returns-then-entries-byte_len c =
    sym (fits_bytes c.args.limit c.args.mac c.args.entries.now (options_left c.args.options) c.byte_len.result c.byte_len.ensures.enough c.if-entries-byte_len.true)

use Rattle.std.proofs.Common.{sym, arith}
use Rattle.nd_addr.specs.Same.{same_prefix, prefixes_tell}
use Rattle.nd_decode.specs.Pieces.{options_left}
use Rattle.nd_table.proofs.Behind.{fits_beside}
use Rattle.nd_routers.specs.OnLinkPrefixes.{prefixes_in}
use Rattle.nd_routers.proofs.Told.{told_few}
use Rattle.nd_routers.proofs.on_link_prefixes.fits.Goals as goal

pub returns-then-entries-byte_len : goal.returns-then-entries-byte_len
returns-then-entries-byte_len c =
    let few = told_few c.args.options in
    sym (fits_beside same_prefix prefixes_tell c.args.limit c.args.now (prefixes_in (options_left c.args.options)) c.args.entries.now (omega (arith, few, c.byte_len.ensures.value, c.if-entries-byte_len.true)))

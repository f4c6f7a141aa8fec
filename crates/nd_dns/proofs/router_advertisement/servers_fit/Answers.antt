use Rattle.std.proofs.Common.{sym, arith}
use Rattle.nd_addr.specs.Same.{same_addr, addrs_tell}
use Rattle.nd_decode.specs.Pieces.{options_left}
use Rattle.nd_table.proofs.Behind.{fits_beside}
use Rattle.nd_dns.specs.AnnouncedServers.{servers_told}
use Rattle.nd_dns.proofs.Few.{few_servers}
use Rattle.nd_dns.proofs.router_advertisement.servers_fit.Goals as goal

pub returns-then-entries-byte_len : goal.returns-then-entries-byte_len
returns-then-entries-byte_len c =
    let few = few_servers c.args.options in
    sym (fits_beside same_addr addrs_tell c.args.limit c.args.now (servers_told (options_left c.args.options)) c.args.entries.now (omega (arith, few, c.byte_len.ensures.value, c.if-entries-byte_len.true)))

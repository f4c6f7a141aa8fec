use Rattle.std.proofs.Common.{sym, arith}
use Rattle.nd_message.specs.Rdnss.{FitsRdnss}
use Rattle.nd_message.proofs.DnsServers.{length-rdnss}
use Rattle.nd_message.proofs.rdnss.rdnss_length.Goals as goal

pub returns : goal.returns
returns c =
    let f : FitsRdnss c.args.lifetime c.args.servers.now = record {
      lifetime_is = c.ranges.lifetime.fits;
      some = omega arith;
      most = omega arith;
      each = c.are_servers.ensures.0 c.if-not-are_servers.false;
    } in
    (f, sym (length-rdnss c.args.lifetime c.args.servers.now f))

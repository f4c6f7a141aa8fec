use Rattle.std.proofs.Common.{ap, ◌∙◌}
use Rattle.std.specs.List.{flat_map}
use Rattle.byteorder.specs.Endian.{big_bytes}
use Rattle.nd_addr.specs.Text.{groups_of}
use Rattle.nd_addr.proofs.GroupBytes.{groups_back}
use Rattle.nd_addr.proofs.parse.address_of.Goals as goal

pub returns : goal.returns
returns c =
    ap groups_of (c.write_u16_into.ensures ∙ ap (flat_map (big_bytes 2)) c.known_groups.ensures.value) ∙ groups_back c.args.groups c.known_groups.ensures.len c.known_groups.ensures.small

use Rattle.std.proofs.Common.{arith}
use Rattle.nd_text.proofs.LongestRun.{shown_is, found_within, is_text}
use Rattle.nd_text.proofs.RoundTrip.{text_spells}
use Rattle.nd_text.proofs.text.write_groups.Goals as goal

pub push_shown-requires : goal.push_shown-requires
push_shown-requires g c =
    omega (arith, c.known_groups-groups.ensures.len, found_within c.args.groups.now _ _ c.find_longest-run.ensures.start c.find_longest-run.ensures.len)

pub returns-clause-written : goal.returns-clause-written
returns-clause-written g c =
    rw (shown_is c.args.groups.now _ _ c.find_longest-run.ensures.start c.find_longest-run.ensures.len) at c.push_shown.ensures

pub returns-clause-rules : goal.returns-clause-rules
returns-clause-rules g c = is_text c.args.groups.now

pub returns-clause-spelled : goal.returns-clause-spelled
returns-clause-spelled g c = text_spells c.args.groups.now c.known_groups-groups.ensures.len c.known_groups-groups.ensures.small

use Rattle.std.proofs.Common.{refl}
use Rattle.nd_link_log.proofs.Bound.{carried_once, held, sound_once, the_key, timely_once}
use Rattle.nd_link_log.proofs.laws.premises_are_met.Goals as goal

pub returns : goal.returns
returns c = λ start first mac. (held start first mac, the_key, refl, sound_once start first mac, timely_once start first mac, carried_once start first mac, refl)

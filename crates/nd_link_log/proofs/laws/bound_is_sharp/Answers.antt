use Rattle.std.proofs.Common.{refl}
use Rattle.nd_link_log.proofs.Bound.{arrive_twice, held_twice, sound_twice, the_key, wait_twice}
use Rattle.nd_link_log.proofs.laws.bound_is_sharp.Goals as goal

pub returns : goal.returns
returns c = λ start first mac. (held_twice start first mac, the_key, sound_twice start first mac, arrive_twice start first mac, wait_twice start first mac, refl, refl)

use Rattle.std.proofs.Common.{arith, refl}
use Rattle.nd_link_log.proofs.Bound.{the_key}
use Rattle.nd_link_log.proofs.Losses.{heard_once, held_unheard, sound_unheard, unheard, wait_unheard}
use Rattle.nd_link_log.proofs.laws.some_solicitation_has_to_arrive.Goals as goal

pub returns : goal.returns
returns c = λ start first mac. (
  held_unheard start first mac,
  the_key,
  refl,
  refl,
  sound_unheard start first mac,
  λ node at key delay retrans lifetimes before p. let le = wait_unheard start first mac node at key delay retrans lifetimes before p in omega (arith, le),
  unheard start first mac,
  heard_once start first mac,
  refl,
  refl,
)

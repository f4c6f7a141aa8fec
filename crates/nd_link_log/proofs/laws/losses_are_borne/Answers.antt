use Rattle.std.proofs.Common.{refl}
use Rattle.nd_link_log.proofs.Bound.{the_key}
use Rattle.nd_link_log.proofs.Losses.{held_with_losses, loses_little, others_lost, second_carried, sound_with_losses}
use Rattle.nd_link_log.proofs.laws.losses_are_borne.Goals as goal

pub returns : goal.returns
returns c = λ start first mac. (
  held_with_losses start first mac,
  the_key,
  refl,
  refl,
  sound_with_losses start first mac,
  loses_little start first mac,
  others_lost start first mac,
  second_carried start first mac,
  refl,
)

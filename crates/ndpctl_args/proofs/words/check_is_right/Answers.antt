use Rattle.std.proofs.Common.{refl}
use Rattle.clap.specs.Faults.{walk_fault, defaults_fault}
use Rattle.clap.specs.Walk.{walked}
use Rattle.ndpctl_args.proofs.words.check_is_right.Goals as goal

pub returns : goal.returns
unfolding walk_fault walked defaults_fault
returns c = λ roles path. refl

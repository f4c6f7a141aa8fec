use Rattle.nd_link_log.proofs.Sound.{stands}
use Rattle.nd_link_log.proofs.laws.nodes_have_histories.Goals as goal

pub returns : goal.returns
returns c = λ limits events log node start runs there.
    let lives = (stands limits events log runs).lives node start there in (lives.events, lives.runs, λ bytes sends. lives.bytes (bytes, sends))

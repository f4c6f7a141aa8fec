-- A delivery is determined by its words.
use Rattle.std.proofs.Common.{◌≡◌, ◌^◌, ℕ, List, arith}
use Rattle.ndpctl_run.proofs.NumberWords.{one_number}
use Rattle.ndpctl_run.proofs.Partings.{parts_at}
use Rattle.ndpctl_link.specs.Delivery.{IsDelivery}

pub one_delivery : (words : List ℕ) (node node' frame frame' : ℕ) → IsDelivery words node frame → IsDelivery words node' frame' → (node ≡ node') × (frame ≡ frame')
one_delivery words node node' frame frame' p q =
    let theirs = parts_at words p.word p.rest _ _ p.parted q in
    (one_number (2 ^ 64) (omega arith) p.word node node' p.first theirs.0, one_number (2 ^ 64) (omega arith) p.rest frame frame' p.behind theirs.1)

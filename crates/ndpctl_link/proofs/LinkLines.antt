-- A line of a link is determined by its moment and its command.
use Rattle.std.proofs.Common.{◌≡◌, ◌^◌, ℕ, List, arith}
use Rattle.nd_link_log.specs.Event.{Event}
use Rattle.ndpctl_run.proofs.NumberWords.{one_number}
use Rattle.ndpctl_run.proofs.Partings.{parts_at}
use Rattle.ndpctl_link.specs.Line.{IsLinkLine}
use Rattle.ndpctl_link.proofs.LinkCommandWords.{one_link_command}

pub one_link_line : (bytes : List ℕ) (at at' : ℕ) (event event' : Event) → IsLinkLine bytes at event → IsLinkLine bytes at' event' → (at ≡ at') × (event ≡ event')
one_link_line bytes at at' event event' l m =
    let theirs = parts_at bytes l.word l.rest _ _ l.parted m in
    (one_number (2 ^ 62) (omega arith) l.word at at' l.first theirs.0, one_link_command l.rest event event' l.behind theirs.1)

-- What a contract sees of the answers.
use Rattle.nd_addr.specs.Number.{number_of}
use Rattle.nd_slaac.specs.declared.due.Due.{Due}
use Rattle.nd_slaac.specs.declared.due.Due.TheVariants.{End, Solicit, Assign}
use Rattle.nd_slaac.specs.declared.shown.ShownAddress.{ShownAddress}
use Rattle.nd_slaac.specs.Due.{Falls, Ends, Solicits, Assigns}
use Rattle.nd_slaac.specs.Shown.{Seen}

abbrev pub falls_of : Due → Falls
falls_of (End addr) = Ends (number_of addr.0)
falls_of (Solicit addr) = Solicits (number_of addr.0)
falls_of (Assign addr) = Assigns (number_of addr.0)

abbrev pub seen_in : ShownAddress → Seen
seen_in a = record { key = number_of a.addr.0; state = a.state; preferred_left = a.preferred_left; valid_left = a.valid_left; by_hand = a.by_hand }

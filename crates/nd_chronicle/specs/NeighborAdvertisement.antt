-- What a Neighbor Advertisement adds (RFC 4861, section 7.2.5; RFC 4862, section 5.4.4).
use Rattle.std.specs.Prelude.{ℕ, Bool, true, false, ◌&&◌, ◌||◌, ◌∷◌, Option, Some, None}
use Rattle.nd_addr.specs.declared.addr.Addr.{Addr}
use Rattle.nd_addr.specs.Number.{number_of}
use Rattle.nd_decode.specs.Message.{Parts}
use Rattle.nd_table.specs.Announcements.{stands}
use Rattle.nd_neighbour.specs.History.{RowKind, story}
use Rattle.nd_neighbour.specs.News.{ends_router}
use Rattle.nd_routers.specs.History.{announcements}
use Rattle.nd_routers.specs.Routers.{same}
use Rattle.nd_slaac.specs.History as addresses
use Rattle.nd_chronicle.specs.Start.{Start, is_host}
use Rattle.nd_chronicle.specs.Happening.{Chronicle, Heard, Address}
use Rattle.nd_chronicle.specs.Histories.{neighbour_history, router_history}
use Rattle.nd_chronicle.specs.OwnAddress.{is_tentative}
use Rattle.nd_chronicle.specs.Message.{said, releasing, leaving}

-- "If the target address is tentative, the tentative address is not unique." (RFC 4862, section 5.4.4)
abbrev pub conflicting : ℕ → Bool → ℕ → Chronicle → Chronicle
conflicting at true key c = (at, Address key addresses.Conflict) ∷ c
conflicting at false key c = c

-- with the policy `strict` at a host a router ends that is in no list, so that redirects to it end (RFC 4861, section 7.3.3)
abbrev pub ends_unlisted : Start → Bool
ends_unlisted start = start.policies.strict && is_host start.role

-- "In those cases where the IsRouter flag changes from TRUE to FALSE as a result of this update, the node MUST remove that router from the
-- Default Router List" (RFC 4861, section 7.2.5): where it stands there
abbrev pub ends_in_list : Start → ℕ → Chronicle → Option (ℕ × RowKind) → Bool
ends_in_list start at c None = false
ends_in_list start at c (Some news) =
    ends_router at news.1 (story news.0 (neighbour_history c)) && (ends_unlisted start || stands same news.0 (announcements (router_history c)) at)

abbrev pub then_neighbor_advertised : Start → ℕ → Addr → Addr → Addr → Parts → Chronicle → Chronicle
then_neighbor_advertised start at source destination target message c =
    leaving at (ends_in_list start at c (said c source message)) (number_of target.0)
    (releasing at (said c source message) (neighbour_history c)
    (conflicting at (is_tentative c target.0) (number_of target.0)
    ((at, Heard source destination message) ∷ c)))

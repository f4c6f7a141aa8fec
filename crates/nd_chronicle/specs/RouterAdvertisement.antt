-- What a Router Advertisement adds, in the order in which it is taken (RFC 4861, section 6.3.4; RFC 4862, section 5.5.3): the parameters,
-- what it says of its sender, the list of routers, and its prefix options, each for the link and then for the addresses.
use Rattle.std.specs.Prelude.{ℕ, Bool, true, false, ◌&&◌, ◌==◌, if◌then◌else◌, List, [], ◌∷◌, Option, Some}
use Rattle.nd_addr.specs.declared.addr.Addr.{Addr}
use Rattle.nd_addr.specs.Kind.{multicast_prefix}
use Rattle.nd_addr.specs.Number.{number_of, holds}
use Rattle.nd_decode.specs.Message.{Parts}
use Rattle.nd_decode.specs.declared.prefix_info.PrefixInfo.{PrefixInfo}
use Rattle.nd_decode.specs.declared.router_advertisement.RouterAdvertisement.{RouterAdvertisement}
use Rattle.nd_table.specs.Announcements.{stands}
use Rattle.nd_params.specs.Params.{redraws}
use Rattle.nd_routers.specs.History.{announcements}
use Rattle.nd_routers.specs.Routers.{same}
use Rattle.nd_neighbour.specs.History as neighbours
use Rattle.nd_slaac.specs.History as addresses
use Rattle.nd_slaac.specs.History.{Lifetimes}
use Rattle.nd_slaac.specs.PrefixOption.{is_taken, named_by, lifetimes_of, prefixes_in}
use Rattle.nd_slaac.specs.State.{is_by_hand, is_known}
use Rattle.nd_chronicle.specs.Start.{Start}
use Rattle.nd_chronicle.specs.Happening.{Chronicle, Drew, ForReachableTime, ForDelay, Address, Heard, Unlisted}
use Rattle.nd_chronicle.specs.Histories.{neighbour_history, router_history}
use Rattle.nd_chronicle.specs.InForce.{base_reachable_time, retrans_timer}
use Rattle.nd_chronicle.specs.Generator.{stream_left, reachable_drawn, delay_drawn}
use Rattle.nd_chronicle.specs.OwnAddress.{story_of}
use Rattle.nd_chronicle.specs.Message.{said, failing_for, releasing, leaving}

module _ (start : Start) (at : ℕ) where
  -- "A new random value should be calculated when BaseReachableTime changes" (section 6.3.2)
  abbrev pub redrawing : ℕ → Bool → Chronicle → Chronicle
  redrawing base true c = (at, Drew ForReachableTime (reachable_drawn base (stream_left start c))) ∷ c
  redrawing base false c = c

  -- the first solicitation for an address is delayed where the advertisement went to all (RFC 4862, section 5.4.2)
  abbrev pub delay_for : Bool → Chronicle → ℕ
  delay_for true c = delay_drawn (stream_left start c)
  delay_for false c = 0

  abbrev pub with_delay : Bool → Chronicle → Chronicle
  with_delay true c = (at, Drew ForDelay (delay_drawn (stream_left start c))) ∷ c
  with_delay false c = c

  -- an address is formed, with the RetransTimer in force
  abbrev pub forming : Bool → ℕ → Lifetimes → Chronicle → Chronicle
  forming to_all key lifetimes c =
      (at, Address key (addresses.Formed (delay_for to_all c) (retrans_timer c) (Some lifetimes))) ∷ with_delay to_all c

  -- A prefix option that is taken renews the address that it names, or forms it unless its valid lifetime is 0. It passes over one that was given
  -- by hand: an advertisement renews addresses "configured by stateless autoconfiguration" (RFC 4862, section 5.5.3 e).
  abbrev pub naming : Bool → Bool → Bool → PrefixInfo → Chronicle → Chronicle
  naming to_all true known info c = c
  naming to_all false true info c = (at, Address (named_by start.mac info) (addresses.Announced (lifetimes_of info))) ∷ c
  naming to_all false false info c = if info.valid_lifetime == 0 then c else forming to_all (named_by start.mac info) (lifetimes_of info) c

  abbrev pub then_option : Bool → PrefixInfo → Chronicle → Chronicle
  then_option to_all info c =
      if is_taken info then naming to_all (is_by_hand (story_of c (named_by start.mac info))) (is_known (story_of c (named_by start.mac info))) info c else c

  -- the options in their order
  abbrev pub then_options : Bool → List PrefixInfo → Chronicle → Chronicle
  then_options to_all [] c = c
  then_options to_all (info ∷ infos) c = then_options to_all infos (then_option to_all info c)

  -- where "the received Router Lifetime value is zero, immediately time-out the entry" (section 6.3.4): a router that is in the list
  abbrev pub times_out : Chronicle → Addr → RouterAdvertisement → Bool
  times_out c source ra = (ra.router_lifetime == 0) && stands same (number_of source.0) (announcements (router_history c)) at

  -- it is heard, and a router for which there is no room in the list is not in it
  abbrev pub heard_from : Addr → Addr → Parts → Bool → Chronicle → Chronicle
  heard_from source destination message true c = (at, Heard source destination message) ∷ c
  heard_from source destination message false c = (at, Unlisted (number_of source.0)) ∷ (at, Heard source destination message) ∷ c

  -- one that gave way to its sender fails, with what waited for it by this history
  abbrev pub then_advertised : Addr → Addr → RouterAdvertisement → Parts → Bool → Option ℕ → List neighbours.Row → Chronicle → Chronicle
  then_advertised source destination ra message listed gone before c =
      then_options (holds multicast_prefix destination.0) (prefixes_in message.options)
      (leaving at (times_out c source ra) (number_of source.0)
      (releasing at (said c source message) (neighbour_history c)
      (failing_for at gone before
      (redrawing ra.reachable_time (redraws (base_reachable_time c) ra.reachable_time)
      (heard_from source destination message listed c)))))

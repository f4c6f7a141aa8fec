-- A log of a run that meets the premises of the laws of one holder (RFC 4862, section 5.4).
use Rattle.std.specs.Prelude.{◌≡◌, ℕ, ◌<◌, List}
use Rattle.nd_chronicle.specs.Start.{Limits}
use Rattle.nd_link_log.specs.Attempt.{Tries}
use Rattle.nd_link_log.specs.Bytes.{AreOfBytes, SendsBytes}
use Rattle.nd_link_log.specs.Event.{Event}
use Rattle.nd_link_log.specs.History.{IsLog}
use Rattle.nd_link_log.specs.Holding.{Arrives, Holds, IsTimely}
use Rattle.nd_link_log.specs.Log.{Log, IsFrame, nodes}
use Rattle.nd_link_log.specs.Losing.{LosesLittle}

-- The log of these events is timely, and loses little, for any time below 500 milliseconds. Two nodes are there, and one of them holds an address.
-- The other one tries that address, and its frame reached the holder in the millisecond in which it was sent.
pub record MeetsPremises (limits : Limits) (events : List (ℕ × Event)) (log : Log) : Type 0 where
  pub bytes : AreOfBytes events
  pub sends : SendsBytes log
  pub runs : IsLog limits events log
  pub timely : (within : ℕ) → within < 500 → IsTimely within log
  pub little : (within : ℕ) → within < 500 → LosesLittle within log
  pub two : nodes log ≡ 2
  pub key : ℕ
  pub holds : Holds 0 key log
  pub number : ℕ
  pub at : ℕ
  pub frame : List ℕ
  pub sent : IsFrame log number 1 at frame
  pub tries : Tries key frame
  pub arrives : Arrives log 0 number at 0

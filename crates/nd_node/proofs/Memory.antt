-- What asks for no memory.
use Rattle.std.proofs.Common.{◌≡◌, ℕ, List, Option, Some, None, true, sym, ◌∙◌, ap, subst}
use Rattle.std.specs.Option.{option_map}
use Rattle.nd_addr.specs.declared.addr.Addr.{Addr}
use Rattle.nd_addr.specs.declared.mac.Mac.{Mac}
use Rattle.nd_addr.specs.Number.{number_of}
use Rattle.nd_decode.specs.Message.{Parts}
use Rattle.nd_decode.specs.declared.body.Body.TheVariants as bodies
use Rattle.nd_decode.specs.declared.router_advertisement.RouterAdvertisement.{RouterAdvertisement}
use Rattle.nd_validity.specs.Hearing.{Outcome, Hears, valid, other}
use Rattle.nd_neighbour.specs.declared.news.News.{News}
use Rattle.nd_neighbour.specs.declared.news.Times.{Times}
use Rattle.nd_neighbour.specs.EntryKept as neighbour_entries
use Rattle.nd_neighbour.specs.History as rows
use Rattle.nd_neighbour.specs.News.{news_key}
use Rattle.nd_neighbour.specs.NewsKept.{told_at}
use Rattle.nd_neighbour.specs.TableKept.{entry_in}
use Rattle.nd_addr.specs.declared.role.Role.{Role}
use Rattle.nd_addr.specs.declared.why.Why.{Why}
use Rattle.nd_addr.specs.Ip6.{PacketParts}
use Rattle.nd_chronicle.specs.Start.{Policies, Start}
use Rattle.nd_decode.specs.Reading.{options_read}
use Rattle.nd_chronicle.specs.Reading.{IsRead, read_outcome, reading_of}
use Rattle.nd_chronicle.specs.Solicited.{outcome_at}
use Rattle.nd_chronicle.specs.Happening.{Chronicle}
use Rattle.nd_chronicle.specs.Hearing.{IsForUs, IsInTransit, IsPacketForUs, IsHeard, Judges, IsStrange, IsMisdirected, IsStrangePacket, NotFromFirstHop, Verdict, drops}
use Rattle.nd_chronicle.specs.Histories.{given_or_marked}
use Rattle.nd_steps.specs.NeighbourCache.{said_by, told_for}
use Rattle.nd_node.specs.declared.node.Node.{Node}
use Rattle.nd_node.specs.Memory.{IsNameless, AddsNoName}

-- ---- what an advertisement may tell of its sender

of_sender : (times : Times) (key : ℕ) (mac : Option Mac) (n : News) → Some (said_by times n) ≡ given_or_marked key mac (Some true) → news_key n ≡ key
of_sender times key (Some mac) n e =
    let pair : said_by times n ≡ (key, rows.Given (number_of mac.0) (Some true)) = cc in
    ap (λ (p : ℕ × rows.RowKind). p.0) pair
of_sender times key None n e =
    let pair : said_by times n ≡ (key, rows.Marked true) = cc in
    ap (λ (p : ℕ × rows.RowKind). p.0) pair

pub told_of_sender : (times : Times) (key : ℕ) (mac : Option Mac) (news : Option News) (entries : List neighbour_entries.NeighbourEntry) → option_map (said_by times) news ≡ given_or_marked key mac (Some true)
    → told_for news entries ≡ told_at (entry_in key entries)
told_of_sender times key (Some mac) None entries e = let no : ⊥ = cc in absurd no
told_of_sender times key None None entries e = let no : ⊥ = cc in absurd no
told_of_sender times key mac (Some n) entries e = ap (λ (k : ℕ). told_at (entry_in k entries)) (of_sender times key mac n e)

-- ---- what is dropped

-- a message that is for this node is dropped only as a Redirect from another node than the first hop
pub misdirected : (start : Start) (c : Chronicle) (now : ℕ) {frame : List ℕ} (source destination : Addr) (message : Parts) (why : Why) → IsForUs start c source destination message
    → Judges start c now frame (valid source destination message) (drops why) → NotFromFirstHop start c now source message.body
misdirected start c now source destination message why u (IsStrange n) = absurd (n u)
misdirected start c now source destination message why u (IsMisdirected u' n) = n

-- a packet that is for this node isn't
pub packet_stays : (start : Start) (c : Chronicle) (now : ℕ) {frame : List ℕ} (packet : PacketParts) (why : Why) → IsPacketForUs start c packet → Judges start c now frame (other packet) (drops why) → ⊥
packet_stays start c now packet why u (IsStrangePacket n no_transit) = n u

-- nor is one that is in transit
pub passing_stays : (start : Start) (c : Chronicle) (now : ℕ) {frame : List ℕ} (packet : PacketParts) (why : Why) → IsInTransit start c frame packet → Judges start c now frame (other packet) (drops why) → ⊥
passing_stays start c now packet why u (IsStrangePacket n no_transit) = no_transit u

-- what is read in a frame that says one thing
one_reading : (start : Start) (frame : List ℕ) (role : Role) (policies : Policies) (mac : Mac) (said outcome : Outcome) → role ≡ start.role → policies ≡ start.policies → mac ≡ start.mac → ((o : Outcome) → Hears frame role o → said ≡ o)
    → IsRead start.policies start.mac frame start.role outcome → read_outcome policies mac said ≡ outcome
one_reading start frame role policies mac said outcome same asked own only h =
    ap (λ (o : Outcome). read_outcome policies mac o) (only h.said (subst (λ (r : Role). Hears frame r h.said) (sym same) h.by_frame))
    ∙ ap (λ (p : Policies). read_outcome p mac h.said) asked ∙ ap (λ (m : Mac). read_outcome start.policies m h.said) own ∙ sym h.as_read

-- the node judges what it reads in the frame
pub judged_by_frame : (start : Start) (c : Chronicle) (now : ℕ) (frame : List ℕ) (role : Role) (policies : Policies) (mac : Mac) (said : Outcome) (verdict : Verdict) → role ≡ start.role → policies ≡ start.policies → mac ≡ start.mac
    → ((o : Outcome) → Hears frame role o → said ≡ o) → IsHeard start c now frame verdict → Judges start c now frame (outcome_at start c now (read_outcome policies mac said)) verdict
judged_by_frame start c now frame role policies mac said verdict same asked own only h =
    let read = h.by_frame in
    let is = ap (outcome_at start c now) (one_reading start frame role policies mac said read.read same asked own only read.by_frame) ∙ sym read.at_moment in
    subst (λ (o : Outcome). Judges start c now frame o verdict) (sym is) h.by_node

-- ---- a frame says one thing

module _ {R A : Type 0} (node : Node R A) (now : ℕ) (frame : List ℕ) (places : ℕ) where
  pub no_other : (packet : PacketParts) → ((o : Outcome) → Hears frame node.role o → other packet ≡ o) → IsNameless node now frame places → ⊥
  no_other packet only n =
      let said : Parts = record { body = bodies.Ra n.ra; options = n.options } in
      let e : other packet ≡ valid n.source n.destination said = only (valid n.source n.destination said) n.hears in
      let no : ⊥ = cc in
      no

  module _ (source destination : Addr) (message : Parts) (only : (o : Outcome) → Hears frame node.role o → valid source destination message ≡ o) where
    pub record IsSuch : Type 0 where
      pub ra : RouterAdvertisement
      pub body : message.body ≡ bodies.Ra ra
      pub adds : AddsNoName node now source (options_read (reading_of node.policies) message.options) places

    pub nameless : IsNameless node now frame places → IsSuch
    nameless n =
        let said : Parts = record { body = bodies.Ra n.ra; options = n.options } in
        let e : valid source destination message ≡ valid n.source n.destination said = only (valid n.source n.destination said) n.hears in
        let source_is : source ≡ n.source = cc in
        let message_is : message ≡ said = cc in
        record {
          ra = n.ra;
          body = ap (λ (m : Parts). m.body) message_is;
          adds = subst (λ (m : Parts). AddsNoName node now source (options_read (reading_of node.policies) m.options) places) (sym message_is) (subst (λ (s : Addr). AddsNoName node now s (options_read (reading_of node.policies) n.options) places) (sym source_is) n.adds);
        }

-- A packet of the upper layer is determined by its words.
use Rattle.std.proofs.Common.{◌≡◌, ◌∙◌, ℕ, List, sym, subst, arith}
use Rattle.std.proofs.lemmas.Fmt.{decimal_injective}
use Rattle.nd_addr.specs.declared.addr.Addr.{Addr}
use Rattle.ndpctl_run.specs.Address.{IsAddressWord}
use Rattle.ndpctl_run.specs.Packet.{IsHeader, IsNextHeaderWord, IsPacket}
use Rattle.ndpctl_run.specs.Words.{Parts}
use Rattle.ndpctl_run.proofs.AddressWords.{one_address}
use Rattle.ndpctl_run.proofs.BytesWords.{one_bytes}
use Rattle.ndpctl_run.proofs.Partings.{one_parting, in_front, with_rest}

pub one_next_header : (word : List ℕ) (n m : ℕ) → IsNextHeaderWord word n → IsNextHeaderWord word m → n ≡ m
one_next_header word n m p q = decimal_injective n m (omega (arith, p.0)) (omega (arith, q.0)) (sym p.1 ∙ q.1)

-- ---- a header, part by part

module _ (text : List ℕ) (source destination : Addr) (next_header : ℕ) where
  pub header_of : (behind last rest : List ℕ) → Parts text (λ word. IsAddressWord word source) (λ r. r ≡ behind) → Parts behind (λ word. IsAddressWord word destination) (λ r. r ≡ last)
      → Parts last (λ word. IsNextHeaderWord word next_header) (λ r. r ≡ rest) → IsHeader text source destination next_header (λ r. r ≡ rest)
  header_of behind last rest p q r =
      with_rest text behind _ (λ b. Parts b (λ word. IsAddressWord word destination) (λ l. Parts l (λ word. IsNextHeaderWord word next_header) (λ x. x ≡ rest))) p
      (with_rest behind last _ (λ l. Parts l (λ word. IsNextHeaderWord word next_header) (λ x. x ≡ rest)) q r)

  -- what stands behind the header
  pub header_with : (rest : List ℕ) (Rest : List ℕ → Type 0) → IsHeader text source destination next_header (λ r. r ≡ rest) → Rest rest → IsHeader text source destination next_header Rest
  header_with rest Rest h behind = record {
    word = h.word;
    rest = h.rest;
    parted = h.parted;
    first = h.first;
    behind = record {
      word = h.behind.word;
      rest = h.behind.rest;
      parted = h.behind.parted;
      first = h.behind.first;
      behind = with_rest h.behind.rest rest (λ word. IsNextHeaderWord word next_header) Rest h.behind.behind behind;
    };
  }

  pub header_rest : (Rest : List ℕ → Type 0) (h : IsHeader text source destination next_header Rest) → IsHeader text source destination next_header (λ r. r ≡ h.behind.behind.rest)
  header_rest Rest h = record {
    word = h.word;
    rest = h.rest;
    parted = h.parted;
    first = h.first;
    behind = record {
      word = h.behind.word;
      rest = h.behind.rest;
      parted = h.behind.parted;
      first = h.behind.first;
      behind = in_front h.behind.rest (λ word. IsNextHeaderWord word next_header) Rest h.behind.behind;
    };
  }

  module _ (Rest : List ℕ → Type 0) (h : IsHeader text source destination next_header Rest) where
    pub source_of : Parts text (λ word. IsAddressWord word source) (λ r. r ≡ h.rest)
    source_of = in_front text (λ word. IsAddressWord word source) _ h

    pub destination_of : (behind : List ℕ) → behind ≡ h.rest → Parts behind (λ word. IsAddressWord word destination) (λ r. r ≡ h.behind.rest)
    destination_of behind is =
        subst (λ (b : List ℕ). Parts b (λ word. IsAddressWord word destination) (λ r. r ≡ h.behind.rest)) (sym is) (in_front h.rest (λ word. IsAddressWord word destination) _ h.behind)

    pub next_header_of : (last : List ℕ) → last ≡ h.behind.rest → Parts last (λ word. IsNextHeaderWord word next_header) Rest
    next_header_of last is = subst (λ (l : List ℕ). Parts l (λ word. IsNextHeaderWord word next_header) Rest) (sym is) h.behind.behind

-- ---- one packet

-- what the words of a packet are determined by
pub record SamePacket (source destination : Addr) (next_header : ℕ) (payload : List ℕ) (source' destination' : Addr) (next_header' : ℕ) (payload' : List ℕ) : Type 0 where
  pub source_is : source ≡ source'
  pub destination_is : destination ≡ destination'
  pub next_header_is : next_header ≡ next_header'
  pub payload_is : payload ≡ payload'

pub one_packet : (words : List ℕ) (s d : Addr) (n : ℕ) (p : List ℕ) (s' d' : Addr) (n' : ℕ) (p' : List ℕ) → IsPacket words s d n p → IsPacket words s' d' n' p' → SamePacket s d n p s' d' n' p'
one_packet words s d n p s' d' n' p' a b =
    let first = one_parting words a.word a.rest b.word b.rest a.parted b.parted in
    let second = one_parting a.rest a.behind.word a.behind.rest b.behind.word b.behind.rest a.behind.parted (rw (first.1) b.behind.parted) in
    let third = one_parting a.behind.rest a.behind.behind.word a.behind.behind.rest b.behind.behind.word b.behind.behind.rest a.behind.behind.parted (rw (second.1) b.behind.behind.parted) in
    record {
      source_is = one_address a.word s s' a.first (rw (first.0) b.first);
      destination_is = one_address a.behind.word d d' a.behind.first (rw (second.0) b.behind.first);
      next_header_is = one_next_header a.behind.behind.word n n' a.behind.behind.first (rw (third.0) b.behind.behind.first);
      payload_is = one_bytes a.behind.behind.rest p p' a.behind.behind.behind (rw (third.1) b.behind.behind.behind);
    }

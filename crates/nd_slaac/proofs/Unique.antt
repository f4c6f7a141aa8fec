-- One table stands for the history, options fit or not, and one thing is due first.
use Rattle.std.proofs.Common.{◌≡◌, ℕ, Bool, List, Option, Some, None, refl, sym, ◌∙◌, ap, arith, inl, inr}
use Rattle.nd_table.proofs.Unique.{one_list}
use Rattle.nd_slaac.specs.History.{Row, story}
use Rattle.nd_slaac.specs.State.{sent_of}
use Rattle.nd_slaac.specs.AddressKept.{Address}
use Rattle.nd_slaac.specs.TableKept.{key_of, Stands}
use Rattle.std.specs.Prelude.{length, map, nat_lt}
use Rattle.nd_addr.specs.declared.mac.Mac.{Mac}
use Rattle.nd_decode.specs.declared.prefix_info.PrefixInfo.{PrefixInfo}
use Rattle.nd_slaac.specs.Room.{FitsBy, HasRoomBy, fits_in}
use Rattle.nd_slaac.specs.Due.{Falls, Ends, Solicits, Assigns, IsDue, NotAfter, FirstDue, key_in}

pub one_table : (history : List Row) (a b : List Address) → Stands a history → Stands b history → a ≡ b
one_table history a b s t = one_list key_of a b s.order t.order (λ key. s.each key ∙ sym (t.each key))

pub one_fit : (limit : ℕ) (mac : Mac) (history : List Row) (infos : List PrefixInfo) (a b : Bool) → FitsBy limit mac history infos a → FitsBy limit mac history infos b → a ≡ b
one_fit limit mac history infos a b x y = x.fit_is ∙ (ap (λ xs. fits_in limit mac (map key_of xs) infos) (one_table history x.known y.known x.those y.those) ∙ sym y.fit_is)

pub one_room : (limit : ℕ) (history : List Row) (a b : Bool) → HasRoomBy limit history a → HasRoomBy limit history b → a ≡ b
one_room limit history a b x y = x.room_is ∙ (ap (λ (xs : List Address). nat_lt (length xs) limit) (one_table history x.known y.known x.those y.those) ∙ sym y.room_is)

same_key : (x y : Falls) → NotAfter x y → NotAfter y x → key_in x ≡ key_in y
same_key x y (inl lt) (inl lt') = absurd (omega arith)
same_key x y (inl lt) (inr e) = let f = e.0 in absurd (omega arith)
same_key x y (inr e) (inl lt) = let f = e.0 in absurd (omega arith)
same_key x y (inr e) (inr f) = omega (arith, e.1, f.1)

-- a detection sends so many solicitations
module _ (transmits : ℕ) where
  -- of one address and pass one thing is due
  same_falls : (history : List Row) (moment : ℕ) (x y : Falls) → IsDue transmits history moment x → IsDue transmits history moment y → NotAfter x y → NotAfter y x → key_in x ≡ key_in y → x ≡ y
  same_falls history moment (Ends j) (Ends k) h i n m e = ap Ends e
  same_falls history moment (Ends j) (Solicits k) h i n (inl lt) e = absurd (omega arith)
  same_falls history moment (Ends j) (Solicits k) h i n (inr f) e = let g = f.0 in absurd (omega arith)
  same_falls history moment (Ends j) (Assigns k) h i n (inl lt) e = absurd (omega arith)
  same_falls history moment (Ends j) (Assigns k) h i n (inr f) e = let g = f.0 in absurd (omega arith)
  same_falls history moment (Solicits j) (Ends k) h i (inl lt) m e = absurd (omega arith)
  same_falls history moment (Solicits j) (Ends k) h i (inr f) m e = let g = f.0 in absurd (omega arith)
  same_falls history moment (Assigns j) (Ends k) h i (inl lt) m e = absurd (omega arith)
  same_falls history moment (Assigns j) (Ends k) h i (inr f) m e = let g = f.0 in absurd (omega arith)
  same_falls history moment (Solicits j) (Solicits k) h i n m e = ap Solicits e
  same_falls history moment (Assigns j) (Assigns k) h i n m e = ap Assigns e
  same_falls history moment (Solicits j) (Assigns k) h i n m e =
      let f : sent_of (story j history) ≡ sent_of (story k history) = ap (λ key. sent_of (story key history)) e in
      absurd (omega (arith, h.1, i.1, f))
  same_falls history moment (Assigns j) (Solicits k) h i n m e =
      let f : sent_of (story j history) ≡ sent_of (story k history) = ap (λ key. sent_of (story key history)) e in
      absurd (omega (arith, h.1, i.1, f))

  pub one_due : (history : List Row) (moment : ℕ) (a b : Option Falls) → FirstDue transmits history moment a → FirstDue transmits history moment b → a ≡ b
  one_due history moment None None h k = refl
  one_due history moment None (Some y) h k = absurd (h y k.due)
  one_due history moment (Some x) None h k = absurd (k x h.due)
  one_due history moment (Some x) (Some y) h k =
      let n = h.first y k.due in
      let m = k.first x h.due in
      ap Some (same_falls history moment x y h.due k.due n m (same_key x y n m))

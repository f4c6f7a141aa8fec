-- What a prefix option does, said of the table as contracts see it.
use Rattle.std.proofs.Common.{◌≡◌, ◌∙◌, sym, ap, subst, ℕ, ◌<◌, List, ◌∷◌, length, true, false}
use Rattle.std.specs.Prelude.{is_some, Result, IsOk, IfSome}
use Rattle.std.proofs.lemmas.Bool.{cond-true}
use Rattle.nd_addr.specs.declared.mac.Mac.{Mac}
use Rattle.nd_decode.specs.declared.prefix_info.PrefixInfo.{PrefixInfo}
use Rattle.nd_slaac.specs.declared.prefix_option.Taken.{Taken}
use Rattle.nd_slaac.specs.declared.prefix_option.Full.{Full}
use Rattle.nd_slaac.specs.AddressKept.{Address}
use Rattle.nd_slaac.specs.TableKept.{Table, address_in, Stands}
use Rattle.nd_slaac.specs.PrefixOption.{is_taken, named_by, lifetimes_of}
use Rattle.nd_slaac.specs.Room.{fits_in, would_form, with_room}
use Rattle.nd_slaac.specs.Calls.{is_by_hand_in, keys_in, taken_by, taken_of, Changes, row_taken, GainsRowIfAny}
use Rattle.nd_slaac.specs.History.{Row, story}
use Rattle.nd_slaac.specs.State.{is_by_hand, is_known}
use Rattle.nd_slaac.specs.MayCome.{MayCome}
use Rattle.nd_slaac.proofs.Stories.{hand_story, known_story}
use Rattle.nd_slaac.proofs.Counting.{gains_taken, comes_taken, fits_on, keys_on, room_on}

module _ (now : ℕ) (info : PrefixInfo) (delay retrans key : ℕ) (r : Result Taken Full) (t : Table) (limit : ℕ) (mac : Mac) (inside new : List Address) (limit_is : limit ≡ t.limit) (mac_is : mac ≡ t.mac) (same : inside ≡ t.addresses) (named : key ≡ named_by mac info) (changes : Changes now key (lifetimes_of info) delay retrans r inside new) where
  changed : Changes now (named_by t.mac info) (lifetimes_of info) delay retrans r t.addresses new
  changed =
      let named' : key ≡ named_by t.mac info = named ∙ ap (λ m. named_by m info) mac_is in
      subst (λ (k : ℕ). Changes now k (lifetimes_of info) delay retrans r t.addresses new) named'
      (subst (λ (l : List Address). Changes now key (lifetimes_of info) delay retrans r l new) same changes)

  pub gains_heard : GainsRowIfAny (row_taken now t.mac info delay retrans r) t.addresses new
  gains_heard = gains_taken now t.mac info delay retrans r t.addresses new changed

  abbrev IsValue : Type 0
  IsValue = r ≡ taken_by limit (is_by_hand_in (address_in key inside)) (is_some (address_in key inside)) info.valid_lifetime (length inside)

  valued : IsValue → r ≡ taken_by t.limit (is_by_hand_in (address_in (named_by t.mac info) t.addresses)) (is_some (address_in (named_by t.mac info) t.addresses)) info.valid_lifetime (length t.addresses)
  valued value =
      value ∙ (ap (λ n. taken_by n (is_by_hand_in (address_in key inside)) (is_some (address_in key inside)) info.valid_lifetime (length inside)) limit_is
      ∙ (ap (λ k. taken_by t.limit (is_by_hand_in (address_in k inside)) (is_some (address_in k inside)) info.valid_lifetime (length inside)) (named ∙ ap (λ m. named_by m info) mac_is)
      ∙ ap (λ (l : List Address). taken_by t.limit (is_by_hand_in (address_in (named_by t.mac info) l)) (is_some (address_in (named_by t.mac info) l)) info.valid_lifetime (length l)) same))

  by_story : IsValue → (history : List Row) → Stands t.addresses history → r ≡ taken_by t.limit (is_by_hand (story (named_by t.mac info) history)) (is_known (story (named_by t.mac info) history)) info.valid_lifetime (length t.addresses)
  by_story value history s =
      let k = named_by t.mac info in
      let known : is_some (address_in k t.addresses) ≡ is_known (story k history) = ap is_some (s.each k) ∙ known_story k (story k history) in
      let hand : is_by_hand_in (address_in k t.addresses) ≡ is_by_hand (story k history) = ap is_by_hand_in (s.each k) ∙ hand_story k (story k history) in
      valued value ∙ (ap (λ b. taken_by t.limit b (is_some (address_in k t.addresses)) info.valid_lifetime (length t.addresses)) hand
      ∙ ap (λ b. taken_by t.limit (is_by_hand (story k history)) b info.valid_lifetime (length t.addresses)) known)

  pub story_heard : is_taken info ≡ true → IsValue → (history : List Row) → Stands t.addresses history → r ≡ taken_of t.limit info (is_by_hand (story (named_by t.mac info) history)) (is_known (story (named_by t.mac info) history)) (length t.addresses)
  story_heard taken value history s = by_story value history s ∙ sym (cond-true (is_taken info) _ _ taken)

  pub comes_heard : IsValue → (history : List Row) → Stands t.addresses history → 0 < retrans → IfSome (row_taken now t.mac info delay retrans r) (λ row. MayCome t.transmits row history)
  comes_heard value history s positive = comes_taken t.limit t.transmits now t.mac info delay retrans (length t.addresses) r history (by_story value history s) positive

  pub fits_heard : is_taken info ≡ true → IsValue → (infos : List PrefixInfo) → fits_in t.limit t.mac (keys_in t.addresses) (info ∷ infos) ≡ true → IsOk r × (fits_in limit mac (keys_in new) infos ≡ true)
  fits_heard taken value infos fit =
      let both = fits_on t.limit now t.mac info delay retrans r t.addresses new infos taken (valued value) changed fit in
      (both.0, ap (λ n. fits_in n mac (keys_in new) infos) limit_is ∙ (ap (λ m. fits_in t.limit m (keys_in new) infos) mac_is ∙ both.1))

  pub room_heard : is_taken info ≡ true → IsValue → (infos : List PrefixInfo) → IsOk r → with_room t.limit t.mac (keys_in t.addresses) (info ∷ infos) ≡ info ∷ with_room limit mac (keys_in new) infos
  room_heard taken value infos ok =
      room_on t.limit now t.mac info delay retrans r t.addresses new infos taken (valued value) changed ok
      ∙ ap (λ (l : List PrefixInfo). info ∷ l) (sym (ap (λ n. with_room n mac (keys_in new) infos) limit_is ∙ ap (λ m. with_room t.limit m (keys_in new) infos) mac_is))

  pub keys_heard : is_taken info ≡ true → IsValue → would_form t.mac (keys_in t.addresses) info ≡ false → keys_in new ≡ keys_in t.addresses
  keys_heard taken value idle = keys_on t.limit now t.mac info delay retrans r t.addresses new taken (valued value) changed idle

-- What a message says of a neighbour is taken, and the packets that waited for its link-layer address are sent.
use Rattle.std.proofs.Common.{◌≡◌, ℕ, Bool, true, false, List, [], ◌∷◌, ◌++◌, map, Option, Some, None, append-nil, inl, inr, refl, sym, ◌∙◌, ap, subst}
use Rattle.std.specs.Prelude.{◌⊎◌, if◌then◌else◌}
use Rattle.std.specs.Option.{option_map}
use Rattle.nd_addr.specs.Frame.{addressed}
use Rattle.nd_addr.specs.Number.{number_of, mac_at}
use Rattle.nd_addr.specs.declared.mac.Mac.{Mac}
use Rattle.nd_neighbour.specs.declared.news.News.{News}
use Rattle.nd_neighbour.specs.declared.news.Times.{Times}
use Rattle.nd_neighbour.specs.EntryKept.{NeighbourEntry}
use Rattle.nd_neighbour.specs.History.{Row, Story, story}
use Rattle.nd_neighbour.specs.News.{news_key, news_row, mac_given, released_by}
use Rattle.nd_neighbour.specs.NewsKept.{GainsNews, Tells}
use Rattle.nd_neighbour.specs.Place.{Prepares}
use Rattle.nd_neighbour.specs.Story.{is_awaited, mac_of}
use Rattle.nd_neighbour.specs.TableKept.{Stands}
use Rattle.nd_chronicle.specs.Happening.{Happening, Resolved, Sent}
use Rattle.nd_out.specs.declared.out.Out.{Out}
use Rattle.nd_steps.specs.NeighbourCache.{said_by, sent_if_known, told_if_known, released_rows, HearsOf}
use Rattle.nd_steps.specs.Outputs.{at_moment, happenings}
use Rattle.nd_steps.proofs.Placing.{enters}

-- packets that are sent to an Ethernet address at the moment
abbrev pub sent_at : ℕ → Mac → List (List ℕ) → List (ℕ × Happening)
sent_at at mac packets = at_moment at (map (λ packet. Sent (addressed mac packet)) packets)

-- to the address that is known nothing is sent where nothing is released
none_sent : (known : Option ℕ) → sent_if_known known [] ≡ []
none_sent None = refl
none_sent (Some mac) = refl

-- no address is given
sent_to_none : (known : Option ℕ) (packets : List (List ℕ)) → (packets ≡ []) ⊎ (known ≡ None) → sent_if_known known packets ≡ []
sent_to_none known packets (inl e) = ap (λ (p : List (List ℕ)). sent_if_known known p) e ∙ none_sent known
sent_to_none known packets (inr e) = ap (λ (k : Option ℕ). sent_if_known k packets) e

-- this one is given
sent_to_given : (known : Option ℕ) (packets : List (List ℕ)) (mac : Mac) → mac_at (number_of mac.0) ≡ mac → (packets ≡ []) ⊎ (known ≡ Some (number_of mac.0))
    → map (λ packet. Sent (addressed mac packet)) packets ≡ sent_if_known known packets
sent_to_given known packets mac is (inl e) =
    ap (λ (p : List (List ℕ)). map (λ packet. Sent (addressed mac packet)) p) e ∙ (sym (none_sent known) ∙ ap (λ (p : List (List ℕ)). sent_if_known known p) (sym e))
sent_to_given known packets mac is (inr e) =
    ap (λ (m : Mac). map (λ packet. Sent (addressed m packet)) packets) (sym is) ∙ ap (λ (k : Option ℕ). sent_if_known k packets) (sym e)

-- the address for which a caller waits is reported where it is the given one, and else nothing is
told_to_given : (key mac : ℕ) (known : Option ℕ) (awaited : Bool) → (awaited ≡ true → known ≡ Some mac) → (if awaited then Resolved key mac ∷ [] else []) ≡ told_if_known key known awaited
told_to_given key mac None true h = let e = h refl in absurd (cc)
told_to_given key mac (Some k) true h = let e = h refl in let same : k ≡ mac = cc in ap (λ (m : ℕ). Resolved key m ∷ []) (sym same)
told_to_given key mac None false h = refl
told_to_given key mac (Some k) false h = refl

told_to_none : (key : ℕ) (known : Option ℕ) (awaited : Bool) → (awaited ≡ true → known ≡ None) → told_if_known key known awaited ≡ []
told_to_none key None awaited h = refl
told_to_none key (Some k) true h = let e = h refl in absurd (cc)
told_to_none key (Some k) false h = refl

abbrev known_after : ℕ → News → Times → List Row → Option ℕ
known_after now n times history = mac_of ((now, news_row n times) ∷ story (news_key n) history)

abbrev number : Mac → ℕ
number mac = number_of mac.0

by_given : (n : News) (given : Option Mac) (P : Type 0) (known : Option ℕ) → mac_given n ≡ given → P ⊎ (known ≡ option_map number (mac_given n)) → P ⊎ (known ≡ option_map number given)
by_given n given P known is (inl p) = inl p
by_given n given P known is (inr e) = inr (e ∙ ap (λ (g : Option Mac). option_map number g) is)

-- an address for which a caller waits is the given one
abbrev pub Awaits : ℕ → News → Times → Type 0
Awaits now n times = (s : Story) → is_awaited s ≡ true → mac_of ((now, news_row n times) ∷ s) ≡ option_map number (mac_given n)

module _ {A : Type 0} (limit now : ℕ) (n : News) (times : Times) (old new : List NeighbourEntry) (x y : List (ℕ × Out A)) (packets : List (List ℕ)) (ends awaited : Bool)
    (gains : GainsNews limit now n times old new) (tells : Tells now (news_key n) (news_row n times) old packets ends awaited)
    (law : (s : Story) → (released_by now (news_row n times) s ≡ []) ⊎ (mac_of ((now, news_row n times) ∷ s) ≡ option_map number (mac_given n)))
    (told_law : Awaits now n times) where
  -- whatever the rows are that are reported
  hears : ((history : List Row) → Stands old history → happenings y ≡ happenings x ++ at_moment now (released_rows now (Some (said_by times n)) history))
      → HearsOf limit now (Some (said_by times n)) old new x y ends
  hears told = record {
    each = λ history h.
        let g = gains.stands history h in (
          g.0,
          subst (λ (b : Bool). Prepares limit now b (news_key n) history g.0) (sym (enters n times)) g.1,
          g.2,
          told history h,
          tells.turned_is history h,
        );
  }

  pub hears_given : (mac : Mac) → mac_at (number_of mac.0) ≡ mac → mac_given n ≡ Some mac
      → happenings y ≡ happenings x ++ at_moment now (map (λ packet. Sent (addressed mac packet)) packets ++ (if awaited then Resolved (news_key n) (number_of mac.0) ∷ [] else []))
      → HearsOf limit now (Some (said_by times n)) old new x y ends
  hears_given mac is given told = hears (λ history h.
      let released = tells.released history h in
      let s = story (news_key n) history in
      let frames : map (λ packet. Sent (addressed mac packet)) packets ≡ sent_if_known (known_after now n times history) (released_by now (news_row n times) s) =
      ap (λ (p : List (List ℕ)). map (λ packet. Sent (addressed mac packet)) p) released
      ∙ sent_to_given (known_after now n times history) (released_by now (news_row n times) s) mac is
      (by_given n (Some mac) _ _ given (law s)) in
      let caller : (if awaited then Resolved (news_key n) (number_of mac.0) ∷ [] else []) ≡ told_if_known (news_key n) (known_after now n times history) (is_awaited s) =
      ap (λ (b : Bool). if b then Resolved (news_key n) (number_of mac.0) ∷ [] else []) (tells.awaited_is history h)
      ∙ told_to_given (news_key n) (number_of mac.0) (known_after now n times history) (is_awaited s) (λ a. told_law s a ∙ ap (λ (g : Option Mac). option_map number g) given) in
      told ∙ (ap (λ l. happenings x ++ at_moment now (l ++ (if awaited then Resolved (news_key n) (number_of mac.0) ∷ [] else []))) frames
      ∙ ap (λ l. happenings x ++ at_moment now (sent_if_known (known_after now n times history) (released_by now (news_row n times) s) ++ l)) caller))

  pub hears_none : mac_given n ≡ None → y ≡ x → HearsOf limit now (Some (said_by times n)) old new x y ends
  hears_none given same = hears (λ history h.
      let s = story (news_key n) history in
      let known = known_after now n times history in
      let packets' = released_by now (news_row n times) s in
      ap happenings same ∙ (sym (append-nil (happenings x)) ∙ (ap (λ l. happenings x ++ at_moment now (l ++ []))
      (sym (sent_to_none known packets' (by_given n None _ _ given (law s))))
      ∙ ap (λ l. happenings x ++ at_moment now (sent_if_known known packets' ++ l))
      (sym (told_to_none (news_key n) known (is_awaited s) (λ a. told_law s a ∙ ap (λ (g : Option Mac). option_map number g) given))))))

-- nothing is said
pub hears_nothing : {A : Type 0} (limit now : ℕ) (entries : List NeighbourEntry) (outs : List (ℕ × Out A)) → HearsOf limit now None entries entries outs outs false
hears_nothing limit now entries outs = record {
  each = λ history h. (history, refl, h, sym (append-nil (happenings outs)), refl);
}

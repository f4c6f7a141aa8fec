-- What is due is reported at the end of what is reported.
use Rattle.std.proofs.Common.{◌≡◌, ℕ, List, [], ◌∷◌, ◌++◌, append-nil, append_assoc, map, Option, Some, None, refl, sym, ◌∙◌, ap}
use Rattle.std.proofs.lemmas.Grind.{flat_map-append}
use Rattle.std.specs.List.{flat_map}
use Rattle.std.specs.Option.{option_map, option_to_list}
use Rattle.nd_addr.specs.declared.addr.Addr.{Addr}
use Rattle.nd_addr.specs.Number.{number_of}
use Rattle.nd_neighbour.specs.Due as neighbours
use Rattle.nd_slaac.specs.Due as addresses
use Rattle.nd_chronicle.specs.Start.{Start, link_local}
use Rattle.nd_advertiser.specs.Advertising.{advertised_by}
use Rattle.nd_advertiser.specs.Config.{Settings}
use Rattle.nd_advertiser.specs.Contents.{contents}
use Rattle.nd_advertiser.specs.Offers.{offers_of}
use Rattle.nd_compose.specs.Frames.{router_advertisement_frame}
use Rattle.nd_chronicle.specs.Happening.{Chronicle, Happening, LeftRouter, Loss, Lost, Sent, Unreachable}
use Rattle.nd_chronicle.specs.Histories.{advertising_history}
use Rattle.nd_chronicle.specs.Advertising.{advertising_by}
use Rattle.nd_chronicle.specs.Due.{What, RouterEnds, AddressFalls, NeighbourFalls, RoutersSolicited, RouterAdvertises, Redraws, comes}
use Rattle.nd_chronicle.specs.Packet.{losing}
use Rattle.nd_chronicle.specs.Told.{Told, items_at, items}
use Rattle.nd_out.specs.declared.out.Out.{Out}
use Rattle.nd_out.specs.Out.{happening}
use Rattle.nd_steps.specs.RouterTables.{frame_of, advertised}
use Rattle.nd_steps.specs.DueRows.{told_of}
use Rattle.nd_steps.specs.Outputs.{at_moment, happenings, Tells}

-- one row that is reported
pub one : {A : Type 0} (before row : List A) → before ++ row ≡ before ++ (row ++ [])
one before row = ap (λ r. before ++ r) (sym (append-nil row))

-- and one that isn't below it
pub above_silent : {A : Type 0} (before row : List A) → (before ++ []) ++ row ≡ before ++ (row ++ [])
above_silent before row = ap (λ b. b ++ row) (append-nil before) ∙ one before row

-- packets that are lost at the moment, for a reason
abbrev pub lost_at : ℕ → Loss → List (List ℕ) → List (ℕ × Happening)
lost_at at why packets = at_moment at (map (λ packet. Lost why packet) packets)

-- the numbers of addresses
abbrev pub numbers : List Addr → List ℕ
numbers addrs = map (λ a. number_of a.0) addrs

-- routers that leave at the moment
abbrev pub left_at : ℕ → List ℕ → List (ℕ × Happening)
left_at at those = at_moment at (map (λ key. LeftRouter key) those)

happenings-append : {A : Type 0} (xs ys : List (ℕ × Out A)) → happenings (xs ++ ys) ≡ happenings xs ++ happenings ys
happenings-append [] ys = refl
happenings-append (x ∷ xs) ys = ap (λ l. (x.0, happening x.1) ∷ l) (happenings-append xs ys)

-- one more is reported, and what comes behind it
pub handed_out : {A : Type 0} (xs : List (ℕ × Out A)) (at : ℕ) (out : Out A) (rest : List (ℕ × Happening)) → happenings (xs ++ (at, out) ∷ []) ++ rest ≡ happenings xs ++ (at, happening out) ∷ rest
handed_out xs at out rest = ap (λ l. l ++ rest) (happenings-append xs ((at, out) ∷ [])) ∙ append_assoc (happenings xs) ((at, happening out) ∷ []) rest

-- one is reported
pub one_more : {A : Type 0} (xs ys : List (ℕ × Out A)) (at : ℕ) (out : Out A) → ys ≡ xs ++ (at, out) ∷ [] → happenings ys ≡ happenings xs ++ (at, happening out) ∷ []
one_more xs ys at out is = ap happenings is ∙ (sym (append-nil _) ∙ handed_out xs at out [])

-- and this is reported of it
pub one_told : {A : Type 0} (x y : List (ℕ × Out A)) (at : ℕ) (out : Out A) (told : Happening) → y ≡ x ++ (at, out) ∷ [] → happening out ≡ told → happenings y ≡ happenings x ++ (at, told) ∷ []
one_told x y at out told is out_is =
    ap happenings is ∙ (sym (append-nil _) ∙ (handed_out x at out [] ∙ ap (λ (h : Happening). happenings x ++ (at, h) ∷ []) out_is))

pub lost_items : (at : ℕ) (why : Loss) (packets : List (List ℕ)) (c : Chronicle) → items (losing at why packets c) ≡ items c ++ flat_map items_at (lost_at at why packets)
lost_items at why [] c = sym (append-nil (items c))
lost_items at why (packet ∷ packets) c =
    lost_items at why packets ((at, Lost why packet) ∷ c) ∙ append_assoc (items c) (items_at (at, Lost why packet)) (flat_map items_at (lost_at at why packets))

-- an advertisement that is sent
advertising_items : (start : Start) (c : Chronicle) (at : ℕ) (settings : Option Settings)
    → items (advertising_by start at settings c) ≡ items c ++ flat_map items_at (at_moment at (map (λ frame. Sent frame) (option_to_list (frame_of start (option_map (contents start.mac (offers_of (advertising_history start c))) settings)))))
advertising_items start c at None = sym (append-nil (items c))
advertising_items start c at (Some settings) = ap (λ (t : List (ℕ × Told)). t ++ items_at (at, Sent (router_advertisement_frame start.mac (link_local start) (contents start.mac (offers_of (advertising_history start c)) settings)))) (append-nil (items c ++ []) ∙ append-nil (items c)) ∙ one (items c) _

pub due_items : (start : Start) (c : Chronicle) (at : ℕ) (what : What) → items (comes start at what c) ≡ items c ++ flat_map items_at (at_moment at (told_of start.mac (link_local start) (advertised start c) what))
due_items start c at (RouterEnds key) = one (items c) _
due_items start c at (AddressFalls (addresses.Ends key)) = one (items c) _
due_items start c at (AddressFalls (addresses.Solicits key)) = above_silent (items c) _
due_items start c at (AddressFalls (addresses.Assigns key)) = one (items c) _
due_items start c at (NeighbourFalls (neighbours.Multicasts key)) = above_silent (items c) _
due_items start c at (NeighbourFalls (neighbours.Unicasts key mac)) = above_silent (items c) _
due_items start c at (NeighbourFalls (neighbours.Fails key packets)) = lost_items at Unreachable packets _ ∙ append_assoc (items c) _ _
due_items start c at (NeighbourFalls (neighbours.Ages key)) = refl
due_items start c at RoutersSolicited = above_silent (items c) _
due_items start c at RouterAdvertises = advertising_items start c at (advertised_by (advertising_history start c))
due_items start c at Redraws = refl

pub Tells-then : {A : Type 0} (c d e : Chronicle) (x y z : List (ℕ × Out A)) → Tells c d x y → Tells d e y z → Tells c e x z
Tells-then c d e x y z s t = record {
  newer = s.newer ++ t.newer;
  told = t.told ∙ (ap (λ l. l ++ flat_map items_at t.newer) s.told ∙ (append_assoc (items c) (flat_map items_at s.newer) (flat_map items_at t.newer) ∙ ap (λ l. items c ++ l) (sym (flat_map-append items_at s.newer t.newer))));
  outs = t.outs ∙ (ap (λ l. l ++ t.newer) s.outs ∙ append_assoc (happenings x) s.newer t.newer);
}

-- The bytes of groups, and the groups of those bytes.
use Rattle.std.proofs.Common.{◌≡◌, ℕ, ◌<◌, List, [], ◌∷◌, ◌++◌, length, get_or, arith}
use Rattle.std.specs.List.{flat_map}
use Rattle.byteorder.specs.Endian.{big_bytes, big_number}
use Rattle.byteorder.specs.Numbers.{big_number-reads_back}
use Rattle.nd_addr.specs.Text.{groups_of}

same_eight : (a b c d e f g h a' b' c' d' e' f' g' h' : ℕ) → a ≡ a' → b ≡ b' → c ≡ c' → d ≡ d' → e ≡ e' → f ≡ f' → g ≡ g' → h ≡ h'
    → a ∷ b ∷ c ∷ d ∷ e ∷ f ∷ g ∷ h ∷ [] ≡ a' ∷ b' ∷ c' ∷ d' ∷ e' ∷ f' ∷ g' ∷ h' ∷ []
same_eight a b c d e f g h a' b' c' d' e' f' g' h' p q r s t u v w = cc

group_back : (g : ℕ) (rest : List ℕ) → g < 65536 → big_number 2 (big_bytes 2 g ++ rest) ≡ g
group_back g rest small = big_number-reads_back 2 g rest small

pub groups_back : (groups : List ℕ) → length groups ≡ 8 → ((i : ℕ) → get_or groups i 0 < 65536) → groups_of (flat_map (big_bytes 2) groups) ≡ groups
groups_back (a ∷ b ∷ c ∷ d ∷ e ∷ f ∷ g ∷ h ∷ []) len small =
    same_eight _ _ _ _ _ _ _ _ a b c d e f g h (group_back a (flat_map (big_bytes 2) (b ∷ c ∷ d ∷ e ∷ f ∷ g ∷ h ∷ [])) (small 0)) (group_back b (flat_map (big_bytes 2) (c ∷ d ∷ e ∷ f ∷ g ∷ h ∷ [])) (small 1)) (group_back c (flat_map (big_bytes 2) (d ∷ e ∷ f ∷ g ∷ h ∷ [])) (small 2)) (group_back d (flat_map (big_bytes 2) (e ∷ f ∷ g ∷ h ∷ [])) (small 3)) (group_back e (flat_map (big_bytes 2) (f ∷ g ∷ h ∷ [])) (small 4)) (group_back f (flat_map (big_bytes 2) (g ∷ h ∷ [])) (small 5)) (group_back g (flat_map (big_bytes 2) (h ∷ [])) (small 6)) (group_back h [] (small 7))
groups_back [] len small = absurd (omega arith)
groups_back (a ∷ []) len small = absurd (omega arith)
groups_back (a ∷ b ∷ []) len small = absurd (omega arith)
groups_back (a ∷ b ∷ c ∷ []) len small = absurd (omega arith)
groups_back (a ∷ b ∷ c ∷ d ∷ []) len small = absurd (omega arith)
groups_back (a ∷ b ∷ c ∷ d ∷ e ∷ []) len small = absurd (omega arith)
groups_back (a ∷ b ∷ c ∷ d ∷ e ∷ f ∷ []) len small = absurd (omega arith)
groups_back (a ∷ b ∷ c ∷ d ∷ e ∷ f ∷ g ∷ []) len small = absurd (omega arith)
groups_back (a ∷ b ∷ c ∷ d ∷ e ∷ f ∷ g ∷ h ∷ i ∷ more) len small = absurd (omega arith)

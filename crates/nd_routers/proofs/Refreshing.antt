-- Prefixes that are refreshed: what is on the link is determined by them alone.
use Rattle.std.proofs.Common.{◌≡◌, ℕ, Bool, List, [], ◌∷◌, refl, sym, ◌∙◌, ap}
use Rattle.std.specs.Prelude.{◌||◌}
use Rattle.std.specs.List.{list_any}
use Rattle.nd_addr.specs.Kind.{link_local_subnet}
use Rattle.nd_addr.specs.Number.{holds}
use Rattle.nd_addr.specs.Prefix.{PrefixValue}
use Rattle.nd_table.specs.declared.lasting.Lasting.{Lasting}
use Rattle.nd_table.proofs.Refreshing.{keys_of}
use Rattle.nd_routers.specs.OnLink.{is_held}

any_by_keys : (address : List ℕ) (es : List (Lasting PrefixValue)) → list_any (λ (e : Lasting PrefixValue). holds e.key address) es ≡ list_any (λ (k : PrefixValue). holds k address) (keys_of es)
any_by_keys address [] = refl
any_by_keys address (e ∷ es) = ap (λ (b : Bool). holds e.key address || b) (any_by_keys address es)

pub held_by_keys : (address : List ℕ) (a b : List (Lasting PrefixValue)) → keys_of a ≡ keys_of b → is_held address a ≡ is_held address b
held_by_keys address a b is =
    ap (λ (x : Bool). holds link_local_subnet address || x) (any_by_keys address a ∙ (ap (λ (ks : List PrefixValue). list_any (λ (k : PrefixValue). holds k address) ks) is ∙ sym (any_by_keys address b)))

-- The words that stand for a static route of a router (the texts are this project's own).
use Rattle.std.specs.Prelude.{◌≡◌, ℕ, List, [], ◌∷◌, codes}
use Rattle.nd_addr.specs.Prefix.{PrefixValue}
use Rattle.nd_addr.specs.Spelling.{SpellsPrefix}
use Rattle.nd_forwarding.specs.declared.route.Route.{Route}
use Rattle.nd_forwarding.specs.declared.route.Route.TheVariants.{Direct, Via}
use Rattle.ndpctl_run.specs.Address.{IsAddressWord}
use Rattle.ndpctl_run.specs.Words.{words_of}

-- the word says where the packets go: `direct`, or the address of a router
abbrev pub IsWay : List ℕ → Route → Type 0
IsWay word Direct = word ≡ codes "direct"
IsWay word (Via router) = IsAddressWord word router

-- the words spell a prefix and where the packets to it go
abbrev pub SpellRoute : List (List ℕ) → PrefixValue → Route → Type 0
SpellRoute (word ∷ way ∷ []) prefix route = SpellsPrefix word prefix × IsWay way route
SpellRoute _ prefix route = ⊥

abbrev pub IsRoute : List ℕ → PrefixValue → Route → Type 0
IsRoute text prefix route = SpellRoute (words_of text) prefix route

-- The asker of a solicitation.
use Rattle.std.specs.Prelude.{◌≡◌, ℕ, true, IfSome, List, Option}
use Rattle.nd_decode.specs.Message.{Parts}
use Rattle.nd_decode.specs.Option.{Said}
use Rattle.nd_decode.specs.declared.body.Body.TheVariants as bodies
use Rattle.nd_decode.specs.declared.neighbor_solicitation.NeighborSolicitation.{NeighborSolicitation}
use Rattle.nd_neighbour.specs.declared.news.News.{News}
use Rattle.nd_neighbour.specs.News.{lets_enter, news_key}

-- what a solicitation says is said of the asker, and lets it enter
abbrev pub IsOfAsker : ℕ → Option News → Type 0
IsOfAsker key news = IfSome news (λ n. (news_key n ≡ key) × (lets_enter n ≡ true))

-- a solicitation with these options
abbrev pub solicitation : NeighborSolicitation → List Said → Parts
solicitation ns options = record { body = bodies.Ns ns; options = options }

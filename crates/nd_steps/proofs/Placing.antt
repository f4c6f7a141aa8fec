-- Which news let a neighbour enter.
use Rattle.std.proofs.Common.{◌≡◌, refl}
use Rattle.nd_neighbour.specs.declared.news.News.{News}
use Rattle.nd_neighbour.specs.declared.news.News.TheVariants as news
use Rattle.nd_neighbour.specs.declared.news.Times.{Times}
use Rattle.nd_neighbour.specs.News.{news_row, lets_enter}
use Rattle.nd_chronicle.specs.Message as message

-- news let a neighbour enter where what they say does
pub enters : (n : News) (times : Times) → message.lets_enter (news_row n times) ≡ lets_enter n
enters (news.Given addr mac mark) times = refl
enters (news.Advert addr flags mac) times = refl
enters (news.Marked addr router) times = refl

-- What an iterator over the kept redirects has left.
use Rattle.std.specs.Prelude.{ℕ, List}
use Rattle.nd_addr.specs.Number.{number_of}
use Rattle.nd_nexthop.specs.declared.kept_redirects.KeptRedirects.{KeptRedirects}
use Rattle.nd_nexthop.specs.declared.kept_redirects.Redirect.{Redirect}
use Rattle.nd_nexthop.specs.History.{those_left}

abbrev pub redirects_left : KeptRedirects → List (ℕ × ℕ)
redirects_left r = those_left r.rest

-- the destination and the target by their numbers
abbrev pub redirect_of : Redirect → ℕ × ℕ
redirect_of r = (number_of r.destination.0, number_of r.target.0)

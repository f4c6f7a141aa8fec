use Rattle.std.proofs.Common.{◌∙◌, ap, sym, nat_eq}
use Rattle.std.specs.Prelude.{option_map}
use Rattle.std.specs.Map.{set_value}
use Rattle.nd_addr.specs.Number.{number_of}
use Rattle.lru.specs.LruCache.{lru_cache}
use Rattle.nd_nexthop.proofs.Rounds.{set_is, none_is}
use Rattle.nd_nexthop.proofs.end_of_redirects.end_at.Goals as goal

pub returns-in-Some : goal.returns-in-Some
returns-in-Some g c =
    let old = c.args.redirects.now in
    ap (λ es. lru_cache es old.cap)
    (ap (set_value (nat_eq c.args.destination) old.entries) c.end.ensures
    ∙ set_is (option_map (λ a. number_of a.0) c.args.gone) c.args.destination c.in-Some.target.now old.entries (sym c.in-Some.ensures.value))

pub returns-in_default : goal.returns-in_default
returns-in_default g c =
    let old = c.args.redirects.now in
    ap (λ es. lru_cache es old.cap) (none_is (option_map (λ a. number_of a.0) c.args.gone) c.args.destination old.entries (sym c.in_default.ensures.value))

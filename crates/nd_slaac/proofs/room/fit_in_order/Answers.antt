use Rattle.std.proofs.Common.{◌≡◌, ◌+◌, ◌++◌, ◌∙◌, ap, sym, subst, arith, List, [], ◌∷◌, length, take, set}
use Rattle.std.proofs.lemmas.List.{length-take-le, length-set, take_more_set}
use Rattle.nd_addr.specs.declared.addr.Addr.{Addr}
use Rattle.nd_decode.specs.Pieces.{options_left}
use Rattle.nd_slaac.specs.PrefixOption.{prefixes_in}
use Rattle.nd_slaac.specs.Room.{fits_in}
use Rattle.nd_slaac.specs.Calls.{keys_in}
use Rattle.nd_slaac.proofs.Counting.{Comes, comes_past, comes_on, comes_no_further}
use Rattle.nd_slaac.proofs.Keys.{keys-length}
use Rattle.nd_slaac.proofs.OfType.{from_first, prefixes_by_first}
use Rattle.nd_slaac.proofs.room.fit_in_order.Goals as goal

pub returns-then-entries-count : goal.returns-then-entries-count
returns-then-entries-count c =
    let known = keys_in c.args.entries.now in
    let formed = take c.loop-info.count c.loop-info.formed in
    let rest = prefixes_in (options_left c.loop-info.rest) in
    let is = prefixes_by_first (options_left c.loop-info.rest) ∙ ap from_first c.in-Some.ensures.value in
    let long : length formed ≡ c.loop-info.count = length-take-le c.loop-info.count c.loop-info.formed (omega (arith, c.loop-info.invariant.few, c.loop-info.invariant.long, c.requires.most)) in
    let keys = keys-length c.args.entries.now in
    comes_no_further c.args.limit c.args.mac known formed rest c.in-Some.info _ _ is c.loop-info.invariant.comes c.in-Some-new_address.ensures.0 (omega (arith, c.if-entries-count.true, long, keys))

pub loop-info-preserved-in-Some-new_address : goal.loop-info-preserved-in-Some-new_address
loop-info-preserved-in-Some-new_address c =
    let known = keys_in c.args.entries.now in
    let count = c.loop-info.count in
    let formed = take count c.loop-info.formed in
    let addr = c.in-Some-new_address.addr in
    let rest = prefixes_in (options_left c.loop-info.rest) in
    let more = prefixes_in (options_left c.next_prefix.new.self) in
    let fit = fits_in c.args.limit c.args.mac known (prefixes_in (options_left c.args.options)) in
    let is = prefixes_by_first (options_left c.loop-info.rest) ∙ ap from_first c.in-Some.ensures.value in
    let long : length formed ≡ count = length-take-le count c.loop-info.formed (omega (arith, c.loop-info.invariant.few, c.loop-info.invariant.long, c.requires.most)) in
    let keys = keys-length c.args.entries.now in
    let grown : take (count + 1) (set c.loop-info.formed count addr) ≡ formed ++ addr ∷ [] = take_more_set c.loop-info.formed count addr (omega (arith, c.if-entries-count.false, c.loop-info.invariant.long, c.requires.most)) in
    record {
      comes = subst (λ (l : List Addr). Comes c.args.limit c.args.mac known l more fit) (sym grown)
          (comes_on c.args.limit c.args.mac known formed rest c.in-Some.info more fit is c.loop-info.invariant.comes addr c.in-Some-new_address.ensures.0 c.in-Some-new_address.ensures.1 (omega (arith, c.if-entries-count.false, long, keys)));
      few = omega (arith, c.if-entries-count.false);
      long = length-set c.loop-info.formed count addr ∙ c.loop-info.invariant.long;
    }

pub loop-info-preserved : goal.loop-info-preserved
loop-info-preserved c =
    let is = prefixes_by_first (options_left c.loop-info.rest) ∙ ap from_first c.in-Some.ensures.value in
    record {
      comes = comes_past c.args.limit c.args.mac (keys_in c.args.entries.now) (take c.loop-info.count c.loop-info.formed) (prefixes_in (options_left c.loop-info.rest)) c.in-Some.info (prefixes_in (options_left c.next_prefix.new.self)) _ is c.loop-info.invariant.comes c.in_default-new_address.ensures;
      few = c.loop-info.invariant.few;
      long = c.loop-info.invariant.long;
    }

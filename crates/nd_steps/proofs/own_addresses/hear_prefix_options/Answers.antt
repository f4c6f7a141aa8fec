use Rattle.std.proofs.Common.{◌≡◌, ◌∷◌, ◌++◌, ◌∙◌, false, Bool, List, [], sym, ap}
use Rattle.std.specs.Prelude.{◌&&◌, not}
use Rattle.std.proofs.Math.Bool.{and-false}
use Rattle.nd_decode.specs.declared.prefix_info.PrefixInfo.{PrefixInfo}
use Rattle.nd_decode.specs.Pieces.{options_left}
use Rattle.nd_slaac.specs.PrefixOption.{prefixes_in}
use Rattle.nd_slaac.specs.Room.{with_room}
use Rattle.nd_slaac.specs.Calls.{keys_in}
use Rattle.nd_slaac.proofs.OfType.{from_first, prefixes_by_first}
use Rattle.nd_chronicle.specs.RouterAdvertisement.{then_options}
use Rattle.nd_steps.specs.DestinationCache.{forms_none}
use Rattle.nd_steps.proofs.Forming.{none_behind, options_behind}
use Rattle.nd_steps.proofs.own_addresses.hear_prefix_options.Goals as goal

pub loop-info-preserved-then-hear_prefix_option : goal.loop-info-preserved-then-hear_prefix_option
loop-info-preserved-then-hear_prefix_option g c =
    let old = c.loop-info.addresses in
    let keys = keys_in old.addresses in
    let new = c.hear_prefix_option.new.addresses in
    let behind = prefixes_in (options_left c.next_prefix.new.self) in
    let one = with_room old.limit old.mac keys (c.in-Some.info ∷ []) in
    let rest = with_room new.limit new.mac (keys_in new.addresses) behind in
    let room_is : with_room old.limit old.mac keys (prefixes_in (options_left c.loop-info.rest)) ≡ one ++ rest =
    ap (λ (infos : List PrefixInfo). with_room old.limit old.mac keys infos) (prefixes_by_first (options_left c.loop-info.rest) ∙ ap from_first c.in-Some.ensures.value) ∙ c.hear_prefix_option.ensures.room behind in
    let none_is : forms_none old.mac keys (with_room old.limit old.mac keys (prefixes_in (options_left c.loop-info.rest))) ≡ false =
    ap (λ (infos : List PrefixInfo). forms_none old.mac keys infos) room_is
    ∙ (none_behind old.mac keys one rest ∙ ap (λ (b : Bool). b && forms_none old.mac keys rest) (c.hear_prefix_option.ensures.none ∙ ap not c.if-hear_prefix_option.true)) in (
      λ start c' f.
          let so_far = c.loop-info.invariant.0 start c' f in (
            then_options start c.args.now c.args.to_all one so_far.0,
            c.hear_prefix_option.ensures.forms start so_far.0 so_far.1,
            so_far.2 ∙ (ap (λ (infos : List PrefixInfo). then_options start c.args.now c.args.to_all infos so_far.0) room_is ∙ options_behind start c.args.now c.args.to_all one rest so_far.0),
          ),
      sym (and-false c.loop-info.none_formed) ∙ (ap (λ (b : Bool). c.loop-info.none_formed && b) (sym none_is) ∙ c.loop-info.invariant.1),
    )

pub loop-info-preserved : goal.loop-info-preserved
loop-info-preserved g c =
    let old = c.loop-info.addresses in
    let keys = keys_in old.addresses in
    let new = c.hear_prefix_option.new.addresses in
    let behind = prefixes_in (options_left c.next_prefix.new.self) in
    let one = with_room old.limit old.mac keys (c.in-Some.info ∷ []) in
    let rest = with_room new.limit new.mac (keys_in new.addresses) behind in
    let room_is : with_room old.limit old.mac keys (prefixes_in (options_left c.loop-info.rest)) ≡ one ++ rest =
    ap (λ (infos : List PrefixInfo). with_room old.limit old.mac keys infos) (prefixes_by_first (options_left c.loop-info.rest) ∙ ap from_first c.in-Some.ensures.value) ∙ c.hear_prefix_option.ensures.room behind in
    let none_is : forms_none old.mac keys (with_room old.limit old.mac keys (prefixes_in (options_left c.loop-info.rest))) ≡ forms_none new.mac (keys_in new.addresses) rest =
    ap (λ (infos : List PrefixInfo). forms_none old.mac keys infos) room_is
    ∙ (none_behind old.mac keys one rest
    ∙ (ap (λ (b : Bool). b && forms_none old.mac keys rest) (c.hear_prefix_option.ensures.none ∙ ap not c.if-hear_prefix_option.false)
    ∙ (ap (λ mac. forms_none mac keys rest) (sym c.hear_prefix_option.ensures.mac) ∙ ap (λ ks. forms_none new.mac ks rest) (sym (c.hear_prefix_option.ensures.same c.if-hear_prefix_option.false))))) in (
      λ start c' f.
          let so_far = c.loop-info.invariant.0 start c' f in (
            then_options start c.args.now c.args.to_all one so_far.0,
            c.hear_prefix_option.ensures.forms start so_far.0 so_far.1,
            so_far.2 ∙ (ap (λ (infos : List PrefixInfo). then_options start c.args.now c.args.to_all infos so_far.0) room_is ∙ options_behind start c.args.now c.args.to_all one rest so_far.0),
          ),
      ap (λ (b : Bool). c.loop-info.none_formed && b) (sym none_is) ∙ c.loop-info.invariant.1,
    )

use Rattle.std.proofs.Common.{◌∙◌, refl, sym, ap, subst, rules, length}
use Rattle.nd_table.specs.declared.walk.Walk.{Walk}
use Rattle.nd_table.specs.Listing.{open_at, fits}
use Rattle.nd_table.specs.WalkKept.{LeadsTo}
use Rattle.nd_table.proofs.Behind.{fits_few, fits_open}
use Rattle.nd_table.proofs.Walking.{begins}
use Rattle.nd_table.proofs.announcements.fits_all.Goals as goal

pub returns-then-are_few : goal.returns-then-are_few
returns-then-are_few g c =
    sym (fits_few g.Q.NamesKey.same g.met.Q.NamesKey.tells c.args.limit c.args.now (g.I.Announces.told c.args.announced) c.args.entries.now (search rules))

pub comes_to_the_end-requires : goal.comes_to_the_end-requires
comes_to_the_end-requires g c =
    let w : Walk g.row.K.Denot = record { entries = c.args.entries; limit = c.args.limit; now = c.args.now; standing = length (open_at c.args.now c.args.entries.now); changed = 0 } in
    let leads = begins g.Q.NamesKey.same g.met.Q.NamesKey.tells g.Q.NamesKey.named w c.args.kept.now c.requires.distinct c.requires.few c.requires.limited c.requires.kept refl refl in (
      open_at c.args.now c.args.entries.now,
      subst (λ (x : Walk g.row.K.Denot). LeadsTo g.Q.NamesKey.same g.Q.NamesKey.named x c.args.kept.now (open_at c.args.now c.args.entries.now)) (sym c.new.ensures) leads,
    )

pub returns : goal.returns
returns g c =
    let w : Walk g.row.K.Denot = record { entries = c.args.entries; limit = c.args.limit; now = c.args.now; standing = length (open_at c.args.now c.args.entries.now); changed = 0 } in
    let leads = begins g.Q.NamesKey.same g.met.Q.NamesKey.tells g.Q.NamesKey.named w c.args.kept.now c.requires.distinct c.requires.few c.requires.limited c.requires.kept refl refl in
    let at = subst (λ (x : Walk g.row.K.Denot). LeadsTo g.Q.NamesKey.same g.Q.NamesKey.named x c.args.kept.now (open_at c.args.now c.args.entries.now)) (sym c.new.ensures) leads in
    let told = g.I.Announces.told c.args.announced in
    c.comes_to_the_end.ensures (open_at c.args.now c.args.entries.now) at
    ∙ (ap (λ (x : Walk g.row.K.Denot). fits g.Q.NamesKey.same x.limit x.now told (open_at c.args.now c.args.entries.now)) c.new.ensures
    ∙ fits_open g.Q.NamesKey.same g.met.Q.NamesKey.tells c.args.limit c.args.now told c.args.entries.now)

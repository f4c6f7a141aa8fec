use Rattle.std.proofs.Common.{◌≡◌, true, sym, ◌∙◌}
use Rattle.nd_decode.specs.Pieces.{options_left}
use Rattle.nd_node.specs.Hearing.{options_read}
use Rattle.nd_node.proofs.AsRead.{fits_prefixes, fits_addresses, fits_servers, fits_names}
use Rattle.nd_node.proofs.Filling.{advertisement_fills, at_neighbours, at_routers, at_prefixes, at_addresses, at_servers, at_names, at_none}
use Rattle.nd_table.specs.Listing.{fits}
use Rattle.nd_dns.specs.AnnouncedNames.{same_name, names_told}
use Rattle.nd_node.proofs.node.Node.first_full.Goals as goal
use Rattle.nd_node.proofs.node.Node.first_full.Goals.{else-not-known-via-then-not-known+else-not-fits_names, else-not-known-via-else-not-known}

pub returns-then-not-place-clause-fills : goal.returns-then-not-place-clause-fills
returns-then-not-place-clause-fills g c = λ start c' s le.
    advertisement_fills g.R.Rng.stream c.args.self.now c.args.now c.args.source c.args.ra.now (options_read c.args.self.now c.args.options) c.args.place _
    (at_neighbours g.R.Rng.stream c.args.self.now c.args.now c.args.source c.args.ra.now (options_read c.args.self.now c.args.options) c.args.place c.if-not-place.true) start c' s le

pub returns-then-not-fits-clause-fills : goal.returns-then-not-fits-clause-fills
returns-then-not-fits-clause-fills g c = λ start c' s le.
    advertisement_fills g.R.Rng.stream c.args.self.now c.args.now c.args.source c.args.ra.now (options_read c.args.self.now c.args.options) c.args.place _
    (at_routers g.R.Rng.stream c.args.self.now c.args.now c.args.source c.args.ra.now (options_read c.args.self.now c.args.options) c.args.place c.if-not-place.false (sym c.fits.ensures.value ∙ c.if-not-fits.true)) start c' s le

pub returns-then-not-fits-2-clause-fills : goal.returns-then-not-fits-2-clause-fills
returns-then-not-fits-2-clause-fills g c = λ start c' s le.
    advertisement_fills g.R.Rng.stream c.args.self.now c.args.now c.args.source c.args.ra.now (options_read c.args.self.now c.args.options) c.args.place _
    (at_prefixes g.R.Rng.stream c.args.self.now c.args.now c.args.source c.args.ra.now (options_read c.args.self.now c.args.options) c.args.place c.if-not-place.false (sym c.fits.ensures.value ∙ c.if-not-fits.false) (fits_prefixes c.args.self.now c.args.now (options_left c.args.options) ∙ sym c.fits-2.ensures.value ∙ c.if-not-fits-2.true)) start c' s le

pub returns-then-not-fits-3-clause-fills : goal.returns-then-not-fits-3-clause-fills
returns-then-not-fits-3-clause-fills g c = λ start c' s le.
    advertisement_fills g.R.Rng.stream c.args.self.now c.args.now c.args.source c.args.ra.now (options_read c.args.self.now c.args.options) c.args.place _
    (at_addresses g.R.Rng.stream c.args.self.now c.args.now c.args.source c.args.ra.now (options_read c.args.self.now c.args.options) c.args.place c.if-not-place.false (sym c.fits.ensures.value ∙ c.if-not-fits.false) (fits_prefixes c.args.self.now c.args.now (options_left c.args.options) ∙ sym c.fits-2.ensures.value ∙ c.if-not-fits-2.false) (fits_addresses c.args.self.now (options_left c.args.options) ∙ sym c.fits-3.ensures.value ∙ c.if-not-fits-3.true)) start c' s le

pub returns-then-not-fits_servers-clause-fills : goal.returns-then-not-fits_servers-clause-fills
returns-then-not-fits_servers-clause-fills g c = λ start c' s le.
    advertisement_fills g.R.Rng.stream c.args.self.now c.args.now c.args.source c.args.ra.now (options_read c.args.self.now c.args.options) c.args.place _
    (at_servers g.R.Rng.stream c.args.self.now c.args.now c.args.source c.args.ra.now (options_read c.args.self.now c.args.options) c.args.place c.if-not-place.false (sym c.fits.ensures.value ∙ c.if-not-fits.false) (fits_prefixes c.args.self.now c.args.now (options_left c.args.options) ∙ sym c.fits-2.ensures.value ∙ c.if-not-fits-2.false) (fits_addresses c.args.self.now (options_left c.args.options) ∙ sym c.fits-3.ensures.value ∙ c.if-not-fits-3.false)
    (fits_servers c.args.self.now c.args.now (options_left c.args.options) ∙ sym c.fits_servers.ensures.value ∙ c.if-not-fits_servers.true)) start c' s le

pub returns-then-not-fits_names-clause-fills : goal.returns-then-not-fits_names-clause-fills
returns-then-not-fits_names-clause-fills g c = λ start c' s le.
    advertisement_fills g.R.Rng.stream c.args.self.now c.args.now c.args.source c.args.ra.now (options_read c.args.self.now c.args.options) c.args.place _
    (at_names g.R.Rng.stream c.args.self.now c.args.now c.args.source c.args.ra.now (options_read c.args.self.now c.args.options) c.args.place c.if-not-place.false (sym c.fits.ensures.value ∙ c.if-not-fits.false) (fits_prefixes c.args.self.now c.args.now (options_left c.args.options) ∙ sym c.fits-2.ensures.value ∙ c.if-not-fits-2.false) (fits_addresses c.args.self.now (options_left c.args.options) ∙ sym c.fits-3.ensures.value ∙ c.if-not-fits-3.false)
    (fits_servers c.args.self.now c.args.now (options_left c.args.options) ∙ sym c.fits_servers.ensures.value ∙ c.if-not-fits_servers.false) (fits_names c.args.self.now c.args.now (options_left c.args.options) ∙ sym c.fits_names.ensures.value ∙ c.if-not-fits_names.true)) start c' s le

pub returns-clause-fills : goal.returns-clause-fills
returns-clause-fills g c = λ start c' s le.
    let names_fit : fits same_name c.args.self.now.dns.name_limit c.args.now (names_told (options_left c.args.options)) c.args.self.now.dns.names ≡ true = elim c.else-not-known.branch [
      | else-not-known-via-then-not-known+else-not-fits_names w ↦ sym w.fits_names.ensures.value ∙ w.if-not-fits_names.false
      | else-not-known-via-else-not-known w ↦ c.requires w.if-not-known.false
    ] in
    advertisement_fills g.R.Rng.stream c.args.self.now c.args.now c.args.source c.args.ra.now (options_read c.args.self.now c.args.options) c.args.place _
    (at_none g.R.Rng.stream c.args.self.now c.args.now c.args.source c.args.ra.now (options_read c.args.self.now c.args.options) c.args.place c.if-not-place.false (sym c.fits.ensures.value ∙ c.if-not-fits.false) (fits_prefixes c.args.self.now c.args.now (options_left c.args.options) ∙ sym c.fits-2.ensures.value ∙ c.if-not-fits-2.false) (fits_addresses c.args.self.now (options_left c.args.options) ∙ sym c.fits-3.ensures.value ∙ c.if-not-fits-3.false)
    (fits_servers c.args.self.now c.args.now (options_left c.args.options) ∙ sym c.fits_servers.ensures.value ∙ c.if-not-fits_servers.false) (fits_names c.args.self.now c.args.now (options_left c.args.options) ∙ names_fit)) start c' s le

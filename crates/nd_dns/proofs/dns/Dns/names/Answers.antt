use Rattle.std.proofs.Common.{◌∙◌, ap, sym, List, ℕ}
use Rattle.nd_decode.specs.Pieces.{options_left}
use Rattle.nd_table.specs.ListingKept.{entered}
use Rattle.nd_table.proofs.WithRoom.{all_have_room}
use Rattle.nd_dns.specs.AnnouncedNames.{same_name, names_told}
use Rattle.nd_dns.specs.DnsKept.{names_added}
use Rattle.nd_dns.proofs.dns.Dns.names.Goals as goal

pub returns-in-Err-clause-quiet : goal.returns-in-Err-clause-quiet
returns-in-Err-clause-quiet g c = λ none.
    let table = c.args.self.now in
    let told = names_told (options_left c.args.options) in
    let roomy = all_have_room same_name table.name_limit c.args.now told table.names (sym c.fits_names.ensures.value ∙ c.fits_names.ensures.quiet none) in
    let added = ap (λ (all : List (List ℕ × ℕ)). names_added c.args.now all table) c.new.ensures in
    c.in-Err.ensures.quiet (added ∙ (ap (λ (all : List (List ℕ × ℕ)). entered same_name c.args.now all table.names) roomy ∙ none))

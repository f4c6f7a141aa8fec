use Rattle.std.proofs.Common.{◌∙◌, ap}
use Rattle.nd_decode.specs.Pieces.{options_left}
use Rattle.nd_slaac.specs.PrefixOption.{prefixes_in}
use Rattle.nd_slaac.specs.Calls.{keys_in}
use Rattle.nd_slaac.specs.Room.{fits_in}
use Rattle.nd_slaac.specs.TableKept.{Table}
use Rattle.nd_slaac.proofs.addresses.Addresses.fits.Goals as goal

pub returns-clause-by_history : goal.returns-clause-by_history
returns-clause-by_history g c history s =
    let infos = prefixes_in (options_left c.args.options) in
    record {
      known = c.args.self.now.addresses;
      those = s;
      fit_is = c.fits.ensures
          ∙ (ap (λ xs. fits_in c.self.inside.limit c.self.inside.mac (keys_in xs) infos) c.deref.ensures.value
          ∙ ap (λ (t : Table). fits_in t.limit t.mac (keys_in t.addresses) infos) c.self.view_is);
    }

use Rattle.std.proofs.Common.{◌∙◌, ap, sym}
use Rattle.nd_decode.specs.Pieces.{options_in}
use Rattle.nd_decode.specs.Reading.{options_read}
use Rattle.nd_decode.specs.declared.reading.Reading.{Reading}
use Rattle.nd_decode.proofs.ReadOptions.{read_both}
use Rattle.nd_decode.proofs.options.Options.read_by.Goals as goal

pub returns : goal.returns
returns c =
    ap (λ (r : Reading). options_read r (options_in c.args.self.rest.now)) c.and.ensures
    ∙ sym (read_both c.args.self.reading c.args.reading (options_in c.args.self.rest.now))

use Rattle.std.proofs.Common.{◌≡◌, ◌++◌, ℕ, List, subst}
use Rattle.std.specs.Prelude.{OnOk, string_bytes}
use Rattle.nd_out.proofs.lost.write_address_at.Goals as goal

pub returns : goal.returns
returns g c =
    subst (λ (told : List ℕ). OnOk c.write_text.result (string_bytes c.write_text.new.text ≡ string_bytes c.args.text.now ++ told)) c.address_at.ensures c.write_text.ensures.written

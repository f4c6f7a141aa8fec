use Rattle.std.proofs.Common.{◌≡◌, ◌++◌, subst, sym}
use Rattle.std.specs.Prelude.{OnOk, string_bytes}
use Rattle.nd_addr.specs.Number.{number_of, mac_at}
use Rattle.nd_addr.specs.Text.{mac_text}
use Rattle.nd_addr.specs.declared.mac.Mac.{Mac}
use Rattle.nd_addr.proofs.Numbered.{mac_back}
use Rattle.nd_out.proofs.neighbours.write_mac.Goals as goal

pub returns : goal.returns
returns g c =
    let e : mac_at (number_of c.args.mac.0) ≡ c.args.mac = mac_back c.args.mac c.as_bytes-bytes.ensures.bytes in
    subst (λ (m : Mac). OnOk c.write_text.result (string_bytes c.write_text.new.text ≡ string_bytes c.args.text.now ++ mac_text m.0)) (sym e) c.write_text.ensures.written

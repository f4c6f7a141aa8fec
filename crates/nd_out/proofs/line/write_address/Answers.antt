use Rattle.std.proofs.Common.{◌≡◌, ◌++◌, subst, sym}
use Rattle.std.specs.Prelude.{OnOk, string_bytes}
use Rattle.nd_addr.specs.Number.{number_of, addr_at}
use Rattle.nd_addr.specs.Text.{address_text}
use Rattle.nd_addr.specs.declared.addr.Addr.{Addr}
use Rattle.nd_addr.proofs.Numbered.{addr_back}
use Rattle.nd_out.proofs.line.write_address.Goals as goal

pub returns : goal.returns
returns g c =
    let e : addr_at (number_of c.args.addr.0) ≡ c.args.addr = addr_back c.args.addr c.as_bytes-bytes.ensures.bytes in
    subst (λ (a : Addr). OnOk c.write_text.result (string_bytes c.write_text.new.text ≡ string_bytes c.args.text.now ++ address_text a.0)) (sym e) c.write_text.ensures.written

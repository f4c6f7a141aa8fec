use Rattle.std.proofs.Common.{◌<◌, length, subst, arith, refl}
use Rattle.std.proofs.lemmas.Option.{slice_get_read}
use Rattle.nd_link.proofs.link.Link.carried.Goals as goal

pub returns-clause-arrives : goal.returns-clause-arrives
returns-clause-arrives g c =
    let ok = c.args.self.now.frames.ok.0 in
    let there = c.requires.there in
    let within : c.args.sent < length c.args.self.now.frames.items = omega (arith, ok, there) in record {
      sent = c.index.result.now;
      is = slice_get_read c.args.self.now.frames.items (length c.args.self.now.frames.items) c.args.sent c.index.result.now refl within c.index.ensures;
      arrived = subst (λ frame. g.W.Wire.arrives c.args.to frame c.carry.new.into.items) c.deref.ensures.value c.in_ok-carry.ensures.arrives;
    }

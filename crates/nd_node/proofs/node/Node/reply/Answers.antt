use Rattle.std.proofs.Common.{sym, ◌∙◌, ap}
use Rattle.nd_chronicle.specs.Happening.{Sent}
use Rattle.nd_node.proofs.Asking.{replies_alone, replies_as_packet}
use Rattle.nd_node.proofs.node.Node.reply.Goals as goal

pub returns-in-Some : goal.returns-in-Some
returns-in-Some g c = record {
  leads = replies_alone g.R.Rng.stream c.args.self.now c.args.outs.now.items c.push_reserved.new.self.items c.args.now c.args.to c.args.packet c.in-Some.mac _ c.requires.last
      (λ start at c' s. sym c.in-Some.is ∙ c.sent_alone_to.ensures start at c' s) c.push_reserved.ensures.items (ap Sent c.addressed.ensures);
}

pub returns-in-None : goal.returns-in-None
returns-in-None g c = record {
  leads = replies_as_packet g.R.Rng.stream c.args.self.now c.go.new.self c.args.outs.now.items c.go.new.outs.items c.args.now c.args.to c.args.packet
      (λ start at c' s. sym c.in-None.is ∙ c.sent_alone_to.ensures start at c' s) c.go.ensures.leads;
}

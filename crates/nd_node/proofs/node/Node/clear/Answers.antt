use Rattle.std.proofs.Common.{None, refl, ap, ◌∙◌}
use Rattle.nd_nexthop.specs.Choice.{Table}
use Rattle.nd_node.proofs.ClearedTables.{clears_dns, clears_prefixes, clears_redirects}
use Rattle.nd_node.proofs.node.Node.clear.Goals as goal
use Rattle.nd_node.proofs.node.Node.clear.Goals.{in-Prefixes, in-Redirects, in-Dns}

pub returns-clause-adds : goal.returns-clause-adds
returns-clause-adds g c =
    let e = c.advance_to.ensures in
    elim c.match-table.branch [
      | in-Prefixes w ↦
          rw (e, w.self-is, w.in-Prefixes.is) (clears_prefixes g.R.Rng.stream c.args.self.now _ c.args.outs.now.items c.args.now c.requires.settled _ _ w.clear.ensures.value (w.until.ensures ∙ ap (λ (t : Table). record t { memory = record t.memory { until = None } }) w.changed.ensures) refl w.clear.ensures.stands)
      | in-Redirects w ↦
          rw (e, w.self-is, w.in-Redirects.is) (clears_redirects g.R.Rng.stream c.args.self.now _ c.args.outs.now.items c.args.now c.requires.settled _ refl (w.clear-in-Redirects.ensures.stands c.args.now)
          (record { redirects = w.clear-in-Redirects.ensures.limit; destinations = w.clear-in-Redirects.ensures.destinations }) w.clear-in-Redirects.ensures.memory)
      | in-Dns w ↦
          rw (e, w.self-is, w.in-Dns.is) (clears_dns g.R.Rng.stream c.args.self.now _ c.args.outs.now.items c.args.now c.requires.settled _ refl w.clear-in-Dns.ensures.value w.clear-in-Dns.ensures.stands)
    ]

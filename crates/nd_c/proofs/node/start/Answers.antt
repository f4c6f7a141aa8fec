use Rattle.std.proofs.Common.{sym, ◌∙◌, subst}
use Rattle.std.specs.Global.{Global}
use Rattle.nd_chronicle.specs.History.{beginning}
use Rattle.nd_chronicle.specs.Start.{Start}
use Rattle.nd_node.specs.declared.node.Node.{Node}
use Rattle.nd_node.specs.Node.{starting, with_policies}
use Rattle.nd_node.specs.NodeKept.{Stands}
use Rattle.nd_random.specs.declared.source.Source.{Source}
use Rattle.nd_random.specs.Source.{stream_of_source}
use Rattle.nd_c.specs.Open.{source_of}
use Rattle.nd_c.proofs.node.start.Goals as goal

pub returns : goal.returns
returns c =
    let o = c.args.opening.now in
    let first : Source → Start = λ source. with_policies o.policies (starting o.start o.role o.mac o.transmits o.limits (stream_of_source source)) in
    let begins = subst (λ (source : Source). Stands stream_of_source (first source) c.in_ok-session.session.node (beginning (first source))) c.source_of.ensures c.in_ok-session.ensures.stands in
    record {
      stands = subst (λ (n : Node Source Global). Stands stream_of_source (first (source_of o.draws)) n (beginning (first (source_of o.draws)))) (sym c.with_lease_version.ensures.node) begins;
      empty = c.with_lease_version.ensures.reports ∙ c.in_ok-session.ensures.empty;
      version = c.with_lease_version.ensures.version;
      ready = c.with_lease_version.ensures.ready c.in_ok-session.ensures.ready;
    }

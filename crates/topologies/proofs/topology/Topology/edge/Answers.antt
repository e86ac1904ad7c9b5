use Rattle.std.proofs.Common.{refl, rules}
use Rattle.topologies.proofs.Links.{edge_paired}
use Rattle.topologies.proofs.topology.Topology.edge.Goals as goal

pub invariant_of-self-clause-paired : goal.invariant_of-self-clause-paired
invariant_of-self-clause-paired c =
    let t = c.args.self.now in
    edge_paired t.switches t.ports t.few.1 (search rules) t.paired c.args.at _ c.in_ok-i.i (λ _. refl) (search rules) (search rules) (search rules)

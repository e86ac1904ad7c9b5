use Rattle.std.proofs.Common.{rules}
use Rattle.topologies.proofs.Links.{link_paired}
use Rattle.topologies.proofs.topology.Topology.link.Goals as goal

pub invariant_of-self-clause-paired : goal.invariant_of-self-clause-paired
invariant_of-self-clause-paired c =
    let t = c.args.self.now in
    link_paired t.switches t.ports t.few.1 (search rules) t.paired c.args.a c.args.b (search rules) (search rules) (search rules) (search rules) (search rules) _ (simp (c.in_ok-i.ensures.value, c.in_ok-j.ensures.value) (search rules))

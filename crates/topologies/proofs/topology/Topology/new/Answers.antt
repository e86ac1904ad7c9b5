use Rattle.std.proofs.lemmas.List.{get_or-replicate}
use Rattle.topologies.specs.Ports.{index}
use Rattle.topologies.proofs.Uses.{index_below}
use Rattle.topologies.specs.declared.spot.PortUse.TheVariants.{Unused}
use Rattle.std.proofs.Common.{arith}
use Rattle.topologies.proofs.topology.Topology.new.Goals as goal

pub invariant_of-result-clause-paired : goal.invariant_of-result-clause-paired
invariant_of-result-clause-paired c s w = rw (get_or-replicate 256 (index s) Unused Unused (index_below _ s (omega arith) w))

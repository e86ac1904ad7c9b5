use Rattle.std.proofs.Common.{◌≡◌}
use Rattle.std.specs.List.{slice_get}
use Rattle.topologies.specs.Ports.{is_edge, edge_ports_of}
use Rattle.topologies.proofs.Counts.{from}
use Rattle.topologies.proofs.topology.Topology.edge_port.Given as goal

-- What is left to look through has the answer at what is left to count.
abbrev pub invariant-loop-index : goal.invariant-loop-index
invariant-loop-index l = slice_get (from is_edge l.self.switches l.self.ports l.index) l.left ≡ slice_get (edge_ports_of l.self.switches l.self.ports) l.place

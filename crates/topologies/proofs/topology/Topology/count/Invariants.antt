use Rattle.std.proofs.Common.{◌≡◌, ◌+◌, ◌≤◌, Bool, length}
use Rattle.topologies.specs.declared.spot.PortUse.{PortUse}
use Rattle.topologies.specs.declared.spot.Spot.{Spot}
use Rattle.topologies.specs.Ports.{AnswersAs, ports_that}
use Rattle.topologies.proofs.Counts.{from}
use Rattle.topologies.proofs.topology.Topology.count.Given as goal

-- What is counted and what is left to look through are all.
abbrev pub invariant-loop-index : goal.invariant-loop-index
invariant-loop-index g l = record {
  bound : l.count ≤ l.index;
  value : (passes : Spot → PortUse → Bool) → AnswersAs (goal.F-post g l.test) passes → l.count + length (from passes l.self.switches l.self.ports l.index) ≡ length (ports_that passes l.self.switches l.self.ports);
}

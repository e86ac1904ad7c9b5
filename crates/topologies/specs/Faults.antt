-- The number of each refusal of a topology.
use Rattle.std.specs.Prelude.{ℕ}
use Rattle.topologies.specs.declared.fault.TopologyFault.{TopologyFault}
use Rattle.topologies.specs.declared.fault.TopologyFault.TheVariants as fault

abbrev pub topology_number : TopologyFault → ℕ
topology_number (fault.Switches n) = 35
topology_number (fault.NoPort s) = 33
topology_number (fault.Used s) = 34

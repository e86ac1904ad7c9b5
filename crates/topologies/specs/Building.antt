-- Building a topology: which refusal, and what the ports are used for afterwards.
use Rattle.std.specs.Prelude.{◌≡◌, ℕ, true, if◌then◌else◌, ◌&&◌, not, List, Option, nat_le, slice_set}
use Rattle.std.specs.Option.{option_or}
use Rattle.refusals.specs.Tests.{unless}
use Rattle.topologies.specs.declared.fault.TopologyFault.{TopologyFault}
use Rattle.topologies.specs.declared.fault.TopologyFault.TheVariants as fault
use Rattle.topologies.specs.declared.spot.Spot.{Spot}
use Rattle.topologies.specs.declared.spot.PortUse.{PortUse}
use Rattle.topologies.specs.declared.spot.PortUse.TheVariants.{Edge, Linked}
use Rattle.topologies.specs.Ports.{same, within, index, use_of, is_unused}

abbrev pub switches_fault : ℕ → Option TopologyFault
switches_fault n = unless (nat_le 1 n && nat_le n 16) (fault.Switches n)

abbrev pub port_fault : ℕ → Spot → Option TopologyFault
port_fault n s = unless (within n s) (fault.NoPort s)

abbrev pub used_fault : List PortUse → Spot → Option TopologyFault
used_fault ports s = unless (is_unused (use_of ports s)) (fault.Used s)

abbrev pub edge_fault : ℕ → List PortUse → Spot → Option TopologyFault
edge_fault n ports s = option_or (port_fault n s) (used_fault ports s)

-- Both ends are ports before either is asked for its use, and a link to itself comes last.
abbrev pub link_fault : ℕ → List PortUse → Spot → Spot → Option TopologyFault
link_fault n ports a b =
    option_or (port_fault n a) (
    option_or (port_fault n b) (
    option_or (used_fault ports a) (
    option_or (used_fault ports b)
    (unless (not (same a b)) (fault.Used b)))))

abbrev pub with_edge : List PortUse → Spot → List PortUse
with_edge ports s = slice_set ports (index s) Edge

abbrev pub with_link : List PortUse → Spot → Spot → List PortUse
with_link ports a b = slice_set (slice_set ports (index a) (Linked b)) (index b) (Linked a)

-- What each port is used for once s is an edge port, or a and b are linked.
abbrev pub edge_use : List PortUse → Spot → Spot → PortUse
edge_use ports s q = if same q s then Edge else use_of ports q

abbrev pub link_use : List PortUse → Spot → Spot → Spot → PortUse
link_use ports a b q = if same q a then Linked b else if same q b then Linked a else use_of ports q

abbrev pub Uses : ℕ → List PortUse → (Spot → PortUse) → Type 0
Uses n ports u = (q : Spot) → within n q ≡ true → use_of ports q ≡ u q

-- The parts of a plan, and its series.
use Rattle.std.specs.Prelude.{ℕ, List}
use Rattle.messages.specs.Sent.{Sent}
use Rattle.rules.specs.declared.row.Row.{Row}
use Rattle.topologies.specs.declared.spot.PortUse.{PortUse}
use Rattle.topologies.specs.declared.spot.Spot.{Spot}
use Rattle.topologies.specs.Ports.{edge_ports_of}
use Rattle.plans.specs.declared.plan.Plan.{Plan}
use Rattle.plans.specs.Versions.{version_tag, other}
use Rattle.plans.specs.Series as series

abbrev pub switches : Plan → ℕ
switches p = p.topology.now.switches

abbrev pub ports : Plan → List PortUse
ports p = p.topology.now.ports

abbrev pub rules : Plan → List Row
rules p = p.configuration.rows.now

abbrev pub old_tag_of : Plan → ℕ
old_tag_of p = version_tag p.in_force

abbrev pub new_tag_of : Plan → ℕ
new_tag_of p = version_tag (other p.in_force)

abbrev pub edges : Plan → List Spot
edges p = edge_ports_of (switches p) (ports p)

abbrev pub planned : Plan → List Sent
planned p = series.series (switches p) (ports p) (rules p) (old_tag_of p) (new_tag_of p)

-- The example: switches 0 and 1, edge ports 0/1 and 1/1, a link 0/2–1/2, and two rules for 10.1.0.0/16.
use Rattle.std.specs.Prelude.{ℕ, List, [], ◌∷◌, replicate, None}
use Rattle.rules.specs.declared.row.Action.TheVariants.{Out}
use Rattle.rules.specs.declared.row.Block.{Block}
use Rattle.rules.specs.declared.row.PatternRow.{PatternRow}
use Rattle.rules.specs.declared.row.Row.{Row}
use Rattle.topologies.specs.Building.{with_edge, with_link}
use Rattle.topologies.specs.declared.spot.PortUse.{PortUse}
use Rattle.topologies.specs.declared.spot.PortUse.TheVariants.{Unused}
use Rattle.topologies.specs.declared.spot.Spot.{Spot}

abbrev pub at : ℕ → ℕ → Spot
at switch port = record { switch = switch; port = port }

abbrev pub site_ports : List PortUse
site_ports = with_link (with_edge (with_edge (replicate 256 Unused) (at 0 1)) (at 1 1)) (at 0 2) (at 1 2)

abbrev pub block : ℕ → ℕ → Block
block address length = record { address = address; length = length }

-- Destination 10.1.0.0/16, otherwise open.
abbrev pub site_pattern : PatternRow
site_pattern = record {
  in_port = None;
  source = block 0 0;
  destination = block 0x0a01_0000 16;
  protocol = None;
  destination_port = None;
}

abbrev pub site_rule : ℕ → ℕ → Row
site_rule switch port = record { switch = switch; priority = 10; pattern = site_pattern; action = Out port }

abbrev pub site_rules : List Row
site_rules = site_rule 0 2 ∷ site_rule 1 1 ∷ []

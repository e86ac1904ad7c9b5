-- Worked cases under the definitions, in one table.
use Rattle.std.specs.Prelude.{◌≡◌, ℕ, true, false, List, [], ◌∷◌, length, Some, None, Option}
use Rattle.patterns.specs.Prefixes.{meet_by}
use Rattle.topologies.specs.Ports.{edge_ports_of}
use Rattle.topologies.specs.declared.spot.PortUse.{PortUse}
use Rattle.messages.specs.Sent.{add, stamp, remove, barrier}
use Rattle.openflow.specs.Carried.{message}
use Rattle.openflow.specs.Fields.{wildcards_of}
use Rattle.openflow.specs.Layout.{wire}
use Rattle.plans.specs.Series.{series}
use Rattle.example.specs.Site.{block, site_ports, site_rule, site_rules}
use Rattle.rules.specs.declared.row.Block.{Block}
use Rattle.rules.specs.declared.row.PatternRow.{PatternRow}

-- The meet of prefix patterns, on blocks.
abbrev pub meet : Block → Block → Option Block
meet = meet_by (λ b. b.length) (λ b. b.address)

-- A pattern with an open source.
abbrev pub pattern : (in_port : Option ℕ) (address length : ℕ) (protocol port : Option ℕ) → PatternRow
pattern in_port address length protocol port = record {
  in_port = in_port;
  source = block 0 0;
  destination = block address length;
  protocol = protocol;
  destination_port = port;
}

pub record Worked : Type 0 where
  -- 10.1.0.0/16 and 10.1.128.0/17 meet in the second
  pub prefixes_meet : meet (block 0x0a01_0000 16) (block 0x0a01_8000 17) ≡ Some (block 0x0a01_8000 17)
  -- 10.0.0.0/9 and 10.128.0.0/9 don't meet
  pub prefixes_apart : meet (block 0x0a00_0000 9) (block 0x0a80_0000 9) ≡ None
  -- the example's series: adds, barriers, stamps, barriers, removes, barriers, each to switch 0, then 1
  pub example_series :
      series 2 site_ports site_rules 1 2
      ≡ add 2 (site_rule 0 2) false ∷ add 2 (site_rule 1 1) true
      ∷ barrier 0 ∷ barrier 1
      ∷ stamp 0 1 2 ∷ stamp 1 1 2
      ∷ barrier 0 ∷ barrier 1
      ∷ remove 0 1 ∷ remove 1 1
      ∷ barrier 0 ∷ barrier 1 ∷ []
  -- with no rule, no edge port and one switch the series has 4 messages
  pub smallest_series : (ports : List PortUse) (old new : ℕ) → edge_ports_of 1 ports ≡ [] → length (series 1 ports [] old new) ≡ 4
  -- the adds of the example take 80 and 88 bytes
  pub example_adds : (xid : ℕ) → (length (wire (message (add 2 (site_rule 0 2) false)) xid) ≡ 80) × (length (wire (message (add 2 (site_rule 1 1) true)) xid) ≡ 88)
  -- the wildcards of a wholly open pattern
  pub open_wildcards : wildcards_of (pattern None 0 0 None None) ≡ 0x3820ED
  -- and of in-port 3, destination 10.1.0.0/16, protocol 6 and destination port 443
  pub fixed_wildcards : wildcards_of (pattern (Some 3) 0x0a01_0000 16 (Some 6) (Some 443)) ≡ 0x34204C

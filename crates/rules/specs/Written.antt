-- A rule pattern as its row of numbers.
use Rattle.std.specs.Prelude.{ℕ, Option}
use Rattle.std.specs.Option.{option_map}
use Rattle.patterns.specs.declared.pair.Pair.{Pair}
use Rattle.patterns.specs.declared.port.Port.{Port}
use Rattle.patterns.specs.declared.prefix.Prefix.{Prefix}
use Rattle.rules.specs.declared.row.Block.{Block}
use Rattle.rules.specs.declared.row.PatternRow.{PatternRow}

abbrev pub port_numbers : Option Port → Option ℕ
port_numbers = option_map (λ p. p.number)

abbrev pub block_of : Prefix → Block
block_of p = record { address = p.address; length = p.length }

abbrev pub RulePattern : Type 0
RulePattern = Pair (Option Port) (Pair Prefix (Pair Prefix (Pair (Option ℕ) (Option ℕ))))

abbrev pub numbers_of : RulePattern → PatternRow
numbers_of p = record {
  in_port = port_numbers p.0;
  source = block_of p.1.0;
  destination = block_of p.1.1.0;
  protocol = p.1.1.1.0;
  destination_port = p.1.1.1.1;
}

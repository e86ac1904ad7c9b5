-- Which packets the numbers of a rule pattern admit, and when two of them meet. A packet is its in-port and its header.
use Rattle.std.specs.Prelude.{◌≡◌, ℕ, ◌^◌, ◌<◌, ◌≤◌, Bool, true, ◌&&◌, nat_eq}
use Rattle.patterns.specs.Numbers.{admits_number}
use Rattle.patterns.specs.Prefixes.{same_start}
use Rattle.rules.specs.declared.header.Header.{Header}
use Rattle.rules.specs.declared.row.Block.{Block}
use Rattle.rules.specs.declared.row.PatternRow.{PatternRow}
use Rattle.rules.specs.declared.row.Row.{Row}

abbrev pub in_block : Block → ℕ → Bool
in_block b x = same_start b.length b.address x

abbrev pub admits : PatternRow → ℕ → Header → Bool
admits p port h =
    admits_number nat_eq p.in_port port
    && (in_block p.source h.source
    && (in_block p.destination h.destination
    && (admits_number nat_eq p.protocol h.protocol
    && admits_number nat_eq p.destination_port h.destination_port)))

-- The port is one of a switch, and the header's numbers fit their types.
abbrev pub Packet : ℕ → Header → Type 0
Packet port h = ((1 ≤ port) × (port ≤ 16)) × (h.source < 2 ^ 32) × (h.destination < 2 ^ 32) × (h.protocol < 2 ^ 8) × (h.destination_port < 2 ^ 16)

-- Two patterns meet: some packet is admitted by both.
abbrev pub Meeting : PatternRow → PatternRow → Type 0
Meeting a b = (port : ℕ) × (h : Header) × (Packet port h × ((admits a port h && admits b port h) ≡ true))

-- Two rules that may not stand in one configuration: one switch, equal priority, and patterns that meet.
abbrev pub Clash : Row → Row → Type 0
Clash a b = (a.switch ≡ b.switch) × (a.priority ≡ b.priority) × Meeting a.pattern b.pattern

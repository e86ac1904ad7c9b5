-- The limits of a rule: which rows make one, and which refusal the others get.
use Rattle.std.specs.Prelude.{◌≡◌, ℕ, Bool, false, ◌||◌, is_some, Some, None, Option, ◌==◌, nat_le}
use Rattle.std.specs.Option.{option_or}
use Rattle.refusals.specs.Tests.{unless}
use Rattle.patterns.specs.Limits.{is_port, is_length, ends_in_zeros}
use Rattle.rules.specs.declared.row.Action.{Action}
use Rattle.rules.specs.declared.row.Action.TheVariants.{Drop, Out}
use Rattle.rules.specs.declared.row.Block.{Block}
use Rattle.rules.specs.declared.row.Row.{Row}
use Rattle.rules.specs.declared.fault.RuleFault.{RuleFault}
use Rattle.rules.specs.declared.fault.RuleFault.TheVariants as fault

abbrev pub switch_fault : ℕ → Option RuleFault
switch_fault s = unless (nat_le s 15) (fault.Switch s)

abbrev pub in_port_fault : Option ℕ → Option RuleFault
in_port_fault None = None
in_port_fault (Some p) = unless (is_port p) (fault.InPort p)

abbrev pub length_fault : Block → Option RuleFault
length_fault b = unless (is_length b.length) (fault.Length b.length)

abbrev pub bits_fault : Block → Option RuleFault
bits_fault b = unless (ends_in_zeros b.address b.length) (fault.StrayBit b.address b.length)

-- TCP and UDP have ports.
abbrev pub has_ports : Option ℕ → Bool
has_ports None = false
has_ports (Some q) = q == 6 || q == 17

abbrev pub transport_fault : Option ℕ → Option ℕ → Option RuleFault
transport_fault protocol None = None
transport_fault protocol (Some p) = unless (has_ports protocol) (fault.PortWithoutTransport p protocol)

abbrev pub out_port_fault : Action → Option RuleFault
out_port_fault Drop = None
out_port_fault (Out p) = unless (is_port p) (fault.OutPort p)

-- The refusal of a row, in the order in which the tests are made; none where it makes a rule.
abbrev pub row_fault : Row → Option RuleFault
row_fault r =
    option_or (switch_fault r.switch) (
    option_or (in_port_fault r.pattern.in_port) (
    option_or (length_fault r.pattern.source) (
    option_or (length_fault r.pattern.destination) (
    option_or (bits_fault r.pattern.source) (
    option_or (bits_fault r.pattern.destination) (
    option_or (transport_fault r.pattern.protocol r.pattern.destination_port)
    (out_port_fault r.action)))))))

-- The row makes a rule.
abbrev pub Makes : Row → Type 0
Makes r = is_some (row_fault r) ≡ false

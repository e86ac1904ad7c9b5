-- The number of each refusal of a rule or a tag.
use Rattle.std.specs.Prelude.{ℕ}
use Rattle.rules.specs.declared.fault.RuleFault.{RuleFault}
use Rattle.rules.specs.declared.fault.RuleFault.TheVariants as fault
use Rattle.rules.specs.declared.fault.TagFault.{TagFault}

abbrev pub rule_number : RuleFault → ℕ
rule_number (fault.Switch s) = 21
rule_number (fault.InPort p) = 22
rule_number (fault.Length l) = 23
rule_number (fault.StrayBit a l) = 24
rule_number (fault.PortWithoutTransport p q) = 25
rule_number (fault.OutPort p) = 26

abbrev pub tag_number : TagFault → ℕ
tag_number f = 29

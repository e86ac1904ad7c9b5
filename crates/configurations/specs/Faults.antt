-- The number of each refusal of a configuration.
use Rattle.std.specs.Prelude.{ℕ}
use Rattle.rules.specs.Faults.{rule_number}
use Rattle.configurations.specs.declared.fault.ConfigurationFault.{ConfigurationFault}
use Rattle.configurations.specs.declared.fault.ConfigurationFault.TheVariants as fault

abbrev pub configuration_number : ConfigurationFault → ℕ
configuration_number (fault.TooMany n) = 31
configuration_number (fault.Row place f) = rule_number f
configuration_number (fault.Clash later earlier) = 32

-- The number of the refusal of writing.
use Rattle.std.specs.Prelude.{ℕ}
use Rattle.openflow.specs.declared.fault.WriteFault.{WriteFault}

abbrev pub write_number : WriteFault → ℕ
write_number f = 11

-- The number of each refusal of reading.
use Rattle.std.specs.Prelude.{ℕ}
use Rattle.decoding.specs.declared.fault.ReadFault.{ReadFault}
use Rattle.decoding.specs.declared.fault.ReadFault.TheVariants as fault

abbrev pub read_number : ReadFault → ℕ
read_number (fault.Switch s) = 21
read_number (fault.Short n) = 1
read_number (fault.Version v) = 2
read_number (fault.Type t) = 3
read_number (fault.Length l) = 4
read_number fault.NoWriting = 5

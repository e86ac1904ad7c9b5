-- Values that carry their limits are told by their numbers: the proofs in them do not differ.
use Rattle.std.specs.Prelude.{◌≡◌, ℕ, ◌≤◌}
use mathlib.Core.HLevel.{is_prop→PathP}
use Rattle.std.proofs.Math.Bridge.{le_prop}
use Rattle.patterns.specs.declared.port.Port.{Port}

pub between : (low high n : ℕ) → IsProp ((low ≤ n) × (n ≤ high))
between low high n x y = λ j. (le_prop x.0 y.0 j, le_prop x.1 y.1 j)

pub port_told : (a b : Port) → a.number ≡ b.number → a ≡ b
port_told a b p = λ i. record { number = p i; ok = is_prop→PathP (λ i. (1 ≤ p i) × (p i ≤ 16)) (λ i. between 1 16 (p i)) a.ok b.ok i }

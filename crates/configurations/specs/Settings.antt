-- Which lists of rows are configurations, and which refusal the others get.
use Rattle.std.specs.Prelude.{◌≡◌, ℕ, ◌<◌, ◌≤◌, false, List, length, is_some, Some, Option}
use Rattle.std.specs.Option.{option_map, option_flatten}
use Rattle.std.specs.List.{slice_get}
use Rattle.rules.specs.declared.fault.RuleFault.{RuleFault}
use Rattle.rules.specs.declared.row.Row.{Row}
use Rattle.rules.specs.Limits.{row_fault}
use Rattle.rules.specs.Admits as rules
use Rattle.configurations.specs.declared.fault.ConfigurationFault.{ConfigurationFault}
use Rattle.configurations.specs.declared.fault.ConfigurationFault.TheVariants as fault

-- The row at a place, counted from 0.
abbrev pub Stands : List Row → ℕ → Row → Type 0
Stands rows k r = slice_get rows k ≡ Some r

-- The refusal of the row at a place, if it makes no rule.
abbrev pub fault_at : List Row → ℕ → Option RuleFault
fault_at rows k = option_flatten (option_map row_fault (slice_get rows k))

-- Each row before place n makes a rule.
abbrev pub MakeBefore : List Row → ℕ → Type 0
MakeBefore rows n = (k : ℕ) → k < n → is_some (fault_at rows k) ≡ false

-- The rows at two places clash.
abbrev pub ClashAt : List Row → ℕ → ℕ → Type 0
ClashAt rows i j = (a : Row) × (b : Row) × Stands rows i a × Stands rows j b × rules.Clash a b

-- No row before place n clashes with the one at `later`.
abbrev pub ClearOf : List Row → ℕ → ℕ → Type 0
ClearOf rows later n = (i : ℕ) → (i < n) × ClashAt rows i later → ⊥

-- No two rows before place n clash.
abbrev pub ClearBefore : List Row → ℕ → Type 0
ClearBefore rows n = (i j : ℕ) → (i < j) × (j < n) × ClashAt rows i j → ⊥

-- At most 256 rows, each of which makes a rule, and no two of which clash.
abbrev pub Sound : List Row → Type 0
Sound rows = (length rows ≤ 256) × MakeBefore rows (length rows) × ClearBefore rows (length rows)

-- What each refusal says: which tests before it passed, and the lowest places.
abbrev pub Refused : List Row → ConfigurationFault → Type 0
Refused rows (fault.TooMany n) = (256 < length rows) × (n ≡ length rows)
Refused rows (fault.Row place f) = (length rows ≤ 256) × MakeBefore rows place × (fault_at rows place ≡ Some f)
Refused rows (fault.Clash later earlier) = (length rows ≤ 256) × MakeBefore rows (length rows) × ClearBefore rows later × ClearOf rows later earlier × (earlier < later) × ClashAt rows earlier later

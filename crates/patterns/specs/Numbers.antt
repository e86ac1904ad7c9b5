-- Number patterns: one number, or all. `same` tells whether two numbers are equal.
use Rattle.std.specs.Prelude.{Bool, true, Some, None, Option, if◌then◌else◌}

abbrev pub admits_number : {N : Type 0} → (N → N → Bool) → Option N → N → Bool
admits_number same None x = true
admits_number same (Some v) x = same v x

abbrev pub meet_number : {N : Type 0} → (N → N → Bool) → Option N → Option N → Option (Option N)
meet_number same None b = Some b
meet_number same (Some v) None = Some (Some v)
meet_number same (Some v) (Some w) = if same v w then Some (Some v) else None

-- The number of a pattern, if it is fixed, can be held by its type.
abbrev pub fixed_fits : {N : Type 0} → (N → Type 0) → Option N → Type 0
fixed_fits fits None = Unit {0}
fixed_fits fits (Some v) = fits v

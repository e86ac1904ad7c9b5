-- Prefix patterns over addresses of 32 bits.
use Rattle.std.specs.Prelude.{ℕ, ◌-◌, ◌/◌, ◌^◌, Bool, cond, Some, None, Option, ◌==◌, nat_le}

-- The first `length` bits of two addresses are equal.
abbrev pub same_start : ℕ → ℕ → ℕ → Bool
same_start length a x = a / 2 ^ (32 - length) == x / 2 ^ (32 - length)

-- Two prefixes meet in the longer one if it begins as the shorter does, and otherwise not.
abbrev pub meet_by : {P : Type 0} → (P → ℕ) → (P → ℕ) → P → P → Option P
meet_by length address a b =
    cond (nat_le (length a) (length b))
    (cond (same_start (length a) (address a) (address b)) (Some b) None)
    (cond (same_start (length b) (address b) (address a)) (Some a) None)

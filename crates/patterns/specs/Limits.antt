-- The limits of ports and prefixes.
use Rattle.std.specs.Prelude.{ℕ, ◌-◌, ◌%◌, ◌^◌, Bool, ◌&&◌, ◌==◌, nat_le}

-- A port of a switch is 1 to 16.
abbrev pub is_port : ℕ → Bool
is_port p = nat_le 1 p && nat_le p 16

-- A prefix has at most 32 bits, and no bit after them is one.
abbrev pub is_length : ℕ → Bool
is_length l = nat_le l 32

abbrev pub ends_in_zeros : ℕ → ℕ → Bool
ends_in_zeros address length = address % 2 ^ (32 - length) == 0

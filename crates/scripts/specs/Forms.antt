-- What a line of a script says: decimal digits, a space, and then `-` or pairs of hex digits.
use Rattle.std.specs.Prelude.{ℕ, ◌+◌, ◌*◌, min, cond, if◌then◌else◌, List, [], ◌∷◌, Some, None, Option, ◌==◌}
use Rattle.std.specs.Char.{digit_value, is_digit}
use Rattle.std.specs.Str.Parse.{digits_value}
use Rattle.std.specs.Str.{all_ascii_digits}
use Rattle.patterns.specs.Pairs.{both_some}
use Rattle.scripts.specs.Splits.{split}

-- The decimal value of one or more digits, with 255 for all above it.
abbrev pub switch_value : List ℕ → Option ℕ
switch_value [] = None
switch_value (c ∷ cs) = cond (all_ascii_digits (c ∷ cs)) (Some (min 255 (digits_value 10 (c ∷ cs)))) None

-- The value of a hex digit: 0 to 9, a to f, or A to F.
abbrev pub hex_digit_value : ℕ → Option ℕ
hex_digit_value c = if is_digit c 16 then Some (digit_value c) else None

abbrev pub pair_value : ℕ → ℕ → Option ℕ
pair_value high low = both_some (λ h l. h * 16 + l) (hex_digit_value high) (hex_digit_value low)

-- A byte for each two hex digits.
abbrev pub pairs_value : List ℕ → Option (List ℕ)
pairs_value [] = Some []
pairs_value (c ∷ []) = None
pairs_value (c ∷ (d ∷ cs)) = both_some ◌∷◌ (pair_value c d) (pairs_value cs)

-- A dash says that there are no bytes.
abbrev pub bytes_value : List ℕ → Option (List ℕ)
bytes_value [] = None
bytes_value (c ∷ []) = cond (c == 45) (Some []) None
bytes_value (c ∷ (d ∷ cs)) = pairs_value (c ∷ (d ∷ cs))

-- What stands before the space is the switch, and what stands after it the bytes.
abbrev pub entry_value : Option (List ℕ × List ℕ) → Option (ℕ × List ℕ)
entry_value None = None
entry_value (Some p) = both_some (λ switch bytes. (switch, bytes)) (switch_value p.0) (bytes_value p.1)

abbrev pub parsed : List ℕ → Option (ℕ × List ℕ)
parsed line = entry_value (split 32 line)

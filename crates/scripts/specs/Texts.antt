-- The text of a line of a script: `switch hex`, or `switch -` where there are no bytes.
use Rattle.std.specs.Prelude.{ℕ, ◌+◌, ◌/◌, ◌%◌, cond, List, [], ◌∷◌, ◌++◌, codes, decimal, nat_lt}
use Rattle.std.specs.List.{flat_map}

-- A digit from 0 to 9 or from a to f.
abbrev pub digit_char : ℕ → ℕ
digit_char n = cond (nat_lt n 10) (48 + n) (87 + n)

abbrev pub byte_text : ℕ → List ℕ
byte_text b = digit_char (b / 16) ∷ (digit_char (b % 16) ∷ [])

abbrev pub bytes_text : List ℕ → List ℕ
bytes_text [] = codes "-"
bytes_text (b ∷ bs) = flat_map byte_text (b ∷ bs)

abbrev pub entry_text : ℕ → List ℕ → List ℕ
entry_text switch bytes = decimal switch ++ (codes " " ++ bytes_text bytes)

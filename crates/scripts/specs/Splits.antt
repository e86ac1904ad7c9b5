-- A text cut in two at a mark, and a text cut into lines.
use Rattle.std.specs.Prelude.{◌≡◌, ℕ, ◌+◌, ◌<◌, cond, List, [], ◌∷◌, length, take, drop, position, Some, None, Option, ◌==◌}
use Rattle.std.specs.Option.{option_map, unwrap_or}

-- What stands before the first mark, and what after it.
abbrev pub split : ℕ → List ℕ → Option (List ℕ × List ℕ)
split mark cs = option_map (λ i. (take i cs, drop (i + 1) cs)) (position (λ c. c == mark) cs)

-- Without a carriage return at the end.
abbrev pub chomped : List ℕ → List ℕ
chomped [] = []
chomped (c ∷ []) = cond (c == 13) [] (c ∷ [])
chomped (c ∷ (d ∷ cs)) = c ∷ chomped (d ∷ cs)

-- The first line and what follows it: a line ends before a line feed, or with the text.
abbrev pub first_line : List ℕ → Option (List ℕ × List ℕ)
first_line [] = None
first_line (c ∷ cs) = let parts = unwrap_or (split 10 (c ∷ cs)) (c ∷ cs, []) in Some (chomped parts.0, parts.1)

-- A line comes off a text and leaves the rest, which is shorter, or none does, and the text is as it was.
abbrev pub TakesLine : (text : List ℕ) → (line : Option (List ℕ)) → (rest : List ℕ) → Type 0
TakesLine text None rest = (first_line text ≡ None) × (rest ≡ text)
TakesLine text (Some line) rest = (first_line text ≡ Some (line, rest)) × (length rest < length text)

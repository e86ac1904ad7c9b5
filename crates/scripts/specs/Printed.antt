-- What becomes of entries that are printed.
use Rattle.std.specs.Prelude.{◌≡◌, ℕ, ◌<◌, List, [], ◌∷◌, ◌++◌, Some, None}
use Rattle.std.specs.List.{flat_map, AllByRecursion}
use Rattle.scripts.specs.Forms.{parsed}
use Rattle.scripts.specs.Splits.{first_line}
use Rattle.scripts.specs.Texts.{entry_text}

-- A switch and bytes, each of which fits a byte.
abbrev pub ByteSized : ℕ × List ℕ → Type 0
ByteSized e = (e.0 < 256) × AllByRecursion (λ b. b < 256) e.1

-- The text of an entry says that entry.
abbrev pub EntriesReturn : Type 0
EntriesReturn = (switch : ℕ) (bytes : List ℕ) → ByteSized (switch, bytes) → parsed (entry_text switch bytes) ≡ Some (switch, bytes)

-- Each entry on a line of its own.
abbrev pub script_text : List (ℕ × List ℕ) → List ℕ
script_text entries = flat_map (λ e. entry_text e.0 e.1 ++ (10 ∷ [])) entries

-- The lines of a text say these entries, in this order, and there is no other line.
abbrev pub Says : List (ℕ × List ℕ) → List ℕ → Type 0
Says [] text = first_line text ≡ None
Says (e ∷ es) text = (line : List ℕ) × (rest : List ℕ) × (first_line text ≡ Some (line, rest)) × (parsed line ≡ Some e) × Says es rest

abbrev pub ScriptsReturn : Type 0
ScriptsReturn = (entries : List (ℕ × List ℕ)) → AllByRecursion ByteSized entries → Says entries (script_text entries)

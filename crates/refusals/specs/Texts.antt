-- The text of a refusal.
use Rattle.std.specs.Prelude.{ℕ, List, ◌++◌, codes, decimal}

abbrev pub refused_text : ℕ → List ℕ
refused_text number = codes "refused " ++ decimal number

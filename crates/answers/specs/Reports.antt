-- What is reported of a script: a line for each of its lines, in order.
use Rattle.std.specs.Prelude.{◌≡◌, ℕ, ◌+◌, List, [], ◌∷◌, ◌++◌, Some, None, codes, decimal, Option, Result}
use Rattle.decoding.specs.Reading.{Reads}
use Rattle.decoding.specs.declared.fault.ReadFault.{ReadFault}
use Rattle.decoding.specs.declared.received.Received.{Received}
use Rattle.scripts.specs.Forms.{parsed}
use Rattle.scripts.specs.Splits.{first_line}
use Rattle.answers.specs.Texts.{answer_text}

-- A line that says a switch and bytes is reported by what reading them answers, any other by its number.
abbrev pub Said : (number : ℕ) → Option (ℕ × List ℕ) → (text : List ℕ) → Type 0
Said number None text = text ≡ codes "bad line " ++ decimal number
Said number (Some e) text = (a : Result Received ReadFault) × (Reads e.0 e.1 a × (text ≡ answer_text a))

abbrev pub LineReport : (number : ℕ) (line text : List ℕ) → Type 0
LineReport number line text = Said number (parsed line) text

-- The report of a script whose first line has a number. Each of its lines ends with a line feed.
pub data Report : (number : ℕ) (script text : List ℕ) → Type 0 where
  ends : {number : ℕ} {script : List ℕ} → first_line script ≡ None → Report number script []
  goes_on : {number : ℕ} {script text : List ℕ} (line rest said : List ℕ) → first_line script ≡ Some (line, rest) → LineReport number line said → Report (number + 1) rest text → Report number script (said ++ (10 ∷ text))

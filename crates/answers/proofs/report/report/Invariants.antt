use Rattle.std.proofs.Common.{ℕ, ◌+◌, ◌≤◌, List, ◌++◌, length, string_bytes}
use Rattle.answers.specs.Reports.{Report}
use Rattle.answers.proofs.report.report.Given as goal

-- No line is shorter than what it ends with, and the text so far, with the report of what is left, is the report.
abbrev pub invariant-loop-number : goal.invariant-loop-number
invariant-loop-number l =
    let number = l.number-iterator.a.start in
    let left = l.number-iterator.b.0.now in
    (number + length left ≤ length l.script + 1) × ((more : List ℕ) → Report number left more → Report 1 l.script (string_bytes l.text ++ more))

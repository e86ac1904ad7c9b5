-- Which refusal a test gives.
use Rattle.std.specs.Prelude.{Bool, Some, None, Option, if◌then◌else◌}

-- The refusal where the test fails.
abbrev pub unless : {F : Type 0} → Bool → F → Option F
unless test refusal = if test then None else Some refusal

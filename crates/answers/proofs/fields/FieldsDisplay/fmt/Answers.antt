use Rattle.std.proofs.Common.{◌≡◌, ℕ, Some, decimal, refl, None, Option}
use Rattle.answers.specs.Texts.{number_output, number_text}
use Rattle.answers.proofs.fields.FieldsDisplay.fmt.Goals as goal

decimal_output : (number : Option ℕ) → number_output (λ n. Some (decimal n)) number ≡ Some (number_text number)
decimal_output None = refl
decimal_output (Some n) = refl

pub returns-clause-writes : goal.returns-clause-writes
returns-clause-writes g c =
    let row = c.args.self.now.0 in
    rw (decimal_output row.in_port, decimal_output row.protocol, decimal_output row.destination_port) at c.write.ensures.writes

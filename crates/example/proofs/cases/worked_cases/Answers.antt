use Rattle.example.proofs.Worked.{worked}
use Rattle.example.proofs.cases.worked_cases.Goals as goal

pub returns : goal.returns
returns c = worked

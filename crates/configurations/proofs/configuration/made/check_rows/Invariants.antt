use Rattle.configurations.specs.Settings.{MakeBefore}
use Rattle.configurations.proofs.configuration.made.check_rows.Given as goal

abbrev pub invariant-loop-place : goal.invariant-loop-place
invariant-loop-place l = MakeBefore l.rows l.place

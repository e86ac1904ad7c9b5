use Rattle.configurations.specs.Settings.{ClearBefore}
use Rattle.configurations.proofs.configuration.made.Made.check_pairs.Given as goal

abbrev pub invariant-loop-later : goal.invariant-loop-later
invariant-loop-later l = ClearBefore l.self.rows.now l.later

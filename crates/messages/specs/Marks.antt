-- Which actions can carry a strip mark.
use Rattle.std.specs.Prelude.{Bool, true, false}
use Rattle.rules.specs.declared.row.Action.{Action}
use Rattle.rules.specs.declared.row.Action.TheVariants.{Drop, Out}

abbrev pub goes_out : Action → Bool
goes_out Drop = false
goes_out (Out p) = true

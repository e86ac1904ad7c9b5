use Rattle.plans.specs.Switches.{OnSwitches}
use Rattle.plans.proofs.plan.making.check_switches.Given as goal

abbrev pub invariant-loop-place : goal.invariant-loop-place
invariant-loop-place l = OnSwitches l.switches l.rows l.place

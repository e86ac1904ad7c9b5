-- The number of the refusal of a plan.
use Rattle.std.specs.Prelude.{ℕ}
use Rattle.plans.specs.declared.fault.PlanFault.{PlanFault}

abbrev pub plan_number : PlanFault → ℕ
plan_number f = 72

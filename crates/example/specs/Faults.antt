-- The number of a refusal to plan: that of the step that failed.
use Rattle.std.specs.Prelude.{ℕ}
use Rattle.topologies.specs.Faults.{topology_number}
use Rattle.configurations.specs.Faults.{configuration_number}
use Rattle.plans.specs.Faults.{plan_number}
use Rattle.example.specs.declared.fault.PlanningFault.{PlanningFault}
use Rattle.example.specs.declared.fault.PlanningFault.TheVariants as fault

abbrev pub planning_number : PlanningFault → ℕ
planning_number (fault.Topology f) = topology_number f
planning_number (fault.Configuration f) = configuration_number f
planning_number (fault.Plan f) = plan_number f

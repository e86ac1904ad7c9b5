-- Rules on the switches of a topology of n switches.
use Rattle.std.specs.Prelude.{◌≡◌, ℕ, ◌<◌, ◌≤◌, Bool, true, List, Some, None, Option, nat_lt}
use Rattle.std.specs.List.{slice_get}
use Rattle.rules.specs.declared.row.Row.{Row}
use Rattle.plans.specs.declared.fault.PlanFault.{PlanFault}

abbrev pub on_switch : ℕ → Option Row → Bool
on_switch n None = true
on_switch n (Some r) = nat_lt r.switch n

-- Each rule before place k is on one of the switches.
abbrev pub OnSwitches : ℕ → List Row → ℕ → Type 0
OnSwitches n rules k = (i : ℕ) → i < k → on_switch n (slice_get rules i) ≡ true

-- The lowest place of a rule that is not.
abbrev pub OffSwitches : ℕ → List Row → PlanFault → Type 0
OffSwitches n rules f = OnSwitches n rules f.place × ((r : Row) × (slice_get rules f.place ≡ Some r) × (n ≤ r.switch) × (r.switch ≡ f.switch))

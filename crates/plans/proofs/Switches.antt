-- No plan is refused whose rules are all on switches of the topology.
use Rattle.std.proofs.Common.{ℕ, List, length, sym, ap, ◌∙◌, arith}
use Rattle.std.proofs.lemmas.Bool.{ltb-true}
use Rattle.std.proofs.lemmas.Option.{slice_get_within}
use Rattle.rules.specs.declared.row.Row.{Row}
use Rattle.plans.specs.declared.fault.PlanFault.{PlanFault}
use Rattle.plans.specs.Switches.{on_switch, OnSwitches, OffSwitches}

pub never_off : (n : ℕ) (rules : List Row) (f : PlanFault) → OffSwitches n rules f → OnSwitches n rules (length rules) → ⊥
never_off n rules f (before, (r, at, off, is)) on =
    let below = ltb-true r.switch n (ap (on_switch n) (sym at) ∙ on f.place (slice_get_within rules f.place r at)) in
    omega arith

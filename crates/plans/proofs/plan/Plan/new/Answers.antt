use Rattle.std.proofs.Common.{length, subst, rules}
use Rattle.plans.specs.Switches.{OnSwitches}
use Rattle.plans.specs.Versions.{version_tag, other}
use Rattle.plans.proofs.Fences.{in_order}
use Rattle.plans.proofs.plan.Plan.new.Goals as goal

pub returns : goal.returns
returns c =
    let t = c.args.topology.now in
    let rows = c.args.configuration.rows.now in
    let on =
    subst (λ n. OnSwitches n rows (length rows)) c.switches.ensures
    (subst (λ rows. OnSwitches c.switches.result rows (length rows)) c.rows.ensures c.in_ok-check_switches.ensures) in
    record {
      value = search rules;
      order = in_order t.switches t.ports rows (version_tag c.args.in_force) (version_tag (other c.args.in_force)) on;
      granted = search rules;
    }

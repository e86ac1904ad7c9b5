use Rattle.std.proofs.Common.{◌≡◌, ap, ◌∙◌, rules as searched}
use Rattle.topologies.specs.declared.topology.Topology.{Topology}
use Rattle.plans.specs.Planned.{switches, ports, rules, planned}
use Rattle.plans.specs.Series.{series}
use Rattle.plans.specs.Versions.{version_tag, other}
use Rattle.plans.specs.declared.plan.Plan.{Plan}
use Rattle.plans.specs.declared.version.Version.TheVariants.{First}
use Rattle.example.specs.Site.{site_ports, site_rules}
use Rattle.example.proofs.planning.with_plan.Goals as goal

-- A plan of the example's parts posts the example's series.
example_series : (p : Plan) → switches p ≡ 2 → ports p ≡ site_ports → rules p ≡ site_rules → p.in_force ≡ First → planned p ≡ series 2 site_ports site_rules 1 2
example_series p n uses rows old = λ i. series (n i) (uses i) (rows i) (version_tag (old i)) (version_tag (other (old i)))

pub returns-clause-value : goal.returns-clause-value
returns-clause-value g c =
    let p = c.in_ok-plan.plan in
    let value = c.in_ok-plan.ensures.value in
    let topology = c.in_ok-topology.ensures.value in
    (p, example_series p (ap (λ (t : Topology). t.switches) value.0 ∙ topology.0) (ap (λ (t : Topology). t.ports) value.0 ∙ topology.1) (value.1 ∙ c.in_ok-set.ensures.answer.1 ∙ c.rows-rows.ensures) value.2, search searched)

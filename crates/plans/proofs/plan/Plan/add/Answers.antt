use Rattle.std.proofs.Common.{◌≡◌, ℕ, ◌&&◌, List, refl, ap, ◌∙◌}
use Rattle.patterns.proofs.Lists.{mapped_at}
use Rattle.rules.specs.declared.row.Action.{Action}
use Rattle.rules.specs.declared.row.Action.TheVariants.{Drop, Out}
use Rattle.rules.specs.declared.rule.Rule.{Rule}
use Rattle.rules.specs.declared.tag.Tag.{Tag}
use Rattle.topologies.specs.declared.spot.PortUse.{PortUse}
use Rattle.messages.specs.Marks.{goes_out}
use Rattle.plans.specs.Series.{to_edge_port, add_of}
use Rattle.plans.specs.Versions.{version_tag, other}
use Rattle.plans.proofs.plan.Plan.add.Goals as goal

-- A drop has no out port, so the mark that is left off was not set.
mark_stays : (n : ℕ) (ports : List PortUse) (switch : ℕ) (a : Action) → (goes_out a && to_edge_port n ports switch a) ≡ to_edge_port n ports switch a
mark_stays n ports switch Drop = refl
mark_stays n ports switch (Out p) = refl

pub returns : goal.returns
returns c =
    let p = c.args.self.now in
    let t = p.topology.now in
    let rule = c.in_ok-rule.rule in
    let tag : c.new.result.tag.number ≡ version_tag (other p.in_force) = ap (λ (t : Tag). t.number) c.new.ensures.0 ∙ c.tag.ensures ∙ ap version_tag c.other.ensures.value in
    let row : c.new.result.rule.row ≡ rule.row = ap (λ (r : Rule). r.row) c.new.ensures.1 in
    let strip : c.new.result.strip ≡ to_edge_port t.switches t.ports rule.row.switch rule.row.action =
    c.new.ensures.2 ∙ ap (λ b. goes_out rule.row.action && b) c.leaves-strip.ensures ∙ mark_stays t.switches t.ports rule.row.switch rule.row.action in
    rw (tag, row, strip) (mapped_at (add_of t.switches t.ports (version_tag (other p.in_force))) p.configuration.rows.now c.args.place _ c.in_ok-rule.ensures)

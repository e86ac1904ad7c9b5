use Rattle.std.proofs.Common.{sym, ◌∙◌, rules as searched}
use Rattle.patterns.proofs.Lists.{joined_at}
use Rattle.plans.specs.Planned.{switches, old_tag_of}
use Rattle.plans.specs.Series.{removes, barriers}
use Rattle.plans.proofs.Sizes.{length-removes}
use Rattle.plans.proofs.plan.Plan.collecting.Goals as goal

pub returns : goal.returns
returns c =
    let p = c.args.self.now in
    joined_at (removes (switches p) (old_tag_of p)) (barriers (switches p)) c.from.result c.args.place _ (length-removes (switches p) (old_tag_of p) ∙ sym (c.from.ensures ∙ c.switches.ensures))
    c.joined.ensures.front c.joined.ensures.back (λ e. search searched) (λ e. search searched)

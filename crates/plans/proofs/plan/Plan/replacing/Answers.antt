use Rattle.std.proofs.Common.{◌∙◌, arith, rules as searched}
use Rattle.patterns.proofs.Lists.{joined_at}
use Rattle.plans.specs.Planned.{switches, ports, rules, old_tag_of, new_tag_of}
use Rattle.plans.specs.Series.{flipping, collecting}
use Rattle.plans.proofs.Sizes.{length-flipping}
use Rattle.plans.proofs.plan.Plan.replacing.Goals as goal

pub returns : goal.returns
returns c =
    let p = c.args.self.now in
    joined_at (flipping (switches p) (ports p) (new_tag_of p)) (collecting (switches p) (old_tag_of p)) _ c.args.place _
    (length-flipping (switches p) (ports p) (rules p) (old_tag_of p) (new_tag_of p) ∙ omega arith)
    c.joined.ensures.front c.joined.ensures.back (λ e. search searched) (λ e. search searched)

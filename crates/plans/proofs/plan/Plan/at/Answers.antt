use Rattle.std.proofs.Common.{◌++◌, ◌∙◌, arith, rules as searched}
use Rattle.patterns.proofs.Lists.{joined_at}
use Rattle.plans.specs.Planned.{switches, ports, rules, old_tag_of, new_tag_of}
use Rattle.plans.specs.Series.{installing, flipping, collecting}
use Rattle.plans.proofs.Sizes.{length-installing}
use Rattle.plans.proofs.plan.Plan.at.Goals as goal

pub returns : goal.returns
returns c =
    let p = c.args.self.now in
    let rest = flipping (switches p) (ports p) (new_tag_of p) ++ collecting (switches p) (old_tag_of p) in
    joined_at (installing (switches p) (ports p) (rules p) (new_tag_of p)) rest _ c.args.place _
    (length-installing (switches p) (ports p) (rules p) (old_tag_of p) (new_tag_of p) ∙ omega arith)
    c.joined.ensures.front c.joined.ensures.back (λ e. search searched) (λ e. search searched)

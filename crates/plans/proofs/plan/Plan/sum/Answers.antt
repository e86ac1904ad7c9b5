use Rattle.std.proofs.Common.{sym, refl, ◌∙◌, arith, rules as searched}
use Rattle.plans.specs.Planned.{switches, ports, rules, old_tag_of, new_tag_of}
use Rattle.plans.proofs.Sizes.{length-series}
use Rattle.plans.proofs.plan.Plan.sum.Goals as goal

pub returns : goal.returns
returns c =
    let p = c.args.self.now in
    record { parts = search searched; whole = (omega arith ∙ sym (length-series (switches p) (ports p) (rules p) (old_tag_of p) (new_tag_of p)), refl) }

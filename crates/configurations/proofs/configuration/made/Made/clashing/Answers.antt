use Rattle.std.proofs.Common.{rules}
use borrow.Author.Tests.{tests}
use Rattle.std.proofs.lemmas.Iterator.{first_from_Range}
use Rattle.configurations.specs.Settings.{ClashAt}
use Rattle.configurations.proofs.Places.{clash_there, no_clash_there, lowest}
use Rattle.configurations.proofs.configuration.made.Made.clashing.Goals as goal

pub returns : goal.returns
returns c =
    let rows = c.args.self.now.rows.now in
    let later = c.args.later in
    lowest rows later c.find.result (first_from_Range _ _ _ _ (λ k. ClashAt rows k later) (λ k. ¬ ClashAt rows k later) c.find.ensures.ran (λ x q k. search (rules, tests, clash_there rows x later c.rule-rule.result.row c.rule-rule.ensures)) (λ x q k. search (rules, tests, no_clash_there rows x later c.rule-rule.result.row c.rule-rule.ensures)))

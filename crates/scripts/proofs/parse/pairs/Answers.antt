use Rattle.std.proofs.Common.{[], sym, ap, ◌∙◌, arith}
use Rattle.std.proofs.lemmas.Bool.Decides.{nat_tests}
use Rattle.scripts.proofs.Pairs.{none_odd, together, together_all}
use Rattle.scripts.proofs.parse.pairs.Goals as goal

pub returns-then-not-is_empty-clause-made : goal.returns-then-not-is_empty-clause-made
returns-then-not-is_empty-clause-made c = sym (none_odd c.args.text.now (grind (arith, nat_tests)))

pub loop-high-init : goal.loop-high-init
loop-high-init c =
    let all = together_all c.args.text.now (grind (arith, nat_tests)) in
    ap (λ bytes. together bytes c.as_chunks.result.0.now) c.new-bytes.ensures.items ∙ ap (together []) c.as_chunks.ensures.front ∙ all

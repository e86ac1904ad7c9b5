use Rattle.std.proofs.Common.{◌+◌, get_or, drop, sym, ◌∙◌, arith}
use Rattle.std.proofs.lemmas.List.{at_drop_more}
use Rattle.scripts.proofs.Switches.{after, after_digit}
use Rattle.scripts.proofs.parse.switch.Goals as goal

pub loop-d-preserved : goal.loop-d-preserved
loop-d-preserved c =
    let next = at_drop_more (after c.loop-d.n) c.args.digits.now c.loop-d.d-index 0 c.loop-d-test.true in
    let here = get_or c.args.digits.now c.loop-d.d-index 0 in
    let value = rw c.from.ensures at c.in_ok-value.ensures.value in
    let digit = after_digit c.loop-d.n c.saturating_add-n.result here (drop (c.loop-d.d-index + 1) c.args.digits.now) value.0 (omega (arith, value.1)) in
    (sym digit ∙ sym next ∙ c.loop-d.invariant.0, omega arith)

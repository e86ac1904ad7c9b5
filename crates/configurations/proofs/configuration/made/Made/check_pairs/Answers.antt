use Rattle.std.proofs.Common.{arith, rules}
use Rattle.configurations.proofs.Places.{ClearBefore_more}
use Rattle.configurations.proofs.configuration.made.Made.check_pairs.Goals as goal

pub loop-later-preserved : goal.loop-later-preserved
loop-later-preserved c = ClearBefore_more c.args.self.now.rows.now c.loop-later.later c.loop-later.invariant (search rules)

pub returns : goal.returns
returns c = let made = c.args.self.now in (made.few, made.made, λ i j (h, l, k). c.loop-later.invariant i j (h, omega arith, k))

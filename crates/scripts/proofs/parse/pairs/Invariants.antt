use Rattle.std.proofs.Common.{◌≡◌, drop, vec_items}
use Rattle.scripts.specs.Forms.{pairs_value}
use Rattle.scripts.proofs.Pairs.{together}
use Rattle.scripts.proofs.parse.pairs.Given as goal

abbrev pub invariant-loop-high : goal.invariant-loop-high
invariant-loop-high l = together (vec_items l.bytes) (drop l.high-index l.pairs) ≡ pairs_value l.text

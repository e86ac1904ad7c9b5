use Rattle.std.proofs.Common.{◌≡◌, ◌≤◌, drop}
use Rattle.scripts.proofs.Switches.{after}
use Rattle.scripts.proofs.parse.switch.Given as goal

abbrev pub invariant-loop-d : goal.invariant-loop-d
invariant-loop-d l = (after l.n (drop l.d-index l.digits) ≡ after 0 l.digits) × (l.n ≤ 255)

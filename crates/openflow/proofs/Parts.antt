-- Parts put one after another.
use Rattle.std.proofs.Common.{ℕ, List, ◌++◌, ap, ◌∙◌, append_assoc, arith, length-append}
use Rattle.openflow.specs.Frames.{contents, Grown}
use Rattle.openflow.specs.declared.frame.Frame.{Frame}

pub then : {a b c : Frame} {p q : List ℕ} → Grown a p b → Grown b q c → Grown a (p ++ q) c
then {a} {b} {c} {p} {q} g h = record {
  held = h.held ∙ ap (λ xs. xs ++ q) g.held ∙ append_assoc (contents a) p q;
  len = simp length-append (omega arith);
}

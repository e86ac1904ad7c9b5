use Rattle.std.proofs.Common.{◌≡◌, ℕ, is_some, IfSome, Some, None, Option, sym, ap, ◌∙◌, arith}
use Rattle.std.proofs.lemmas.Bool.{true≢false, and_from, le-leb}
use Rattle.patterns.specs.Limits.{is_port}
use Rattle.patterns.specs.declared.port.Port.{Port}
use Rattle.patterns.specs.Limited.{port_told}
use Rattle.decoding.proofs.telling.port.Goals as goal

made : (r : Option Port) (n : ℕ) → is_some r ≡ is_port n → IfSome r (λ p. p.number ≡ n) → (p : Port) → p.number ≡ n → r ≡ Some p
made (Some q) n t h p e = ap (λ (x : Port). Some x) (port_told q p (h ∙ sym e))
made None n t h p e = absurd (true≢false (sym (t ∙ and_from _ _ (le-leb 1 n (omega arith)) (le-leb n 16 (omega arith)))))

pub returns : goal.returns
returns c p e = made c.new.result _ c.new.ensures.test c.new.ensures.value p (omega (arith, c.low_byte.ensures))

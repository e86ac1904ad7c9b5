use Rattle.std.proofs.Common.{◌≡◌, ℕ, ◌≤◌, Some, MatchResult, Ok, Err, Result, sym, ap, ◌∙◌, subst}
use Rattle.std.specs.Result.{result_ok}
use Rattle.rules.specs.declared.fault.TagFault.{TagFault}
use Rattle.rules.specs.declared.tag.Tag.{Tag}
use Rattle.messages.proofs.Numbers as numbers
use Rattle.decoding.proofs.telling.tag.Goals as goal

made : (r : Result Tag TagFault) (n : ℕ) → MatchResult r (λ t. t.number ≡ n) (λ f. ¬ ((1 ≤ n) × (n ≤ 4094)) × (f.tag ≡ n)) → (t : Tag) → t.number ≡ n → result_ok r ≡ Some t
made (Ok u) n h t e = ap (λ (x : Tag). Some x) (numbers.tag u t (h ∙ sym e))
made (Err f) n h t e = absurd (h.0 (subst (λ k. (1 ≤ k) × (k ≤ 4094)) e t.ok))

pub returns : goal.returns
returns c t e = c.ok.ensures.value ∙ made c.new.result c.args.number c.new.ensures t e

use Rattle.std.proofs.Common.{◌≡◌, is_some, IfSome, IfOk, Some, Ok, Err, Result, sym, ap, ◌∙◌, subst}
use Rattle.std.proofs.lemmas.Bool.{true≢false}
use Rattle.std.specs.Result.{result_ok, result_err}
use Rattle.rules.specs.Limits.{row_fault}
use Rattle.rules.specs.declared.fault.RuleFault.{RuleFault}
use Rattle.rules.specs.declared.row.Row.{Row}
use Rattle.rules.specs.declared.rule.Rule.{Rule}
use Rattle.messages.proofs.Numbers as numbers
use Rattle.decoding.proofs.telling.rule.Goals as goal

told : (r : Result Rule RuleFault) (row : Row) → result_err r ≡ row_fault row → IfOk r (λ q. q.row ≡ row) → (q : Rule) → q.row ≡ row → result_ok r ≡ Some q
told (Ok p) row t h q e = ap (λ (x : Rule). Some x) (numbers.rule p q (h ∙ sym e))
told (Err f) row t h q e = absurd (true≢false (ap is_some (t ∙ ap row_fault (sym e)) ∙ q.ok))

held : (r : Result Rule RuleFault) (row : Row) → IfOk r (λ q. q.row ≡ row) → IfSome (result_ok r) (λ q. q.row ≡ row)
held (Ok q) row h = h
held (Err f) row h = tt

pub returns : goal.returns
returns c = record {
  told = λ q e. c.ok.ensures.value ∙ told c.new.result c.args.row c.new.ensures.refusal c.new.ensures.value q e;
  value = subst (λ r. IfSome r (λ q. q.row ≡ c.args.row)) (sym c.ok.ensures.value) (held c.new.result c.args.row c.new.ensures.value);
}

-- What stands at a place that code reads, one place more without a clash, and that no configuration is refused.
use Rattle.std.proofs.Common.{◌≡◌, ℕ, ◌+◌, ◌<◌, ◌≤◌, true, false, List, length, get_or, is_some, is_ok, Some, Ok, Err, None, MatchOption, Option, Result, sym, refl, ap, ◌∙◌, subst, inl, inr, arith, below_more}
use Rattle.std.proofs.lemmas.Option.{slice_get-get_or, slice_get_past, slice_get_within}
use Rattle.std.proofs.lemmas.Bool.{true≢false, false≢true, cases_lt}
use Rattle.std.specs.Option.{option_map, option_flatten}
use Rattle.std.specs.Result.{result_err}
use Rattle.rules.specs.declared.fault.RuleFault.{RuleFault}
use Rattle.rules.specs.declared.row.Row.{Row}
use Rattle.rules.specs.Limits.{row_fault}
use Rattle.rules.specs.Admits.{Clash}
use Rattle.configurations.specs.declared.fault.ConfigurationFault.{ConfigurationFault}
use Rattle.configurations.specs.declared.fault.ConfigurationFault.TheVariants as fault
use Rattle.configurations.specs.Settings.{Stands, fault_at, ClashAt, ClearOf, ClearBefore, Sound, Refused}

pub fault_read : (rows : List Row) (k : ℕ) (d : Row) → k < length rows → fault_at rows k ≡ row_fault (get_or rows k d)
fault_read rows k d h = ap (λ o. option_flatten (option_map row_fault o)) (slice_get-get_or rows k d h)

pub granted : {X E : Type 0} (r : Result X E) (o : Option E) → result_err r ≡ o → is_some o ≡ false → is_ok r ≡ true
granted (Ok x) o e f = refl
granted (Err x) o e f = absurd (true≢false (ap is_some e ∙ f))

module _ (rows : List Row) where
  pub no_clash : (i j : ℕ) (a b : Row) → Stands rows i a → Stands rows j b → ¬ Clash a b → ¬ ClashAt rows i j
  no_clash i j a b s t none (x, y, u, v, k) =
      let p : x ≡ a = cc in
      let q : y ≡ b = cc in
      none (subst (λ z. Clash z b) p (subst (λ z. Clash x z) q k))

  -- The lowest place that a search answers, in terms of the rules that it passed.
  pub lowest : (later : ℕ) (found : Option ℕ) → MatchOption found ((k : ℕ) → 0 ≤ k → k < later → ¬ ClashAt rows k later) (λ i. (0 ≤ i) × (i < later) × ClashAt rows i later × ((k : ℕ) → 0 ≤ k → k < i → ¬ ClashAt rows k later)) → MatchOption found (ClearOf rows later later) (λ i. (i < later) × ClearOf rows later i × ClashAt rows i later)
  lowest later None clear = λ k (h, e). clear k (omega arith) h e
  lowest later (Some i) (l, h, e, clear) = (h, λ k (h, e). clear k (omega arith) h e, e)

  pub ClearBefore_more : (n : ℕ) → ClearBefore rows n → ClearOf rows n n → ClearBefore rows (n + 1)
  ClearBefore_more n clear here i j (h, l, k) =
      below_more (λ j. (i : ℕ) → (i < j) × ClashAt rows i j → ⊥) n (λ j l i (h, k). clear i j (h, l, k)) here j l i (h, k)

  some_fault : (k : ℕ) {f : RuleFault} → fault_at rows k ≡ Some f → k < length rows
  some_fault k e =
      elim (cases_lt k (length rows)) [
        | inl h ↦ h
        | inr h ↦ absurd (false≢true (ap (λ o. is_some (option_flatten (option_map row_fault o))) (sym (slice_get_past rows k h)) ∙ ap is_some e))
      ]

  -- No refusal of a list that is a configuration.
  pub never_refused : (e : ConfigurationFault) → Refused rows e → Sound rows → ⊥
  never_refused (fault.TooMany n) (many, is) (few, made, clear) = omega arith
  never_refused (fault.Row place f) (short, before, here) (few, made, clear) = true≢false (ap is_some (sym here) ∙ made place (some_fault place here))
  never_refused (fault.Clash later earlier) (short, all, before, of, lt, (a, b, s, t, k)) (few, made, clear) =
      clear earlier later (lt, slice_get_within rows later b t, (a, b, s, t, k))

-- One call of the test that a search for a clash makes: the rule at a place against b, which stands at `later`.
module _ (rows : List Row) (i later : ℕ) (b : Row) (t : Stands rows later b) (a : Row) (s : Stands rows i a) where
  pub clash_there : Clash a b → ClashAt rows i later
  clash_there k = (a, b, s, t, k)

  pub no_clash_there : ¬ Clash a b → ¬ ClashAt rows i later
  no_clash_there none = no_clash rows i later a b s t none

-- The example is a configuration, on the switches of its topology.
use Rattle.std.proofs.Common.{◌≡◌, ℕ, zero, suc, List, length, sym, refl, subst, arith, lit≤}
use Rattle.rules.specs.declared.row.Row.{Row}
use Rattle.configurations.specs.Settings.{MakeBefore, ClearBefore, Sound}
use Rattle.plans.specs.Switches.{OnSwitches}
use Rattle.example.specs.Site.{site_rules}

made : MakeBefore site_rules (length site_rules)
made zero h = refl
made (suc zero) h = refl
made (suc (suc k)) h = refl

clear : ClearBefore site_rules (length site_rules)
clear zero zero (h, l, k) = absurd (omega (arith, h))
clear zero (suc zero) (h, l, (a, b, s, t, (same, level, meet))) = cc
clear zero (suc (suc j)) (h, l, k) = absurd (omega (arith, l))
clear (suc i) j (h, l, k) = absurd (omega (arith, h, l))

pub sound : Sound site_rules
sound = (lit≤ tt, made, clear)

on_switches : OnSwitches 2 site_rules (length site_rules)
on_switches zero h = refl
on_switches (suc zero) h = refl
on_switches (suc (suc k)) h = refl

pub planned_on : (n : ℕ) (rows : List Row) → n ≡ 2 → rows ≡ site_rules → OnSwitches n rows (length rows)
planned_on n rows e f = subst (λ n. OnSwitches n rows (length rows)) (sym e) (subst (λ (rows : List Row). OnSwitches 2 rows (length rows)) (sym f) on_switches)

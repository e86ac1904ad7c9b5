-- Number patterns: the meet admits what both admit, and where there is one, some number is admitted by both.
use Rattle.std.specs.Prelude.{◌≡◌, Bool, true, false, ◌&&◌, is_some, Some, None, Option, refl, if◌then◌else◌}
use Rattle.std.specs.Cmp.{IsEquivalence}
use Rattle.std.proofs.Common.{sym, ap, ◌∙◌}
use mathlib.Core.Bool.{and_self, and_comm}
use Rattle.std.proofs.lemmas.Bool.{false≢true, true≢false, and_from}
use Rattle.patterns.specs.Meets.{Meet}
use Rattle.patterns.specs.Numbers.{admits_number, meet_number, fixed_fits}
use Rattle.patterns.specs.Tests.{and_never}

module _ {N : Type 0} (same : N → N → Bool) (laws : IsEquivalence same) where
  fixed : (v w : N) (t : Bool) → same v w ≡ t → Meet (admits_number same) (Some v) (Some w) (if t then Some (Some v) else None)
  fixed v w true e = λ x. sym (and_self (same v x)) ∙ ap (λ t. same v x && t) (laws.congr v w x e)
  fixed v w false e = λ x. and_never (same v x) (same w x) (λ p q. true≢false (sym (laws.congr v x w p ∙ sym (laws.congr w x w q) ∙ laws.refl w) ∙ e))

  pub exact : (a b : Option N) → Meet (admits_number same) a b (meet_number same a b)
  exact None b = λ x. refl
  exact (Some v) None = λ x. and_comm true (same v x)
  exact (Some v) (Some w) = fixed v w (same v w) refl

  module _ (fits : N → Type 0) (sample : N) (held : fits sample) where
    abbrev pub Shared : Option N → Option N → Type 0
    Shared a b = (x : N) × (fits x × ((admits_number same a x && admits_number same b x) ≡ true))

    both_fixed : (v w : N) → fits v → (t : Bool) → same v w ≡ t → is_some (if t then Some (Some v) else None) ≡ true → Shared (Some v) (Some w)
    both_fixed v w f true e i = (v, (f, and_from _ _ (laws.refl v) (sym (laws.congr v w v e) ∙ laws.refl v)))
    both_fixed v w f false e i = absurd (false≢true i)

    pub shared : (a b : Option N) → fixed_fits fits a → fixed_fits fits b → is_some (meet_number same a b) ≡ true → Shared a b
    shared None None u v e = (sample, (held, refl))
    shared None (Some w) u v e = (w, (v, laws.refl w))
    shared (Some v) None u f e = (v, (u, and_from _ _ (laws.refl v) refl))
    shared (Some v) (Some w) u f e = both_fixed v w u (same v w) refl e

-- Prefixes: the longer of two that begin alike is their meet, and two that do not begin alike have none.
use Rattle.std.specs.Prelude.{◌≡◌, ℕ, ◌+◌, ◌-◌, ◌/◌, ◌^◌, ◌<◌, ◌≤◌, Bool, true, false, cond, ◌&&◌, is_some, Some, None, nat_le, refl}
use Rattle.std.proofs.Common.{sym, ap, ◌∙◌, arith}
use Rattle.std.proofs.Math.Bool.{and_comm}
use Rattle.std.proofs.lemmas.Bool.{eq-eqb, eqb-true, eqb-false, leb-true, leb-false, false≢true, and_from}
use Rattle.std.proofs.lemmas.Nat.{shr-shr}
use Rattle.patterns.specs.Meets.{Meet}
use Rattle.patterns.specs.Prefixes.{same_start, meet_by}
use Rattle.patterns.specs.Tests.{and_implied, and_never}

-- Equal first bits are equal at any shorter length.
shorter : (k l a x : ℕ) → k ≤ l → l ≤ 32 → a / 2 ^ (32 - l) ≡ x / 2 ^ (32 - l) → a / 2 ^ (32 - k) ≡ x / 2 ^ (32 - k)
shorter k l a x kl l32 e =
    let sum : 32 - k ≡ (32 - l) + (l - k) = omega arith in
    rw (sum, ← shr-shr a (32 - l) (l - k), ← shr-shr x (32 - l) (l - k)) (ap (λ n. n / 2 ^ (l - k)) e)

-- Here `k ≤ l`: the first prefix is the shorter one.
inside : (k l a b x : ℕ) → k ≤ l → l ≤ 32 → same_start k a b ≡ true → same_start l b x ≡ (same_start k a x && same_start l b x)
inside k l a b x kl l32 e = and_implied _ _ (λ q. eq-eqb _ _ (eqb-true _ _ e ∙ shorter k l b x kl l32 (eqb-true _ _ q)))

outside : (k l a b x : ℕ) → k ≤ l → l ≤ 32 → same_start k a b ≡ false → (same_start k a x && same_start l b x) ≡ false
outside k l a b x kl l32 e = and_never _ _ (λ p q. eqb-false _ _ e (eqb-true _ _ p ∙ sym (shorter k l b x kl l32 (eqb-true _ _ q))))

module _ {P : Type 0} (length : P → ℕ) (address : P → ℕ) where
  abbrev admits : P → ℕ → Bool
  admits p x = same_start (length p) (address p) x

  meet_tests : (a b : P) → length a ≤ 32 → length b ≤ 32 → (s t u : Bool) → nat_le (length a) (length b) ≡ s → admits a (address b) ≡ t → admits b (address a) ≡ u → Meet admits a b (cond s (cond t (Some b) None) (cond u (Some a) None))
  meet_tests a b ha hb true true u e f g = λ x. inside (length a) (length b) (address a) (address b) x (leb-true _ _ e) hb f
  meet_tests a b ha hb true false u e f g = λ x. outside (length a) (length b) (address a) (address b) x (leb-true _ _ e) hb f
  meet_tests a b ha hb false t true e f g = λ x. inside (length b) (length a) (address b) (address a) x (let h = leb-false _ _ e in omega arith) ha g ∙ and_comm (admits b x) (admits a x)
  meet_tests a b ha hb false t false e f g = λ x. and_comm (admits a x) (admits b x) ∙ outside (length b) (length a) (address b) (address a) x (let h = leb-false _ _ e in omega arith) ha g

  pub meet_exact : (a b : P) → length a ≤ 32 → length b ≤ 32 → Meet admits a b (meet_by length address a b)
  meet_exact a b ha hb = meet_tests a b ha hb _ _ _ refl refl refl

  self_admits : (p : P) → admits p (address p) ≡ true
  self_admits p = eq-eqb _ _ refl

  shared_tests : (a b : P) → address a < 2 ^ 32 → address b < 2 ^ 32 → (s t u : Bool) → admits a (address b) ≡ t → admits b (address a) ≡ u → is_some (cond s (cond t (Some b) None) (cond u (Some a) None)) ≡ true → (x : ℕ) × ((x < 2 ^ 32) × ((admits a x && admits b x) ≡ true))
  shared_tests a b ha hb true true u f g e = (address b, (hb, and_from _ _ f (self_admits b)))
  shared_tests a b ha hb true false u f g e = absurd (false≢true e)
  shared_tests a b ha hb false t true f g e = (address a, (ha, and_from _ _ (self_admits a) g))
  shared_tests a b ha hb false t false f g e = absurd (false≢true e)

  pub meet_shared : (a b : P) → address a < 2 ^ 32 → address b < 2 ^ 32 → is_some (meet_by length address a b) ≡ true → (x : ℕ) × ((x < 2 ^ 32) × ((admits a x && admits b x) ≡ true))
  meet_shared a b ha hb e = shared_tests a b ha hb _ _ _ refl refl e

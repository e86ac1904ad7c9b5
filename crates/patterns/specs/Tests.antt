-- Laws of `&&`, and of two options that are there.
use Rattle.std.specs.Prelude.{◌≡◌, Bool, true, false, ◌&&◌, is_some, Some, None, Option, ◌≢◌, refl}
use Rattle.std.proofs.Common.{sym}
use Rattle.std.proofs.lemmas.Bool.{false≢true, and_parts, and_from}
use Rattle.patterns.specs.Pairs.{both_some}

pub and_implied : (p q : Bool) → (q ≡ true → p ≡ true) → q ≡ (p && q)
and_implied true q h = refl
and_implied false true h = sym (h refl)
and_implied false false h = refl

pub and_never : (p q : Bool) → (p ≡ true → q ≢ true) → (p && q) ≡ false
and_never true true h = absurd (h refl refl)
and_never true false h = refl
and_never false q h = refl

-- Tests on two pairs: by pair, or by half.
pub and_halves : (p q r s : Bool) → (p && q) ≡ true → (r && s) ≡ true → ((p && r) && (q && s)) ≡ true
and_halves p q r s e f =
    let (a, b) = and_parts p q e in
    let (c, d) = and_parts r s f in
    and_from (p && r) (q && s) (and_from p r a c) (and_from q s b d)

pub some_halves : {A B C : Type 0} (f : A → B → C) (u : Option A) (v : Option B) → is_some (both_some f u v) ≡ true → (is_some u ≡ true) × (is_some v ≡ true)
some_halves f None v e = absurd (false≢true e)
some_halves f (Some x) None e = absurd (false≢true e)
some_halves f (Some x) (Some y) e = (refl, refl)

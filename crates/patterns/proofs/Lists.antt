-- What stands at a place of a list.
use Rattle.std.proofs.Common.{◌≡◌, ℕ, zero, suc, ◌+◌, ◌-◌, ◌<◌, ◌≤◌, List, [], ◌∷◌, ◌++◌, map, length, get_or, inl, inr, Some, Option, sym, refl, ap, ◌∙◌, subst, arith}
use Rattle.std.proofs.lemmas.List.FromFn.{length-range_with_len, get_or-range_with_len}
use Rattle.std.proofs.ByRecursion.{All-get_or}
use Rattle.std.proofs.lemmas.Option.{slice_get-get_or, slice_get_within, slice_get-map}
use Rattle.std.proofs.lemmas.Bool.{cases_lt}
use Rattle.std.specs.List.{range_with_len, AllByRecursion, slice_get}
use Rattle.std.specs.Option.{option_map}

pub slice_get_front : {X : Type 0} (xs ys : List X) (k : ℕ) → k < length xs → slice_get (xs ++ ys) k ≡ slice_get xs k
slice_get_front [] ys k h = absurd (omega (arith, h))
slice_get_front (x ∷ xs) ys zero h = refl
slice_get_front (x ∷ xs) ys (suc k) h = slice_get_front xs ys k (omega (arith, h))

pub slice_get_back : {X : Type 0} (xs ys : List X) (k : ℕ) → length xs ≤ k → slice_get (xs ++ ys) k ≡ slice_get ys (k - length xs)
slice_get_back [] ys k h = ap (slice_get ys) (omega arith)
slice_get_back (x ∷ xs) ys zero h = absurd (omega (arith, h))
slice_get_back (x ∷ xs) ys (suc k) h = slice_get_back xs ys k (omega (arith, h)) ∙ ap (slice_get ys) (omega arith)

-- What is made of the element at a place is what stands there in the list of what is made.
pub mapped_at : {X Y : Type 0} (f : X → Y) (xs : List X) (k : ℕ) (o : Option X) → o ≡ slice_get xs k → option_map f o ≡ slice_get (map f xs) k
mapped_at f xs k o e = ap (option_map f) e ∙ sym (slice_get-map f xs k)

-- What stands at a place of a list in two parts, the first of which has n elements. P and Q say how it was found in each.
pub joined_at : {X P Q : Type 0} (xs ys : List X) (n k : ℕ) (o : Option X) → length xs ≡ n → (k < n → P) → (n ≤ k → Q) → (P → o ≡ slice_get xs k) → (Q → o ≡ slice_get ys (k - n)) → o ≡ slice_get (xs ++ ys) k
joined_at xs ys n k o long found after front back =
    elim (cases_lt k n) [
      | inl h ↦ front (found h) ∙ sym (slice_get_front xs ys k (rw long h))
      | inr h ↦ back (after h) ∙ sym (slice_get_back xs ys k (rw long h) ∙ ap (λ m. slice_get ys (k - m)) long)
    ]

-- Counting from 0, each number stands at its place.
pub slice_get-range_with_len : (n k : ℕ) → k < n → slice_get (range_with_len 0 n) k ≡ Some k
slice_get-range_with_len n k h = slice_get-get_or (range_with_len 0 n) k 0 (rw (length-range_with_len 0 n) h) ∙ ap Some (get_or-range_with_len 0 n k 0 h ∙ omega arith)

-- What holds of each element holds of the one at a place.
pub All-slice_get : {X : Type 0} (P : X → Type 0) (xs : List X) (k : ℕ) (x : X) → AllByRecursion P xs → slice_get xs k ≡ Some x → P x
All-slice_get P xs k x all e =
    let h = slice_get_within xs k x e in
    let is : get_or xs k x ≡ x = grind (arith, slice_get-get_or xs k x h) in
    subst P is (All-get_or P xs k x h all)

pub All_any : {X : Type 0} (P : X → Type 0) → ((x : X) → P x) → (xs : List X) → AllByRecursion P xs
All_any P p [] = tt
All_any P p (x ∷ xs) = (p x, All_any P p xs)

pub All-range_with_len : (a n m : ℕ) → a + n ≤ m → AllByRecursion (λ k. k < m) (range_with_len a n)
All-range_with_len a zero m h = tt
All-range_with_len a (suc n) m h = (omega arith, All-range_with_len (a + 1) n m (omega arith))

pub All_from_slice_get : {X : Type 0} (P : X → Type 0) (xs : List X) → ((k : ℕ) (x : X) → slice_get xs k ≡ Some x → P x) → AllByRecursion P xs
All_from_slice_get P [] f = tt
All_from_slice_get P (x ∷ xs) f = (f 0 x refl, All_from_slice_get P xs (λ k. f (suc k)))

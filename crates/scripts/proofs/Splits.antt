-- Where a text is cut.
use Rattle.std.proofs.Common.{◌≡◌, ℕ, ◌+◌, false, eqb, List, [], ◌∷◌, ◌++◌, length, take, drop, position, Some, unwrap_or, sym, refl, ap, ◌∙◌, append_assoc, arith, length-append}
use Rattle.std.proofs.lemmas.List.{take_at, drop_at, length_push}
use Rattle.std.proofs.lemmas.Bool.{false≢true, eq-eqb, ne_eqb, cond-false}
use Rattle.std.proofs.lemmas.Bool.Decides.{nat_tests}
use Rattle.std.specs.Option.{option_map}
use Rattle.std.specs.List.{AllByRecursion, position_or_len}
use Rattle.scripts.specs.Splits.{split, chomped, first_line}

-- None of them is the mark.
abbrev pub Lacks : ℕ → List ℕ → Type 0
Lacks mark cs = AllByRecursion (λ c. c ≡ mark → ⊥) cs

first_place : (mark : ℕ) (front rest : List ℕ) → Lacks mark front → position_or_len (λ c. eqb c mark) (front ++ (mark ∷ rest)) ≡ length front
first_place mark [] rest h = rw (eq-eqb mark mark refl)
first_place mark (c ∷ front) rest h = rw (ne_eqb c mark h.0, first_place mark front rest h.1) (omega arith)

found : (mark : ℕ) (front rest : List ℕ) → Lacks mark front → position (λ c. eqb c mark) (front ++ (mark ∷ rest)) ≡ Some (length front)
found mark front rest h =
    let at = first_place mark front rest h in
    grind (arith, nat_tests, length-append front (mark ∷ rest))

pub split_found : (mark : ℕ) (front rest : List ℕ) → Lacks mark front → split mark (front ++ (mark ∷ rest)) ≡ Some (front, rest)
split_found mark front rest h =
    let text = front ++ (mark ∷ rest) in
    let front_is = take_at front (mark ∷ rest) (length front) refl in
    let rest_is : drop (length front + 1) text ≡ rest = ap (drop (length front + 1)) (sym (append_assoc front (mark ∷ []) rest)) ∙ drop_at (front ++ (mark ∷ [])) rest (length front + 1) (length_push front mark) in
    ap (option_map (λ i. (take i text, drop (i + 1) text))) (found mark front rest h) ∙ rw (front_is, rest_is)

-- A carriage return at the end goes.
pub chomped_push : (cs : List ℕ) → chomped (cs ++ (13 ∷ [])) ≡ cs
chomped_push [] = refl
chomped_push (c ∷ []) = refl
chomped_push (c ∷ (d ∷ cs)) = ap (λ xs. c ∷ xs) (chomped_push (d ∷ cs))

pub chomped_other : (cs : List ℕ) → ((front : List ℕ) → cs ≡ front ++ (13 ∷ []) → ⊥) → chomped cs ≡ cs
chomped_other [] h = refl
chomped_other (c ∷ []) h = cond-false _ _ _ (ne_eqb c 13 (λ e. h [] (ap (λ x. x ∷ []) e)))
chomped_other (c ∷ (d ∷ cs)) h = ap (λ xs. c ∷ xs) (chomped_other (d ∷ cs) (λ front e. h (c ∷ front) (ap (λ xs. c ∷ xs) e)))

pub chomped_none : (cs : List ℕ) → Lacks 13 cs → chomped cs ≡ cs
chomped_none [] h = refl
chomped_none (c ∷ []) h = cond-false _ _ _ (ne_eqb c 13 h.0)
chomped_none (c ∷ (d ∷ cs)) h = ap (λ xs. c ∷ xs) (chomped_none (d ∷ cs) h.1)

pub first_line_is : (text : List ℕ) → false ≡ eqb (length text) 0 → (p : List ℕ × List ℕ) → split 10 text ≡ Some p → first_line text ≡ Some (chomped p.0, p.1)
first_line_is [] h p e = absurd (false≢true h)
first_line_is (c ∷ cs) h p e = ap (λ o. let parts = unwrap_or o (c ∷ cs, []) in Some (chomped parts.0, parts.1)) e

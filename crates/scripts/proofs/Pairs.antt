-- Reading bytes pair by pair.
use Rattle.std.proofs.Common.{◌≡◌, ◌≢◌, ℕ, zero, suc, ◌+◌, ◌*◌, ◌/◌, ◌%◌, ◌<◌, List, [], ◌∷◌, ◌++◌, length, get_or, drop, Some, None, Option, sym, refl, ap, ◌∙◌, append_assoc, arith}
use Rattle.std.proofs.lemmas.List.{at_drop_more}
use Rattle.std.specs.Option.{option_map}
use Rattle.std.specs.Simd.{first_chunks}
use Rattle.patterns.specs.Pairs.{both_some}
use Rattle.scripts.specs.Forms.{pair_value, pairs_value}

-- What pairs of digits say.
abbrev pub said_by : List (List ℕ) → Option (List ℕ)
said_by [] = Some []
said_by (pair ∷ pairs) = both_some ◌∷◌ (pair_value (get_or pair 0 0) (get_or pair 1 0)) (said_by pairs)

said_by_all : (k : ℕ) (text : List ℕ) → length text ≡ 2 * k → said_by (first_chunks 2 k text) ≡ pairs_value text
said_by_all zero [] h = refl
said_by_all zero (c ∷ cs) h = absurd (omega arith)
said_by_all (suc k) [] h = absurd (omega arith)
said_by_all (suc k) (c ∷ []) h = absurd (omega arith)
said_by_all (suc k) (c ∷ (d ∷ cs)) h = ap (both_some ◌∷◌ (pair_value c d)) (said_by_all k cs (omega arith))

none_after : (o : Option ℕ) → both_some {A = ℕ} {B = List ℕ} {C = List ℕ} ◌∷◌ o None ≡ None
none_after None = refl
none_after (Some b) = refl

pub none_odd : (text : List ℕ) → length text % 2 ≢ 0 → pairs_value text ≡ None
none_odd [] h = absurd (omega arith)
none_odd (c ∷ []) h = refl
none_odd (c ∷ (d ∷ cs)) h = ap (both_some ◌∷◌ (pair_value c d)) (none_odd cs (omega arith)) ∙ none_after (pair_value c d)

-- What bytes say, and pairs of digits after them.
abbrev pub together : List ℕ → List (List ℕ) → Option (List ℕ)
together bytes pairs = option_map (λ more. bytes ++ more) (said_by pairs)

nothing_before : (o : Option (List ℕ)) → option_map (λ more. [] ++ more) o ≡ o
nothing_before None = refl
nothing_before (Some more) = refl

pub together_all : (text : List ℕ) → length text % 2 ≡ 0 → together [] (first_chunks 2 (length text / 2) text) ≡ pairs_value text
together_all text h = nothing_before (said_by (first_chunks 2 (length text / 2) text)) ∙ said_by_all (length text / 2) text (omega arith)

pushed : (bytes : List ℕ) (byte : ℕ) (o : Option (List ℕ)) → option_map (λ more. bytes ++ more) (both_some ◌∷◌ (Some byte) o) ≡ option_map (λ more. (bytes ++ (byte ∷ [])) ++ more) o
pushed bytes byte None = refl
pushed bytes byte (Some more) = ap Some (simp append_assoc)

pub together_more : (bytes : List ℕ) (byte : ℕ) (pairs : List (List ℕ)) (i : ℕ) → i < length pairs → Some byte ≡ pair_value (get_or (get_or pairs i []) 0 0) (get_or (get_or pairs i []) 1 0) → together (bytes ++ (byte ∷ [])) (drop (i + 1) pairs) ≡ together bytes (drop i pairs)
together_more bytes byte pairs i h e =
    sym (at_drop_more (together bytes) pairs i [] h ∙ ap (λ o. option_map (λ more. bytes ++ more) (both_some ◌∷◌ o (said_by (drop (i + 1) pairs)))) (sym e) ∙ pushed bytes byte (said_by (drop (i + 1) pairs)))

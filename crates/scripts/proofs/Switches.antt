-- Reading a switch digit by digit.
use Rattle.std.proofs.Common.{◌≡◌, ℕ, ◌+◌, ◌*◌, ◌<◌, min, true, false, cond, eqb, List, [], ◌∷◌, length, Some, None, Option, refl, arith}
use Rattle.std.proofs.lemmas.Bool.{false≢true}
use Rattle.std.proofs.lemmas.Bool.Decides.{nat_tests}
use Rattle.std.specs.Str.Parse.{digits_value_after}
use Rattle.std.specs.Char.{is_ascii_digit, digit_value}
use Rattle.std.specs.Str.{all_ascii_digits}
use Rattle.scripts.specs.Forms.{switch_value}

-- The switch that digits write after those of n.
abbrev pub after : ℕ → List ℕ → Option ℕ
after n ds = cond (all_ascii_digits ds) (Some (min 255 (digits_value_after 10 n ds))) None

pub after_none : (ds : List ℕ) → false ≡ eqb (length ds) 0 → after 0 ds ≡ switch_value ds
after_none [] h = absurd (false≢true h)
after_none (d ∷ ds) h = refl

same_capped : (m n : ℕ) (ds : List ℕ) → min 255 m ≡ min 255 n → min 255 (digits_value_after 10 m ds) ≡ min 255 (digits_value_after 10 n ds)
same_capped m n [] e = e
same_capped m n (d ∷ ds) e = same_capped (m * 10 + digit_value d) (n * 10 + digit_value d) ds (omega arith)

is_digit : (d : ℕ) → digit_value d < 10 → is_ascii_digit d ≡ true
is_digit d h = grind (arith, nat_tests)

pub after_digit : (n m d : ℕ) (ds : List ℕ) → digit_value d < 10 → m ≡ min 255 (n * 10 + digit_value d) → after n (d ∷ ds) ≡ after m ds
after_digit n m d ds h e = rw (is_digit d h, same_capped (n * 10 + digit_value d) m ds (omega arith))

-- Entries that are printed are read back.
use Rattle.std.proofs.Common.{◌≡◌, ℕ, ◌+◌, ◌*◌, ◌/◌, ◌%◌, ◌<◌, min, true, List, [], ◌∷◌, ◌++◌, Some, decimal, sym, refl, ap, ◌∙◌, append_assoc, arith, length-append}
use Rattle.std.proofs.lemmas.Fmt.{digits_decimal, digits_value-decimal, decimal_nonempty}
use Rattle.std.proofs.ByRecursion.{All-append, All-from_get_or}
use Rattle.std.proofs.lemmas.Str.Parse.{IsNumeralModel, numerals_by_value, tells_all_ascii_digits, not_in_digits}
use Rattle.std.proofs.lemmas.Bool.{ne_eqb}
use Rattle.std.proofs.lemmas.Bool.Decides.{nat_tests}
use Rattle.std.specs.List.{flat_map, AllByRecursion}
use Rattle.std.specs.Str.Parse.{digits_value}
use Rattle.std.specs.Int.{IsInRange}
use Rattle.std.specs.Str.{all_ascii_digits}
use Rattle.scripts.specs.Forms.{entry_value, switch_value, hex_digit_value, pair_value, pairs_value, bytes_value}
use Rattle.scripts.specs.Printed.{EntriesReturn, ScriptsReturn, script_text}
use Rattle.scripts.specs.Splits.{first_line}
use Rattle.scripts.specs.Texts.{digit_char, byte_text, bytes_text, entry_text}
use Rattle.scripts.proofs.Splits.{Lacks, split_found, chomped_none, first_line_is}
use Rattle.scripts.proofs.Switches.{after_none}

own : IsNumeralModel (λ ds. all_ascii_digits ds ≡ true) (digits_value 10)
own = numerals_by_value _ tells_all_ascii_digits

decimal_lacks : (mark n : ℕ) → n < 256 → (IsInRange 48 57 mark → ⊥) → Lacks mark (decimal n)
decimal_lacks mark n h out = All-from_get_or _ (decimal n) 0 (λ i l. not_in_digits own (decimal n) mark (digits_decimal own n (omega arith)) out i l)

switch_back : (n : ℕ) → n < 256 → switch_value (decimal n) ≡ Some n
switch_back n h =
    let some = decimal_nonempty n (omega arith) in
    let digits = digits_decimal own n (omega arith) in
    let is : min 255 (digits_value 10 (decimal n)) ≡ n = omega (arith, digits_value-decimal own n (omega arith)) in
    sym (after_none (decimal n) (sym (ne_eqb _ _ (λ z. omega (arith, z, some))))) ∙ rw (digits, is)

digit_back : (n : ℕ) → n < 16 → hex_digit_value (digit_char n) ≡ Some n
digit_back n h = grind (arith, nat_tests)

pair_back : (b : ℕ) → b < 256 → pair_value (digit_char (b / 16)) (digit_char (b % 16)) ≡ Some b
pair_back b h =
    let is : b / 16 * 16 + b % 16 ≡ b = omega arith in
    rw (digit_back (b / 16) (omega arith), digit_back (b % 16) (omega arith), is)

pairs_back : (bs : List ℕ) → AllByRecursion (λ b. b < 256) bs → pairs_value (flat_map byte_text bs) ≡ Some bs
pairs_back [] h = refl
pairs_back (b ∷ bs) h = rw (pair_back b h.0, pairs_back bs h.1)

bytes_back : (bs : List ℕ) → AllByRecursion (λ b. b < 256) bs → bytes_value (bytes_text bs) ≡ Some bs
bytes_back [] h = refl
bytes_back (b ∷ bs) h = pairs_back (b ∷ bs) h

digit_lacks : (mark n : ℕ) → mark < 32 → digit_char n ≡ mark → ⊥
digit_lacks mark n h = grind (arith, nat_tests)

pairs_lack : (mark : ℕ) (bs : List ℕ) → mark < 32 → Lacks mark (flat_map byte_text bs)
pairs_lack mark [] h = tt
pairs_lack mark (b ∷ bs) h = (digit_lacks mark (b / 16) h, (digit_lacks mark (b % 16) h, pairs_lack mark bs h))

bytes_lack : (mark : ℕ) (bs : List ℕ) → mark < 32 → Lacks mark (bytes_text bs)
bytes_lack mark [] h = ((λ e. omega arith), tt)
bytes_lack mark (b ∷ bs) h = pairs_lack mark (b ∷ bs) h

-- No line feed or carriage return is printed.
entry_lacks : (mark switch : ℕ) (bytes : List ℕ) → mark < 32 → switch < 256 → Lacks mark (entry_text switch bytes)
entry_lacks mark switch bytes h s =
    All-append _ (decimal switch) _ (decimal_lacks mark switch s (λ d. omega (arith, d.0))) ((λ e. omega arith), bytes_lack mark bytes h)

line_back : (switch : ℕ) (bytes rest : List ℕ) → switch < 256 → first_line (entry_text switch bytes ++ (10 ∷ rest)) ≡ Some (entry_text switch bytes, rest)
line_back switch bytes rest s =
    let text = entry_text switch bytes in
    let cut = split_found 10 text rest (entry_lacks 10 switch bytes (omega arith) s) in
    let bare = chomped_none text (entry_lacks 13 switch bytes (omega arith) s) in
    first_line_is (text ++ (10 ∷ rest)) (sym (ne_eqb _ _ (λ z. omega (arith, z, length-append text (10 ∷ rest))))) (text, rest) cut ∙ ap (λ l. Some (l, rest)) bare

pub entries_return : EntriesReturn
entries_return switch bytes h =
    let parts = split_found 32 (decimal switch) (bytes_text bytes) (decimal_lacks 32 switch h.0 (λ d. omega (arith, d.0))) in
    ap entry_value parts ∙ rw (switch_back switch h.0, bytes_back bytes h.1)

pub scripts_return : ScriptsReturn
scripts_return [] h = refl
scripts_return (e ∷ es) h =
    let text = entry_text e.0 e.1 in
    let first = ap first_line (append_assoc text (10 ∷ []) (script_text es)) ∙ line_back e.0 e.1 (script_text es) h.0.0 in
    (text, script_text es, first, entries_return e.0 e.1 h.0, scripts_return es h.1)

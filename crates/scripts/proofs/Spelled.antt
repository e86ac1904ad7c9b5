-- Bytes as they are written.
use Rattle.std.proofs.Common.{◌≡◌, ℕ, ◌/◌, ◌%◌, ◌<◌, ◌++◌, ap, ◌∙◌, arith}
use lib.Utf8.{encode}
use Rattle.std.proofs.lemmas.Str.{encode_ascii}
use Rattle.std.proofs.lemmas.Bool.Decides.{nat_tests}
use Rattle.scripts.specs.Texts.{digit_char, byte_text}

digit_ascii : (n : ℕ) → n < 16 → digit_char n < 128
digit_ascii n h = grind (arith, nat_tests)

pub byte_spelled : (b high low : ℕ) → b < 256 → high ≡ digit_char (b / 16) → low ≡ digit_char (b % 16) → encode high ++ encode low ≡ byte_text b
byte_spelled b high low h e f =
    let first = ap encode e ∙ encode_ascii (digit_char (b / 16)) (digit_ascii (b / 16) (omega arith)) in
    let second = ap encode f ∙ encode_ascii (digit_char (b % 16)) (digit_ascii (b % 16) (omega arith)) in
    rw (first, second)

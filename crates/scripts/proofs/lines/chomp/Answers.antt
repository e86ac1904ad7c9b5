use Rattle.std.proofs.Common.{◌≡◌, ℕ, List, [], ◌∷◌, ◌++◌, Some, None, Option, Bor, unwrap_or, sym, ap, ◌∙◌, rules}
use Rattle.std.proofs.lemmas.Slice.Eq.{strip_suffix_is}
use Rattle.std.specs.Option.{MatchOption}
use Rattle.scripts.specs.Splits.{chomped}
use Rattle.scripts.proofs.Splits.{chomped_push, chomped_other}
use Rattle.scripts.proofs.lines.chomp.Goals as goal

chomped_is : (line : Bor (List ℕ)) (r : Option (Bor (List ℕ))) → MatchOption r ((front : List ℕ) → line.now ≡ front ++ (13 ∷ []) → ⊥) (λ x. line.now ≡ x.now ++ (13 ∷ [])) → (unwrap_or r line).now ≡ chomped line.now
chomped_is line None h = sym (chomped_other line.now h)
chomped_is line (Some x) h = sym (ap chomped h ∙ chomped_push x.now)

pub returns : goal.returns
returns c =
    let cases = strip_suffix_is (search rules) c.args.line.now (13 ∷ []) c.strip_suffix.result c.strip_suffix.ensures.cases in
    ap (λ (x : Bor (List ℕ)). x.now) c.unwrap_or.ensures ∙ chomped_is c.args.line c.strip_suffix.result cases

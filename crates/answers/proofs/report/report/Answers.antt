use Rattle.std.proofs.Common.{◌≡◌, List, ℕ, [], ◌∷◌, ◌++◌, string_bytes, inl, inr, subst, append_assoc, append-nil, arith, rules}
use Rattle.answers.specs.Reports.{Report, ends, goes_on}
use Rattle.answers.proofs.report.report.Goals as goal

-- A line put after a text, with its line feed.
line_put : (text line more longer : List ℕ) → longer ≡ text ++ (line ++ (10 ∷ [])) → text ++ (line ++ (10 ∷ more)) ≡ longer ++ more
line_put text line more longer e = rw e (simp append_assoc)

pub loop-number-preserved : goal.loop-number-preserved
loop-number-preserved c =
    let inv = c.loop-number.invariant in
    let numbers = c.in-Some.ensures.steps.0 in
    let lines = c.in-Some.ensures.steps.1 in
    let said = string_bytes c.in_ok-line_report.field-0 in (
      omega (arith, inv.0, numbers, lines.1),
      λ more left.
          let next = subst (λ n. Report n c.next.new.self.b.0.now more) numbers.1 left in
          let on = subst (λ n. Report n c.loop-number.number-iterator.b.0.now (said ++ (10 ∷ more))) numbers.0 (goes_on _ _ _ lines.0 c.in_ok-line_report.ensures next) in
          subst (Report 1 c.args.script.now) (line_put (string_bytes c.loop-number.text) said more _ (search rules)) (inv.1 _ on),
    )

-- The numbers do not run out before the lines.
pub returns : goal.returns
returns c =
    let inv = c.loop-number.invariant in
    elim c.in-None.ensures.steps [
      | inl numbers ↦ absurd (omega (arith, inv.0, numbers.1.0))
      | inr lines ↦ subst (Report 1 c.args.script.now) (append-nil _) (inv.1 [] (ends lines.1.0))
    ]

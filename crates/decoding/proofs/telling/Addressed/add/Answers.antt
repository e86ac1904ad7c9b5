use Rattle.std.proofs.Common.{◌≡◌, Bool, true, false, ◌&&◌, IsTrue, Some, sym, refl, ap, ◌∙◌, rules}
use Rattle.messages.specs.Marks.{goes_out}
use Rattle.messages.specs.declared.add.Add.{Add}
use Rattle.messages.specs.declared.message.Message.TheVariants as message
use Rattle.messages.proofs.Numbers as numbers
use Rattle.decoding.proofs.telling.Addressed.add.Goals as goal

-- A mark stands only where it may.
kept : (may mark : Bool) → (IsTrue mark → may ≡ true) → (may && mark) ≡ mark
kept true mark h = refl
kept false true h = h refl
kept false false h = refl

pub returns-in_err-tag : goal.returns-in_err-tag
returns-in_err-tag c = record {
  told = λ a to e.
      let made = c.tag.ensures a.tag (ap (λ f. f.vlan) e) in
      let was = c.in_err-tag.was in
      cc;
  to = search rules;
}

pub returns-in_err-rule : goal.returns-in_err-rule
returns-in_err-rule c = record {
  told = λ a to e.
      let made = c.rule.ensures.told a.rule (sym (c.row.ensures.told a.rule.row a.tag.number a.strip a.rule.ok to e)) in
      let was = c.in_err-rule.was in
      cc;
  to = search rules;
}

pub returns : goal.returns
returns c = record {
  told = λ a to e.
      let tag_made = c.tag.ensures a.tag (ap (λ f. f.vlan) e) in
      let tag_was = c.in_ok-tag.was in
      let rule_made = c.rule.ensures.told a.rule (sym (c.row.ensures.told a.rule.row a.tag.number a.strip a.rule.ok to e)) in
      let rule_was = c.in_ok-rule.was in
      let tag_is : c.in_ok-tag.tag ≡ a.tag = cc in
      let rule_is : c.in_ok-rule.rule ≡ a.rule = cc in
      let marked = c.strips.ensures a.rule.row.action a.strip a.marked (ap (λ f. f.actions) e) in
      let new = c.new.ensures in
      let strip_is : c.new.result.strip ≡ a.strip =
      new.2 ∙ ap (λ r. goes_out r.row.action && c.strips.result) rule_is
      ∙ ap (λ s. goes_out a.rule.row.action && s) marked
      ∙ kept (goes_out a.rule.row.action) a.strip a.marked in
      ap (λ (x : Add). Some (message.Add x)) (numbers.added c.new.result a (new.0 ∙ tag_is) (new.1 ∙ rule_is) strip_is);
  to =
      ap (λ r. r.row.switch) c.new.ensures.1 ∙ ap (λ r. r.switch) c.in_ok-rule.ensures.value
      ∙ c.row.ensures.to;
}

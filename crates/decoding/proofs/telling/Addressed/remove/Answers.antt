use Rattle.std.proofs.Common.{refl, ap, rules}
use Rattle.decoding.proofs.telling.Addressed.remove.Goals as goal

pub returns-in_err-tag : goal.returns-in_err-tag
returns-in_err-tag c = record {
  told = λ tag e.
      let made = c.tag.ensures tag (ap (λ f. f.vlan) e) in
      let was = c.in_err-tag.was in
      cc;
  to = search rules;
}

pub returns : goal.returns
returns c = record {
  told = λ tag e.
      let made = c.tag.ensures tag (ap (λ f. f.vlan) e) in
      let was = c.in_ok-tag.was in
      cc;
  to = refl;
}

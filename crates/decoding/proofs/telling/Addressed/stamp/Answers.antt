use Rattle.std.proofs.Common.{◌≡◌, ℕ, refl, ap, ◌∙◌, rules}
use Rattle.openflow.specs.declared.action.Actions.TheVariants.{SetVlan}
use Rattle.decoding.proofs.telling.Addressed.stamp.Goals as goal

vlan : (a b : ℕ) → SetVlan a ≡ SetVlan b → a ≡ b
vlan a b e = cc

pub returns-in_err-port : goal.returns-in_err-port
returns-in_err-port c = record {
  told = λ port tag e.
      let made = c.port.ensures port (ap (λ f. f.in_port) e) in
      let was = c.in_err-port.was in
      cc;
  to = search rules;
}

pub returns-in_err-tag : goal.returns-in_err-tag
returns-in_err-tag c = record {
  told = λ port tag e.
      let made = c.tag.ensures tag (vlan _ _ (ap (λ f. f.actions) e ∙ c.in-SetVlan.is)) in
      let was = c.in_err-tag.was in
      cc;
  to = search rules;
}

pub returns : goal.returns
returns c = record {
  told = λ port tag e.
      let port_made = c.port.ensures port (ap (λ f. f.in_port) e) in
      let port_was = c.in_ok-port.was in
      let tag_made = c.tag.ensures tag (vlan _ _ (ap (λ f. f.actions) e ∙ c.in-SetVlan.is)) in
      let tag_was = c.in_ok-tag.was in
      cc;
  to = refl;
}

use Rattle.std.proofs.Common.{◌≡◌, Some, sym, ap, ◌∙◌, arith}
use Rattle.messages.specs.Sent.{sent, switch_of}
use Rattle.messages.specs.declared.message.Message.{Message}
use Rattle.messages.specs.declared.message.Message.TheVariants as message
use Rattle.messages.proofs.Numbers as numbers
use Rattle.openflow.specs.Fields.{HasFields}
use Rattle.decoding.proofs.telling.Addressed.message.Goals as goal

-- The command tells removes from the others, and the VLAN stamps from adds, since a tag is below 0xffff.
told-in-3 : (c : goal.After-remove) (m : Message) → switch_of (sent m) ≡ c.args.self.switch.number → HasFields (sent m) c.args.self.fields → c.remove.result ≡ Some m
told-in-3 c (message.Add a) to e = absurd (omega (arith, ap (λ f. f.command) e))
told-in-3 c (message.Stamp s p t) to e = absurd (omega (arith, ap (λ f. f.command) e))
told-in-3 c (message.Remove s t) to e =
    c.remove.ensures.told t e ∙ ap (λ x. Some (message.Remove x t)) (sym (numbers.switch s c.args.self.switch to))
told-in-3 c (message.Barrier s) to e = absurd e

told-in-0 : (c : goal.After-stamp) (m : Message) → switch_of (sent m) ≡ c.args.self.switch.number → HasFields (sent m) c.args.self.fields → c.stamp.result ≡ Some m
told-in-0 c (message.Add a) to e = absurd (omega (arith, ap (λ f. f.vlan) e, c.if-self-eq65535.true, a.tag.ok.1))
told-in-0 c (message.Stamp s p t) to e =
    c.stamp.ensures.told p t e ∙ ap (λ x. Some (message.Stamp x p t)) (sym (numbers.switch s c.args.self.switch to))
told-in-0 c (message.Remove s t) to e = absurd (omega (arith, ap (λ f. f.command) e))
told-in-0 c (message.Barrier s) to e = absurd e

told-in-0-2 : (c : goal.After-add) (m : Message) → switch_of (sent m) ≡ c.args.self.switch.number → HasFields (sent m) c.args.self.fields → c.add.result ≡ Some m
told-in-0-2 c (message.Add a) to e = c.add.ensures.told a to e
told-in-0-2 c (message.Stamp s p t) to e = absurd (c.if-self-eq65535.false (sym (ap (λ f. f.vlan) e)))
told-in-0-2 c (message.Remove s t) to e = absurd (omega (arith, ap (λ f. f.command) e))
told-in-0-2 c (message.Barrier s) to e = absurd e

pub returns-in-3 : goal.returns-in-3
returns-in-3 c = record { told = told-in-3 c; to = c.remove.ensures.to }

pub returns-in-0-2 : goal.returns-in-0-2
returns-in-0-2 c = record { told = told-in-0-2 c; to = c.add.ensures.to }

pub returns-in-0 : goal.returns-in-0
returns-in-0 c = record { told = told-in-0 c; to = c.stamp.ensures.to }

-- The fields of a message fit, since its numbers do.
use Rattle.std.proofs.Common.{◌≡◌, ℕ, ◌^◌, ◌<◌, Bool, true, false, is_some, subst, arith, lit<, Some, None, Option}
use Rattle.patterns.specs.Numbers.{fixed_fits}
use Rattle.std.specs.Option.{unwrap_or}
use Rattle.rules.specs.Limits.{out_port_fault}
use Rattle.rules.specs.declared.row.Action.{Action}
use Rattle.rules.specs.declared.row.Action.TheVariants as action
use Rattle.messages.specs.Sent.{sent}
use Rattle.messages.specs.declared.add.Add.{Add}
use Rattle.messages.specs.declared.message.Message.{Message}
use Rattle.messages.specs.declared.message.Message.TheVariants as message
use Rattle.openflow.specs.declared.action.Actions.{Actions}
use Rattle.openflow.specs.declared.flow_mod.FlowMod.{FlowMod}
use Rattle.openflow.specs.Carried.{message as carried_message}
use Rattle.openflow.specs.Fields.{add_actions, add_fields, HasFields}
use Rattle.decoding.specs.Reading.{Fits}
use Rattle.decoding.proofs.Offsets.{ActionsFit, FieldsFit}
use Rattle.decoding.proofs.Rows.{limits, small_port, one_bit, at_most_one}

actions_fit : (a : Action) (strip : Bool) → is_some (out_port_fault a) ≡ false → ActionsFit (add_actions a strip)
actions_fit action.Drop strip h = tt
actions_fit (action.Out p) true h = omega (arith, small_port p _ h)
actions_fit (action.Out p) false h = omega (arith, small_port p _ h)

number_fits : (n : Option ℕ) → fixed_fits (λ v. v < 2 ^ 16) n → unwrap_or n 0 < 2 ^ 16
number_fits None h = omega arith
number_fits (Some v) h = h

add_fit : (a : Add) → Fits (carried_message (sent (message.Add a))) → FieldsFit (add_fields a.tag.number a.rule.row a.strip)
add_fit a h =
    let l = limits a.rule.row a.rule.ok in
    let q = a.rule.row.pattern in
    record {
      wildcards = omega (arith, one_bit q.protocol 0x20, one_bit q.destination_port 0x80, at_most_one q.in_port, at_most_one q.protocol, at_most_one q.destination_port);
      in_port = omega arith;
      vlan = omega (arith, a.tag.ok.1);
      ethernet_type = omega arith;
      source = h.1;
      destination = h.2;
      destination_port = number_fits q.destination_port h.4;
      command = omega arith;
      priority = h.0;
      flags = omega arith;
      actions = actions_fit a.rule.row.action a.strip l.out;
    }

-- A stamp and a remove match no more than port and VLAN.
bare_fit : (w p v c q : ℕ) (a : Actions) → w < 2 ^ 32 → p < 2 ^ 16 → v < 2 ^ 16 → c < 2 ^ 16 → q < 2 ^ 16 → ActionsFit a → FieldsFit (record {
  wildcards = w;
  in_port = p;
  vlan = v;
  ethernet_type = 0;
  protocol = 0;
  source = 0;
  destination = 0;
  destination_port = 0;
  command = c;
  priority = q;
  flags = 0;
  actions = a;
})
bare_fit w p v c q a wf pf vf cf qf af = record {
  wildcards = wf;
  in_port = pf;
  vlan = vf;
  ethernet_type = lit< tt;
  source = lit< tt;
  destination = lit< tt;
  destination_port = lit< tt;
  command = cf;
  priority = qf;
  flags = lit< tt;
  actions = af;
}

pub fields_fit : (m : Message) (f : FlowMod) → Fits (carried_message (sent m)) → HasFields (sent m) f → FieldsFit f
fields_fit (message.Add a) f h e = subst FieldsFit e (add_fit a h)
fields_fit (message.Stamp s p t) f h e = subst FieldsFit e (bare_fit _ _ _ _ _ _ (lit< tt) (omega (arith, p.ok.1)) (lit< tt) (lit< tt) (lit< tt) (omega (arith, t.ok.1)))
fields_fit (message.Remove s t) f h e = subst FieldsFit e (bare_fit _ _ _ _ _ _ (lit< tt) (lit< tt) (omega (arith, t.ok.1)) (lit< tt) (lit< tt) tt)
fields_fit (message.Barrier s) f h e = absurd e

-- The fields of each flow-mod: add, stamp and remove.
use Rattle.std.specs.Prelude.{◌≡◌, ℕ, ◌+◌, ◌-◌, ◌*◌, Bool, cond, Some, None, Option}
use Rattle.std.specs.Option.{unwrap_or}
use Rattle.rules.specs.declared.row.Action.{Action}
use Rattle.rules.specs.declared.row.Action.TheVariants as action
use Rattle.rules.specs.declared.row.PatternRow.{PatternRow}
use Rattle.rules.specs.declared.row.Row.{Row}
use Rattle.messages.specs.Sent.{Sent, add, stamp, remove, barrier}
use Rattle.openflow.specs.declared.action.Actions.{Actions}
use Rattle.openflow.specs.declared.action.Actions.TheVariants as actions
use Rattle.openflow.specs.declared.flow_mod.FlowMod.{FlowMod}

-- What a number pattern adds to the wildcards.
abbrev pub open_bit : {N : Type 0} → Option N → ℕ → ℕ
open_bit None bit = bit
open_bit (Some v) bit = 0

-- Which parts of the match are open, and how many last bits of each address.
abbrev pub wildcards_of : PatternRow → ℕ
wildcards_of p =
    0x30004C + open_bit p.in_port 1 + open_bit p.protocol 0x20 + open_bit p.destination_port 0x80
    + (32 - p.source.length) * 0x100 + (32 - p.destination.length) * 0x4000

abbrev pub add_actions : Action → Bool → Actions
add_actions action.Drop strip = actions.Empty
add_actions (action.Out p) strip = cond strip (actions.StripOutput p) (actions.Output p)

abbrev pub add_fields : (tag : ℕ) (rule : Row) (strip : Bool) → FlowMod
add_fields tag rule strip = record {
  wildcards = wildcards_of rule.pattern;
  in_port = unwrap_or rule.pattern.in_port 0;
  vlan = tag;
  ethernet_type = 0x0800;
  protocol = unwrap_or rule.pattern.protocol 0;
  source = rule.pattern.source.address;
  destination = rule.pattern.destination.address;
  destination_port = unwrap_or rule.pattern.destination_port 0;
  command = 0;
  priority = rule.priority;
  flags = 2;
  actions = add_actions rule.action strip;
}

-- All but the in-port and the VLAN is open. A packet without a tag has VLAN 0xffff.
abbrev pub stamp_fields : (port tag : ℕ) → FlowMod
stamp_fields port tag = record {
  wildcards = 0x3FFFFC;
  in_port = port;
  vlan = 0xffff;
  ethernet_type = 0;
  protocol = 0;
  source = 0;
  destination = 0;
  destination_port = 0;
  command = 0;
  priority = 65535;
  flags = 0;
  actions = actions.SetVlan tag;
}

-- All but the VLAN is open.
abbrev pub remove_fields : (tag : ℕ) → FlowMod
remove_fields tag = record {
  wildcards = 0x3FFFFD;
  in_port = 0;
  vlan = tag;
  ethernet_type = 0;
  protocol = 0;
  source = 0;
  destination = 0;
  destination_port = 0;
  command = 3;
  priority = 0;
  flags = 0;
  actions = actions.Empty;
}

-- The message is a flow-mod with these fields.
abbrev pub HasFields : Sent → FlowMod → Type 0
HasFields (add tag rule strip) f = add_fields tag rule strip ≡ f
HasFields (stamp switch port tag) f = stamp_fields port tag ≡ f
HasFields (remove switch tag) f = remove_fields tag ≡ f
HasFields (barrier switch) f = ⊥

-- How long the bytes of a message or a reply are.
use Rattle.std.proofs.Common.{◌≡◌, ℕ, ◌+◌, ◌≤◌, Bool, true, false, length, refl, arith}
use Rattle.rules.specs.declared.row.Action.{Action}
use Rattle.rules.specs.declared.row.Action.TheVariants.{Drop, Out}
use Rattle.messages.specs.Sent.{add, stamp, remove, barrier, actions_length}
use Rattle.openflow.specs.declared.action.Actions.{Actions}
use Rattle.openflow.specs.declared.action.Actions.TheVariants as actions
use Rattle.openflow.specs.declared.flow_mod.FlowMod.{FlowMod}
use Rattle.openflow.specs.Carried.{Carried, message, reply, carried_length}
use Rattle.openflow.specs.Fields.{add_actions}
use Rattle.openflow.specs.Layout.{header, match_part, command_part, actions_part, flow_mod, wire}

sized : (a : Action) (strip : Bool) → length (actions_part (add_actions a strip)) ≡ actions_length a strip
sized Drop strip = refl
sized (Out p) true = refl
sized (Out p) false = refl

pub length-wire : (p : Carried) (xid : ℕ) → length (wire p xid) ≡ carried_length p
unfolding header match_part command_part
length-wire (message (add tag rule strip)) xid = omega (arith, sized rule.action strip)
length-wire (message (stamp switch port tag)) xid = refl
length-wire (message (remove switch tag)) xid = refl
length-wire (message (barrier switch)) xid = refl
length-wire (reply switch) xid = refl

pub length-flow_mod : (f : FlowMod) (xid : ℕ) → length (flow_mod f xid) ≡ 72 + length (actions_part f.actions)
unfolding header match_part command_part
length-flow_mod f xid = omega arith

pub few_actions : (a : Actions) → length (actions_part a) ≤ 16
few_actions actions.Empty = omega arith
few_actions (actions.Output p) = omega arith
few_actions (actions.StripOutput p) = omega arith
few_actions (actions.SetVlan t) = omega arith

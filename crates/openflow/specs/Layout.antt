-- OpenFlow 1.0 on the wire: the bytes of each message and of the reply to a barrier. Numbers are big-endian.
use Rattle.std.specs.Prelude.{ℕ, ◌+◌, ◌/◌, ◌%◌, List, [], ◌∷◌, ◌++◌, length, replicate}
use Rattle.messages.specs.Sent.{add, stamp, remove, barrier}
use Rattle.openflow.specs.declared.action.Actions.{Actions}
use Rattle.openflow.specs.declared.action.Actions.TheVariants as actions
use Rattle.openflow.specs.declared.flow_mod.FlowMod.{FlowMod}
use Rattle.openflow.specs.Carried.{Carried, message, reply}
use Rattle.openflow.specs.Fields.{add_fields, stamp_fields, remove_fields}

abbrev pub be2 : ℕ → List ℕ
be2 x = (x / 256 % 256) ∷ (x % 256) ∷ []

abbrev pub be4 : ℕ → List ℕ
be4 x = (x / 16777216 % 256) ∷ (x / 65536 % 256) ∷ (x / 256 % 256) ∷ (x % 256) ∷ []

abbrev pub zeros : ℕ → List ℕ
zeros n = replicate n 0

-- Every message begins with version 1, its type, its length and its xid. The numbers at the right are offsets.
unfoldable pub header : (type length xid : ℕ) → List ℕ
header type length xid =
    1 ∷ type ∷  --  0
    be2 length  --  2
    ++ be4 xid  --  4

-- What a flow-mod matches. Open values are zero, and so are all bytes without a name here.
unfoldable pub match_part : FlowMod → List ℕ
match_part f =
    be4 f.wildcards  --  8
    ++ be2 f.in_port  -- 12
    ++ zeros 12  -- 14: Ethernet addresses
    ++ be2 f.vlan  -- 26
    ++ zeros 2  -- 28
    ++ be2 f.ethernet_type  -- 30
    ++ zeros 1  -- 32
    ++ (f.protocol ∷ [])  -- 33
    ++ zeros 2  -- 34
    ++ be4 f.source  -- 36
    ++ be4 f.destination  -- 40
    ++ zeros 2  -- 44: source port
    ++ be2 f.destination_port  -- 46

-- What it does with the flows that it matches.
unfoldable pub command_part : FlowMod → List ℕ
command_part f =
    zeros 8  -- 48: cookie
    ++ be2 f.command  -- 56
    ++ zeros 4  -- 58: timeouts
    ++ be2 f.priority  -- 62
    ++ be4 0xffffffff  -- 64: buffer
    ++ be2 0xffff  -- 68: out port
    ++ be2 f.flags  -- 70

-- An action is its type, its length, 8, a value, and two bytes more.
abbrev pub act : (type value : ℕ) → List ℕ
act type value = be2 type ++ be2 8 ++ be2 value ++ zeros 2

abbrev pub actions_part : Actions → List ℕ
actions_part actions.Empty = []
actions_part (actions.Output port) = act 0 port
actions_part (actions.StripOutput port) = act 3 0 ++ act 0 port
actions_part (actions.SetVlan tag) = act 1 tag

abbrev pub flow_mod : FlowMod → ℕ → List ℕ
flow_mod f xid =
    header 14 (72 + length (actions_part f.actions)) xid
    ++ (match_part f ++ (command_part f ++ actions_part f.actions))

-- The bytes of a message or a reply with an xid.
abbrev pub wire : Carried → ℕ → List ℕ
wire (message (add tag rule strip)) xid = flow_mod (add_fields tag rule strip) xid
wire (message (stamp switch port tag)) xid = flow_mod (stamp_fields port tag) xid
wire (message (remove switch tag)) xid = flow_mod (remove_fields tag) xid
wire (message (barrier switch)) xid = header 18 8 xid
wire (reply switch) xid = header 19 8 xid

-- Where the fields of a flow-mod stand: the layout told by offsets.
use Rattle.std.specs.Prelude.{ℕ, ◌+◌, ◌*◌, cond, List, length, ◌==◌, nat_le, nat_lt, slice_index}
use Rattle.openflow.specs.declared.action.Actions.{Actions}
use Rattle.openflow.specs.declared.action.Actions.TheVariants as actions
use Rattle.openflow.specs.declared.flow_mod.FlowMod.{FlowMod}

-- The number of one, two or four bytes at an offset.
abbrev pub at1 : List ℕ → ℕ → ℕ
at1 b i = slice_index b i

abbrev pub at2 : List ℕ → ℕ → ℕ
at2 b i = slice_index b i * 256 + slice_index b (i + 1)

abbrev pub at4 : List ℕ → ℕ → ℕ
at4 b i = slice_index b i * 16777216 + slice_index b (i + 1) * 65536 + slice_index b (i + 2) * 256 + slice_index b (i + 3)

-- The actions are told by how many bytes they take and, where there is one, by its type.
abbrev pub actions_at : List ℕ → Actions
actions_at b =
    cond (nat_lt (length b) 80) actions.Empty (
    cond (nat_le 88 (length b)) (actions.StripOutput (at2 b 84)) (
    cond (at2 b 72 == 1) (actions.SetVlan (at2 b 76)) (actions.Output (at2 b 76))))

-- The fields that stand in some bytes, whether or not these are a flow-mod's.
unfoldable pub fields_at : List ℕ → FlowMod
fields_at b = record {
  wildcards = at4 b 8;
  in_port = at2 b 12;
  vlan = at2 b 26;
  ethernet_type = at2 b 30;
  protocol = at1 b 33;
  source = at4 b 36;
  destination = at4 b 40;
  destination_port = at2 b 46;
  command = at2 b 56;
  priority = at2 b 62;
  flags = at2 b 70;
  actions = actions_at b;
}

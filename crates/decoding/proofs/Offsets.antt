-- The fields of a flow-mod stand at their offsets.
use Rattle.std.proofs.Common.{◌≡◌, ℕ, ◌+◌, ◌*◌, ◌/◌, ◌%◌, ◌^◌, ◌<◌, ◌++◌, length, refl, ap, arith}
use Rattle.std.proofs.lemmas.Nat.{shr-shr}
use Rattle.openflow.specs.declared.action.Actions.{Actions}
use Rattle.openflow.specs.declared.action.Actions.TheVariants.{Empty, Output, StripOutput, SetVlan}
use Rattle.openflow.specs.declared.flow_mod.FlowMod.{FlowMod}
use Rattle.openflow.specs.Layout.{be2, be4, header, match_part, command_part, actions_part, flow_mod}
use Rattle.decoding.specs.Offsets.{at2, at4, actions_at, fields_at}

pub join2 : (x : ℕ) → x < 2 ^ 16 → at2 (be2 x) 0 ≡ x
join2 x h = omega arith

-- Three steps of `high * 256 + low`, taken together.
sums : (p q r c b a x : ℕ) → q * 256 + b ≡ p → r * 256 + c ≡ q → p * 256 + a ≡ x → r * 16777216 + c * 65536 + b * 256 + a ≡ x
sums p q r c b a x e f h = omega arith

pub join4 : (x : ℕ) → x < 2 ^ 32 → at4 (be4 x) 0 ≡ x
join4 x h =
    let top : x / 16777216 % 256 ≡ x / 16777216 = omega arith in
    sums (x / 256) (x / 65536) (x / 16777216 % 256) (x / 65536 % 256) (x / 256 % 256) (x % 256) x
    (omega (arith, shr-shr x 8 8)) (omega (arith, top, shr-shr x 16 8)) (omega arith)

abbrev pub ActionsFit : Actions → Type 0
ActionsFit Empty = Unit {0}
ActionsFit (Output p) = p < 2 ^ 16
ActionsFit (StripOutput p) = p < 2 ^ 16
ActionsFit (SetVlan t) = t < 2 ^ 16

-- The numbers fit their fields.
pub record FieldsFit (f : FlowMod) : Type 0 where
  pub wildcards : f.wildcards < 2 ^ 32
  pub in_port : f.in_port < 2 ^ 16
  pub vlan : f.vlan < 2 ^ 16
  pub ethernet_type : f.ethernet_type < 2 ^ 16
  pub source : f.source < 2 ^ 32
  pub destination : f.destination < 2 ^ 32
  pub destination_port : f.destination_port < 2 ^ 16
  pub command : f.command < 2 ^ 16
  pub priority : f.priority < 2 ^ 16
  pub flags : f.flags < 2 ^ 16
  pub actions : ActionsFit f.actions

actions_told : (f : FlowMod) (xid : ℕ) (a : Actions) → ActionsFit a → actions_at (header 14 (72 + length (actions_part a)) xid ++ (match_part f ++ (command_part f ++ actions_part a))) ≡ a
unfolding header match_part command_part
actions_told f xid Empty h = refl
actions_told f xid (Output p) h = ap Output (join2 p h)
actions_told f xid (StripOutput p) h = ap StripOutput (join2 p h)
actions_told f xid (SetVlan t) h = ap SetVlan (join2 t h)

pub fields_told : (f : FlowMod) (xid : ℕ) → FieldsFit f → fields_at (flow_mod f xid) ≡ f
unfolding header match_part command_part fields_at
fields_told f xid h = λ j. record {
  wildcards = join4 f.wildcards h.wildcards j;
  in_port = join2 f.in_port h.in_port j;
  vlan = join2 f.vlan h.vlan j;
  ethernet_type = join2 f.ethernet_type h.ethernet_type j;
  protocol = f.protocol;
  source = join4 f.source h.source j;
  destination = join4 f.destination h.destination j;
  destination_port = join2 f.destination_port h.destination_port j;
  command = join2 f.command h.command j;
  priority = join2 f.priority h.priority j;
  flags = join2 f.flags h.flags j;
  actions = actions_told f xid f.actions h.actions j;
}

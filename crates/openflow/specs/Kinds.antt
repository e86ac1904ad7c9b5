-- The types of message on the wire, flow-mod, barrier and barrier reply, and the types of action.
use Rattle.std.specs.Prelude.{◌≡◌, ℕ, Bool, false, ◌||◌, Ok, Err, Result, ◌==◌}
use Rattle.openflow.specs.declared.action.ActionType.{ActionType}
use Rattle.openflow.specs.declared.action.ActionType.TheVariants as action
use Rattle.openflow.specs.declared.kind.Kind.{Kind}
use Rattle.openflow.specs.declared.kind.Kind.TheVariants as kind
use Rattle.openflow.specs.declared.kind.UnknownType.{UnknownType}

abbrev pub type_number : Kind → ℕ
type_number kind.FlowMod = 14
type_number kind.Barrier = 18
type_number kind.Reply = 19

abbrev pub is_type : ℕ → Bool
is_type t = t == 14 || (t == 18 || t == 19)

-- A number is read as the type whose number it is, or else refused and handed back.
abbrev pub Decodes : ℕ → Result Kind UnknownType → Type 0
Decodes n (Ok k) = type_number k ≡ n
Decodes n (Err e) = (is_type n ≡ false) × (e.0 ≡ n)

abbrev pub action_number : ActionType → ℕ
action_number action.Output = 0
action_number action.SetVlan = 1
action_number action.StripVlan = 3

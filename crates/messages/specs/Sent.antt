-- A message by its numbers: what is sent, and to which switch.
use Rattle.std.specs.Prelude.{ℕ, ◌+◌, Bool, cond}
use Rattle.rules.specs.declared.row.Action.{Action}
use Rattle.rules.specs.declared.row.Action.TheVariants.{Drop, Out}
use Rattle.rules.specs.declared.row.Row.{Row}
use Rattle.messages.specs.declared.message.Message.{Message}
use Rattle.messages.specs.declared.message.Message.TheVariants as message

pub data Sent : Type 0 where
  -- hold a rule under a tag, its out port marked strip or not; to the rule's switch
  add : (tag : ℕ) (rule : Row) (strip : Bool) → Sent
  -- stamp packets that enter at an edge port with a tag
  stamp : (switch port tag : ℕ) → Sent
  -- take out all rules under a tag
  remove : (switch tag : ℕ) → Sent
  -- reply once all earlier messages are carried out
  barrier : (switch : ℕ) → Sent

abbrev pub sent : Message → Sent
sent (message.Add a) = add a.tag.number a.rule.row a.strip
sent (message.Stamp s p t) = stamp s.number p.number t.number
sent (message.Remove s t) = remove s.number t.number
sent (message.Barrier s) = barrier s.number

abbrev pub switch_of : Sent → ℕ
switch_of (add t r m) = r.switch
switch_of (stamp s p t) = s
switch_of (remove s t) = s
switch_of (barrier s) = s

-- An action takes 8 bytes, and a strip mark is one more.
abbrev pub actions_length : Action → Bool → ℕ
actions_length Drop m = 0
actions_length (Out p) m = cond m 16 8

-- The length of a message on the wire, in bytes.
abbrev pub wire_length : Sent → ℕ
wire_length (add t r m) = 72 + actions_length r.action m
wire_length (stamp s p t) = 80
wire_length (remove s t) = 72
wire_length (barrier s) = 8

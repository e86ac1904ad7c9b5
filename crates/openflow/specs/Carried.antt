-- A message or a reply by its numbers, and the switch at the other end.
use Rattle.std.specs.Prelude.{ℕ}
use Rattle.messages.specs.Sent.{Sent, sent, switch_of, wire_length}
use Rattle.openflow.specs.declared.pdu.Pdu.{Pdu}
use Rattle.openflow.specs.declared.pdu.Pdu.TheVariants as pdu

pub data Carried : Type 0 where
  message : Sent → Carried
  reply : (switch : ℕ) → Carried

abbrev pub carried : Pdu → Carried
carried (pdu.Message m) = message (sent m)
carried (pdu.Reply s) = reply s.number

abbrev pub switch_at : Carried → ℕ
switch_at (message m) = switch_of m
switch_at (reply s) = s

-- How many bytes it takes.
abbrev pub carried_length : Carried → ℕ
carried_length (message m) = wire_length m
carried_length (reply s) = 8

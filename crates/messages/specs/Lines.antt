-- A message as a line of a listing, with 0 for a number that it does not have.
use Rattle.std.specs.Prelude.{ℕ}
use Rattle.rules.specs.declared.row.Action.{Action}
use Rattle.rules.specs.declared.row.Action.TheVariants.{Drop, Out}
use Rattle.messages.specs.declared.line.Kind.{Kind}
use Rattle.messages.specs.declared.line.Kind.TheVariants as kind
use Rattle.messages.specs.declared.line.Line.{Line}
use Rattle.messages.specs.Sent.{Sent, add, stamp, remove, barrier, switch_of, wire_length}

abbrev pub kind_of : Sent → Kind
kind_of (add t r m) = kind.Add
kind_of (stamp s p t) = kind.Stamp
kind_of (remove s t) = kind.Remove
kind_of (barrier s) = kind.Barrier

abbrev pub tag_of : Sent → ℕ
tag_of (add t r m) = t
tag_of (stamp s p t) = t
tag_of (remove s t) = t
tag_of (barrier s) = 0

abbrev pub out_port : Action → ℕ
out_port Drop = 0
out_port (Out p) = p

abbrev pub port_of : Sent → ℕ
port_of (add t r m) = out_port r.action
port_of (stamp s p t) = p
port_of (remove s t) = 0
port_of (barrier s) = 0

abbrev pub line_of : ℕ → Sent → Line
line_of xid m = record { xid = xid; switch = switch_of m; kind = kind_of m; tag = tag_of m; port = port_of m; bytes = wire_length m }

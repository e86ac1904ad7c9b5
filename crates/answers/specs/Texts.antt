-- The text of what the reader answers: a line for each message, for the reply and for a refusal.
use Rattle.std.specs.Prelude.{ℕ, ◌/◌, ◌%◌, Bool, cond, List, ◌++◌, Some, Ok, Err, codes, decimal, Option, Result, None}
use Rattle.refusals.specs.Texts.{refused_text}
use Rattle.rules.specs.declared.row.Action.{Action}
use Rattle.rules.specs.declared.row.Action.TheVariants.{Drop, Out}
use Rattle.rules.specs.declared.row.Block.{Block}
use Rattle.rules.specs.declared.row.PatternRow.{PatternRow}
use Rattle.rules.specs.declared.row.Row.{Row}
use Rattle.messages.specs.Sent.{add, stamp, remove, barrier}
use Rattle.openflow.specs.Carried.{Carried, carried, message, reply}
use Rattle.decoding.specs.Faults.{read_number}
use Rattle.decoding.specs.declared.fault.ReadFault.{ReadFault}
use Rattle.decoding.specs.declared.received.Received.{Received}

abbrev pub number_text : Option ℕ → List ℕ
number_text None = codes "*"
number_text (Some n) = decimal n

-- What is written of a number pattern, from what is written of a number.
abbrev pub number_output : {T : Type 0} → (T → Option (List ℕ)) → Option T → Option (List ℕ)
number_output output None = Some (codes "*")
number_output output (Some n) = output n

-- The bytes of the address, the most significant first, and the length.
abbrev pub block_text : Block → List ℕ
block_text b =
    decimal (b.address / 0x1000000 % 0x100) ++ (codes "." ++ (
    decimal (b.address / 0x10000 % 0x100) ++ (codes "." ++ (
    decimal (b.address / 0x100 % 0x100) ++ (codes "." ++ (
    decimal (b.address % 0x100) ++ (codes "/" ++ decimal b.length)))))))

abbrev pub output_text : Action → List ℕ
output_text Drop = codes "drop"
output_text (Out p) = decimal p

abbrev pub strip_text : Bool → List ℕ
strip_text strip = cond strip (codes "yes") (codes "no")

abbrev pub fields_text : PatternRow → List ℕ
fields_text p =
    codes "in_port=" ++ (number_text p.in_port ++ (
    codes " source=" ++ (block_text p.source ++ (
    codes " destination=" ++ (block_text p.destination ++ (
    codes " protocol=" ++ (number_text p.protocol ++ (
    codes " destination_port=" ++ number_text p.destination_port))))))))

abbrev pub added_text : (tag : ℕ) (rule : Row) (strip : Bool) → List ℕ
added_text tag rule strip =
    codes "tag=" ++ (decimal tag ++ (
    codes " priority=" ++ (decimal rule.priority ++ (
    codes " " ++ (fields_text rule.pattern ++ (
    codes " out=" ++ (output_text rule.action ++ (
    codes " strip=" ++ strip_text strip))))))))

abbrev pub received_text : (xid length : ℕ) → Carried → List ℕ
received_text xid length (message (add t r m)) =
    codes "add xid=" ++ (decimal xid ++ (codes " " ++ (added_text t r m ++ (codes " length=" ++ decimal length))))
received_text xid length (message (stamp s p t)) =
    codes "stamp xid=" ++ (decimal xid ++ (codes " port=" ++ (decimal p ++ (codes " tag=" ++ (decimal t ++ (codes " length=" ++ decimal length))))))
received_text xid length (message (remove s t)) =
    codes "remove xid=" ++ (decimal xid ++ (codes " tag=" ++ (decimal t ++ (codes " length=" ++ decimal length))))
received_text xid length (message (barrier s)) =
    codes "barrier xid=" ++ (decimal xid ++ (codes " length=" ++ decimal length))
received_text xid length (reply s) =
    codes "reply xid=" ++ (decimal xid ++ (codes " length=" ++ decimal length))

abbrev pub answer_text : Result Received ReadFault → List ℕ
answer_text (Ok r) = received_text r.xid r.length (carried r.pdu)
answer_text (Err fault) = refused_text (read_number fault)

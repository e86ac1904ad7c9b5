-- Which answer reading gives, on every byte string.
use Rattle.std.specs.Prelude.{◌≡◌, ℕ, ◌^◌, ◌<◌, ◌&&◌, List, length, take, Some, None, Ok, Err, Option, Result, ◌==◌, nat_le}
use Rattle.std.specs.Option.{option_or}
use Rattle.refusals.specs.Tests.{unless}
use Rattle.patterns.specs.Numbers.{fixed_fits}
use Rattle.rules.specs.declared.row.Row.{Row}
use Rattle.messages.specs.Sent.{add, stamp, remove, barrier}
use Rattle.decoding.specs.declared.fault.ReadFault.{ReadFault}
use Rattle.decoding.specs.declared.fault.ReadFault.TheVariants as fault
use Rattle.openflow.specs.declared.pdu.Pdu.{Pdu}
use Rattle.decoding.specs.declared.received.Received.{Received}
use Rattle.openflow.specs.Carried.{Carried, message, reply, carried, switch_at}
use Rattle.decoding.specs.Families.{Family}
use Rattle.openflow.specs.Kinds.{is_type}
use Rattle.openflow.specs.Layout.{wire}
use Rattle.decoding.specs.Offsets.{at1, at2}

abbrev pub switch_fault : ℕ → Option ReadFault
switch_fault s = unless (nat_le s 15) (fault.Switch s)

-- The refusal of a header, in the order of the tests.
abbrev pub header_fault : List ℕ → Option ReadFault
header_fault b =
    option_or (unless (nat_le 8 (length b)) (fault.Short (length b))) (
    option_or (unless (at1 b 0 == 1) (fault.Version (at1 b 0))) (
    option_or (unless (is_type (at1 b 1)) (fault.Type (at1 b 1)))
    (unless (nat_le 8 (at2 b 2) && nat_le (at2 b 2) (length b)) (fault.Length (at2 b 2)))))

-- The numbers of a rule fit their types, as those of every rule that code can hold do. Its other numbers, and those of
-- the other messages, are within their limits by their own types.
abbrev pub RowFits : Row → Type 0
RowFits r =
    (r.priority < 2 ^ 16) × (r.pattern.source.address < 2 ^ 32) × (r.pattern.destination.address < 2 ^ 32)
    × fixed_fits (λ n. n < 2 ^ 8) r.pattern.protocol × fixed_fits (λ n. n < 2 ^ 16) r.pattern.destination_port

abbrev pub Fits : Carried → Type 0
Fits (message (add tag rule strip)) = RowFits rule
Fits (message (stamp switch port tag)) = Unit {0}
Fits (message (remove switch tag)) = Unit {0}
Fits (message (barrier switch)) = Unit {0}
Fits (reply switch) = Unit {0}

-- The bytes are the writing of a message to a switch, or of a reply from it.
pub record Writing (switch : ℕ) (bytes : List ℕ) (p : Pdu) (xid : ℕ) : Type 0 where
  pub fits : Fits (carried p)
  pub xid_fits : xid < 2 ^ 32
  pub to : switch_at (carried p) ≡ switch
  pub is : wire (carried p) xid ≡ bytes

-- The answer for whole bytes, those that the header's length takes in.
abbrev pub Answered : ℕ → List ℕ → Result Received ReadFault → Type 0
Answered switch bytes (Ok a) = Writing switch bytes a.pdu a.xid × (a.length ≡ length bytes)
Answered switch bytes (Err f) = (f ≡ fault.NoWriting) × ((p : Pdu) (xid : ℕ) → Writing switch bytes p xid → ⊥)

-- A refusal of the switch, else of the header; else what the whole bytes are the writing of, if of anything.
abbrev pub UnlessRefused : Option ReadFault → ℕ → List ℕ → Result Received ReadFault → Type 0
UnlessRefused (Some f) switch b r = r ≡ Err f
UnlessRefused None switch b r = Answered switch (take (at2 b 2) b) r

abbrev pub Reads : ℕ → List ℕ → Result Received ReadFault → Type 0
Reads switch b r = UnlessRefused (option_or (switch_fault switch) (header_fault b)) switch b r

-- OpenFlow 1.0 as a family.
abbrev pub openflow10 : Family
openflow10 = record {
  Message = Pdu;
  Answer = Result Received ReadFault;
  Held = λ p. Fits (carried p);
  switch = λ p. switch_at (carried p);
  bytes = λ p xid. wire (carried p) xid;
  Reads = Reads;
  answer = λ p xid n. Ok (record { pdu = p; xid = xid; length = n });
}

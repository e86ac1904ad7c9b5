-- The row of an add is told by the add's fields.
use Rattle.std.proofs.Common.{◌≡◌, ℕ, ◌+◌, ◌-◌, ◌*◌, ◌/◌, ◌%◌, ◌^◌, ◌≤◌, Bool, true, false, cond, eqb, leb, is_some, Some, None, Option, sym, refl, ap, ◌∙◌, arith}
use Rattle.std.proofs.lemmas.Bool.{true≢false, leb-true, and_parts}
use Rattle.std.specs.Option.{option_or}
use Rattle.patterns.specs.Limits.{is_port}
use Rattle.std.specs.Option.{unwrap_or}
use Rattle.refusals.specs.Tests.{unless}
use Rattle.rules.specs.Limits.{in_port_fault, out_port_fault, Makes, switch_fault, length_fault, bits_fault, transport_fault}
use Rattle.rules.specs.declared.fault.RuleFault.{RuleFault}
use Rattle.rules.specs.declared.row.Action.{Action}
use Rattle.rules.specs.declared.row.Row.{Row}
use Rattle.openflow.specs.declared.flow_mod.FlowMod.{FlowMod}
use Rattle.openflow.specs.Fields.{open_bit, add_fields}

-- The limits that the fields of an add rest on.
pub record Limits (r : Row) : Type 0 where
  pub switch : r.switch ≤ 15
  pub in_port : unwrap_or r.pattern.in_port 0 ≤ 16
  pub source : r.pattern.source.length ≤ 32
  pub destination : r.pattern.destination.length ≤ 32
  pub out : is_some (out_port_fault r.action) ≡ false

neither : {X : Type 0} (a b : Option X) → is_some (option_or a b) ≡ false → (is_some a ≡ false) × (is_some b ≡ false)
neither None b e = (refl, e)
neither (Some x) b e = absurd (true≢false e)

granted : (t : Bool) (f : RuleFault) → is_some (unless t f) ≡ false → t ≡ true
granted true f e = refl
granted false f e = absurd (true≢false e)

-- A port that is not refused.
pub small_port : (p : ℕ) (f : RuleFault) → is_some (unless (is_port p) f) ≡ false → p ≤ 16
small_port p f e = leb-true p 16 (and_parts (leb 1 p) (leb p 16) (granted _ f e)).1

port_small : (n : Option ℕ) → is_some (in_port_fault n) ≡ false → unwrap_or n 0 ≤ 16
port_small None e = omega arith
port_small (Some p) e = small_port p _ e

pub limits : (r : Row) → Makes r → Limits r
limits r m =
    let p = r.pattern in
    let (switch, rest) = neither (switch_fault r.switch) _ m in
    let (port, rest) = neither (in_port_fault p.in_port) _ rest in
    let (source, rest) = neither (length_fault p.source) _ rest in
    let (destination, rest) = neither (length_fault p.destination) _ rest in
    let (bits, rest) = neither (bits_fault p.source) _ rest in
    let (more, rest) = neither (bits_fault p.destination) _ rest in
    let (transport, out) = neither (transport_fault p.protocol p.destination_port) _ rest in
    record {
      switch = leb-true _ _ (granted _ _ switch);
      in_port = port_small p.in_port port;
      source = leb-true _ _ (granted _ _ source);
      destination = leb-true _ _ (granted _ _ destination);
      out = out;
    }

-- An open number sets one bit of the wildcards, or none.
pub one_bit : (n : Option ℕ) (bit : ℕ) → open_bit n bit ≡ open_bit n 1 * bit
one_bit None bit = omega arith
one_bit (Some v) bit = omega arith

pub at_most_one : (n : Option ℕ) → open_bit n 1 ≤ 1
at_most_one None = omega arith
at_most_one (Some v) = omega arith

-- The parts of the wildcards.
abbrev word : (i p d : Option ℕ) (x y : ℕ) → ℕ
word i p d x y = 0x30004C + open_bit i 1 + open_bit p 0x20 + open_bit d 0x80 + x * 0x100 + y * 0x4000

record Parts (i p d : Option ℕ) (x y w : ℕ) : Type 0 where
  in_port : w / 2 ^ 0 % 2 ≡ open_bit i 1
  protocol : w / 2 ^ 5 % 2 ≡ open_bit p 1
  port : w / 2 ^ 7 % 2 ≡ open_bit d 1
  source : w / 2 ^ 8 % 64 ≡ x
  destination : w / 2 ^ 14 % 64 ≡ y

parts : (i p d : Option ℕ) (x y w : ℕ) → x ≤ 32 → y ≤ 32 → w ≡ word i p d x y → Parts i p d x y w
parts i p d x y w xs ys e =
    let protocol = one_bit p 0x20 in
    let port = one_bit d 0x80 in
    let a = at_most_one i in
    let b = at_most_one p in
    let c = at_most_one d in
    record { in_port = omega arith; protocol = omega arith; port = omega arith; source = omega arith; destination = omega arith }

number_told : (n : Option ℕ) (k v : ℕ) → k ≡ open_bit n 1 → v ≡ unwrap_or n 0 → cond (eqb k 1) None (Some v) ≡ n
number_told None k v e f = rw e
number_told (Some w) k v e f = rw (e, f)

-- The row that is read off the fields of an add is the add's own. What was read, f and v to d, is the code's.
pub row_told :
    (rule : Row) (tag : ℕ) (strip : Bool) (f : FlowMod) (s v source destination : ℕ) (i p d : Option ℕ) (a : Action)
    → Makes rule → rule.switch ≡ s → add_fields tag rule strip ≡ f
    → v ≡ f.in_port % 256 → i ≡ cond (eqb (f.wildcards / 2 ^ 0 % 2) 1) None (Some v)
    → source ≡ 32 - f.wildcards / 2 ^ 8 % 64 → destination ≡ 32 - f.wildcards / 2 ^ 14 % 64
    → p ≡ cond (eqb (f.wildcards / 2 ^ 5 % 2) 1) None (Some f.protocol)
    → d ≡ cond (eqb (f.wildcards / 2 ^ 7 % 2) 1) None (Some f.destination_port)
    → a ≡ rule.action
    → ◌≡◌ {A = Row} (record {
      switch = s;
      priority = f.priority;
      pattern = record {
        in_port = i;
        source = record { address = f.source; length = source };
        destination = record { address = f.destination; length = destination };
        protocol = p;
        destination_port = d;
      };
      action = a;
    }) rule
row_told rule tag strip f s v source destination i p d a makes to e ve ie se de pe qe ae =
    let l = limits rule makes in
    let q = rule.pattern in
    let w = parts q.in_port q.protocol q.destination_port _ _ _ (omega arith) (omega arith) (ap (λ g. g.wildcards) (sym e)) in
    let port : f.in_port ≡ unwrap_or q.in_port 0 = ap (λ g. g.in_port) (sym e) in
    let i_is : i ≡ q.in_port = ie ∙ number_told q.in_port _ v w.in_port (omega arith) in
    let p_is : p ≡ q.protocol = pe ∙ number_told q.protocol _ _ w.protocol (ap (λ g. g.protocol) (sym e)) in
    let d_is : d ≡ q.destination_port = qe ∙ number_told q.destination_port _ _ w.port (ap (λ g. g.destination_port) (sym e)) in
    let s_is : source ≡ q.source.length = omega (arith, w.source) in
    let t_is : destination ≡ q.destination.length = omega (arith, w.destination) in
    λ j. record {
      switch = sym to j;
      priority = (sym e j).priority;
      pattern = record {
        in_port = i_is j;
        source = record { address = (sym e j).source; length = s_is j };
        destination = record { address = (sym e j).destination; length = t_is j };
        protocol = p_is j;
        destination_port = d_is j;
      };
      action = ae j;
    }

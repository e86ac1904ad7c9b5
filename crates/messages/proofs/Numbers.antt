-- Messages are told by their numbers, since the parts that carry limits are.
use Rattle.std.proofs.Common.{◌≡◌, ◌≤◌, true, false, IsTrue, is_some, ap}
use mathlib.Core.Bool.{Bool-set}
use mathlib.Core.HLevel.{is_prop→PathP, →_prop}
use native.Mathlib.Bridge.{le_prop}
use Rattle.patterns.specs.Limited.{between, port_told}
use Rattle.rules.specs.Limits.{Makes, row_fault}
use Rattle.rules.specs.declared.rule.Rule.{Rule}
use Rattle.rules.specs.declared.switch.Switch.{Switch}
use Rattle.rules.specs.declared.tag.Tag.{Tag}
use Rattle.messages.specs.Marks.{goes_out}
use Rattle.messages.specs.Sent.{sent}
use Rattle.messages.specs.declared.add.Add.{Add}
use Rattle.messages.specs.declared.message.Message.{Message}
use Rattle.messages.specs.declared.message.Message.TheVariants as message

pub tag : (a b : Tag) → a.number ≡ b.number → a ≡ b
tag a b p = λ i. record { number = p i; ok = is_prop→PathP (λ i. (1 ≤ p i) × (p i ≤ 4094)) (λ i. between 1 4094 (p i)) a.ok b.ok i }

pub switch : (a b : Switch) → a.number ≡ b.number → a ≡ b
switch a b p = λ i. record { number = p i; ok = is_prop→PathP (λ i. p i ≤ 15) (λ i. le_prop) a.ok b.ok i }

pub rule : (a b : Rule) → a.row ≡ b.row → a ≡ b
rule a b p = λ i. record { row = p i; ok = is_prop→PathP (λ i. Makes (p i)) (λ i. Bool-set (is_some (row_fault (p i))) false) a.ok b.ok i }

pub added : (a b : Add) → a.tag ≡ b.tag → a.rule ≡ b.rule → a.strip ≡ b.strip → a ≡ b
added a b p q r = λ i. record {
  tag = p i;
  rule = q i;
  strip = r i;
  marked = is_prop→PathP (λ i. IsTrue (r i) → goes_out (q i).row.action ≡ true) (λ i. →_prop (Bool-set (goes_out (q i).row.action) true)) a.marked b.marked i;
}

pub told : (a b : Message) → sent a ≡ sent b → a ≡ b
told (message.Add a) (message.Add b) e =
    ap message.Add (added a b (tag a.tag b.tag (cc)) (rule a.rule b.rule (cc)) (cc))
told (message.Add a) (message.Stamp s p t) e = cc
told (message.Add a) (message.Remove s t) e = cc
told (message.Add a) (message.Barrier s) e = cc
told (message.Stamp s p t) (message.Add b) e = cc
told (message.Stamp s p t) (message.Stamp s' p' t') e =
    let x = switch s s' (cc) in let y = port_told p p' (cc) in let z = tag t t' (cc) in λ i. message.Stamp (x i) (y i) (z i)
told (message.Stamp s p t) (message.Remove s' t') e = cc
told (message.Stamp s p t) (message.Barrier s') e = cc
told (message.Remove s t) (message.Add b) e = cc
told (message.Remove s t) (message.Stamp s' p' t') e = cc
told (message.Remove s t) (message.Remove s' t') e =
    let x = switch s s' (cc) in let z = tag t t' (cc) in λ i. message.Remove (x i) (z i)
told (message.Remove s t) (message.Barrier s') e = cc
told (message.Barrier s) (message.Add b) e = cc
told (message.Barrier s) (message.Stamp s' p' t') e = cc
told (message.Barrier s) (message.Remove s' t') e = cc
told (message.Barrier s) (message.Barrier s') e = ap message.Barrier (switch s s' (cc))

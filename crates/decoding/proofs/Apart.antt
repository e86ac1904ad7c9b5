-- Messages of one switch that have the same fields are the same message.
use Rattle.std.proofs.Common.{◌≡◌, Bool, true, false, IsTrue, sym, refl, ap, ◌∙◌, arith}
use Rattle.rules.specs.declared.row.Action.{Action}
use Rattle.rules.specs.declared.row.Action.TheVariants as action
use Rattle.messages.specs.Marks.{goes_out}
use Rattle.messages.specs.Sent.{sent, switch_of}
use Rattle.messages.specs.declared.add.Add.{Add}
use Rattle.messages.specs.declared.message.Message.{Message}
use Rattle.messages.specs.declared.message.Message.TheVariants as message
use Rattle.messages.proofs.Numbers as numbers
use Rattle.patterns.specs.Limited.{port_told}
use Rattle.openflow.specs.declared.flow_mod.FlowMod.{FlowMod}
use Rattle.openflow.specs.Fields.{add_actions, add_fields, HasFields}
use Rattle.decoding.proofs.Rows.{row_told}

-- A drop carries no mark.
unmarked : (s : Bool) → (IsTrue s → false ≡ true) → s ≡ false
unmarked true h = sym (h refl)
unmarked false h = refl

actions_apart : (a b : Action) (s t : Bool) → (IsTrue s → goes_out a ≡ true) → (IsTrue t → goes_out b ≡ true) → add_actions a s ≡ add_actions b t → (a ≡ b) × (s ≡ t)
actions_apart action.Drop action.Drop s t h k e = (refl, unmarked s h ∙ sym (unmarked t k))
actions_apart action.Drop (action.Out q) s true h k e = cc
actions_apart action.Drop (action.Out q) s false h k e = cc
actions_apart (action.Out p) action.Drop true t h k e = cc
actions_apart (action.Out p) action.Drop false t h k e = cc
actions_apart (action.Out p) (action.Out q) true true h k e = (cc, refl)
actions_apart (action.Out p) (action.Out q) true false h k e = cc
actions_apart (action.Out p) (action.Out q) false true h k e = cc
actions_apart (action.Out p) (action.Out q) false false h k e = (cc, refl)

adds_apart : (a b : Add) (f : FlowMod) → a.rule.row.switch ≡ b.rule.row.switch → add_fields a.tag.number a.rule.row a.strip ≡ f → add_fields b.tag.number b.rule.row b.strip ≡ f → a ≡ b
adds_apart a b f to d e =
    let both = d ∙ sym e in
    let (acts, marks) = actions_apart a.rule.row.action b.rule.row.action a.strip b.strip a.marked b.marked (ap (λ g. g.actions) both) in
    let x = row_told a.rule.row _ _ f _ _ _ _ _ _ _ _ a.rule.ok refl d refl refl refl refl refl refl refl in
    let y = row_told b.rule.row _ _ f _ _ _ _ _ _ _ _ b.rule.ok (sym to) e refl refl refl refl refl refl acts in
    numbers.added a b (numbers.tag _ _ (ap (λ g. g.vlan) both)) (numbers.rule _ _ (sym x ∙ y)) marks

pub apart : (m n : Message) (f : FlowMod) → switch_of (sent m) ≡ switch_of (sent n) → HasFields (sent m) f → HasFields (sent n) f → m ≡ n
apart (message.Add a) (message.Add b) f to d e = ap message.Add (adds_apart a b f to d e)
apart (message.Add a) (message.Stamp s p t) f to d e = absurd (omega (arith, ap (λ g. g.vlan) (d ∙ sym e), a.tag.ok.1))
apart (message.Add a) (message.Remove s t) f to d e = absurd (omega (arith, ap (λ g. g.command) (d ∙ sym e)))
apart (message.Add a) (message.Barrier s) f to d e = absurd e
apart (message.Stamp s p t) (message.Add b) f to d e = absurd (omega (arith, ap (λ g. g.vlan) (d ∙ sym e), b.tag.ok.1))
apart (message.Stamp s p t) (message.Stamp s' p' t') f to d e =
    let both = d ∙ sym e in
    let acts = ap (λ g. g.actions) both in
    let x = numbers.switch s s' to in
    let y = port_told p p' (ap (λ g. g.in_port) both) in
    let z = numbers.tag t t' (cc) in
    λ i. message.Stamp (x i) (y i) (z i)
apart (message.Stamp s p t) (message.Remove s' t') f to d e = absurd (omega (arith, ap (λ g. g.command) (d ∙ sym e)))
apart (message.Stamp s p t) (message.Barrier s') f to d e = absurd e
apart (message.Remove s t) (message.Add b) f to d e = absurd (omega (arith, ap (λ g. g.command) (d ∙ sym e)))
apart (message.Remove s t) (message.Stamp s' p' t') f to d e = absurd (omega (arith, ap (λ g. g.command) (d ∙ sym e)))
apart (message.Remove s t) (message.Remove s' t') f to d e =
    let x = numbers.switch s s' to in
    let z = numbers.tag t t' (ap (λ g. g.vlan) (d ∙ sym e)) in
    λ i. message.Remove (x i) (z i)
apart (message.Remove s t) (message.Barrier s') f to d e = absurd e
apart (message.Barrier s) n f to d e = absurd d

-- What the bytes of a message or a reply tell of it.
use Rattle.std.proofs.Common.{◌≡◌, ℕ, ◌^◌, ◌<◌, ◌≤◌, List, length, sym, refl, ap, ◌∙◌, subst, arith}
use Rattle.rules.specs.declared.switch.Switch.{Switch}
use Rattle.messages.specs.Sent.{sent, switch_of}
use Rattle.messages.specs.declared.message.Message.{Message}
use Rattle.messages.specs.declared.message.Message.TheVariants as message
use Rattle.messages.proofs.Numbers as numbers
use Rattle.openflow.specs.declared.flow_mod.FlowMod.{FlowMod}
use Rattle.openflow.specs.declared.pdu.Pdu.{Pdu}
use Rattle.openflow.specs.declared.pdu.Pdu.TheVariants as pdu
use Rattle.openflow.specs.Carried.{message as carried_message, carried}
use Rattle.openflow.specs.Fields.{HasFields}
use Rattle.openflow.specs.Layout.{header, match_part, command_part, flow_mod, wire}
use Rattle.decoding.specs.Offsets.{at1, at4, fields_at}
use Rattle.decoding.specs.Reading.{Writing}
use Rattle.decoding.proofs.Fit.{fields_fit}
use Rattle.decoding.proofs.Offsets.{join4, fields_told}

-- A flow-mod by its fields, a barrier or a reply.
pub data Form : Pdu → Type 0 where
  flow_mod_form : (m : Message) (f : FlowMod) → HasFields (sent m) f → ((xid : ℕ) → wire (carried_message (sent m)) xid ≡ flow_mod f xid) → Form (pdu.Message m)
  barrier_form : (s : Switch) → Form (pdu.Message (message.Barrier s))
  reply_form : (s : Switch) → Form (pdu.Reply s)

pub form : (p : Pdu) → Form p
form (pdu.Message (message.Add a)) = flow_mod_form _ _ refl (λ xid. refl)
form (pdu.Message (message.Stamp s p t)) = flow_mod_form _ _ refl (λ xid. refl)
form (pdu.Message (message.Remove s t)) = flow_mod_form _ _ refl (λ xid. refl)
form (pdu.Message (message.Barrier s)) = barrier_form s
form (pdu.Reply s) = reply_form s

pub xid_told : {p : Pdu} (xid : ℕ) → xid < 2 ^ 32 → Form p → at4 (wire (carried p) xid) 4 ≡ xid
unfolding header
xid_told xid h (flow_mod_form m f e w) = ap (λ b. at4 b 4) (w xid) ∙ join4 xid h
xid_told xid h (barrier_form s) = join4 xid h
xid_told xid h (reply_form s) = join4 xid h

module _ (bytes : List ℕ) (xid : ℕ) where
  pub barrier_told : (switch : Switch) {p : Pdu} → Writing switch.number bytes p xid → at1 bytes 1 ≡ 18 → Form p → pdu.Message (message.Barrier switch) ≡ p
  unfolding header
  barrier_told switch w t (flow_mod_form m f e is) = absurd (omega (arith, ap (λ b. at1 b 1) (sym (is xid) ∙ w.is)))
  barrier_told switch w t (barrier_form s) = ap (λ x. pdu.Message (message.Barrier x)) (sym (numbers.switch s switch w.to))
  barrier_told switch w t (reply_form s) = absurd (omega (arith, ap (λ b. at1 b 1) w.is))

  pub reply_told : (switch : Switch) {p : Pdu} → Writing switch.number bytes p xid → at1 bytes 1 ≡ 19 → Form p → pdu.Reply switch ≡ p
  unfolding header
  reply_told switch w t (flow_mod_form m f e is) = absurd (omega (arith, ap (λ b. at1 b 1) (sym (is xid) ∙ w.is)))
  reply_told switch w t (barrier_form s) = absurd (omega (arith, ap (λ b. at1 b 1) w.is))
  reply_told switch w t (reply_form s) = ap pdu.Reply (sym (numbers.switch s switch w.to))

  pub flow_mod_told : (switch : ℕ) {p : Pdu} → Writing switch bytes p xid → at1 bytes 1 ≡ 14 → Form p → (m : Message) × ((pdu.Message m ≡ p) × (72 ≤ length bytes) × (switch_of (sent m) ≡ switch) × HasFields (sent m) (fields_at bytes))
  unfolding header match_part command_part
  flow_mod_told switch w t (flow_mod_form m f e is) =
      let there : flow_mod f xid ≡ bytes = sym (is xid) ∙ w.is in
      let long : 72 ≤ length (flow_mod f xid) = omega arith in
      let told = fields_told f xid (fields_fit m f w.fits e) in
      (m, (refl, subst (λ x. 72 ≤ length x) there long, w.to, subst (HasFields (sent m)) (sym told ∙ ap fields_at there) e))
  flow_mod_told switch w t (barrier_form s) = absurd (omega (arith, ap (λ b. at1 b 1) w.is))
  flow_mod_told switch w t (reply_form s) = absurd (omega (arith, ap (λ b. at1 b 1) w.is))

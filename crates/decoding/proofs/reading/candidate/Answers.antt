use Rattle.std.proofs.Common.{Some, sym, refl, ap, ◌∙◌, rules}
use Rattle.openflow.specs.declared.pdu.Pdu.{Pdu}
use Rattle.openflow.specs.Kinds.{type_number}
use Rattle.decoding.proofs.Told.{form, barrier_told, reply_told, flow_mod_told}
use Rattle.decoding.proofs.reading.candidate.Goals as goal

pub returns-in-Barrier : goal.returns-in-Barrier
returns-in-Barrier c =
    let type = sym c.requires ∙ ap type_number c.in-Barrier.is in
    record {
      told = λ p xid w. ap (λ (x : Pdu). Some x) (barrier_told c.args.bytes.now xid c.args.switch w type (form p));
      to = refl;
    }

pub returns-in-Reply : goal.returns-in-Reply
returns-in-Reply c =
    let type = sym c.requires ∙ ap type_number c.in-Reply.is in
    record {
      told = λ p xid w. ap (λ (x : Pdu). Some x) (reply_told c.args.bytes.now xid c.args.switch w type (form p));
      to = refl;
    }

pub returns-in_err-flow_mod-in-FlowMod : goal.returns-in_err-flow_mod-in-FlowMod
returns-in_err-flow_mod-in-FlowMod c =
    let type = sym c.requires ∙ ap type_number c.in-FlowMod.is in
    record {
      told = λ p xid w.
          let (m, (is, long, to, fields)) = flow_mod_told c.args.bytes.now xid c.args.switch.number w type (form p) in
          let found = c.flow_mod.ensures.told m to long fields in
          let was = c.in_err-flow_mod-in-FlowMod.was in
          cc;
      to = search rules;
    }

pub returns-in_ok-flow_mod-in-FlowMod : goal.returns-in_ok-flow_mod-in-FlowMod
returns-in_ok-flow_mod-in-FlowMod c =
    let type = sym c.requires ∙ ap type_number c.in-FlowMod.is in
    record {
      told = λ p xid w.
          let (m, (is, long, to, fields)) = flow_mod_told c.args.bytes.now xid c.args.switch.number w type (form p) in
          let found = c.flow_mod.ensures.told m to long fields in
          let was = c.in_ok-flow_mod-in-FlowMod.was in
          cc;
      to = c.in_ok-flow_mod-in-FlowMod.ensures.to;
    }

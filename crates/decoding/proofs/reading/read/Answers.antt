use Rattle.std.proofs.Common.{◌≡◌, ◌-◌, take, Bool, true, false, not, sym, refl, ap, ◌∙◌, rules}
use Rattle.std.proofs.lemmas.Slice.Eq.{slice_eq-Decides}
use Rattle.std.proofs.lemmas.Bool.{true≢false}
use Rattle.std.proofs.lemmas.Option.{same_Some}
use Rattle.openflow.specs.declared.pdu.Pdu.{Pdu}
use Rattle.openflow.specs.Carried.{carried}
use Rattle.openflow.specs.Layout.{wire}
use Rattle.decoding.specs.Offsets.{at4}
use Rattle.decoding.specs.Reading.{Fits}
use Rattle.decoding.proofs.Answering.{reads, at4_front, front_length}
use Rattle.decoding.proofs.RoundTrip.{round_trip}
use Rattle.decoding.proofs.Told.{form, xid_told}
use Rattle.decoding.proofs.reading.read.Goals as goal
use Rattle.std.proofs.lemmas.Bool.Decides.{Decides-eqb}

unlike : (x r : Bool) → r ≡ not x → r ≡ true → x ≡ true → ⊥
unlike true r e f g = true≢false (sym f ∙ e)
unlike false r e f g = true≢false (sym g)

like : (x r : Bool) → r ≡ not x → r ≡ false → x ≡ true
like true r e f = refl
like false r e f = absurd (true≢false (sym e ∙ f))

pub returns-in_err-switch : goal.returns-in_err-switch
returns-in_err-switch c = record { answer = search rules; law = round_trip }

pub returns-in_err-kind : goal.returns-in_err-kind
returns-in_err-kind c = record { answer = search rules; law = round_trip }

pub returns-in_err-pdu-clause-law : goal.returns-in_err-pdu-clause-law
returns-in_err-pdu-clause-law c = round_trip

pub returns-then-ne : goal.returns-then-ne
returns-then-ne c =
    let header = c.in_ok-kind.ensures in
    let n = c.in_ok-kind.field-0.length in
    let b = c.args.bytes.now in
    let compared = slice_eq-Decides Decides-eqb c.as_slice.result.now (take (n - 0) b) _ refl in
    record {
      answer =
          reads c.args.switch n _ b _
          c.in_ok-switch.ensures.refusal header.refusal c.in_ok-switch.ensures.value header.value.1 (
            refl,
            λ p xid w.
                let found = c.candidate.ensures.told p xid w in
                let was = c.in_ok-pdu.ensures.ok_part in
                let same : c.in_ok-pdu.pdu ≡ p = same_Some _ _ (sym was ∙ found) in
                let xid_is : c.in_ok-kind.field-0.xid ≡ xid =
                header.value.2 ∙ at4_front n b header.within.0 ∙ ap (λ l. at4 l 4) (sym w.is) ∙ xid_told xid w.xid_fits (form p) in
                let equal =
                c.as_slice.ensures ∙ c.of-frame.ensures
                ∙ ap (λ (q : Pdu). wire (carried q) c.in_ok-kind.field-0.xid) same ∙ ap (wire (carried p)) xid_is ∙ w.is in
                unlike _ c.ne.result c.ne.ensures c.if-ne.true (compared.1 equal),
          );
      law = round_trip;
    }

pub returns : goal.returns
returns c =
    let fits : Fits (carried c.in_ok-pdu.pdu) = search rules in
    let header = c.in_ok-kind.ensures in
    let n = c.in_ok-kind.field-0.length in
    let b = c.args.bytes.now in
    let compared = slice_eq-Decides Decides-eqb c.as_slice.result.now (take (n - 0) b) _ refl in
    record {
      answer =
          reads c.args.switch n _ b _
          c.in_ok-switch.ensures.refusal header.refusal c.in_ok-switch.ensures.value header.value.1 (
            record {
              fits = fits;
              xid_fits = search rules;
              to = rw c.in_ok-pdu.ensures.ok_part at c.candidate.ensures.to;
              is = sym (c.as_slice.ensures ∙ c.of-frame.ensures) ∙ compared.0 (like _ c.ne.result c.ne.ensures c.if-ne.false);
            },
            front_length n b header.within.1,
          );
      law = round_trip;
    }

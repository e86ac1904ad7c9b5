-- Writing and reading are inverse to each other.
use Rattle.std.proofs.Common.{◌≡◌, ℕ, zero, suc, ◌+◌, ◌^◌, ◌<◌, ◌≤◌, true, List, [], ◌∷◌, ◌++◌, length, take, Some, None, Ok, Err, Option, Result, sym, refl, ap, ◌∙◌, subst, arith, length-append}
use Rattle.std.proofs.lemmas.List.{take_at}
use Rattle.std.proofs.lemmas.Bool.{le-leb}
use Rattle.std.specs.Option.{option_or}
use Rattle.messages.specs.declared.message.Message.TheVariants as message
use Rattle.decoding.specs.declared.fault.ReadFault.{ReadFault}
use Rattle.openflow.specs.declared.pdu.Pdu.{Pdu}
use Rattle.openflow.specs.declared.pdu.Pdu.TheVariants as pdu
use Rattle.decoding.specs.declared.received.Received.{Received}
use Rattle.openflow.specs.Carried.{carried, switch_at}
use Rattle.decoding.specs.Families.{RoundTrip}
use Rattle.openflow.specs.Kinds.{is_type}
use Rattle.openflow.specs.Layout.{header, actions_part, wire}
use Rattle.decoding.specs.Offsets.{at1, at2, at4, fields_at}
use Rattle.decoding.specs.Reading.{switch_fault, header_fault, Fits, Writing, Answered, UnlessRefused, Reads, openflow10}
use Rattle.decoding.proofs.Apart.{apart}
use Rattle.decoding.proofs.Offsets.{join2}
use Rattle.decoding.proofs.Rows.{limits}
use Rattle.openflow.proofs.Sizes.{length-flow_mod, few_actions}
use Rattle.decoding.proofs.Told.{Form, flow_mod_form, barrier_form, reply_form, form, xid_told, barrier_told, reply_told, flow_mod_told}

-- Two writings of one switch with the same bytes are one.
module _ (s : ℕ) (bytes : List ℕ) (x y : ℕ) where
  same_pdu : {p : Pdu} (q : Pdu) → Form p → Writing s bytes p x → Writing s bytes q y → p ≡ q
  unfolding header
  same_pdu q (flow_mod_form m f e is) v w =
      let type = ap (λ b. at1 b 1) (sym v.is ∙ is x) in
      let (l, (l_is, long, l_to, l_fields)) = flow_mod_told bytes x s v type (form _) in
      let (n, (n_is, more, n_to, n_fields)) = flow_mod_told bytes y s w type (form q) in
      sym l_is ∙ ap pdu.Message (apart l n (fields_at bytes) (l_to ∙ sym n_to) l_fields n_fields) ∙ n_is
  same_pdu q (barrier_form t) v w =
      barrier_told bytes y t (subst (λ k. Writing k bytes q y) (sym v.to) w) (ap (λ b. at1 b 1) (sym v.is)) (form q)
  same_pdu q (reply_form t) v w =
      reply_told bytes y t (subst (λ k. Writing k bytes q y) (sym v.to) w) (ap (λ b. at1 b 1) (sym v.is)) (form q)

  pub same : (p q : Pdu) → Writing s bytes p x → Writing s bytes q y → (p ≡ q) × (x ≡ y)
  same p q v w = (
    same_pdu q (form p) v w,
    sym (xid_told x v.xid_fits (form p)) ∙ ap (λ b. at4 b 4) (v.is ∙ sym w.is) ∙ xid_told y w.xid_fits (form q),
  )

-- Bytes that begin with a writing pass the tests of the header, and its length takes in just the writing.
record Begins (w rest : List ℕ) : Type 0 where
  version : at1 (w ++ rest) 0 ≡ 1
  type : is_type (at1 (w ++ rest) 1) ≡ true
  len : at2 (w ++ rest) 2 ≡ length w
  long : 8 ≤ length w

begins : {p : Pdu} (xid : ℕ) (rest : List ℕ) → Form p → Begins (wire (carried p) xid) rest
unfolding header
begins xid rest (flow_mod_form m f e is) =
    let n = length (actions_part f.actions) in
    let few = few_actions f.actions in
    let size = length-flow_mod f xid in
    subst (λ w. Begins w rest) (sym (is xid)) (record { version = refl; type = refl; len = join2 (72 + n) (omega arith) ∙ sym size; long = omega arith })
begins xid rest (barrier_form s) = record { version = refl; type = refl; len = refl; long = omega arith }
begins xid rest (reply_form s) = record { version = refl; type = refl; len = refl; long = omega arith }

passed : (w rest : List ℕ) → Begins w rest → header_fault (w ++ rest) ≡ None
passed w rest b =
    let all : length w ≤ length (w ++ rest) = simp length-append (omega arith) in
    let long = b.long in
    let one = b.version in
    let type = b.type in
    let len = b.len in
    rw (le-leb 8 (length (w ++ rest)) (omega arith), one, type, len, le-leb 8 (length w) long, le-leb (length w) (length (w ++ rest)) all)

switch_small : (p : Pdu) → switch_at (carried p) ≤ 15
switch_small (pdu.Message (message.Add a)) = (limits a.rule.row a.rule.ok).switch
switch_small (pdu.Message (message.Stamp s p t)) = s.ok
switch_small (pdu.Message (message.Remove s t)) = s.ok
switch_small (pdu.Message (message.Barrier s)) = s.ok
switch_small (pdu.Reply s) = s.ok

-- Bytes that begin with a writing are read as what was written.
read_back : (p : Pdu) (xid : ℕ) (rest : List ℕ) → Fits (carried p) → xid < 2 ^ 32 → Reads (switch_at (carried p)) (wire (carried p) xid ++ rest) (Ok (record { pdu = p; xid = xid; length = length (wire (carried p) xid) }))
read_back p xid rest fits small =
    let s = switch_at (carried p) in
    let w = wire (carried p) xid in
    let a : Result Received ReadFault = Ok (record { pdu = p; xid = xid; length = length w }) in
    let b = begins xid rest (form p) in
    let granted : option_or (switch_fault s) (header_fault (w ++ rest)) ≡ None = rw (le-leb s 15 (switch_small p), passed w rest b) in
    let answered : Answered s w a = (record { fits = fits; xid_fits = small; to = refl; is = refl }, refl) in
    subst (λ f. UnlessRefused f s (w ++ rest) a) (sym granted) (subst (λ l. Answered s l a) (sym (take_at w rest (at2 (w ++ rest) 2) (sym b.len))) answered)

-- As many bytes as were taken, taken again.
take_again : (k : ℕ) (b : List ℕ) → take (length (take k b)) b ≡ take k b
take_again zero b = refl
take_again (suc k) [] = refl
take_again (suc k) (x ∷ b) = ap (λ l. x ∷ l) (take_again k b)

writing : (o : Option ReadFault) (s : ℕ) (b : List ℕ) (p : Pdu) (xid n : ℕ) → UnlessRefused o s b (Ok (record { pdu = p; xid = xid; length = n })) → (switch_at (carried p) ≡ s) × (take n b ≡ wire (carried p) xid) × (n ≡ length (wire (carried p) xid)) × Fits (carried p) × (xid < 2 ^ 32)
writing (Some f) s b p xid n r = let z : ◌≡◌ {A = ℕ} 0 1 = cc in absurd (omega arith)
writing None s b p xid n (w, len) =
    (w.to, ap (λ m. take m b) len ∙ take_again (at2 b 2) b ∙ sym w.is, len ∙ ap length (sym w.is), w.fits, w.xid_fits)

one_answer : (o : Option ReadFault) (s : ℕ) (b : List ℕ) (a c : Result Received ReadFault) → UnlessRefused o s b a → UnlessRefused o s b c → a ≡ c
one_answer (Some f) s b a c d e = d ∙ sym e
one_answer None s b (Ok a) (Ok c) (v, m) (w, n) =
    let (pdu_is, xid_is) = same s _ a.xid c.xid a.pdu c.pdu v w in
    ap (λ (r : Received). Ok r) (λ i. record { pdu = pdu_is i; xid = xid_is i; length = (m ∙ sym n) i })
one_answer None s b (Ok a) (Err g) (v, m) (e, none) = absurd (none a.pdu a.xid v)
one_answer None s b (Err f) (Ok c) (d, none) (w, n) = absurd (none c.pdu c.xid w)
one_answer None s b (Err f) (Err g) (d, _) (e, _) = ap (λ (x : ReadFault). Err x) (d ∙ sym e)

pub round_trip : RoundTrip openflow10
round_trip = record {
  read_back = λ m xid rest held small. read_back m xid rest held small;
  writing = λ s b m xid n r. writing _ s b m xid n r;
  told_apart = λ l m x y h k xs ys to e.
      same (switch_at (carried m)) (wire (carried m) y) x y l m
      (record { fits = h; xid_fits = xs; to = to; is = e }) (record { fits = k; xid_fits = ys; to = refl; is = refl });
  one_answer = λ s b a c r q. one_answer _ s b a c r q;
}

use Rattle.std.proofs.Common.{◌≡◌, ℕ, ◌-◌, ◌≤◌, List, ◌++◌, length, Ok, refl, ap, ◌∙◌, arith}
use borrow.Rule.Slice.PartMut.{post_of, Post-is}
use Rattle.std.proofs.lemmas.Bool.{le-leb}
use Rattle.openflow.specs.Carried.{carried}
use Rattle.openflow.specs.Writing.{write_answer, written_over}
use Rattle.openflow.proofs.Sizes.{length-wire}
use Rattle.openflow.proofs.writing.write.Goals as goal

answered : (bytes buffer : List ℕ) → length bytes ≤ length buffer → Ok (length bytes) ≡ write_answer bytes buffer
answered bytes buffer h = rw (le-leb (length bytes) (length buffer) h)

laid : (bytes part buffer : List ℕ) → part ≡ bytes → length bytes ≤ length buffer → part ++ post_of 0 (length bytes - 0) buffer ≡ written_over bytes buffer
laid bytes part buffer e h = rw (e, le-leb (length bytes) (length buffer) h, Post-is 0 (length bytes) buffer (omega arith))

pub returns : goal.returns
returns c =
    let bytes = c.as_slice-bytes.result.now in
    let buffer = c.args.buffer.now in
    let same = c.as_slice-bytes.ensures ∙ c.of-frame.ensures in
    record {
      answer = answered bytes buffer (omega arith) ∙ ap (λ b. write_answer b buffer) same;
      after = laid bytes c.copy_from_slice.new.self buffer c.copy_from_slice.ensures.after (omega arith) ∙ ap (λ b. written_over b buffer) same;
      enough = λ _. refl;
      len = ap length same ∙ length-wire (carried c.args.pdu) c.args.xid;
    }

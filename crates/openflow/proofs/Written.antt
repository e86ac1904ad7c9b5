-- What a caller finds in its buffer after writing.
use Rattle.std.proofs.Common.{◌≡◌, ℕ, Bool, true, false, cond, leb, List, ◌++◌, length, take, drop, Ok, Err, Result, arith}
use Rattle.std.proofs.lemmas.List.{take_at}
use Rattle.openflow.specs.declared.fault.WriteFault.{WriteFault}
use Rattle.openflow.specs.Writing.{write_answer, written_over}

module _ (bytes buffer : List ℕ) (n : ℕ) (f : WriteFault) where
  front : (fits : Bool) → ◌≡◌ {A = Result ℕ WriteFault} (Ok n) (cond fits (Ok (length bytes)) (Err f)) → take n (cond fits (bytes ++ drop (length bytes) buffer) buffer) ≡ bytes
  front true e = let same : length bytes ≡ n = cc in take_at bytes (drop (length bytes) buffer) n same
  front false e = let z : ◌≡◌ {A = ℕ} 0 1 = cc in absurd (omega arith)

-- As many first bytes as were answered are the writing.
pub written_front : (bytes buffer : List ℕ) (n : ℕ) → Ok n ≡ write_answer bytes buffer → take n (written_over bytes buffer) ≡ bytes
written_front bytes buffer n e = front bytes buffer n (record { needed = length bytes; room = length buffer }) (leb (length bytes) (length buffer)) e

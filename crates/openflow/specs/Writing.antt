-- What writing some bytes into a buffer answers, and what the buffer then holds.
use Rattle.std.specs.Prelude.{ℕ, cond, List, ◌++◌, length, drop, Ok, Err, Result, nat_le}
use Rattle.openflow.specs.declared.fault.WriteFault.{WriteFault}

abbrev pub write_answer : List ℕ → List ℕ → Result ℕ WriteFault
write_answer bytes buffer =
    cond (nat_le (length bytes) (length buffer)) (Ok (length bytes)) (Err (record { needed = length bytes; room = length buffer }))

abbrev pub written_over : List ℕ → List ℕ → List ℕ
written_over bytes buffer =
    cond (nat_le (length bytes) (length buffer)) (bytes ++ drop (length bytes) buffer) buffer

-- From what the parts of reading find to the answer.
use Rattle.std.proofs.Common.{◌≡◌, ℕ, ◌-◌, ◌≤◌, List, length, take, None, Result, sym, ap, ◌∙◌, subst, arith, length-take, get_or-take}
use native.Mathlib.Nat.{sub-zero}
use Rattle.std.specs.Option.{option_or}
use Rattle.decoding.specs.declared.fault.ReadFault.{ReadFault}
use Rattle.decoding.specs.declared.received.Received.{Received}
use Rattle.decoding.specs.Offsets.{at1, at2, at4}
use Rattle.decoding.specs.Reading.{switch_fault, header_fault, Answered, UnlessRefused, Reads}

-- The first n bytes, as code cuts them.
abbrev pub front : ℕ → List ℕ → List ℕ
front n b = take (n - 0) b

pub reads : (s n k : ℕ) (b : List ℕ) (r : Result Received ReadFault) → None ≡ switch_fault s → None ≡ header_fault b → k ≡ s → n ≡ at2 b 2 → Answered k (front n b) r → Reads s b r
reads s n k b r no_switch no_Header to len a =
    let none : None ≡ option_or (switch_fault s) (header_fault b) = no_Header ∙ ap (λ f. option_or f (header_fault b)) no_switch in
    let here : Answered s (take (at2 b 2) b) r = subst (λ m. Answered s (take m b) r) len (subst (λ m. Answered s (take m b) r) (sub-zero n) (subst (λ m. Answered m (front n b) r) to a)) in
    subst (λ f. UnlessRefused f s b r) none here

pub at1_front : (n : ℕ) (b : List ℕ) → 8 ≤ n → at1 b 1 ≡ at1 (front n b) 1
at1_front n b h = sym (get_or-take (n - 0) b 1 0 (omega arith))

pub at4_front : (n : ℕ) (b : List ℕ) → 8 ≤ n → at4 b 4 ≡ at4 (front n b) 4
at4_front n b h = rw (get_or-take (n - 0) b 4 0 (omega arith), get_or-take (n - 0) b 5 0 (omega arith), get_or-take (n - 0) b 6 0 (omega arith), get_or-take (n - 0) b 7 0 (omega arith))

pub front_length : (n : ℕ) (b : List ℕ) → n ≤ length b → n ≡ length (front n b)
front_length n b h = simp length-take (omega arith)

-- What a family of messages on the wire has to show, whatever its messages and its layout.
use Rattle.std.specs.Prelude.{◌≡◌, ℕ, ◌^◌, ◌<◌, List, ◌++◌, length, take}

pub record Family : Type 1 where
  -- messages, and the replies to them
  pub Message : Type 0
  -- what reading can answer
  pub Answer : Type 0
  -- code can hold the message: its numbers fit their types
  pub Held : Message → Type 0
  -- the switch at the other end
  pub switch : Message → ℕ
  -- the bytes of a message under an xid
  pub bytes : Message → ℕ → List ℕ
  -- what reading may answer, told a switch and some bytes
  pub Reads : ℕ → List ℕ → Answer → Type 0
  -- the answer of a message, its xid and its length
  pub answer : Message → ℕ → ℕ → Answer

pub record RoundTrip (F : Family) : Type 0 where
  -- what is written is read back as itself, whatever follows it
  pub read_back : (m : F.Message) (xid : ℕ) (rest : List ℕ) → F.Held m → xid < 2 ^ 32
      → F.Reads (F.switch m) (F.bytes m xid ++ rest) (F.answer m xid (length (F.bytes m xid)))
  -- what is read is the writing of what was answered, to that switch
  pub writing : (s : ℕ) (b : List ℕ) (m : F.Message) (xid n : ℕ) → F.Reads s b (F.answer m xid n)
      → (F.switch m ≡ s) × (take n b ≡ F.bytes m xid) × (n ≡ length (F.bytes m xid)) × F.Held m × (xid < 2 ^ 32)
  -- two different messages of a switch, or one under two xids, never have the same bytes
  pub told_apart : (l m : F.Message) (x y : ℕ) → F.Held l → F.Held m → x < 2 ^ 32 → y < 2 ^ 32
      → F.switch l ≡ F.switch m → F.bytes l x ≡ F.bytes m y → (l ≡ m) × (x ≡ y)
  -- reading has one answer
  pub one_answer : (s : ℕ) (b : List ℕ) (a c : F.Answer) → F.Reads s b a → F.Reads s b c → a ≡ c

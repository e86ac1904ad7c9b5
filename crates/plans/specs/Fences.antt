-- What the order of a series is for: where barriers stand, and which messages carry which tag.
use Rattle.std.specs.Prelude.{◌≡◌, ℕ, ◌<◌, List, length, Some}
use Rattle.std.specs.List.{slice_get}
use Rattle.messages.specs.Sent.{Sent, barrier, switch_of}
use Rattle.messages.specs.Lines.{kind_of, tag_of}
use Rattle.messages.specs.declared.line.Kind.{Kind}
use Rattle.messages.specs.declared.line.Kind.TheVariants.{Add, Stamp, Remove}

-- The message at a place, which is of a kind.
pub record Posted (messages : List Sent) (place : ℕ) (k : Kind) (m : Sent) : Type 0 where
  pub here : slice_get messages place ≡ Some m
  pub kind : kind_of m ≡ k

-- Every message of a kind carries a tag.
abbrev pub Tagged : List Sent → Kind → ℕ → Type 0
Tagged messages k tag = (i : ℕ) (m : Sent) → Posted messages i k m → tag_of m ≡ tag

-- A barrier to the switch of m stands between two places.
abbrev pub BarrierBetween : List Sent → ℕ → ℕ → Sent → Type 0
BarrierBetween messages i j m = (k : ℕ) × (i < k) × (k < j) × (slice_get messages k ≡ Some (barrier (switch_of m)))

-- Every message of the first kind comes before every one of the second, with a barrier to its switch between them.
abbrev pub Fenced : List Sent → Kind → Kind → Type 0
Fenced messages first second = (i j : ℕ) (a b : Sent) → Posted messages i first a → Posted messages j second b → BarrierBetween messages i j a

-- Adds and stamps carry the new tag, removes the old. Between every add and every stamp or remove stands a barrier to the
-- add's switch, between every stamp and every remove one to the stamp's switch, and after every remove one to its switch.
pub record InOrder (messages : List Sent) (old new : ℕ) : Type 0 where
  pub adds_new : Tagged messages Add new
  pub stamps_new : Tagged messages Stamp new
  pub removes_old : Tagged messages Remove old
  pub adds_then_stamps : Fenced messages Add Stamp
  pub adds_then_removes : Fenced messages Add Remove
  pub stamps_then_removes : Fenced messages Stamp Remove
  pub removes_then_end : (i : ℕ) (a : Sent) → Posted messages i Remove a → BarrierBetween messages i (length messages) a

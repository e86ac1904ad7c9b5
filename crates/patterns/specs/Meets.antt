-- What the meet of two patterns has to be, for any kind of pattern.
use Rattle.std.specs.Prelude.{◌≡◌, Bool, false, ◌&&◌, Some, None, Option}

-- The meet admits exactly what both admit; if there is none, nothing is admitted by both.
abbrev pub Meet : {P S : Type 0} → (P → S → Bool) → P → P → Option P → Type 0
Meet admitting a b None = (x : _) → (admitting a x && admitting b x) ≡ false
Meet admitting a b (Some m) = (x : _) → admitting m x ≡ (admitting a x && admitting b x)

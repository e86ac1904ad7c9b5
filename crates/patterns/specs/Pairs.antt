-- A pair of patterns has a meet where both halves have one.
use Rattle.std.specs.Prelude.{Some, None, Option}

abbrev pub both_some : {A B C : Type 0} → (A → B → C) → Option A → Option B → Option C
both_some f None y = None
both_some f (Some x) None = None
both_some f (Some x) (Some y) = Some (f x y)

-- What a frame holds: the bytes put into it, in order.
use Rattle.std.specs.Prelude.{◌≡◌, ℕ, ◌+◌, List, ◌++◌, length, take}
use Rattle.openflow.specs.declared.frame.Frame.{Frame}

abbrev pub contents : Frame → List ℕ
contents f = take f.length f.bytes

-- `after` holds what `before` holds, and then `part`.
pub record Grown (before : Frame) (part : List ℕ) (after : Frame) : Type 0 where
  pub held : contents after ≡ contents before ++ part
  pub len : after.length ≡ before.length + length part

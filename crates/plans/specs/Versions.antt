-- Tags 1 and 2 take turns.
use Rattle.std.specs.Prelude.{ℕ}
use Rattle.plans.specs.declared.version.Version.{Version}
use Rattle.plans.specs.declared.version.Version.TheVariants.{First, Second}

abbrev pub version_tag : Version → ℕ
version_tag First = 1
version_tag Second = 2

abbrev pub other : Version → Version
other First = Second
other Second = First

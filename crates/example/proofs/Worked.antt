-- The worked cases: by computation under the definitions, and lengths by the law on them.
use Rattle.std.proofs.Common.{◌+◌, ◌*◌, true, false, [], length, refl, ap, ◌∙◌}
use Rattle.messages.specs.Sent.{add}
use Rattle.openflow.specs.Carried.{message}
use Rattle.openflow.proofs.Sizes.{length-wire}
use Rattle.plans.proofs.Sizes.{length-series}
use Rattle.example.specs.Site.{site_rule}
use Rattle.example.specs.Cases.{Worked}

pub worked : Worked
worked = record {
  prefixes_meet = refl;
  prefixes_apart = refl;
  example_series = refl;
  smallest_series = λ ports old new e. length-series 1 ports [] old new ∙ ap (λ xs. 0 + length xs + 4 * 1) e;
  example_adds = λ xid. (length-wire (message (add 2 (site_rule 0 2) false)) xid, length-wire (message (add 2 (site_rule 1 1) true)) xid);
  open_wildcards = refl;
  fixed_wildcards = refl;
}

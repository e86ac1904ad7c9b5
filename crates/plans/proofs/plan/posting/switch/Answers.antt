use Rattle.std.proofs.Common.{◌≡◌, ◌≤◌, length, Some, sym, ◌∙◌, arith, rules}
use Rattle.std.proofs.lemmas.List.FromFn.{length-range_with_len}
use Rattle.std.proofs.lemmas.Option.{slice_get_past}
use Rattle.std.specs.List.{range_with_len}
use Rattle.std.specs.Option.{option_map}
use Rattle.patterns.proofs.Lists.{slice_get-range_with_len}
use Rattle.rules.specs.declared.switch.Switch.{Switch}
use Rattle.plans.proofs.plan.posting.switch.Goals as goal

pub returns-then-number-from : goal.returns-then-number-from
returns-then-number-from c =
    let n = c.args.topology.now.switches in
    let past : length (range_with_len 0 n) ≤ c.args.number = rw (length-range_with_len 0 n) (omega arith) in
    sym (slice_get_past (range_with_len 0 n) c.args.number past)

pub returns : goal.returns
returns c =
    let n = c.args.topology.now.switches in
    let k = c.args.number in
    let few = c.args.topology.now.few in
    let made : option_map (λ (s : Switch). s.number) c.new.result ≡ Some k = search rules in
    made ∙ sym (slice_get-range_with_len n k (omega arith))

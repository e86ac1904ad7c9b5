use Rattle.std.proofs.Common.{is_some, sym, ap, ◌∙◌, below_more}
use Rattle.configurations.proofs.Places.{fault_read}
use Rattle.configurations.proofs.configuration.made.check_rows.Goals as goal

pub loop-place-preserved : goal.loop-place-preserved
loop-place-preserved c =
    below_more _ _ c.loop-place.invariant
    (ap is_some (fault_read c.args.rows.now c.loop-place.place _ c.loop-place-test.true ∙ sym c.in_default.ensures.refusal))

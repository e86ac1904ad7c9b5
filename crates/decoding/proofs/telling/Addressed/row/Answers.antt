use Rattle.std.proofs.Common.{sym, ap, ◌∙◌}
use Rattle.decoding.proofs.Rows.{limits, row_told}
use Rattle.decoding.proofs.telling.Addressed.row.Goals as goal

pub returns : goal.returns
returns c = record {
  told = λ rule tag strip makes to e.
      row_told rule tag strip c.args.self.fields _ _ _ _ _ _ _ _ makes (to ∙ sym c.number.ensures) e
      c.low_byte.ensures (rw c.is_open.ensures at c.number-2.ensures) c.prefix_length.ensures c.prefix_length-2.ensures
      (rw c.is_open-2.ensures at c.number-3.ensures) (rw c.is_open-3.ensures at c.number-4.ensures)
      (c.action.ensures rule.action strip (limits rule makes).out (ap (λ g. g.actions) e));
  to = c.number.ensures;
}

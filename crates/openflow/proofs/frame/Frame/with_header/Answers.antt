use Rattle.std.proofs.Common.{ap, ◌∙◌}
use Rattle.openflow.specs.Layout.{header}
use Rattle.openflow.proofs.Parts.{then}
use Rattle.openflow.proofs.frame.Frame.with_header.Goals as goal

pub returns : goal.returns
unfolding header
returns c =
    let g = then c.put.ensures (then c.put_u16.ensures c.put_u32.ensures) in
    (g.held ∙ ap (λ k. header k c.args.length c.args.xid) c.from.ensures, g.len)

use Rattle.openflow.specs.Layout.{match_part}
use Rattle.openflow.proofs.Parts.{then}
use Rattle.openflow.proofs.frame.Frame.put_match.Goals as goal

pub returns : goal.returns
unfolding match_part
returns c =
    then c.put_u32.ensures (
    then c.put_u16.ensures (
    then c.put.ensures (
    then c.put_u16-2.ensures (
    then c.put-2.ensures (
    then c.put_u16-3.ensures (
    then c.put-3.ensures (
    then c.put_u32-2.ensures (
    then c.put_u32-3.ensures (
    then c.put-4.ensures
    c.put_u16-4.ensures)))))))))

use Rattle.openflow.specs.Layout.{command_part}
use Rattle.openflow.proofs.Parts.{then}
use Rattle.openflow.proofs.frame.Frame.put_command.Goals as goal

pub returns : goal.returns
unfolding command_part
returns c =
    then c.put.ensures (
    then c.put_u16.ensures (
    then c.put-2.ensures (
    then c.put_u16-2.ensures (
    then c.put_u32.ensures (
    then c.put_u16-3.ensures
    c.put_u16-4.ensures)))))

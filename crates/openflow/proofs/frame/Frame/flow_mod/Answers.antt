use Rattle.std.proofs.Common.{arith}
use Rattle.openflow.specs.Layout.{match_part, command_part}
use Rattle.openflow.proofs.frame.Frame.flow_mod.Goals as goal

pub put_command-requires : goal.put_command-requires
unfolding match_part
put_command-requires c = omega arith

pub put_actions-requires : goal.put_actions-requires
unfolding match_part command_part
put_actions-requires c = omega arith

use Rattle.scripts.proofs.Printed.{entries_return, scripts_return}
use Rattle.scripts.proofs.entry.printed_scripts_read_back.Goals as goal

pub returns : goal.returns
returns c = record { entries = entries_return; scripts = scripts_return }

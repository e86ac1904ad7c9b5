use Rattle.messages.proofs.Numbers.{told}
use Rattle.messages.proofs.message.numbers_tell_messages.Goals as goal

pub returns : goal.returns
returns c a b e = told a b e

use Rattle.configurations.proofs.configuration.setting.check.Goals as goal

pub returns : goal.returns
returns c = rw c.in_ok-new.ensures at c.check_pairs.ensures

use Rattle.std.proofs.Common.{refl}
use Rattle.std.proofs.lemmas.Result.{err_from_is_err_and}
use Rattle.configurations.proofs.Places.{never_refused}
use Rattle.configurations.proofs.configuration.Configuration.set.Goals as goal

pub returns-in_err-check : goal.returns-in_err-check
returns-in_err-check c =
    let p = err_from_is_err_and c.from_residual.result c.from_residual.ensures.1 in
    let why = c.in_err-check.ensures in
    rw (p.1, p.2) record { answer = (why, refl); granted = λ sound. absurd (never_refused c.args.rows.now _ why sound) }

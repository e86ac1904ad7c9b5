use Rattle.std.proofs.Common.{◌≡◌, Bool, true, false, ◌&&◌, is_some, Some, None, MatchBool, Option, refl, ap, ◌∙◌}
use Rattle.patterns.specs.Meets.{Meet}
use Rattle.patterns.proofs.pattern.overlap.Goals as goal

by_meet : {P S : Type 0} (admitting : P → S → Bool) (a b : P) (m : Option P) (Shared : Type 0) → Meet admitting a b m → (is_some m ≡ true → Shared) → MatchBool (is_some m) Shared ((x : S) → (admitting a x && admitting b x) ≡ false)
by_meet admitting a b None Shared exact shared = exact
by_meet admitting a b (Some m) Shared exact shared = shared refl

pub returns : goal.returns
returns g c =
    let a = c.args.a.now in
    let b = c.args.b.now in
    let e : c.is_some.result ≡ is_some (g.P.Pattern.meeting a b) = c.is_some.ensures ∙ ap is_some c.meet.ensures in
    record {
      value = e;
      cases = rw e (by_meet g.P.Pattern.admitting a b (g.P.Pattern.meeting a b) _ (g.met.P.Pattern.exact a b) (λ t u v. g.met.P.Pattern.shared a b u v t));
    }

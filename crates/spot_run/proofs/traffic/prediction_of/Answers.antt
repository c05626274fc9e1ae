use Rattle.std.proofs.Common.{◌≡◌, Result, Ok, Err, IfErr, IsErrAnd, subst, sym}
use Rattle.spot_run.proofs.traffic.prediction_of.Goals as goal

-- what is true of an error is true of it where it is handed on
handed_on : {T E : Type 0} (r : Result T E) (e : E) (P : E → Type 0) → IsErrAnd r (λ y. y ≡ e) → P e → IfErr r P
handed_on (Ok x) e P h p = absurd h
handed_on (Err y) e P h p = subst P (sym h) p

pub returns-in_err-net-clause-err : goal.returns-in_err-net-clause-err
returns-in_err-net-clause-err c = handed_on c.from_residual.result c.in_err-net.field-0.0 _ c.from_residual.ensures.1 (c.in_err-net.ensures.err c.args.steps)

use Rattle.spot_words.proofs.words.command_in.Goals as goal

pub returns-in_err-ego-clause-none : goal.returns-in_err-ego-clause-none
returns-in_err-ego-clause-none c = rw c.from_residual-in_err-ego.ensures (λ command reads. c.in_err-ego.ensures.none _ _ _ _ reads.ego)

pub returns-in_err-cell-clause-none : goal.returns-in_err-cell-clause-none
returns-in_err-cell-clause-none c = rw c.from_residual-in_err-cell.ensures (λ command reads. c.in_err-cell.ensures.none _ _ reads.grid)

pub returns-in_err-sample-clause-none : goal.returns-in_err-sample-clause-none
returns-in_err-sample-clause-none c = rw c.from_residual-in_err-sample.ensures (λ command reads. c.in_err-sample.ensures.none _ _ _ reads.sample)

use Rattle.std.proofs.Common.{ℕ, subst}
use Rattle.spot_run.specs.Samples.{IsSummed}
use Rattle.spot_run.proofs.Summing.{summary_room, summary_tells, front_tells}
use Rattle.spot_run.proofs.sample.write_made.Goals as goal

pub write_summary-requires : goal.write_summary-requires
write_summary-requires g c =
    summary_room c.args.command.now c.requires.task c.args.scenario.now c.in-Ok.summary (subst (λ (n : ℕ). IsSummed c.args.scenario.now c.args.command.now n c.in-Ok.summary) c.requires.bytes c.in-Ok.ensures.ok)
    (λ n. g.K.Sink.takes c.args.sink.now n) c.requires.room

pub returns-in-Ok-write_summary-clause-tells : goal.returns-in-Ok-write_summary-clause-tells
returns-in-Ok-write_summary-clause-tells g c =
    summary_tells c.args.command.now c.requires.task c.args.scenario.now c.in-Ok.summary (subst (λ (n : ℕ). IsSummed c.args.scenario.now c.args.command.now n c.in-Ok.summary) c.requires.bytes c.in-Ok.ensures.ok)
    (g.K.Sink.written c.args.sink.now) (g.K.Sink.written c.write_summary.new.sink) c.in-Ok-write_summary.ensures.ok

pub returns-in-Err-write_summary-clause-tells : goal.returns-in-Err-write_summary-clause-tells
returns-in-Err-write_summary-clause-tells g c =
    front_tells c.args.command.now c.requires.task c.args.scenario.now c.in-Ok.summary (subst (λ (n : ℕ). IsSummed c.args.scenario.now c.args.command.now n c.in-Ok.summary) c.requires.bytes c.in-Ok.ensures.ok)
    (g.K.Sink.written c.args.sink.now) (g.K.Sink.written c.write_summary.new.sink) c.in-Err-write_summary.ensures.err

pub returns-in-Err-clause-tells : goal.returns-in-Err-clause-tells
returns-in-Err-clause-tells g c = c.in-Err.ensures.err.tells (g.K.Sink.written c.args.sink.now) (g.K.Sink.written c.args.sink.now)

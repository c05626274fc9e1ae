use Rattle.std.proofs.Common.{inr}
use Rattle.spot_run.proofs.sample.write_sample.Goals as goal

pub write_made-requires-clause-room : goal.write_made-requires-clause-room
write_made-requires-clause-room g c = c.requires.room c.in-Ok.scenario c.in-Ok.ensures.scenario

pub returns-in-Ok-clause-tells : goal.returns-in-Ok-clause-tells
returns-in-Ok-clause-tells g c = inr (c.in-Ok.scenario, c.in-Ok.ensures.scenario, c.write_made.ensures.tells)

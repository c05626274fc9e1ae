use Rattle.clap.specs.Words.{found_of, rows_of}
use Rattle.spot_words.proofs.Ranges.{read_in_range}
use Rattle.spot_words.proofs.words.read_words.Goals as goal

pub returns-in-Some-clause-ranges : goal.returns-in-Some-clause-ranges
returns-in-Some-clause-ranges c = read_in_range (rows_of (found_of c.in-Some.matches)) c.command_in.result c.command_in.ensures.some

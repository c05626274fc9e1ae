use Rattle.std.proofs.Common.{map}
use Rattle.std.specs.Prelude.{string_bytes}
use Rattle.spot_words.proofs.Unique.{command_is_one}
use Rattle.spot_words.proofs.words_stand_for_one_command.Goals as goal

pub returns : goal.returns
returns f words c d = command_is_one (map string_bytes words) c d

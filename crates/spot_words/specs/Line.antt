-- The command line, as `clap` sees it: one positional and eleven options of one text.
use Rattle.std.specs.Prelude.{List, [], ◌∷◌, Some, true, codes}
use Rattle.clap.specs.Words.{App, Rule, Text, new_app, new_rule, with_rule}

-- the mode, which must be there
abbrev pub mode_rule : Rule
mode_rule = record (new_rule (codes "mode")) { required = true }

-- an option that takes one text
abbrev pub option_rule : Text → Rule
option_rule name = record (new_rule name) { long = Some name }

abbrev pub with_options : App → List Text → App
with_options a [] = a
with_options a (name ∷ names) = with_options (with_rule a (option_rule name)) names

abbrev pub option_names : List Text
option_names = codes "steps" ∷ codes "problem" ∷ codes "ego-acc" ∷ codes "ego-speed" ∷ codes "ego-length" ∷ codes "ego-width" ∷ codes "cell-x" ∷ codes "cell-y" ∷ codes "seed" ∷ codes "lanes" ∷ codes "movers" ∷ []

unfoldable pub spot_app : App
spot_app = with_options (with_rule (new_app (codes "spot")) mode_rule) option_names

-- What the words of a command line stand for.
use Rattle.std.specs.Prelude.{◌≡◌, ℕ, ◌&&◌, List, [], ◌∷◌, map, length, nat_lt, nat_le, Option, Some, None, option_map, option_and_then, find, String, string_bytes, if◌then◌else◌, codes, refl}
use Rattle.std.specs.declared.alloc.Global.{Global}
use Rattle.std.specs.Str.{bytes_eq}
use Rattle.spot_terms.specs.Decimal.{digits_of}
use Rattle.clap.proofs.OnLiterals.{clap_on_literals}
use Rattle.clap.specs.Words.{Text, fault_of, matches_of, first_of}
use Rattle.spot_terms.specs.declared.command.Task.{Task}
use Rattle.spot_terms.specs.declared.command.Task.TheVariants.{Predict, Area, Replay, Draw, Sample}
use Rattle.spot_terms.specs.declared.command.Command.{Command}
use Rattle.spot_words.specs.Line.{spot_app}

-- ---- numbers

abbrev pub within : ℕ → ℕ → ℕ → Option ℕ
within low high n = (if nat_le low n && nat_le n high then Some n else None)

-- the number of one to ten digits, within a range
abbrev pub number_in : ℕ → ℕ → Text → Option ℕ
number_in low high text = (if nat_lt 0 (length text) && nat_le (length text) 10 then option_and_then (within low high) (digits_of text) else None)

-- of an option: its number, or the default where it isn't given
abbrev pub number_or : ℕ → ℕ → ℕ → Option Text → Option ℕ
number_or low high default None = Some default
number_or low high default (Some text) = number_in low high text

-- of an option without a default
abbrev pub optional_number : ℕ → ℕ → Option Text → Option (Option ℕ)
optional_number low high None = Some None
optional_number low high (Some text) = option_map Some (number_in low high text)

-- ---- modes

abbrev pub modes : List (Text × Task)
modes = (codes "predict", Predict) ∷ (codes "area", Area) ∷ (codes "replay", Replay) ∷ (codes "draw", Draw) ∷ (codes "sample", Sample) ∷ []

abbrev pub mode_named : Text → Option Task
mode_named text = option_map (λ m. m.1) (find (λ m. bytes_eq m.0 text) modes)

-- ---- commands

-- the text that the words give an argument
abbrev pub given : List Text → Text → Option Text
given words name = first_of name (matches_of spot_app words)

-- `clap` gives matches, the mode is one of the five, and each number's text and range are right
pub record AreCommand (words : List Text) (c : Command) : Type 0 where
  pub matched : fault_of spot_app words ≡ []
  pub task : option_and_then mode_named (given words (codes "mode")) ≡ Some c.task
  pub steps : number_or 1 100 30 (given words (codes "steps")) ≡ Some c.steps
  pub problem : optional_number 0 4294967295 (given words (codes "problem")) ≡ Some c.problem
  pub ego_acc : number_or 1 20 8 (given words (codes "ego-acc")) ≡ Some c.ego_acc
  pub ego_speed : number_or 1 100 50 (given words (codes "ego-speed")) ≡ Some c.ego_speed
  pub ego_length : number_or 100 20000 4500 (given words (codes "ego-length")) ≡ Some c.ego_length
  pub ego_width : number_or 100 20000 1800 (given words (codes "ego-width")) ≡ Some c.ego_width
  pub cell_x : number_or 100 100000 2000 (given words (codes "cell-x")) ≡ Some c.cell_x
  pub cell_y : number_or 100 100000 1000 (given words (codes "cell-y")) ≡ Some c.cell_y
  pub seed : number_or 0 4294967295 1 (given words (codes "seed")) ≡ Some c.seed
  pub lanes : number_or 1 8 3 (given words (codes "lanes")) ≡ Some c.lanes
  pub movers : number_or 0 1000 20 (given words (codes "movers")) ≡ Some c.movers

abbrev pub StandsFor : List (String Global) → Command → Type 0
StandsFor words c = AreCommand (map string_bytes words) c

-- words stand for one command at most
abbrev pub WordsAreOne : Type 0
WordsAreOne = (words : List (String Global)) (c d : Command) → StandsFor words c → StandsFor words d → c ≡ d

-- ---- examples

row_good : fault_of spot_app (codes "spot" ∷ codes "area" ∷ codes "--steps" ∷ codes "4" ∷ []) ≡ []
unfolding clap_on_literals spot_app
row_good = refl

row_steps : given (codes "spot" ∷ codes "area" ∷ codes "--steps=4" ∷ []) (codes "steps") ≡ Some (codes "4")
unfolding clap_on_literals spot_app
row_steps = refl

-- The numbers of a command are in their ranges.
use Rattle.std.proofs.Common.{◌≡◌, ℕ, ◌≤◌, Bool, true, false, List, Option, Some, None, arith, length, if◌then◌else◌, ◌&&◌}
use Rattle.std.specs.Prelude.{nat_lt, nat_le, option_and_then, IfSome, codes}
use Rattle.std.proofs.lemmas.Bool.Decides.{nat_tests}
use Rattle.clap.specs.Words.{Row, Text, first_of}
use Rattle.spot_terms.specs.Decimal.{digits_of}
use Rattle.spot_terms.specs.Ranges.{IsCommandInRange}
use Rattle.spot_terms.specs.declared.command.Command.{Command}
use Rattle.spot_words.specs.Parts.{ReadsRows}
use Rattle.spot_words.specs.Words.{within, number_or}

within_range : (low high k n : ℕ) → within low high k ≡ Some n → (low ≤ n) × (n ≤ high)
within_range low high k n e = (grind (arith, nat_tests), grind (arith, nat_tests))

in_range : (low high n : ℕ) (b : Bool) (o : Option ℕ) → (if b then option_and_then (within low high) o else None) ≡ Some n → (low ≤ n) × (n ≤ high)
in_range low high n false o e = cc
in_range low high n true None e = cc
in_range low high n true (Some k) e = within_range low high k n e

-- of an option whose default is in its range
of_option : (low high default : ℕ) (o : Option Text) (n : ℕ) → low ≤ default → default ≤ high → number_or low high default o ≡ Some n → (low ≤ n) × (n ≤ high)
of_option low high default None n least most e = let same : default ≡ n = cc in (omega (arith, same), omega (arith, same))
of_option low high default (Some text) n least most e = in_range low high n (nat_lt 0 (length text) && nat_le (length text) 10) (digits_of text) e

-- the numbers of a row of options, one after the other
command_in_range : (rows : List Row) (c : Command) → ReadsRows rows c → IsCommandInRange c
command_in_range rows c h = record {
  steps = of_option 1 100 30 (first_of (codes "steps") rows) c.steps (omega arith) (omega arith) h.steps;
  ego_acc = of_option 1 20 8 (first_of (codes "ego-acc") rows) c.ego_acc (omega arith) (omega arith) h.ego.acc_is;
  ego_speed = of_option 1 100 50 (first_of (codes "ego-speed") rows) c.ego_speed (omega arith) (omega arith) h.ego.speed_is;
  ego_length = of_option 100 20000 4500 (first_of (codes "ego-length") rows) c.ego_length (omega arith) (omega arith) h.ego.long_is;
  ego_width = of_option 100 20000 1800 (first_of (codes "ego-width") rows) c.ego_width (omega arith) (omega arith) h.ego.wide_is;
  cell_x = of_option 100 100000 2000 (first_of (codes "cell-x") rows) c.cell_x (omega arith) (omega arith) h.grid.x_is;
  cell_y = of_option 100 100000 1000 (first_of (codes "cell-y") rows) c.cell_y (omega arith) (omega arith) h.grid.y_is;
  lanes = of_option 1 8 3 (first_of (codes "lanes") rows) c.lanes (omega arith) (omega arith) h.sample.lanes_is;
  movers = (of_option 0 1000 20 (first_of (codes "movers") rows) c.movers (omega arith) (omega arith) h.sample.movers_is).1;
}

pub read_in_range : (rows : List Row) (read : Option Command) → IfSome read (λ c. ReadsRows rows c) → IfSome read IsCommandInRange
read_in_range rows None h = h
read_in_range rows (Some c) h = command_in_range rows c h

-- The command in the rows that `clap` gives, part by part.
use Rattle.std.specs.Prelude.{◌≡◌, ℕ, List, Some, option_and_then, codes}
use Rattle.clap.specs.Words.{Row, first_of}
use Rattle.spot_terms.specs.declared.command.Command.{Command}
use Rattle.spot_words.specs.Words.{number_or, optional_number, mode_named}

pub record ReadsEgo (rows : List Row) (acc speed long wide : ℕ) : Type 0 where
  pub acc_is : number_or 1 20 8 (first_of (codes "ego-acc") rows) ≡ Some acc
  pub speed_is : number_or 1 100 50 (first_of (codes "ego-speed") rows) ≡ Some speed
  pub long_is : number_or 100 20000 4500 (first_of (codes "ego-length") rows) ≡ Some long
  pub wide_is : number_or 100 20000 1800 (first_of (codes "ego-width") rows) ≡ Some wide

pub record ReadsGrid (rows : List Row) (x y : ℕ) : Type 0 where
  pub x_is : number_or 100 100000 2000 (first_of (codes "cell-x") rows) ≡ Some x
  pub y_is : number_or 100 100000 1000 (first_of (codes "cell-y") rows) ≡ Some y

pub record ReadsSample (rows : List Row) (seed lanes movers : ℕ) : Type 0 where
  pub seed_is : number_or 0 4294967295 1 (first_of (codes "seed") rows) ≡ Some seed
  pub lanes_is : number_or 1 8 3 (first_of (codes "lanes") rows) ≡ Some lanes
  pub movers_is : number_or 0 1000 20 (first_of (codes "movers") rows) ≡ Some movers

pub record ReadsRows (rows : List Row) (c : Command) : Type 0 where
  pub task : option_and_then mode_named (first_of (codes "mode") rows) ≡ Some c.task
  pub steps : number_or 1 100 30 (first_of (codes "steps") rows) ≡ Some c.steps
  pub problem : optional_number 0 4294967295 (first_of (codes "problem") rows) ≡ Some c.problem
  pub ego : ReadsEgo rows c.ego_acc c.ego_speed c.ego_length c.ego_width
  pub grid : ReadsGrid rows c.cell_x c.cell_y
  pub sample : ReadsSample rows c.seed c.lanes c.movers

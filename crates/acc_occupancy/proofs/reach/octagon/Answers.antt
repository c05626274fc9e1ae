use Rattle.std.proofs.Common.{◌≡◌, ◌≤◌, ◌∙◌, ap, sym, map, take, length, arith, List, ℤ, ℕ}
use Rattle.std.proofs.lemmas.List.{take_all}
use Rattle.acc_occupancy.specs.declared.line.Line.{Line}
use Rattle.acc_occupancy.proofs.reach.octagon.Goals as goal

whole : (f : Line → ℤ) (numbers : List ℤ) (lines : List Line) (k : ℕ) → length numbers ≤ k → length lines ≤ k → take k numbers ≡ map f (take k lines) → numbers ≡ map f lines
whole f numbers lines k h g e = sym (take_all k numbers h) ∙ e ∙ ap (map f) (take_all k lines g)

pub returns : goal.returns
returns c = whole _ c.loop-normal.n c.args.lines.now c.loop-normal.normal (omega arith) (omega arith) c.loop-normal.invariant.done

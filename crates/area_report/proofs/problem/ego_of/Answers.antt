use Rattle.std.proofs.Common.{◌≡◌, true, Some, refl, arith}
use Rattle.spot_claims.specs.Problems.{chosen}
use Rattle.area_report.proofs.Egos.{chosen_in_range, slow_of, fits_of}
use Rattle.area_report.proofs.problem.ego_of.Goals as goal

pub line_of-ego-requires-clause-problem : goal.line_of-ego-requires-clause-problem
line_of-ego-requires-clause-problem c =
    let is : chosen c.args.command.now.problem c.args.scenario.now.problems ≡ Some c.in-Some.problem = cc (c.chosen_of.ensures, c.list.ensures, c.in-Some.is) in
    chosen_in_range c.args.command.now.problem c.args.scenario.now.problems c.in-Some.problem is c.args.scenario.now.in_range.each_problem

pub returns-then-fits-clause-ok : goal.returns-then-fits-clause-ok
returns-then-fits-clause-ok c =
    let late = c.if-problem-gt0.false in record {
      problem = c.in-Some.problem;
      is_chosen = cc (c.chosen_of.ensures, c.list.ensures, c.in-Some.is);
      at_start = omega (arith, late);
      slow = slow_of c.args.scenario.now c.args.command.now c.in-Some.problem c.line_of-ego.result c.line_of-ego.ensures (c.fits.ensures.0 c.if-fits.true);
      is = c.line_of-ego.ensures;
    }

pub returns-else-fits-clause-err : goal.returns-else-fits-clause-err
returns-else-fits-clause-err c =
    let late = c.if-problem-gt0.false in record {
      problem = c.in-Some.problem;
      is_chosen = cc (c.chosen_of.ensures, c.list.ensures, c.in-Some.is);
      at_start = omega (arith, late);
      fast = λ slow. let fits : c.fits.result ≡ true = c.fits.ensures.1 (fits_of c.args.scenario.now c.args.command.now c.in-Some.problem c.line_of-ego.result c.line_of-ego.ensures slow) in cc (fits, c.if-fits.false);
      place_is = refl;
    }

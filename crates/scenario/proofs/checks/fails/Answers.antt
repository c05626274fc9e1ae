use Rattle.std.proofs.Common.{subst, sym, ◌↔◌, IsTrue, nat_lt}
use Rattle.std.specs.List.{count_by}
use Rattle.spot_claims.specs.Profile.{FailsAt, at_paths, obstacles}
use Rattle.scenario.specs.Table.{check_of}
use Rattle.scenario.specs.declared.table.Check.{Check}
use Rattle.scenario.proofs.Members.{same_count}
use Rattle.scenario.proofs.checks.fails.Goals as goal

pub returns-in-TooMany : goal.returns-in-TooMany
returns-in-TooMany c =
    let P : Check → Type 0 = λ k. IsTrue c.is_excess.result ↔ FailsAt c.args.tree.now c.args.e (check_of k) in
    subst P (sym c.in-TooMany.is) (same_count c.is_excess.result (count_by (λ d. nat_lt d c.args.e) c.args.known.now.places.items) (count_by (λ d. nat_lt d c.args.e) (at_paths c.args.tree.now obstacles)) 4096 (c.requires.known.places c.args.e) c.is_excess.ensures)

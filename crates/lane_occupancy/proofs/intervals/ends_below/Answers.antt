use Rattle.std.proofs.Common.{◌≡◌, true, false, ltb, arith, rules}
use Rattle.std.proofs.lemmas.Bool.{ltb-true, ltb-false}
use Rattle.std.proofs.lemmas.List.Sorted.{IsPartitionPoint-from_clause, IsPartitionedBy-ltb}
use Rattle.std.specs.List.Sorted.{IsPartitionPoint}
use Rattle.lane_occupancy.proofs.intervals.ends_below.Goals as goal
use Rattle.lane_occupancy.proofs.intervals.ends_below.Goals.{After-partition_point}

point : (c : After-partition_point) → IsPartitionPoint (λ end. ltb end c.args.label ≡ true) (λ end. ltb end c.args.label ≡ false) c.args.ends.now c.partition_point.result
point c = IsPartitionPoint-from_clause (λ end. ltb end c.args.label) _ _ c.partition_point.ensures.partitioned (IsPartitionedBy-ltb (λ end. end) _ c.args.label c.requires) (λ a r q k. search rules)

pub returns-clause-below : goal.returns-clause-below
returns-clause-below c = λ i d h. ltb-true _ _ ((point c).0 i d (omega arith) h)

pub returns-clause-above : goal.returns-clause-above
returns-clause-above c = λ i d h l. ltb-false _ _ ((point c).1 i d h l)

use Rattle.std.proofs.Common.{sym, nat_lt, rules}
use Rattle.std.proofs.lemmas.List.Sorted.{IsPartitionPoint-from_clause, IsPartitionedBy-ltb}
use Rattle.scenario.proofs.Counts.{count_point}
use Rattle.scenario.proofs.known.count_before.Goals as goal

pub returns : goal.returns
returns c = sym (count_point (λ d. nat_lt d c.args.e) c.args.places.now c.partition_point.result c.partition_point.ensures.bound
    (IsPartitionPoint-from_clause (λ d. nat_lt d c.args.e) c.args.places.now c.partition_point.result c.partition_point.ensures.partitioned (IsPartitionedBy-ltb (λ x. x) c.args.places.now c.args.e c.requires) (λ a r q k. search rules)))

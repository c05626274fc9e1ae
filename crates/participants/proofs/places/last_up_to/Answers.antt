use Rattle.std.proofs.Common.{leb, rules, ℕ}
use Rattle.std.proofs.lemmas.List.Sorted.{IsPartitionPoint-from_clause, IsPartitionedBy-leb}
use Rattle.participants.proofs.Ranks.{last_below, last_within, next_above, not_none}
use Rattle.participants.proofs.places.last_up_to.Goals as goal

pub overflow_sub-result : goal.overflow_sub-result
overflow_sub-result c =
    let point = IsPartitionPoint-from_clause (λ (n : ℕ). leb n c.args.most) _ _ c.partition_point.ensures.partitioned (IsPartitionedBy-leb (λ (n : ℕ). n) _ c.args.most c.requires.rise) (λ a r q k. search rules) in
    not_none c.args.numbers.now c.args.most c.partition_point.result c.requires.some c.requires.first c.partition_point.ensures.bound point

pub returns-clause-within : goal.returns-clause-within
returns-clause-within c =
    let point = IsPartitionPoint-from_clause (λ (n : ℕ). leb n c.args.most) _ _ c.partition_point.ensures.partitioned (IsPartitionedBy-leb (λ (n : ℕ). n) _ c.args.most c.requires.rise) (λ a r q k. search rules) in
    last_within c.args.numbers.now c.args.most c.partition_point.result c.requires.some c.requires.first c.partition_point.ensures.bound point

pub returns-clause-up_to : goal.returns-clause-up_to
returns-clause-up_to c =
    let point = IsPartitionPoint-from_clause (λ (n : ℕ). leb n c.args.most) _ _ c.partition_point.ensures.partitioned (IsPartitionedBy-leb (λ (n : ℕ). n) _ c.args.most c.requires.rise) (λ a r q k. search rules) in
    last_below c.args.numbers.now c.args.most c.partition_point.result c.requires.some c.requires.first c.partition_point.ensures.bound point

pub returns-clause-next : goal.returns-clause-next
returns-clause-next c =
    let point = IsPartitionPoint-from_clause (λ (n : ℕ). leb n c.args.most) _ _ c.partition_point.ensures.partitioned (IsPartitionedBy-leb (λ (n : ℕ). n) _ c.args.most c.requires.rise) (λ a r q k. search rules) in
    next_above c.args.numbers.now c.args.most c.partition_point.result c.requires.some c.requires.first c.partition_point.ensures.bound point

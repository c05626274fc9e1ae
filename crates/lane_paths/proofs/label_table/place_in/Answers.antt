use Rattle.std.proofs.Common.{◌≡◌, ◌<◌, ◌≤◌, subst, true, false, ltb, arith, rules}
use Rattle.std.proofs.lemmas.Bool.{ltb-true, ltb-false}
use Rattle.std.proofs.lemmas.List.Sorted.{IsPartitionPoint-from_clause, IsPartitionedBy-ltb}
use Rattle.std.proofs.lemmas.Option.{get_or_from_slice_get, slice_get_within}
use Rattle.std.specs.List.Sorted.{IsPartitionPoint}
use Rattle.lane_paths.specs.declared.lengths.CellLabel.{CellLabel}
use Rattle.lane_paths.proofs.ReachedLists.{cells_rise}
use Rattle.lane_paths.proofs.label_table.place_in.Goals as goal
use Rattle.lane_paths.proofs.label_table.place_in.Goals.{After-partition_point}

point : (c : After-partition_point) → IsPartitionPoint (λ (x : CellLabel). ltb x.cell c.args.c ≡ true) (λ (x : CellLabel). ltb x.cell c.args.c ≡ false) c.args.list.now c.partition_point.result
point c = IsPartitionPoint-from_clause (λ (x : CellLabel). ltb x.cell c.args.c) _ _ c.partition_point.ensures.partitioned (IsPartitionedBy-ltb (λ (x : CellLabel). x.cell) _ c.args.c (cells_rise c.args.list.now c.requires)) (λ a r q k. search rules)

pub returns-clause-below : goal.returns-clause-below
returns-clause-below c = λ i x h at. subst (λ (y : CellLabel). y.cell < c.args.c) (get_or_from_slice_get c.args.list.now i x x at) (ltb-true _ _ ((point c).0 i x (omega arith) h))

pub returns-clause-above : goal.returns-clause-above
returns-clause-above c = λ i x h at. subst (λ (y : CellLabel). c.args.c ≤ y.cell) (get_or_from_slice_get c.args.list.now i x x at) (ltb-false _ _ ((point c).1 i x h (slice_get_within c.args.list.now i x at)))

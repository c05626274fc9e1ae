use Rattle.std.proofs.Common.{◌≡◌, ◌<ℤ◌, ◌≤ℤ◌, ◌-ℤ◌, ◌*ℤ◌, pos, arith, to_z, of_z, w64, to_z-of_z, FitsSigned}
use Rattle.std.specs.Int.{w128, int_min}
use Rattle.std.proofs.lemmas.Int.{ints}
use Rattle.convex_poly.proofs.RunSteps.{rising_edge, falling_edge, level_keep, level_none}
use Rattle.convex_poly.proofs.Wide.{fall_above, fall_size, minus_back, level_way}
use Rattle.convex_poly.proofs.runs.narrowed.Goals as goal

pub raised-requires-clause-fall : goal.raised-requires-clause-fall
raised-requires-clause-fall c =
    let y0 : FitsSigned w64 c.args.y0 = c.ranges.y0 in
    let y1 : FitsSigned w64 c.args.y1 = c.ranges.y1 in
    let one : FitsSigned w128 c.room_beside.result = record { sfits = c.room_beside.type_inv } in
    let two : FitsSigned w128 c.room_beside-2.result = record { sfits = c.room_beside-2.type_inv } in
    let room : FitsSigned w128 c.min-room.result = record { sfits = c.min-room.type_inv } in
    let way : FitsSigned w64 c.offset-rise.result = record { sfits = c.offset-rise.type_inv } in
    let ax : FitsSigned w64 c.args.a.now.x = omega (arith, ints, c.requires.a_in.x) in
    let ay : FitsSigned w64 c.args.a.now.y = omega (arith, ints, c.requires.a_in.y) in
    let by : FitsSigned w64 c.args.b.now.y = omega (arith, ints, c.requires.b_in.y) in
    let first : c.room_beside.result ≡ (c.args.b.now.x -ℤ c.args.a.now.x) *ℤ (c.args.y0 -ℤ c.args.a.now.y) = simp to_z-of_z at c.room_beside.ensures.value in
    let second : c.room_beside-2.result ≡ (c.args.b.now.x -ℤ c.args.a.now.x) *ℤ (c.args.y1 -ℤ c.args.a.now.y) = simp to_z-of_z at c.room_beside-2.ensures.value in
    let least : c.min-room.result ≡ int_min c.room_beside.result c.room_beside-2.result = simp to_z-of_z at c.min-room.ensures.value in
    let rise : c.offset-rise.result ≡ c.args.b.now.y -ℤ c.args.a.now.y = simp to_z-of_z at c.offset-rise.ensures.value in
    fall_above c.offset-rise.result c.args.a.now.y c.args.b.now.y c.requires.a_in.y c.requires.b_in.y rise (let t = c.if-rise-lt0.true in omega (arith, ints))

pub raised-requires-clause-fall_in : goal.raised-requires-clause-fall_in
raised-requires-clause-fall_in c =
    let y0 : FitsSigned w64 c.args.y0 = c.ranges.y0 in
    let y1 : FitsSigned w64 c.args.y1 = c.ranges.y1 in
    let one : FitsSigned w128 c.room_beside.result = record { sfits = c.room_beside.type_inv } in
    let two : FitsSigned w128 c.room_beside-2.result = record { sfits = c.room_beside-2.type_inv } in
    let room : FitsSigned w128 c.min-room.result = record { sfits = c.min-room.type_inv } in
    let way : FitsSigned w64 c.offset-rise.result = record { sfits = c.offset-rise.type_inv } in
    let ax : FitsSigned w64 c.args.a.now.x = omega (arith, ints, c.requires.a_in.x) in
    let ay : FitsSigned w64 c.args.a.now.y = omega (arith, ints, c.requires.a_in.y) in
    let by : FitsSigned w64 c.args.b.now.y = omega (arith, ints, c.requires.b_in.y) in
    let first : c.room_beside.result ≡ (c.args.b.now.x -ℤ c.args.a.now.x) *ℤ (c.args.y0 -ℤ c.args.a.now.y) = simp to_z-of_z at c.room_beside.ensures.value in
    let second : c.room_beside-2.result ≡ (c.args.b.now.x -ℤ c.args.a.now.x) *ℤ (c.args.y1 -ℤ c.args.a.now.y) = simp to_z-of_z at c.room_beside-2.ensures.value in
    let least : c.min-room.result ≡ int_min c.room_beside.result c.room_beside-2.result = simp to_z-of_z at c.min-room.ensures.value in
    let rise : c.offset-rise.result ≡ c.args.b.now.y -ℤ c.args.a.now.y = simp to_z-of_z at c.offset-rise.ensures.value in
    fall_size c.offset-rise.result c.args.a.now.y c.args.b.now.y c.requires.a_in.y c.requires.b_in.y rise

pub returns-then-rise-gt0 : goal.returns-then-rise-gt0
returns-then-rise-gt0 c =
    let y0 : FitsSigned w64 c.args.y0 = c.ranges.y0 in
    let y1 : FitsSigned w64 c.args.y1 = c.ranges.y1 in
    let one : FitsSigned w128 c.room_beside.result = record { sfits = c.room_beside.type_inv } in
    let two : FitsSigned w128 c.room_beside-2.result = record { sfits = c.room_beside-2.type_inv } in
    let room : FitsSigned w128 c.min-room.result = record { sfits = c.min-room.type_inv } in
    let way : FitsSigned w64 c.offset-rise.result = record { sfits = c.offset-rise.type_inv } in
    let ax : FitsSigned w64 c.args.a.now.x = omega (arith, ints, c.requires.a_in.x) in
    let ay : FitsSigned w64 c.args.a.now.y = omega (arith, ints, c.requires.a_in.y) in
    let by : FitsSigned w64 c.args.b.now.y = omega (arith, ints, c.requires.b_in.y) in
    let first : c.room_beside.result ≡ (c.args.b.now.x -ℤ c.args.a.now.x) *ℤ (c.args.y0 -ℤ c.args.a.now.y) = simp to_z-of_z at c.room_beside.ensures.value in
    let second : c.room_beside-2.result ≡ (c.args.b.now.x -ℤ c.args.a.now.x) *ℤ (c.args.y1 -ℤ c.args.a.now.y) = simp to_z-of_z at c.room_beside-2.ensures.value in
    let least : c.min-room.result ≡ int_min c.room_beside.result c.room_beside-2.result = simp to_z-of_z at c.min-room.ensures.value in
    let rise : c.offset-rise.result ≡ c.args.b.now.y -ℤ c.args.a.now.y = simp to_z-of_z at c.offset-rise.ensures.value in
    rising_edge c.args.span.0 c.args.span.1 c.args.a.now c.args.b.now c.args.y0 c.args.y1 c.room_beside.result c.room_beside-2.result c.min-room.result first second least c.offset-rise.result c.lowered.result rise (simp to_z-of_z at c.lowered.ensures)

pub returns-then-rise-lt0 : goal.returns-then-rise-lt0
returns-then-rise-lt0 c =
    let y0 : FitsSigned w64 c.args.y0 = c.ranges.y0 in
    let y1 : FitsSigned w64 c.args.y1 = c.ranges.y1 in
    let one : FitsSigned w128 c.room_beside.result = record { sfits = c.room_beside.type_inv } in
    let two : FitsSigned w128 c.room_beside-2.result = record { sfits = c.room_beside-2.type_inv } in
    let room : FitsSigned w128 c.min-room.result = record { sfits = c.min-room.type_inv } in
    let way : FitsSigned w64 c.offset-rise.result = record { sfits = c.offset-rise.type_inv } in
    let ax : FitsSigned w64 c.args.a.now.x = omega (arith, ints, c.requires.a_in.x) in
    let ay : FitsSigned w64 c.args.a.now.y = omega (arith, ints, c.requires.a_in.y) in
    let by : FitsSigned w64 c.args.b.now.y = omega (arith, ints, c.requires.b_in.y) in
    let first : c.room_beside.result ≡ (c.args.b.now.x -ℤ c.args.a.now.x) *ℤ (c.args.y0 -ℤ c.args.a.now.y) = simp to_z-of_z at c.room_beside.ensures.value in
    let second : c.room_beside-2.result ≡ (c.args.b.now.x -ℤ c.args.a.now.x) *ℤ (c.args.y1 -ℤ c.args.a.now.y) = simp to_z-of_z at c.room_beside-2.ensures.value in
    let least : c.min-room.result ≡ int_min c.room_beside.result c.room_beside-2.result = simp to_z-of_z at c.min-room.ensures.value in
    let rise : c.offset-rise.result ≡ c.args.b.now.y -ℤ c.args.a.now.y = simp to_z-of_z at c.offset-rise.ensures.value in
    let fall : to_z w64 (of_z w64 (pos 0 -ℤ c.offset-rise.result)) ≡ c.args.a.now.y -ℤ c.args.b.now.y = minus_back c.offset-rise.result c.args.a.now.y c.args.b.now.y c.requires.a_in.y c.requires.b_in.y rise in
    falling_edge c.args.span.0 c.args.span.1 c.args.a.now c.args.b.now c.args.y0 c.args.y1 c.room_beside.result c.room_beside-2.result c.min-room.result first second least (to_z w64 (of_z w64 (pos 0 -ℤ c.offset-rise.result))) c.raised.result fall (simp to_z-of_z at c.raised.ensures)

pub returns-then-room-ge0 : goal.returns-then-room-ge0
returns-then-room-ge0 c =
    let y0 : FitsSigned w64 c.args.y0 = c.ranges.y0 in
    let y1 : FitsSigned w64 c.args.y1 = c.ranges.y1 in
    let one : FitsSigned w128 c.room_beside.result = record { sfits = c.room_beside.type_inv } in
    let two : FitsSigned w128 c.room_beside-2.result = record { sfits = c.room_beside-2.type_inv } in
    let room : FitsSigned w128 c.min-room.result = record { sfits = c.min-room.type_inv } in
    let way : FitsSigned w64 c.offset-rise.result = record { sfits = c.offset-rise.type_inv } in
    let ax : FitsSigned w64 c.args.a.now.x = omega (arith, ints, c.requires.a_in.x) in
    let ay : FitsSigned w64 c.args.a.now.y = omega (arith, ints, c.requires.a_in.y) in
    let by : FitsSigned w64 c.args.b.now.y = omega (arith, ints, c.requires.b_in.y) in
    let first : c.room_beside.result ≡ (c.args.b.now.x -ℤ c.args.a.now.x) *ℤ (c.args.y0 -ℤ c.args.a.now.y) = simp to_z-of_z at c.room_beside.ensures.value in
    let second : c.room_beside-2.result ≡ (c.args.b.now.x -ℤ c.args.a.now.x) *ℤ (c.args.y1 -ℤ c.args.a.now.y) = simp to_z-of_z at c.room_beside-2.ensures.value in
    let least : c.min-room.result ≡ int_min c.room_beside.result c.room_beside-2.result = simp to_z-of_z at c.min-room.ensures.value in
    let rise : c.offset-rise.result ≡ c.args.b.now.y -ℤ c.args.a.now.y = simp to_z-of_z at c.offset-rise.ensures.value in
    let t = c.if-room-ge0.true in let u = c.if-rise-gt0.false in let v = c.if-rise-lt0.false in
    let sign : pos 0 ≤ℤ c.min-room.result = omega (arith, ints) in
    let flat : c.offset-rise.result ≡ pos 0 = omega (arith, ints) in
    level_keep c.args.span.0 c.args.span.1 c.args.a.now c.args.b.now c.args.y0 c.args.y1 c.room_beside.result c.room_beside-2.result c.min-room.result first second least (level_way c.offset-rise.result c.args.a.now.y c.args.b.now.y rise flat) c.requires.span.ordered sign

pub returns-else-room-ge0 : goal.returns-else-room-ge0
returns-else-room-ge0 c =
    let y0 : FitsSigned w64 c.args.y0 = c.ranges.y0 in
    let y1 : FitsSigned w64 c.args.y1 = c.ranges.y1 in
    let one : FitsSigned w128 c.room_beside.result = record { sfits = c.room_beside.type_inv } in
    let two : FitsSigned w128 c.room_beside-2.result = record { sfits = c.room_beside-2.type_inv } in
    let room : FitsSigned w128 c.min-room.result = record { sfits = c.min-room.type_inv } in
    let way : FitsSigned w64 c.offset-rise.result = record { sfits = c.offset-rise.type_inv } in
    let ax : FitsSigned w64 c.args.a.now.x = omega (arith, ints, c.requires.a_in.x) in
    let ay : FitsSigned w64 c.args.a.now.y = omega (arith, ints, c.requires.a_in.y) in
    let by : FitsSigned w64 c.args.b.now.y = omega (arith, ints, c.requires.b_in.y) in
    let first : c.room_beside.result ≡ (c.args.b.now.x -ℤ c.args.a.now.x) *ℤ (c.args.y0 -ℤ c.args.a.now.y) = simp to_z-of_z at c.room_beside.ensures.value in
    let second : c.room_beside-2.result ≡ (c.args.b.now.x -ℤ c.args.a.now.x) *ℤ (c.args.y1 -ℤ c.args.a.now.y) = simp to_z-of_z at c.room_beside-2.ensures.value in
    let least : c.min-room.result ≡ int_min c.room_beside.result c.room_beside-2.result = simp to_z-of_z at c.min-room.ensures.value in
    let rise : c.offset-rise.result ≡ c.args.b.now.y -ℤ c.args.a.now.y = simp to_z-of_z at c.offset-rise.ensures.value in
    let t = c.if-room-ge0.false in let u = c.if-rise-gt0.false in let v = c.if-rise-lt0.false in
    let sign : c.min-room.result <ℤ pos 0 = omega (arith, ints) in
    let flat : c.offset-rise.result ≡ pos 0 = omega (arith, ints) in
    level_none c.args.span.0 c.args.span.1 c.args.a.now c.args.b.now c.args.y0 c.args.y1 c.room_beside.result c.room_beside-2.result c.min-room.result first second least (level_way c.offset-rise.result c.args.a.now.y c.args.b.now.y rise flat) sign

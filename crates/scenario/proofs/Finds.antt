-- What is found where something may be missing or wrong.
use Rattle.std.proofs.Common.{◌≡◌, ◌∙◌, ◌⊎◌, ◌↔◌, ℕ, ◌≤◌, ◌<◌, ◌^◌, ◌+◌, ℤ, List, length, get_or, Bool, true, false, not, is_some, IsTrue, Option, option_map, Some, None, refl, sym, ap, subst, arith, codes, nat_abs, ◌<ℤ◌, pos, neg_ℤ, drop, ◌∷◌}
use mir.Val.{to_z, of_z}
use mir.Syntax.{w64, w128}
use Rattle.std.proofs.lemmas.Int.{ints}
use Rattle.std.proofs.lemmas.List.{drop_more}
use Rattle.spot_terms.proofs.ListLemmas.{pairwise_length}
use Rattle.spot_terms.proofs.Orders.{true_not_false}
use Rattle.spot_terms.proofs.Unique.{some_one}
use Rattle.spot_terms.specs.Decimal.{Reads}
use Rattle.spot_terms.specs.Lists.{Pairwise, Includes}
use Rattle.spot_terms.specs.declared.plain.Pt.{Pt}
use Rattle.spot_terms.specs.declared.scenario.RawLane.{RawLane}
use Rattle.spot_claims.specs.Tree.{Element, first_named}
use Rattle.spot_terms.specs.Whole.{Within, SizeAtMost}
use Rattle.spot_claims.specs.Paths.{at_path, dynamics}
use Rattle.spot_claims.specs.Profile.{Number, coordinate, step_number}
use Rattle.spot_claims.specs.Scenario.{IsPair, bound_points, HoldsExact}
use Rattle.scenario.specs.Has.{IsGood, HasPoint, HasLane, HasMover, AllRecorded, AllBounds}
use Rattle.scenario.specs.Found.{SaysNumber, FindsPoint, ArePointsAt, FindsPoints, IsWholeLane, FindsLane, FindsLanes, FindsPosition, IsExactAt, IsTimeAt, HasStates, FindsTrack, IsWholeTrack}
use Rattle.scenario.proofs.Accepts.{from_one}
use Rattle.scenario.proofs.Readings.{good_ok, within_ok, outside_ok, held_less, step_held}

-- ---- numbers

pub says_ok : (n : Number) (text : List ℕ) (places : ℕ) (z : ℤ) (b : Bool) → places ≡ n.places → length text ≤ 64 → Reads places text z → nat_abs z ≤ 10 ^ 18
    → (IsTrue b ↔ ((to_z w128 (of_z w128 z) <ℤ n.least) ⊎ (n.most <ℤ to_z w128 (of_z w128 z)))) → b ≡ false → SaysNumber n text (to_z w64 (of_z w64 (to_z w128 (of_z w128 z))))
says_ok n text places z b e short h few past inside =
    let good : IsGood n text = good_ok n text places z b e short h few past (ap not inside) in
    let P : ℕ → Type 0 = λ p. Reads p text z in
    let Q : ℤ → Type 0 = λ y. Reads n.places text y in
    record { good = good; reads = subst Q (sym (held_less z few)) (subst P e h); within = within_ok n text places z e short h few good }

pub past_ok : (n : Number) (text : List ℕ) (places : ℕ) (z : ℤ) (b : Bool) → places ≡ n.places → length text ≤ 64 → Reads places text z → nat_abs z ≤ 10 ^ 18
    → (IsTrue b ↔ ((to_z w128 (of_z w128 z) <ℤ n.least) ⊎ (n.most <ℤ to_z w128 (of_z w128 z)))) → b ≡ true → IsGood n text → ⊥
past_ok n text places z b e short h few past out good = good.fits ((outside_ok n text places z b e short h few past).0 out)

-- ---- points

pub some_points : (tree : List Element) (es : List ℕ) (o : Option (List (ℤ × ℤ))) (points : List (ℤ × ℤ)) → o ≡ Some points → FindsPoints tree es o → ArePointsAt tree es points
some_points tree es o points e h = let P : Option (List (ℤ × ℤ)) → Type 0 = λ x. FindsPoints tree es x in subst P e h

-- ---- states

size_within : (m : ℕ) (z : ℤ) → Within (neg_ℤ (pos m)) (pos m) z → SizeAtMost m z
size_within m z w = let low = w.low in let high = w.high in omega (arith, ints, low, high)

pub position_found : (tree : List Element) (e p q : ℕ) (o : Option Pt) → first_named tree (codes "position") e ≡ Some p → first_named tree (codes "point") p ≡ Some q → FindsPoint tree q coordinate o → FindsPosition tree e o
position_found tree e p q None is at h = λ has.
    let P : ℕ → Type 0 = λ c. first_named tree (codes "point") c ≡ Some has.point in
    let Q : ℕ → Type 0 = λ c. HasPoint tree c coordinate in
    let same : has.position ≡ p = some_one (first_named tree (codes "position") e) has.position p has.position_is is in
    let point : has.point ≡ q = some_one (first_named tree (codes "point") p) has.point q (subst P same has.point_is) at in
    h (subst Q point has.has)
position_found tree e p q (Some r) is at h = record {
  has = record { position = p; position_is = is; point = q; point_is = at; has = h.has };
  holds = (p, q, is, at, h.holds.x, h.holds.y);
  x_within = size_within 10_000_000_000_000 r.x h.x_within;
  y_within = size_within 10_000_000_000_000 r.y h.y_within;
}

pub time_found : (tree : List Element) (e t : ℕ) (z : ℤ) → t ≡ nat_abs (to_z w64 (of_z w64 z)) → IsExactAt tree e (codes "time") step_number z → IsTimeAt tree e t
time_found tree e t z same h =
    let P : ℤ → Type 0 = λ y. HoldsExact tree e (codes "time") 0 y in
    let held : pos t ≡ z = ap pos same ∙ step_held z h.within in
    record { has = h.has; holds = subst P (sym held) h.holds; few = few_of t z held h.within }
  where
    few_of : (t : ℕ) (z : ℤ) → pos t ≡ z → Within (pos 0) (pos 1_000_000) z → t ≤ 1_000_000
    few_of t z e w = let high = w.high in omega (arith, ints, e, high)

pub some_track : (tree : List Element) (e : ℕ) (o : Option (List (ℕ × ℤ × ℤ))) (states : List (ℕ × ℤ × ℤ)) → o ≡ Some states → FindsTrack tree e o → IsWholeTrack tree e states
some_track tree e o states same h = let P : Option (List (ℕ × ℤ × ℤ)) → Type 0 = λ x. FindsTrack tree e x in subst P same h

pub no_track : (tree : List Element) (e : ℕ) (o : Option (List (ℕ × ℤ × ℤ))) → o ≡ None → FindsTrack tree e o → HasMover tree e → ⊥
no_track tree e o same h = let P : Option (List (ℕ × ℤ × ℤ)) → Type 0 = λ x. FindsTrack tree e x in subst P same h

-- all states that are recorded are states of obstacles
pub all_recorded : (tree : List Element) → ((e : ℕ) → Includes (at_path tree dynamics) e → HasStates tree e) → AllRecorded tree
all_recorded tree has = λ n listed. let one = from_one tree (codes "trajectory") (codes "state") (at_path tree dynamics) n listed in has one.0 one.1 n one.2

-- ---- a list that is taken one by one

pub next_left : {A B : Type 0} (R : A → B → Type 0) (es : List A) (i : ℕ) (d : A) (t : B) (ts rest : List B) → i < length es → Pairwise R (drop i es) ts → ts ≡ t ∷ rest → R (get_or es i d) t × Pairwise R (drop (i + 1) es) rest
next_left R es i d t ts rest h p same =
    let P : List _ → Type 0 = λ l. Pairwise R l ts in
    let Q : List _ → Type 0 = λ l. Pairwise R (get_or es i d ∷ drop (i + 1) es) l in
    let k : Pairwise R (get_or es i d ∷ drop (i + 1) es) (t ∷ rest) = subst Q same (subst P (drop_more es i d h) p) in
    (k.0, k.1)

-- ---- lanelets

-- a lanelet that has all that is read of it has even bounds
pub no_even : (tree : List Element) (e : ℕ) (left right : List (ℤ × ℤ)) (b : Bool) → HasLane tree e → Pairwise (IsPair tree) (bound_points tree (codes "leftBound") e) left → Pairwise (IsPair tree) (bound_points tree (codes "rightBound") e) right
    → (IsTrue b ↔ ((length left ≡ length right) × (2 ≤ length left))) → b ≡ false → ⊥
no_even tree e left right b has p q even odd =
    let n = pairwise_length (IsPair tree) (bound_points tree (codes "leftBound") e) left p in
    let m = pairwise_length (IsPair tree) (bound_points tree (codes "rightBound") e) right q in
    let same = has.even in
    let some = has.some in
    let yes : IsTrue b = even.1 (sym n ∙ (same ∙ m), omega (arith, n, some)) in
    cc

pub some_lane : (tree : List Element) (e : ℕ) (o : Option RawLane) (l : RawLane) → o ≡ Some l → FindsLane tree e o → IsWholeLane tree e l
some_lane tree e o l same h = let P : Option RawLane → Type 0 = λ x. FindsLane tree e x in subst P same h

pub lanes_there : {M : Type 0} (tree : List Element) (entries : M → List (ℕ × RawLane)) (o : Option M) (b : Bool) → b ≡ is_some o → FindsLanes tree (option_map entries o) → IsTrue b → AllBounds tree
lanes_there tree entries None b e h t = absurd (true_not_false b t e)
lanes_there tree entries (Some m) b e h t = h.has

-- ---- what a map had under a key

pub none_there : {X : Type 0} (o : Option X) (b : Bool) → is_some o ≡ not b → b ≡ true → o ≡ None
none_there None b e t = refl
none_there (Some x) true e t = cc
none_there (Some x) false e t = cc

pub one_there : {X : Type 0} (o : Option X) (b : Bool) → is_some o ≡ not b → b ≡ false → o ≡ None → ⊥
one_there None true e t n = cc
one_there None false e t n = cc
one_there (Some x) b e t n = cc

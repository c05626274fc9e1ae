-- All texts of a made scenario stand in strings as they are, and are short.
use Rattle.std.proofs.Common.{◌≡◌, ◌∙◌, ℕ, ◌+◌, ◌*◌, ◌-◌, ◌%◌, ◌<◌, ◌≤◌, ◌==◌, ◌&&◌, not, Bool, true, false, cond, nat_lt, nat_le, List, [], ◌∷◌, ◌++◌, length, map, refl, ap, arith, codes, decimal, length-append}
use Rattle.std.specs.List.{AllByRecursion, list_all}
use Rattle.std.specs.Fmt.{digits}
use Rattle.std.proofs.Math.Nat.{mod-lt}
use Rattle.std.proofs.lemmas.Bool.{and_parts}
use Rattle.std.proofs.lemmas.Bool.Decides.{nat_tests}
use Rattle.std.proofs.lemmas.List.{length-map}
use Rattle.json.specs.Print.{escape, escape_byte}
use Rattle.json.proofs.Printed.Strings.{escape_byte_plain}
use Rattle.spot_terms.specs.Lists.{numbers_from}
use Rattle.spot_terms.specs.Samples.{Made, leaf, branch, Mades, nothing, further, holding, draw, tenths, hundredths, bound_point, bound, neighbour, left_of, right_of, lanelet, car, mover, problem, roads, point, exact, position, start, rectangle, body, quoted, attribute_text, attributes_text, made_text, behind_text, sample_text}
use Rattle.sample_roads.proofs.Tables.{bounds, from_table, included}
use Rattle.spot_terms.proofs.ListLemmas.{numbers_from_length}
use Rattle.spot_terms.proofs.Members.{all_in_map}
use Rattle.sample_roads.specs.JsonOf.{text_of}
use Rattle.sample_roads.proofs.Texts.{IsClean, IsCleanMade, AreClean, AreCleanPairs, printed_is}

-- ---- a test

-- neither a control character nor a quotation mark nor a backslash
abbrev is_plain : ℕ → Bool
is_plain x = nat_le 32 x && (not (x == 34) && not (x == 92))

-- at most so many bytes, all of them plain
abbrev pub is_fit : ℕ → List ℕ → Bool
is_fit most text = nat_le (length text) most && list_all is_plain text

clean_byte : (x : ℕ) → is_plain x ≡ true → escape_byte x ≡ x ∷ []
clean_byte x h = escape_byte_plain x (λ e. not_mark x h e) (λ e. not_slash x h e) (high x h)
  where
    high : (x : ℕ) → is_plain x ≡ true → 32 ≤ x
    high x h = grind (arith, nat_tests)

    not_mark : (x : ℕ) → is_plain x ≡ true → x ≡ 34 → ⊥
    not_mark x h e = grind (arith, nat_tests)

    not_slash : (x : ℕ) → is_plain x ≡ true → x ≡ 92 → ⊥
    not_slash x h e = grind (arith, nat_tests)

plain_text : (text : List ℕ) → list_all is_plain text ≡ true → IsClean text
plain_text [] h = refl
plain_text (x ∷ xs) h =
    let r = and_parts (is_plain x) (list_all is_plain xs) h in
    ap (λ (t : List ℕ). t ++ escape xs) (clean_byte x r.0) ∙ ap (λ (t : List ℕ). x ∷ t) (plain_text xs r.1)

pub fit_clean : (most : ℕ) (text : List ℕ) → is_fit most text ≡ true → IsClean text
fit_clean most text h = plain_text text (and_parts (nat_le (length text) most) (list_all is_plain text) h).1

pub fit_short : (most : ℕ) (text : List ℕ) → is_fit most text ≡ true → length text ≤ most
fit_short most text h = short (and_parts (nat_le (length text) most) (list_all is_plain text) h).0
  where
    short : nat_le (length text) most ≡ true → length text ≤ most
    short e = grind (arith, nat_tests)

-- ---- numbers, one by one

table_of_numbers : list_all (λ n. is_fit 4 (decimal n)) (numbers_from 0 2001) ≡ true
unfolding digits
table_of_numbers = refl

table_of_tenths : list_all (λ j. is_fit 4 (tenths (35 * j))) (numbers_from 0 9) ≡ true
unfolding digits
table_of_tenths = refl

table_of_hundredths : list_all (λ j. is_fit 5 (hundredths (350 * j + 175))) (numbers_from 0 8) ≡ true
unfolding digits
table_of_hundredths = refl

pub fit_number : (n : ℕ) → n ≤ 2000 → is_fit 4 (decimal n) ≡ true
fit_number n h = from_table (λ n. is_fit 4 (decimal n)) (numbers_from 0 2001) n table_of_numbers (included 0 2001 n (omega arith) (omega arith))

pub fit_tenths : (j : ℕ) → j ≤ 8 → is_fit 4 (tenths (35 * j)) ≡ true
fit_tenths j h = from_table (λ j. is_fit 4 (tenths (35 * j))) (numbers_from 0 9) j table_of_tenths (included 0 9 j (omega arith) (omega arith))

pub fit_hundredths : (j : ℕ) → j ≤ 7 → is_fit 5 (hundredths (350 * j + 175)) ≡ true
fit_hundredths j h = from_table (λ j. is_fit 5 (hundredths (350 * j + 175))) (numbers_from 0 8) j table_of_hundredths (included 0 8 j (omega arith) (omega arith))

-- ---- elements: their texts are clean, and theirs is short

pub record IsFit (most : ℕ) (m : Made) : Type 0 where
  pub clean : IsCleanMade m
  pub short : length (made_text m) ≤ most

record ArePairsFit (most : ℕ) (pairs : List (List ℕ × List ℕ)) : Type 0 where
  clean : AreCleanPairs pairs
  short : length (attributes_text pairs) ≤ most

record AreFit (most : ℕ) (ms : Mades) : Type 0 where
  clean : AreClean ms
  short : length (behind_text ms) ≤ most

fit_within : (n most : ℕ) (m : Made) → n ≤ most → IsFit n m → IsFit most m
fit_within n most m h f = let s = f.short in record { clean = f.clean; short = omega (arith, h, s) }

length_quoted : (t : List ℕ) → length (quoted t) ≡ length t + 2
length_quoted t = omega (arith, length-append t (34 ∷ []))

length_pair : (k v : List ℕ) → length (attribute_text (k, v)) ≡ length k + length v + 5
length_pair k v = omega (arith, length-append (quoted k ++ 58 ∷ []) (quoted v), length-append (quoted k) (58 ∷ []), length_quoted k, length_quoted v)

no_pairs : ArePairsFit 0 []
no_pairs = record { clean = tt; short = omega arith }

one_pair : (n m : ℕ) (k v : List ℕ) → is_fit n k ≡ true → is_fit m v ≡ true → ArePairsFit (n + m + 8) ((k, v) ∷ [])
one_pair n m k v h i = record {
  clean = (fit_clean n k h, fit_clean m v i, tt);
  short = omega (arith, fit_short n k h, fit_short m v i, length_pair k v, length-append ((44 ∷ 123 ∷ attribute_text (k, v)) ++ []) (125 ∷ []), length-append (44 ∷ 123 ∷ attribute_text (k, v)) []);
}

two_pairs : (n m a b : ℕ) (k v l w : List ℕ) → is_fit n k ≡ true → is_fit m v ≡ true → is_fit a l ≡ true → is_fit b w ≡ true → ArePairsFit (n + m + a + b + 14) ((k, v) ∷ (l, w) ∷ [])
two_pairs n m a b k v l w h i j o = record {
  clean = (fit_clean n k h, fit_clean m v i, (fit_clean a l j, fit_clean b w o, tt));
  short = omega (
    arith,
    fit_short n k h,
    fit_short m v i,
    fit_short a l j,
    fit_short b w o,
    length_pair k v,
    length_pair l w,
    length-append ((44 ∷ 123 ∷ attribute_text (k, v)) ++ ((44 ∷ attribute_text (l, w)) ++ [])) (125 ∷ []),
    length-append (44 ∷ 123 ∷ attribute_text (k, v)) ((44 ∷ attribute_text (l, w)) ++ []),
    length-append (44 ∷ attribute_text (l, w)) [],
  );
}

leaf_fit : (n t : ℕ) (name text : List ℕ) → is_fit n name ≡ true → is_fit t text ≡ true → IsFit (n + t + 7) (leaf name text)
leaf_fit n t name text h i = record {
  clean = (fit_clean n name h, fit_clean t text i);
  short = omega (
    arith,
    fit_short n name h,
    fit_short t text i,
    length_quoted name,
    length_quoted text,
    length-append (((91 ∷ quoted name) ++ 44 ∷ []) ++ quoted text) (93 ∷ []),
    length-append ((91 ∷ quoted name) ++ 44 ∷ []) (quoted text),
    length-append (91 ∷ quoted name) (44 ∷ []),
  );
}

branch_fit : (n a b : ℕ) (name : List ℕ) (pairs : List (List ℕ × List ℕ)) (ms : Mades) → is_fit n name ≡ true → ArePairsFit a pairs → AreFit b ms → IsFit (n + a + b + 4) (branch name pairs ms)
branch_fit n a b name pairs ms h p f =
    let ps = p.short in
    let fs = f.short in
    record {
      clean = (fit_clean n name h, p.clean, f.clean);
      short = omega (
        arith,
        ps,
        fs,
        fit_short n name h,
        length_quoted name,
        length-append (((91 ∷ quoted name) ++ attributes_text pairs) ++ behind_text ms) (93 ∷ []),
        length-append ((91 ∷ quoted name) ++ attributes_text pairs) (behind_text ms),
        length-append (91 ∷ quoted name) (attributes_text pairs),
      );
    }

none_fit : AreFit 0 nothing
none_fit = record { clean = tt; short = omega arith }

-- a comma before each
more_fit : (n k : ℕ) (m : Made) (ms : Mades) → IsFit n m → AreFit k ms → AreFit (n + k + 1) (further m ms)
more_fit n k m ms f g =
    let a = f.short in
    let b = g.short in
    record { clean = (f.clean, g.clean); short = omega (arith, a, b, length-append (44 ∷ made_text m) (behind_text ms)) }

list_fit : (most : ℕ) (ms : List Made) → AllByRecursion (IsFit most) ms → AreFit ((most + 1) * length ms) (holding ms)
list_fit most [] h = record { clean = tt; short = omega arith }
list_fit most (m ∷ ms) h =
    let f = more_fit most ((most + 1) * length ms) m (holding ms) h.0 (list_fit most ms h.1) in
    let s = f.short in
    record { clean = f.clean; short = omega (arith, s) }

append_fit : (a b : ℕ) (xs ys : List Made) → AreFit a (holding xs) → AreFit b (holding ys) → AreFit (a + b) (holding (xs ++ ys))
append_fit a b xs ys f g = record { clean = clean xs f.clean; short = short xs }
  where
    clean : (zs : List Made) → AreClean (holding zs) → AreClean (holding (zs ++ ys))
    clean [] h = g.clean
    clean (z ∷ zs) h = (h.0, clean zs h.1)

    sum : (zs : List Made) → length (behind_text (holding (zs ++ ys))) ≡ length (behind_text (holding zs)) + length (behind_text (holding ys))
    sum [] = omega arith
    sum (z ∷ zs) = omega (arith, sum zs, length-append (44 ∷ made_text z) (behind_text (holding (zs ++ ys))), length-append (44 ∷ made_text z) (behind_text (holding zs)))

    short : (zs : List Made) → length (behind_text (holding (xs ++ ys))) ≤ a + b
    short zs = let l = f.short in let r = g.short in omega (arith, l, r, sum xs)

-- ---- lanelets

point_fit : (a b : ℕ) (x y : List ℕ) → is_fit a x ≡ true → is_fit b y ≡ true → IsFit (a + b + 27) (point x y)
point_fit a b x y h i =
    fit_within _ (a + b + 27) (point x y) (omega arith)
    (branch_fit 5 0 _ (codes "point") [] _ refl no_pairs (more_fit _ _ (leaf (codes "x") x) _ (leaf_fit 1 a (codes "x") x refl h) (more_fit _ _ (leaf (codes "y") y) _ (leaf_fit 1 b (codes "y") y refl i) none_fit)))

bound_fit : (name y : List ℕ) → is_fit 10 name ≡ true → is_fit 4 y ≡ true → IsFit 1500 (bound name y)
bound_fit name y h i =
    fit_within _ 1500 (bound name y) (omega arith)
    (branch_fit 10 0 _ name [] _ h no_pairs (list_fit 35 (map (bound_point y) (numbers_from 0 41)) (all_in_map (IsFit 35) (bound_point y) (numbers_from 0 41) (λ k among. let b = bounds 0 41 k among in point_fit 4 4 (decimal (10 * k)) y (fit_number (10 * k) (omega (arith, b.1))) i))))

neighbour_fit : (side : List ℕ) (id : ℕ) → is_fit 13 side ≡ true → id ≤ 2000 → IsFit 60 (neighbour side id)
neighbour_fit side id h few =
    fit_within _ 60 (neighbour side id) (omega arith)
    (branch_fit 13 _ 0 side _ nothing h (two_pairs 3 4 10 4 (codes "ref") (decimal id) (codes "drivingDir") (codes "same") refl (fit_number id few) refl refl) none_fit)

left_fit : (lanes j : ℕ) → j ≤ 8 → AreFit 61 (holding (left_of lanes j))
left_fit lanes j few = elim (nat_lt j lanes) as (λ b. AreFit 61 (holding (cond b (neighbour (codes "adjacentLeft") (j + 1) ∷ []) []))) [
  | true ↦ more_fit 60 0 (neighbour (codes "adjacentLeft") (j + 1)) nothing (neighbour_fit (codes "adjacentLeft") (j + 1) refl (omega (arith, few))) none_fit
  | false ↦ record { clean = tt; short = omega arith }
]

right_fit : (j : ℕ) → j ≤ 8 → AreFit 61 (holding (right_of j))
right_fit j few = elim (nat_lt 1 j) as (λ b. AreFit 61 (holding (cond b (neighbour (codes "adjacentRight") (j - 1) ∷ []) []))) [
  | true ↦ more_fit 60 0 (neighbour (codes "adjacentRight") (j - 1)) nothing (neighbour_fit (codes "adjacentRight") (j - 1) refl (omega (arith, few))) none_fit
  | false ↦ record { clean = tt; short = omega arith }
]

lanelet_fit : (lanes j : ℕ) → j ≤ 8 → IsFit 3300 (lanelet lanes j)
lanelet_fit lanes j few =
    fit_within _ 3300 (lanelet lanes j) (omega arith)
    (branch_fit 7 _ _ (codes "lanelet") _ _ refl (one_pair 2 4 (codes "id") (decimal j) refl (fit_number j (omega (arith, few))))
    (more_fit 1500 _ (bound (codes "leftBound") (tenths (35 * j))) _ (bound_fit (codes "leftBound") (tenths (35 * j)) refl (fit_tenths j few))
    (more_fit 1500 _ (bound (codes "rightBound") (tenths (35 * (j - 1)))) _ (bound_fit (codes "rightBound") (tenths (35 * (j - 1))) refl (fit_tenths (j - 1) (omega (arith, few))))
    (append_fit 61 61 (left_of lanes j) (right_of j) (left_fit lanes j few) (right_fit j few)))))

-- ---- states, cars and the problem

exact_fit : (n t : ℕ) (name text : List ℕ) → is_fit n name ≡ true → is_fit t text ≡ true → IsFit (n + t + 17) (exact name text)
exact_fit n t name text h i =
    fit_within _ (n + t + 17) (exact name text) (omega arith)
    (branch_fit n 0 _ name [] _ h no_pairs (more_fit _ 0 (leaf (codes "exact") text) nothing (leaf_fit 5 t (codes "exact") text refl i) none_fit))

start_fit : (x y speed : List ℕ) → is_fit 4 x ≡ true → is_fit 5 y ≡ true → is_fit 4 speed ≡ true → IsFit 200 (start x y speed)
start_fit x y speed h i j =
    fit_within _ 200 (start x y speed) (omega arith)
    (branch_fit 12 0 _ (codes "initialState") [] _ refl no_pairs
    (more_fit _ _ (position x y) _ (branch_fit 8 0 _ (codes "position") [] _ refl no_pairs (more_fit 36 0 (point x y) nothing (point_fit 4 5 x y h i) none_fit))
    (more_fit _ _ (exact (codes "orientation") (codes "0")) _ (exact_fit 11 1 (codes "orientation") (codes "0") refl refl)
    (more_fit _ _ (exact (codes "velocity") speed) _ (exact_fit 8 4 (codes "velocity") speed refl j)
    (more_fit _ 0 (exact (codes "time") (codes "0")) nothing (exact_fit 4 1 (codes "time") (codes "0") refl refl) none_fit)))))

body_fit : IsFit 100 body
body_fit =
    fit_within _ 100 body (omega arith)
    (branch_fit 5 0 _ (codes "shape") [] _ refl no_pairs
    (more_fit _ 0 rectangle nothing (branch_fit 9 0 _ (codes "rectangle") [] _ refl no_pairs
    (more_fit _ _ (leaf (codes "length") (codes "4.5")) _ (leaf_fit 6 3 (codes "length") (codes "4.5") refl refl)
    (more_fit _ 0 (leaf (codes "width") (codes "1.8")) nothing (leaf_fit 5 3 (codes "width") (codes "1.8") refl refl) none_fit))) none_fit))

car_fit : (lanes m place speed : ℕ) → 0 < lanes → lanes ≤ 8 → m < 1000 → place ≤ 400 → speed ≤ 100 → IsFit 400 (car lanes m place speed)
car_fit lanes m place speed some few crowd near slow =
    let lane : m % lanes < lanes = mod-lt m some in
    fit_within _ 400 (car lanes m place speed) (omega arith)
    (branch_fit 15 _ _ (codes "dynamicObstacle") _ _ refl (one_pair 2 4 (codes "id") (decimal (1001 + m)) refl (fit_number (1001 + m) (omega (arith, crowd))))
    (more_fit _ _ (leaf (codes "type") (codes "car")) _ (leaf_fit 4 3 (codes "type") (codes "car") refl refl)
    (more_fit 100 _ body _ body_fit
    (more_fit 200 0 (start (decimal place) (hundredths (350 * (m % lanes) + 175)) (decimal speed)) nothing
    (start_fit (decimal place) (hundredths (350 * (m % lanes) + 175)) (decimal speed) (fit_number place (omega (arith, near))) (fit_hundredths (m % lanes) (omega (arith, lane, few))) (fit_number speed (omega (arith, slow)))) none_fit))))

mover_fit : (seed lanes m : ℕ) → 0 < lanes → lanes ≤ 8 → m < 1000 → IsFit 400 (mover seed lanes m)
mover_fit seed lanes m some few crowd =
    let place : draw seed (2 * m + 1) 400 < 400 = mod-lt _ (omega arith) in
    let speed : draw seed (2 * m + 2) 16 < 16 = mod-lt _ (omega arith) in
    car_fit lanes m (draw seed (2 * m + 1) 400) (20 + draw seed (2 * m + 2) 16) some few crowd (omega (arith, place)) (omega (arith, speed))

problem_fit : IsFit 300 problem
problem_fit =
    fit_within _ 300 problem (omega arith)
    (branch_fit 15 _ _ (codes "planningProblem") _ _ refl (one_pair 2 1 (codes "id") (codes "1") refl refl)
    (more_fit 200 0 (start (codes "200") (codes "1.75") (codes "30")) nothing (start_fit (codes "200") (codes "1.75") (codes "30") refl refl refl) none_fit))

-- ---- the whole

pub roads_fit : (seed lanes movers : ℕ) → 0 < lanes → lanes ≤ 8 → movers ≤ 1000 → IsFit 1_000_000 (roads seed lanes movers)
roads_fit seed lanes movers some few crowd =
    let lanelets = list_fit 3300 (map (lanelet lanes) (numbers_from 1 lanes)) (all_in_map (IsFit 3300) (lanelet lanes) (numbers_from 1 lanes) (λ j among. let b = bounds 1 lanes j among in lanelet_fit lanes j (omega (arith, few, b.1)))) in
    let cars = list_fit 400 (map (mover seed lanes) (numbers_from 0 movers)) (all_in_map (IsFit 400) (mover seed lanes) (numbers_from 0 movers) (λ m among. let b = bounds 0 movers m among in mover_fit seed lanes m some few (omega (arith, crowd, b.1)))) in
    let last = more_fit 300 0 problem nothing problem_fit none_fit in
    let how_many : length (map (lanelet lanes) (numbers_from 1 lanes)) ≡ lanes = length-map (numbers_from 1 lanes) (lanelet lanes) ∙ numbers_from_length 1 lanes in
    let so_many : length (map (mover seed lanes) (numbers_from 0 movers)) ≡ movers = length-map (numbers_from 0 movers) (mover seed lanes) ∙ numbers_from_length 0 movers in
    fit_within _ 1_000_000 (roads seed lanes movers) (omega (arith, how_many, so_many, few, crowd))
    (branch_fit 10 _ _ (codes "commonRoad") _ _ refl (two_pairs 17 5 12 3 (codes "commonRoadVersion") (codes "2020a") (codes "timeStepSize") (codes "0.1") refl refl refl refl)
    (append_fit _ _ (map (lanelet lanes) (numbers_from 1 lanes)) (map (mover seed lanes) (numbers_from 0 movers) ++ problem ∷ []) lanelets
    (append_fit _ _ (map (mover seed lanes) (numbers_from 0 movers)) (problem ∷ []) cars last)))

-- what is printed of it is the made text
pub text_is : (seed lanes movers : ℕ) → 0 < lanes → lanes ≤ 8 → movers ≤ 1000 → text_of (roads seed lanes movers) ≡ sample_text seed lanes movers
unfolding sample_text
text_is seed lanes movers some few crowd = printed_is (roads seed lanes movers) (roads_fit seed lanes movers some few crowd).clean

pub short : (seed lanes movers : ℕ) → 0 < lanes → lanes ≤ 8 → movers ≤ 1000 → length (sample_text seed lanes movers) ≤ 1_000_000
unfolding sample_text
short seed lanes movers some few crowd = (roads_fit seed lanes movers some few crowd).short

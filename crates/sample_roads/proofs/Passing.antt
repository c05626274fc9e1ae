-- Checks that what is made passes, at the elements where it stands.
use Rattle.std.proofs.Common.{◌≡◌, ◌∙◌, ℕ, zero, suc, Bool, false, is_none, List, [], ◌∷◌, ◌++◌, Option, Some, None, refl, sym, ap, subst}
use Rattle.std.specs.List.{AllByRecursion, filter, find, list_any, list_all}
use Rattle.std.proofs.lemmas.Bool.{both_ways}
use Rattle.spot_terms.specs.Lists.{Includes, At, Pairwise}
use Rattle.spot_terms.proofs.ListLemmas.{all_append, all_included, partner}
use Rattle.spot_claims.specs.Tree.{Element, first_named, text_at}
use Rattle.spot_claims.specs.Paths.{Step, each_child, first_child, Path, walk, at_path}
use Rattle.spot_claims.specs.Profile.{Check, bad_number, out_of_range, lacks_a_child, lacks_each_child, wrong_root, wrong_version, no_step_size, bad_step_size, large_step_size, uneven_step_size, bad_id, duplicate_id, too_many, bound_count, Line, FailsAt, lacks, lacks_one, lacks_all, is_bad_number, profile, IsAccepted}
use Rattle.spot_terms.specs.Samples.{Made}
use Rattle.sample_roads.proofs.TreeLayer.{Stands, Alike, has_label, kids, said, said_is, first_stands, take_made, walk_made, walk_stands}
use Rattle.sample_roads.proofs.Numbers.{Fits, in_range}

-- ---- what a made element has

abbrev pub lacks_made : Made → List ℕ → Bool
lacks_made m name = is_none (find (has_label name) (kids m))

-- it passes this check, which looks at its children or its text
abbrev pub Passes : Made → Check → Type 0
Passes m wrong_root = ⊥
Passes m wrong_version = ⊥
Passes m no_step_size = ⊥
Passes m bad_step_size = ⊥
Passes m large_step_size = ⊥
Passes m uneven_step_size = ⊥
Passes m bad_id = ⊥
Passes m (duplicate_id among) = ⊥
Passes m (too_many among n) = ⊥
Passes m bound_count = ⊥
Passes m (lacks_a_child names) = list_any (lacks_made m) names ≡ false
Passes m (lacks_each_child code names) = list_all (lacks_made m) names ≡ false
Passes m bad_number = is_bad_number (said m) ≡ false
Passes m (out_of_range n) = Fits n (said m)

none_alike : {A B : Type 0} (R : A → B → Type 0) (o : Option A) (u : Option B) → Alike R o u → is_none o ≡ is_none u
none_alike R None None h = refl
none_alike R None (Some b) h = absurd h
none_alike R (Some a) None h = absurd h
none_alike R (Some a) (Some b) h = refl

pub lacks_is : (tree : List Element) (e : ℕ) (m : Made) → Stands tree e m → (name : List ℕ) → lacks tree e name ≡ lacks_made m name
lacks_is tree e m h name = none_alike (Stands tree) (first_named tree name e) (find (has_label name) (kids m)) (first_stands tree name e m h)

any_same : {X : Type 0} (p q : X → Bool) (xs : List X) → ((x : X) → p x ≡ q x) → list_any p xs ≡ list_any q xs
any_same p q [] h = refl
any_same p q (x ∷ xs) h = let a = h x in let b = any_same p q xs h in rw a (rw b refl)

all_same : {X : Type 0} (p q : X → Bool) (xs : List X) → ((x : X) → p x ≡ q x) → list_all p xs ≡ list_all q xs
all_same p q [] h = refl
all_same p q (x ∷ xs) h = let a = h x in let b = all_same p q xs h in rw a (rw b refl)

pub no_failure : (tree : List Element) (e : ℕ) (m : Made) → Stands tree e m → (check : Check) → Passes m check → FailsAt tree e check → ⊥
no_failure tree e m h wrong_root p f = absurd p
no_failure tree e m h wrong_version p f = absurd p
no_failure tree e m h no_step_size p f = absurd p
no_failure tree e m h bad_step_size p f = absurd p
no_failure tree e m h large_step_size p f = absurd p
no_failure tree e m h uneven_step_size p f = absurd p
no_failure tree e m h bad_id p f = absurd p
no_failure tree e m h (duplicate_id among) p f = absurd p
no_failure tree e m h (too_many among n) p f = absurd p
no_failure tree e m h bound_count p f = absurd p
no_failure tree e m h (lacks_a_child names) p f = both_ways (lacks_one tree e names) (any_same (lacks tree e) (lacks_made m) names (lacks_is tree e m h) ∙ p) f
no_failure tree e m h (lacks_each_child code names) p f = both_ways (lacks_all tree e names) (all_same (lacks tree e) (lacks_made m) names (lacks_is tree e m h) ∙ p) f
no_failure tree e m h bad_number p f = both_ways (is_bad_number (text_at tree e)) (ap is_bad_number (said_is tree e m h) ∙ p) f
no_failure tree e m h (out_of_range n) p f =
    let P : List ℕ → Type 0 = λ t. Fits n t in
    in_range n (text_at tree e) (subst P (sym (said_is tree e m h)) p) f

-- ---- a line

-- each check of the line at each element that it leads to
abbrev pub Safe : List Element → Line → Type 0
Safe tree row = (s w : Path) → Includes row.starts s → Includes row.ways w → (e : ℕ) → Includes (walk tree w (at_path tree s)) e → AllByRecursion (λ check. FailsAt tree e check → ⊥) row.checks

check_at : {X : Type 0} (P : X → Type 0) (xs : List X) (k : ℕ) (x : X) → AllByRecursion P xs → At xs k x → P x
check_at P [] k x h i = absurd i
check_at P (y ∷ ys) zero x h i = subst P (sym i) h.0
check_at P (y ∷ ys) (suc k) x h i = check_at P ys k x h.1 i

pub accepted : (tree : List Element) → AllByRecursion (Safe tree) profile → IsAccepted tree
accepted tree safe = λ e j code f.
    let row_safe : Safe tree f.row = all_included (Safe tree) profile f.row safe f.listed in
    let P : Check → Type 0 = λ check. FailsAt tree e check → ⊥ in
    check_at P f.row.checks j f.check (row_safe f.read.start f.read.way f.read.is_start f.read.is_way e f.read.leads) f.at f.fails

-- ---- a line that looks at children and texts alone

abbrev pub AllPass : List Check → List Made → Type 0
AllPass checks ms = AllByRecursion (λ m. AllByRecursion (Passes m) checks) ms

abbrev pub LinePasses : Made → Line → Type 0
LinePasses root row = AllByRecursion (λ s. AllByRecursion (λ w. AllPass row.checks (walk_made w (walk_made s (root ∷ [])))) row.ways) row.starts

no_failures : (tree : List Element) (e : ℕ) (m : Made) → Stands tree e m → (checks : List Check) → AllByRecursion (Passes m) checks → AllByRecursion (λ check. FailsAt tree e check → ⊥) checks
no_failures tree e m h [] p = tt
no_failures tree e m h (c ∷ cs) p = (no_failure tree e m h c p.0, no_failures tree e m h cs p.1)

pub line_safe : (tree : List Element) (root : Made) (row : Line) → Stands tree 0 root → LinePasses root row → Safe tree row
line_safe tree root row h passes = λ s w is_start is_way e leads.
    let starts : Pairwise (Stands tree) (at_path tree s) (walk_made s (root ∷ [])) = walk_stands tree s (0 ∷ []) (root ∷ []) (h, tt) in
    let ends : Pairwise (Stands tree) (walk tree w (at_path tree s)) (walk_made w (walk_made s (root ∷ []))) = walk_stands tree w (at_path tree s) (walk_made s (root ∷ [])) starts in
    let (m, listed, stands) = partner (Stands tree) (walk tree w (at_path tree s)) (walk_made w (walk_made s (root ∷ []))) e ends leads in
    let from : AllByRecursion (λ v. AllPass row.checks (walk_made v (walk_made s (root ∷ [])))) row.ways = all_included (λ t. AllByRecursion (λ v. AllPass row.checks (walk_made v (walk_made t (root ∷ [])))) row.ways) row.starts s passes is_start in
    let way : AllPass row.checks (walk_made w (walk_made s (root ∷ []))) = all_included (λ v. AllPass row.checks (walk_made v (walk_made s (root ∷ [])))) row.ways w from is_way in
    no_failures tree e m stands row.checks (all_included (λ d. AllByRecursion (Passes d) row.checks) (walk_made w (walk_made s (root ∷ []))) m way listed)

-- ---- from each element by itself

taken_behind : (s : Step) (xs ys : List Made) → take_made s (xs ++ ys) ≡ take_made s xs ++ take_made s ys
taken_behind (each_child name) xs ys = Rattle.std.proofs.lemmas.Grind.flat_map-append (λ m. filter (has_label name) (kids m)) xs ys
taken_behind (first_child name) xs ys = Rattle.std.proofs.lemmas.List.Elements.filter_map-append (λ m. find (has_label name) (kids m)) xs ys

walked_behind : (w : Path) (xs ys : List Made) → walk_made w (xs ++ ys) ≡ walk_made w xs ++ walk_made w ys
walked_behind [] xs ys = refl
walked_behind (s ∷ w) xs ys = ap (walk_made w) (taken_behind s xs ys) ∙ walked_behind w (take_made s xs) (take_made s ys)

walked_none : (w : Path) → walk_made w [] ≡ []
walked_none [] = refl
walked_none (each_child name ∷ w) = walked_none w
walked_none (first_child name ∷ w) = walked_none w

-- what holds at the ends of a way from each of these holds at the ends of the way from all
pub from_each : (P : Made → Type 0) (w : Path) (ms : List Made) → AllByRecursion (λ m. AllByRecursion P (walk_made w (m ∷ []))) ms → AllByRecursion P (walk_made w ms)
from_each P w [] h = let Q : List Made → Type 0 = λ ns. AllByRecursion P ns in subst Q (sym (walked_none w)) tt
from_each P w (m ∷ ms) h =
    let Q : List Made → Type 0 = λ ns. AllByRecursion P ns in
    subst Q (sym (walked_behind w (m ∷ []) ms)) (all_append P (walk_made w (m ∷ [])) (walk_made w ms) h.0 (from_each P w ms h.1))

pub walked_on : (v w : Path) (ms : List Made) → walk_made (v ++ w) ms ≡ walk_made w (walk_made v ms)
walked_on [] w ms = refl
walked_on (s ∷ v) w ms = walked_on v w (take_made s ms)

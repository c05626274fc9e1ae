-- A tree has one refusal at most: the name of an element tells the codes of its checks, and the root is no child.
use Rattle.std.proofs.Common.{◌≡◌, ◌∙◌, ◌⊎◌, inl, inr, ℕ, zero, suc, ◌<◌, ◌≤◌, Bool, true, false, List, [], ◌∷◌, map, drop, refl, sym, ap, subst, arith, codes, if◌then◌else◌}
use Rattle.std.specs.List.{flat_map, list_any}
use Rattle.std.specs.Str.{bytes_eq}
use Rattle.std.specs.Cmp.Lexicographic.{bytes_decides}
use Rattle.spot_terms.proofs.Members.{in_flat_map}
use Rattle.spot_terms.proofs.ListLemmas.{includes_map, includes_flat_map}
use Rattle.spot_terms.specs.Lists.{Includes, At}
use Rattle.spot_terms.specs.declared.status.Code.{Code}
use Rattle.spot_terms.specs.declared.status.Code.TheVariants.{Missing, BadNumber, OutOfRange, BadId, DuplicateId, BoundCount, UncertainPosition, UncertainValue, TooManyParticipants}
use Rattle.spot_claims.specs.Tree.{Element, IsTreeOf, element_in, is_called, all_named, first_named}
use Rattle.spot_claims.specs.Paths.{Step, each_child, first_child, Path, take_step, walk, at_path}
use Rattle.spot_claims.specs.Profile.{Line, profile, root_line, code_of, IsReadBy, TreeHasOneRefusal}
use Rattle.spot_tree.proofs.Parents.{root_is_no_child}
use Rattle.scenario.proofs.Members.{in_filter_map, found_in}
use Rattle.scenario.proofs.Rises.{in_filter}

-- ---- the name at the end of a path

abbrev name_of : Step → List ℕ
name_of (each_child name) = name
name_of (first_child name) = name

-- the name of the last step, or this one
abbrev end_from : List ℕ → Path → List ℕ
end_from name [] = name
end_from name (s ∷ path) = end_from (name_of s) path

-- e is a child, and has this name
record IsNamed (tree : List Element) (name : List ℕ) (e : ℕ) : Type 0 where
  parent : ℕ
  child : Includes (element_in tree parent).children e
  called : is_called tree name e ≡ true

named : (tree : List Element) (name : List ℕ) (p e : ℕ) → Includes (all_named tree name p) e → IsNamed tree name e
named tree name p e h = let k = in_filter (is_called tree name) (element_in tree p).children e h in record { parent = p; child = k.0; called = k.1 }

step_named : (tree : List Element) (s : Step) (es : List ℕ) (e : ℕ) → Includes (take_step tree s es) e → IsNamed tree (name_of s) e
step_named tree (each_child name) es e h = let p = in_flat_map (all_named tree name) es e h in named tree name p.0 e p.2
step_named tree (first_child name) es e h = let p = in_filter_map (first_named tree name) es e h in named tree name p.0 e (found_in (is_called tree name) (element_in tree p.0).children e p.2)

walk_named : (tree : List Element) (path : Path) (name : List ℕ) (es : List ℕ) (e : ℕ) → ((x : ℕ) → Includes es x → IsNamed tree name x) → Includes (walk tree path es) e → IsNamed tree (end_from name path) e
walk_named tree [] name es e each h = each e h
walk_named tree (s ∷ path) name es e each h = walk_named tree path (name_of s) (take_step tree s es) e (step_named tree s es) h

-- ---- the codes of the checks, by the name of the element

abbrev codes_of : Line → List Code
codes_of row = map code_of row.checks

abbrev one_of : List (List ℕ) → List ℕ → Bool
one_of names name = list_any (bytes_eq name) names

-- the codes of the checks of a child with this name
abbrev codes_for : List ℕ → List Code
codes_for name = (if one_of (codes "lanelet" ∷ []) name then BadId ∷ DuplicateId ∷ Missing ∷ BoundCount ∷ []
    else if one_of (codes "staticObstacle" ∷ codes "dynamicObstacle" ∷ []) name then BadId ∷ DuplicateId ∷ TooManyParticipants ∷ Missing ∷ []
    else if one_of (codes "planningProblem" ∷ []) name then BadId ∷ DuplicateId ∷ Missing ∷ []
    else if one_of (codes "position" ∷ []) name then UncertainPosition ∷ []
    else if one_of (codes "orientation" ∷ codes "velocity" ∷ codes "time" ∷ []) name then UncertainValue ∷ []
    else if one_of (codes "x" ∷ codes "y" ∷ codes "length" ∷ codes "width" ∷ codes "radius" ∷ codes "exact" ∷ []) name then BadNumber ∷ OutOfRange ∷ []
    else Missing ∷ [])

-- the lines but for the root's
abbrev others : List Line
others = drop 1 profile

-- the names at the ends of the ways of a line
abbrev ends_of : Line → List (List ℕ)
ends_of row = flat_map (λ start. map (end_from (end_from [] start)) row.ways) row.starts

-- they tell the codes of the line
ends_tell : map (λ row. map codes_for (ends_of row)) others ≡ map (λ row. map (λ name. codes_of row) (ends_of row)) others
ends_tell = refl

abbrev takes_a_step : Path → Bool
takes_a_step [] = false
takes_a_step (s ∷ path) = true

starts_step : map (λ row. map takes_a_step row.starts) others ≡ map (λ row. map (λ start. true) row.starts) others
starts_step = refl

same_heads : {X : Type 0} (x y : X) (xs ys : List X) → x ∷ xs ≡ y ∷ ys → (x ≡ y) × (xs ≡ ys)
same_heads x y xs ys e = (cc, cc)

same_images : {X Y : Type 0} (f g : X → Y) (xs : List X) (x : X) → map f xs ≡ map g xs → Includes xs x → f x ≡ g x
same_images f g [] x e h = absurd h
same_images f g (y ∷ xs) x e (inl s) = ap f s ∙ ((same_heads (f y) (g y) (map f xs) (map g xs) e).0 ∙ ap g (sym s))
same_images f g (y ∷ xs) x e (inr h) = same_images f g xs x (same_heads (f y) (g y) (map f xs) (map g xs) e).1 h

-- ---- one element, one list of codes

-- the element is a child whose name tells the codes of the line
record IsTold (tree : List Element) (row : Line) (e : ℕ) : Type 0 where
  name : List ℕ
  named : IsNamed tree name e
  tells : codes_for name ≡ codes_of row

named_from : (tree : List Element) (e : ℕ) (start way : Path) → takes_a_step start ≡ true → Includes (walk tree way (at_path tree start)) e → IsNamed tree (end_from (end_from [] start) way) e
named_from tree e [] way steps h = cc
named_from tree e (s ∷ start) way steps h =
    let begun = walk_named tree start (name_of s) (take_step tree s (0 ∷ [])) in
    walk_named tree way (end_from (name_of s) start) (walk tree start (take_step tree s (0 ∷ []))) e (λ x k. begun x (step_named tree s (0 ∷ [])) k) h

told : (tree : List Element) (row : Line) (e : ℕ) → Includes others row → IsReadBy tree row e → IsTold tree row e
told tree row e listed read =
    let steps = same_images takes_a_step (λ start. true) row.starts read.start (same_images (λ r. map takes_a_step r.starts) (λ r. map (λ start. true) r.starts) others row starts_step listed) read.is_start in
    let name = end_from (end_from [] read.start) read.way in
    let end = includes_flat_map (λ start. map (end_from (end_from [] start)) row.ways) row.starts read.start name read.is_start (includes_map (end_from (end_from [] read.start)) row.ways read.way read.is_way) in
    record {
      name = name;
      named = named_from tree e read.start read.way steps read.leads;
      tells = same_images codes_for (λ n. codes_of row) (ends_of row) name (same_images (λ r. map codes_for (ends_of r)) (λ r. map (λ n. codes_of r) (ends_of r)) others row ends_tell listed) end;
    }

at_root : (tree : List Element) (start way : Path) (e : ℕ) → Includes ([] ∷ []) start → Includes ([] ∷ []) way → Includes (walk tree way (at_path tree start)) e → e ≡ 0
at_root tree [] [] e a b (inl s) = s
at_root tree [] [] e a b (inr h) = absurd h
at_root tree [] (s ∷ way) e a (inl b) h = cc
at_root tree [] (s ∷ way) e a (inr b) h = absurd b
at_root tree (s ∷ start) way e (inl a) b h = cc
at_root tree (s ∷ start) way e (inr a) b h = absurd a

root_read : (tree : List Element) (row : Line) (e : ℕ) → row ≡ root_line → IsReadBy tree row e → e ≡ 0
root_read tree row e is read =
    let P : Line → Type 0 = λ r. IsReadBy tree r e in
    let r : IsReadBy tree root_line e = subst P is read in at_root tree r.start r.way e r.is_start r.is_way r.leads

not_both : (bytes : List ℕ) (tree : List Element) → IsTreeOf bytes tree → (row other : Line) (e : ℕ) → row ≡ root_line → Includes others other → IsReadBy tree row e → IsReadBy tree other e → ⊥
not_both bytes tree is row other e root listed read also =
    let t = told tree other e listed also in
    let P : ℕ → Type 0 = λ x. Includes (element_in tree t.named.parent).children x in
    root_is_no_child bytes tree is t.named.parent (subst P (root_read tree row e root read) t.named.child)

same_codes : (bytes : List ℕ) (tree : List Element) → IsTreeOf bytes tree → (row other : Line) (e : ℕ) → Includes profile row → Includes profile other → IsReadBy tree row e → IsReadBy tree other e → codes_of row ≡ codes_of other
same_codes bytes tree is row other e (inl a) (inl b) read also = ap codes_of (a ∙ sym b)
same_codes bytes tree is row other e (inl a) (inr b) read also = absurd (not_both bytes tree is row other e a b read also)
same_codes bytes tree is row other e (inr a) (inl b) read also = absurd (not_both bytes tree is other row e b a also read)
same_codes bytes tree is row other e (inr a) (inr b) read also =
    let s = told tree row e a read in
    let t = told tree other e b also in
    let m : (element_in tree e).name ≡ s.name = (bytes_decides (element_in tree e).name s.name).0 s.named.called in
    let n : (element_in tree e).name ≡ t.name = (bytes_decides (element_in tree e).name t.name).0 t.named.called in
    sym s.tells ∙ (ap codes_for (sym m ∙ n) ∙ t.tells)

-- ---- one refusal

one_at : {X : Type 0} (xs : List X) (k : ℕ) (x y : X) → At xs k x → At xs k y → x ≡ y
one_at [] k x y a b = absurd a
one_at (z ∷ xs) zero x y a b = a ∙ sym b
one_at (z ∷ xs) (suc k) x y a b = one_at xs k x y a b

image_at : {X Y : Type 0} (f : X → Y) (xs : List X) (k : ℕ) (x : X) → At xs k x → At (map f xs) k (f x)
image_at f [] k x h = absurd h
image_at f (y ∷ xs) zero x h = ap f h
image_at f (y ∷ xs) (suc k) x h = image_at f xs k x h

same_place : (e d m n : ℕ) → (e < d) ⊎ ((d ≡ e) × (m ≤ n)) → (d < e) ⊎ ((e ≡ d) × (n ≤ m)) → (e ≡ d) × (m ≡ n)
same_place e d m n (inl l) (inl k) = absurd (omega arith)
same_place e d m n (inl l) (inr k) = let s = k.0 in absurd (omega (arith, s))
same_place e d m n (inr l) (inl k) = let s = l.0 in absurd (omega (arith, s))
same_place e d m n (inr l) (inr k) = let a = l.1 in let b = k.1 in (k.0, omega (arith, a, b))

pub one_refusal : TreeHasOneRefusal
one_refusal bytes tree place other code reason is a b =
    let at = same_place place other a.number b.number (a.least other b.number reason b.fails) (b.least place a.number code a.fails) in
    let P : ℕ → Type 0 = λ e. IsReadBy tree b.fails.row e in
    let same = same_codes bytes tree is a.fails.row b.fails.row place a.fails.listed b.fails.listed a.fails.read (subst P (sym at.0) b.fails.read) in
    let Q : List Code → Type 0 = λ cs. At cs b.number (code_of b.fails.check) in
    let R : ℕ → Type 0 = λ k. At (codes_of a.fails.row) k (code_of b.fails.check) in
    let first = image_at code_of a.fails.row.checks a.number a.fails.check a.fails.at in
    let second = subst R (sym at.1) (subst Q (sym same) (image_at code_of b.fails.row.checks b.number b.fails.check b.fails.at)) in
    (at.0, a.fails.code_is ∙ (one_at (codes_of a.fails.row) a.number (code_of a.fails.check) (code_of b.fails.check) first second ∙ sym b.fails.code_is))

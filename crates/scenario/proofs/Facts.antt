-- What is read of obstacles and problems.
use Rattle.spot_terms.specs.Ranges.{IsPairInRange}
use Rattle.std.proofs.Common.{◌≡◌, ◌∙◌, ℕ, ◌+◌, ◌<◌, ◌≤◌, ℤ, pos, List, [], ◌∷◌, length, get_or, drop, map, Some, Bool, true, false, cond, refl, sym, ap, subst, arith, codes, unwrap_or, neg_ℤ, nat_abs}
use Rattle.std.specs.List.{find}
use Rattle.std.proofs.lemmas.Int.{ints}
use Rattle.std.proofs.lemmas.List.{drop_more, drop_all}
use Rattle.std.specs.Str.{bytes_eq}
use Rattle.spot_terms.specs.Types.{TypeRow, types, unknown_type, type_named}
use Rattle.spot_terms.specs.declared.scenario.Kind.{Kind}
use Rattle.spot_terms.specs.declared.scenario.Kind.TheVariants.{Unknown}
use Rattle.spot_terms.specs.declared.scenario.Problem.{Problem}
use Rattle.spot_terms.specs.declared.scenario.Mover.{Mover}
use Rattle.spot_terms.specs.Lists.{Pairwise}
use Rattle.spot_claims.specs.Radii.{Holds, HoldsPt, HasRadii}
use Rattle.spot_claims.specs.Tree.{Element, first_named}
use Rattle.spot_claims.specs.Paths.{id_at, first_child}
use Rattle.spot_claims.specs.Scenario.{HoldsExact, HoldsPosition, IsProblem, IsMover, IsRecorded, recorded_of, type_text, below, IsPair}
use Rattle.spot_terms.specs.Whole.{Within}
use Rattle.spot_terms.specs.declared.plain.Pt.{Pt}
use Rattle.scenario.specs.Kinds.{kind_in, key_of, view_of}
use Rattle.scenario.specs.declared.items.NamedKind.{NamedKind}

pub problem_is : (tree : List Element) (e : ℕ) (p : Problem) (start : ℕ) (x y v a : ℤ) → p.place ≡ e → p.x ≡ x → p.y ≡ y → p.speed ≡ v → p.angle ≡ a → id_at tree e ≡ Some p.id → first_named tree (codes "initialState") e ≡ Some start
    → HoldsPosition tree start x y → HoldsExact tree start (codes "velocity") 3 v → HoldsExact tree start (codes "orientation") 6 a → HoldsExact tree start (codes "time") 0 (pos p.time) → IsProblem tree e p
problem_is tree e p start x y v a place ex ey ev ea id is at speed angle time =
    let X : ℤ → Type 0 = λ z. HoldsPosition tree start z p.y in
    let Y : ℤ → Type 0 = λ z. HoldsPosition tree start x z in
    let V : ℤ → Type 0 = λ z. HoldsExact tree start (codes "velocity") 3 z in
    let A : ℤ → Type 0 = λ z. HoldsExact tree start (codes "orientation") 6 z in
    record { id = id; place = place; start = (start, is, subst X (sym ex) (subst Y (sym ey) at), subst V (sym ev) speed, subst A (sym ea) angle, time) }

kind_step : (n : NamedKind) (ns : List NamedKind) (r : TypeRow) (rows : List TypeRow) (text : List ℕ) (b : Bool) → n.name.now ≡ r.name → n.kind ≡ r.kind → bytes_eq r.name text ≡ b
    → kind_in ns text ≡ (unwrap_or (find (λ x. bytes_eq x.name text) rows) unknown_type).kind → kind_in (n ∷ ns) text ≡ (unwrap_or (find (λ x. bytes_eq x.name text) (r ∷ rows)) unknown_type).kind
kind_step n ns r rows text true a k e h = rw (a, e) k
kind_step n ns r rows text false a k e h = rw (a, e) h

heads : {A : Type 0} (x y : A) (xs ys : List A) → x ∷ xs ≡ y ∷ ys → x ≡ y
heads x y xs ys e = cc

tails : {A : Type 0} (x y : A) (xs ys : List A) → x ∷ xs ≡ y ∷ ys → xs ≡ ys
tails x y xs ys e = cc

kinds_are : (ns : List NamedKind) (rows : List TypeRow) (text : List ℕ) → map view_of ns ≡ map key_of rows → kind_in ns text ≡ (unwrap_or (find (λ x. bytes_eq x.name text) rows) unknown_type).kind
kinds_are [] [] text e = refl
kinds_are [] (r ∷ rows) text e = cc
kinds_are (n ∷ ns) [] text e = cc
kinds_are (n ∷ ns) (r ∷ rows) text e =
    let h = heads (view_of n) (key_of r) (map view_of ns) (map key_of rows) e in
    kind_step n ns r rows text (bytes_eq r.name text) (ap (λ p. p.0) h) (ap (λ p. p.1) h) refl (kinds_are ns rows text (tails (view_of n) (key_of r) (map view_of ns) (map key_of rows) e))

pub kind_is : (ns : List NamedKind) (text : List ℕ) → map view_of ns ≡ map key_of types → kind_in ns text ≡ (type_named text).kind
kind_is ns text e = kinds_are ns types text e

kind_head : (n : NamedKind) (ns : List NamedKind) (text : List ℕ) (b : Bool) → bytes_eq n.name.now text ≡ b → kind_in (n ∷ ns) text ≡ cond b n.kind (kind_in ns text)
kind_head n ns text b e = rw e refl

pub kind_next : (ns : List NamedKind) (i : ℕ) (d : NamedKind) (text : List ℕ) → i < length ns → bytes_eq (get_or ns i d).name.now text ≡ false → kind_in (drop i ns) text ≡ kind_in (drop (i + 1) ns) text
kind_next ns i d text h e = ap (λ l. kind_in l text) (drop_more ns i d h) ∙ kind_head (get_or ns i d) (drop (i + 1) ns) text false e

pub kind_here : (ns : List NamedKind) (i : ℕ) (d : NamedKind) (text : List ℕ) → i < length ns → bytes_eq (get_or ns i d).name.now text ≡ true → kind_in (drop i ns) text ≡ (get_or ns i d).kind
kind_here ns i d text h e = ap (λ l. kind_in l text) (drop_more ns i d h) ∙ kind_head (get_or ns i d) (drop (i + 1) ns) text true e

pub kind_end : (ns : List NamedKind) (i : ℕ) (text : List ℕ) (k : Kind) → length ns ≤ i → kind_in (drop i ns) text ≡ k → Unknown ≡ k
kind_end ns i text k h e = sym (ap (λ l. kind_in l text) (drop_all i ns h)) ∙ e

-- the element that the first child of a name is, as a list
pub one_child : (tree : List Element) (name : List ℕ) (e c : ℕ) → first_named tree name e ≡ Some c → below tree e (first_child name ∷ []) ≡ c ∷ []
one_child tree name e c is = rw is refl

pub mover_is : (tree : List Element) (e : ℕ) (m : Mover) (start shape : ℕ) (x y v a : ℤ) → m.place ≡ e → m.x ≡ x → m.y ≡ y → m.speed ≡ v → m.angle ≡ a → id_at tree e ≡ Some m.id → m.kind ≡ (type_named (type_text tree e)).kind
    → first_named tree (codes "shape") e ≡ Some shape → HasRadii tree shape m.enclosing m.inscribed → first_named tree (codes "initialState") e ≡ Some start
    → HoldsPosition tree start x y → HoldsExact tree start (codes "velocity") 3 v → HoldsExact tree start (codes "orientation") 6 a → HoldsExact tree start (codes "time") 0 (pos m.time)
    → Pairwise (IsRecorded tree) (recorded_of tree e) m.recorded → IsMover tree e m
mover_is tree e m start shape x y v a place ex ey ev ea id kind shape_at radii is at speed angle time recorded =
    let X : ℤ → Type 0 = λ z. HoldsPosition tree start z m.y in
    let Y : ℤ → Type 0 = λ z. HoldsPosition tree start x z in
    let V : ℤ → Type 0 = λ z. HoldsExact tree start (codes "velocity") 3 z in
    let A : ℤ → Type 0 = λ z. HoldsExact tree start (codes "orientation") 6 z in
    record { id = id; place = place; kind = kind; shape = (shape, shape_at, radii); start = (start, is, subst X (sym ex) (subst Y (sym ey) at), subst V (sym ev) speed, subst A (sym ea) angle, time); recorded = recorded }

-- ---- lanelets

pub pair_is : (tree : List Element) (e : ℕ) (p : Pt) (q : ℤ × ℤ) → q.0 ≡ p.x → q.1 ≡ p.y → HoldsPt tree e p → IsPair tree e q
pair_is tree e p q a b h =
    let X : ℤ → Type 0 = λ z. Holds tree e (codes "x") 6 z in
    let Y : ℤ → Type 0 = λ z. Holds tree e (codes "y") 6 z in
    (subst X (sym a) h.x, subst Y (sym b) h.y)

pub size_of : (z : ℤ) → Within (neg_ℤ (pos 10_000_000_000_000)) (pos 10_000_000_000_000) z → nat_abs z ≤ 10_000_000_000_000
size_of z w = let low = w.low in let high = w.high in omega (arith, ints, low, high)

pub pair_in : (p : Pt) (q : ℤ × ℤ) → q.0 ≡ p.x → q.1 ≡ p.y → nat_abs p.x ≤ 10_000_000_000_000 → nat_abs p.y ≤ 10_000_000_000_000 → IsPairInRange q
pair_in p q a b h k =
    let P : ℤ → Type 0 = λ z. nat_abs z ≤ 10_000_000_000_000 in
    record { x = subst P (sym a) h; y = subst P (sym b) k }

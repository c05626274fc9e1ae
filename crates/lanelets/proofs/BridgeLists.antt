-- The bridges from one lanelet, over the list of those that follow it.
use Rattle.std.proofs.Common.{◌≡◌, ◌∙◌, ◌⊎◌, inl, inr, ℕ, suc, ◌+◌, ◌-◌, ◌<◌, ◌≤◌, Bool, true, false, ◌&&◌, not, List, [], ◌∷◌, ◌++◌, length, drop, get_or, refl, sym, ap, subst, arith, zero-add, length-append}
use Rattle.std.proofs.lemmas.Bool.{cases_eq}
use Rattle.std.proofs.lemmas.List.{drop_all, drop_more}
use Rattle.std.specs.Prelude.{Option, Some, None, slice_get, if◌then◌else◌}
use Rattle.spot_terms.specs.Cells.{Lane, Portal, NetCell, follows, same_portal, first_portal, last_portal, bridge_cell, bridge_between, bridges_to, bridges_from}
use Rattle.spot_terms.specs.Lists.{Includes, Lists, Rises}
use Rattle.spot_terms.specs.declared.network.Origin.TheVariants.{Bridge}
use Rattle.spot_terms.proofs.ListLemmas.{all_included, includes_at}
use Rattle.lanelets.specs.Bridges.{IsBridge, bridges_of, bridges_from_lane}
use Rattle.lanelets.specs.Links.{IsFollowed}
use Rattle.lanelets.specs.Made.{Adds, IsPlaced}
use Rattle.lanelets.specs.declared.cell.Placed.{Placed}
use Rattle.lanelets.proofs.Places.{drop_at, same_at}
use Rattle.spot_terms.proofs.ItemPlaces.{got_below}
use Rattle.spot_terms.proofs.Orders.{true_not_false}

-- ---- over a list of positions

-- the bridge between two portals, unless they are the same
abbrev pub bridge_over : ℕ → ℕ → Option Portal → Option Portal → List NetCell
bridge_over e f p q = if not (same_portal p q) then bridge_cell e f p q else []

abbrev pub bridge_onto : ℕ → Option Portal → ℕ → Option Lane → List NetCell
bridge_onto e p f None = []
bridge_onto e p f (Some m) = bridge_over e f p (first_portal m)

-- the bridges from portal p of the lanelet at e to these lanelets
abbrev pub bridges_over : List Lane → ℕ → Option Portal → List ℕ → List NetCell
bridges_over lanes e p [] = []
bridges_over lanes e p (f ∷ fs) = bridge_onto e p f (slice_get lanes f) ++ bridges_over lanes e p fs

-- ---- the same as over all lanelets

record ListsFrom (P : ℕ → Type 0) (n : ℕ) (xs : List ℕ) : Type 0 where
  rises : Rises xs
  each : (x : ℕ) → Includes xs x → (n ≤ x) × P x
  all : (x : ℕ) → n ≤ x → P x → Includes xs x

pub either_bool : (b : Bool) → (b ≡ true) ⊎ (b ≡ false)
either_bool true = inl refl
either_bool false = inr refl

and_true : (b c : Bool) (xs : List NetCell) → b ≡ true → (if b && c then xs else []) ≡ (if c then xs else [])
and_true true c xs h = refl
and_true false c xs h = cc

and_false : (b c : Bool) (xs : List NetCell) → b ≡ false → (if b && c then xs else []) ≡ []
and_false true c xs h = cc
and_false false c xs h = refl

none_past : (lanes : List Lane) (e n : ℕ) (xs : List ℕ) → ((k : ℕ) → slice_get lanes (n + k) ≡ None) → ListsFrom (IsFollowed lanes e) n xs → xs ≡ []
none_past lanes e n [] h a = refl
none_past lanes e n (x ∷ xs) h a =
    let p = a.each x (inl refl) in
    let low = p.0 in
    let there : slice_get lanes x ≡ Some p.1.1 = p.1.3 in
    let same : n + (x - n) ≡ x = omega (arith, low) in
    let gone : slice_get lanes x ≡ None = subst (λ (i : ℕ). slice_get lanes i ≡ None) same (h (x - n)) in
    absurd (no_item (slice_get lanes x) p.1.1 there gone)
  where
    no_item : (o : Option Lane) (l : Lane) → o ≡ Some l → o ≡ None → ⊥
    no_item o l s n = cc

over_hit : (lanes : List Lane) (e n : ℕ) (p : Option Portal) (m : Lane) (xs : List ℕ) (rest : List NetCell) → slice_get lanes n ≡ Some m → IsFollowed lanes e n → ListsFrom (IsFollowed lanes e) n xs
    → ((ys : List ℕ) → ListsFrom (IsFollowed lanes e) (n + 1) ys → bridges_over lanes e p ys ≡ rest) → bridges_over lanes e p xs ≡ bridge_over e n p (first_portal m) ++ rest
over_hit lanes e n p m [] rest hm f a ih = absurd (a.all n (omega arith) f)
over_hit lanes e n p m (x ∷ xs) rest hm f a ih = elim (cases_eq x n) [
  | inl same ↦
      (let here : slice_get lanes x ≡ Some m = ap (slice_get lanes) same ∙ hm in
      let first : bridge_onto e p x (slice_get lanes x) ≡ bridge_over e n p (first_portal m) = ap (bridge_onto e p x) here ∙ ap (λ i. bridge_over e i p (first_portal m)) same in
      let later : bridges_over lanes e p xs ≡ rest = ih xs (record {
        rises = a.rises.1;
        each = λ y i. (let up = all_included (λ y. x < y) xs y a.rises.0 i in omega (arith, up, same), (a.each y (inr i)).1);
        all = λ y low q. elim (a.all y (omega (arith, low)) q) [ inl g ↦ absurd (omega (arith, g, same, low)) | inr i ↦ i ];
      }) in
      ap (λ zs. zs ++ bridges_over lanes e p xs) first ∙ ap (λ zs. bridge_over e n p (first_portal m) ++ zs) later)
  | inr other ↦ absurd (elim (a.all n (omega arith) f) [
    | inl g ↦ other (sym g)
    | inr i ↦ (let up = all_included (λ y. x < y) xs n a.rises.0 i in let low = (a.each x (inl refl)).0 in omega (arith, up, low))
  ])
]

over_miss : (lanes : List Lane) (e n : ℕ) (xs : List ℕ) → (IsFollowed lanes e n → ⊥) → ListsFrom (IsFollowed lanes e) n xs → ListsFrom (IsFollowed lanes e) (n + 1) xs
over_miss lanes e n xs never a = record {
  rises = a.rises;
  each = λ x i. let p = a.each x i in let low = p.0 in (elim (cases_eq x n) [ inl same ↦ absurd (never (subst (IsFollowed lanes e) same p.1)) | inr other ↦ omega (arith, low, other) ], p.1);
  all = λ x low q. a.all x (omega (arith, low)) q;
}

over_to : (lanes : List Lane) (e n : ℕ) (l : Lane) (rest : List Lane) (xs : List ℕ) → slice_get lanes e ≡ Some l → ((k : ℕ) → slice_get rest k ≡ slice_get lanes (n + k)) → ListsFrom (IsFollowed lanes e) n xs
    → bridges_over lanes e (last_portal l) xs ≡ bridges_to e l n rest
over_to lanes e n l [] xs he h a = ap (bridges_over lanes e (last_portal l)) (none_past lanes e n xs (λ k. sym (h k)) a)
over_to lanes e n l (m ∷ rest) xs he h a =
    let here : slice_get lanes n ≡ Some m = ap (slice_get lanes) (omega arith) ∙ sym (h 0) in
    let next : (k : ℕ) → slice_get rest k ≡ slice_get lanes (n + 1 + k) = λ k. h (suc k) ∙ ap (slice_get lanes) (omega arith) in
    elim (either_bool (follows m l)) [
      | inl t ↦ over_hit lanes e n (last_portal l) m xs (bridges_to e l (n + 1) rest) here (l, m, he, here, t) a (λ ys b. over_to lanes e (n + 1) l rest ys he next b)
          ∙ ap (λ zs. zs ++ bridges_to e l (n + 1) rest) (sym (and_true (follows m l) (not (same_portal (last_portal l) (first_portal m))) (bridge_cell e n (last_portal l) (first_portal m)) t))
      | inr f ↦ over_to lanes e (n + 1) l rest xs he next (over_miss lanes e n xs (λ p. true_not_false (follows m l) (subst (λ (k : Lane). follows m k ≡ true) (same_at lanes e p.0 l p.2 he) (subst (λ (k : Lane). follows k p.0 ≡ true) (same_at lanes n p.1 m p.3 here) p.4)) f) a)
          ∙ ap (λ zs. zs ++ bridges_to e l (n + 1) rest) (sym (and_false (follows m l) (not (same_portal (last_portal l) (first_portal m))) (bridge_cell e n (last_portal l) (first_portal m)) f))
    ]

-- the bridges from a lanelet are those over the list of those that follow it
pub over_all : (lanes : List Lane) (e : ℕ) (l : Lane) (p : Portal) (xs : List ℕ) → slice_get lanes e ≡ Some l → last_portal l ≡ Some p → Lists (IsFollowed lanes e) xs → bridges_of lanes e ≡ bridges_over lanes e (Some p) xs
over_all lanes e l p xs he hp a =
    ap (bridges_from_lane lanes e) he
    ∙ sym (over_to lanes e 0 l lanes xs he (λ k. ap (slice_get lanes) (sym (zero-add k))) (record { rises = a.rises; each = λ x i. (omega arith, a.each x i); all = λ x low q. a.all x q }))
    ∙ ap (λ q. bridges_over lanes e q xs) hp

-- ---- one after the other

pub bridge_made : (lanes : List Lane) (e f : ℕ) (m : Lane) (p q : Portal) → slice_get lanes f ≡ Some m → first_portal m ≡ Some q → same_portal (Some p) (Some q) ≡ false
    → bridge_onto e (Some p) f (slice_get lanes f) ≡ record { origin = Bridge e f; entry = p; exit = q } ∷ []
bridge_made lanes e f m p q h g s = ap (bridge_onto e (Some p) f) h ∙ ap (bridge_over e f (Some p)) g ∙ ap (λ b. if not b then bridge_cell e f (Some p) (Some q) else []) s

pub no_bridge : (lanes : List Lane) (e f : ℕ) (m : Lane) (p q : Portal) → slice_get lanes f ≡ Some m → first_portal m ≡ Some q → same_portal (Some p) (Some q) ≡ true → bridge_onto e (Some p) f (slice_get lanes f) ≡ []
no_bridge lanes e f m p q h g s = ap (bridge_onto e (Some p) f) h ∙ ap (bridge_over e f (Some p)) g ∙ ap (λ b. if not b then bridge_cell e f (Some p) (Some q) else []) s

pub bridges_step : (n m : ℕ) (lanes : List Lane) (l : Lane) → m ≡ n + 1 → slice_get lanes n ≡ Some l → bridges_from lanes n (drop n lanes) ≡ bridges_of lanes n ++ bridges_from lanes m (drop m lanes)
bridges_step n m lanes l e h =
    let a = drop_at lanes n m l e h in
    ap (bridges_from lanes n) a ∙ ap (λ k. bridges_to n l 0 lanes ++ bridges_from lanes k (drop m lanes)) (sym e) ∙ ap (λ zs. zs ++ bridges_from lanes m (drop m lanes)) (sym (ap (bridges_from_lane lanes n) h))

pub bridges_end : (n : ℕ) (lanes : List Lane) → length lanes ≤ n → bridges_from lanes n (drop n lanes) ≡ []
bridges_end n lanes h = ap (bridges_from lanes n) (drop_all n lanes h)

-- ---- how many

one_at_most : (e f : ℕ) (p q : Option Portal) (b : Bool) → length (if b then bridge_cell e f p q else []) ≤ 1
one_at_most e f p q false = omega arith
one_at_most e f None q true = omega arith
one_at_most e f (Some p) None true = omega arith
one_at_most e f (Some p) (Some q) true = omega arith

few_to : (e : ℕ) (l : Lane) (n : ℕ) (lanes : List Lane) → length (bridges_to e l n lanes) ≤ length lanes
few_to e l n [] = omega arith
few_to e l n (m ∷ lanes) =
    let here : length (bridge_between e l n m) ≤ 1 = one_at_most e n (last_portal l) (first_portal m) (follows m l && not (same_portal (last_portal l) (first_portal m))) in
    let rest : length (bridges_to e l (n + 1) lanes) ≤ length lanes = few_to e l (n + 1) lanes in
    let both : length (bridges_to e l n (m ∷ lanes)) ≡ length (bridge_between e l n m) + length (bridges_to e l (n + 1) lanes) = length-append (bridge_between e l n m) (bridges_to e l (n + 1) lanes) in
    omega (arith, here, rest, both)

pub few_bridges : (lanes : List Lane) (e : ℕ) (l : Lane) → slice_get lanes e ≡ Some l → length (bridges_of lanes e) ≤ length lanes
few_bridges lanes e l h = rw (ap (bridges_from_lane lanes e) h) (few_to e l 0 lanes)

-- ---- along the list

pub over_next : (lanes : List Lane) (e : ℕ) (p : Option Portal) (xs : List ℕ) (k : ℕ) → k < length xs
    → bridges_over lanes e p (drop k xs) ≡ bridge_onto e p (get_or xs k 0) (slice_get lanes (get_or xs k 0)) ++ bridges_over lanes e p (drop (k + 1) xs)
over_next lanes e p xs k h = ap (bridges_over lanes e p) (drop_more xs k 0 h)

pub over_end : (lanes : List Lane) (e : ℕ) (p : Option Portal) (xs : List ℕ) (k : ℕ) → length xs ≤ k → bridges_over lanes e p (drop k xs) ≡ []
over_end lanes e p xs k h = ap (bridges_over lanes e p) (drop_all k xs h)

pub follower_low : (lanes : List Lane) (e : ℕ) (xs : List ℕ) (k : ℕ) → Lists (IsFollowed lanes e) xs → k < length xs → get_or xs k 0 < length lanes
follower_low lanes e xs k a h = let p = a.each (get_or xs k 0) (includes_at xs k 0 h) in got_below lanes (get_or xs k 0) p.1 p.3

pub bridge_placed : (lanes : List Lane) (e f : ℕ) (l : Lane) (p q : Portal) (b : List Placed) (x : Placed) → slice_get lanes e ≡ Some l → IsBridge e l.0 f p q x → Adds (IsPlaced lanes) (record { origin = Bridge e f; entry = p; exit = q } ∷ []) b (b ++ x ∷ [])
bridge_placed lanes e f l p q b x h m = record { added = x ∷ []; after_is = refl; each = (record { lane = l; lane_is = h; made = m }, tt) }

pub count_next : (lanes : List Lane) (e : ℕ) (p : Option Portal) (xs : List ℕ) (k n m j total : ℕ) → k < length xs → n + length (bridges_over lanes e p (drop k xs)) ≡ total
    → length (bridge_onto e p (get_or xs k 0) (slice_get lanes (get_or xs k 0))) ≡ j → m ≡ n + j → m + length (bridges_over lanes e p (drop (k + 1) xs)) ≡ total
count_next lanes e p xs k n m j total h was here is =
    let both : length (bridges_over lanes e p (drop k xs)) ≡ length (bridge_onto e p (get_or xs k 0) (slice_get lanes (get_or xs k 0))) + length (bridges_over lanes e p (drop (k + 1) xs)) =
    ap length (over_next lanes e p xs k h) ∙ length-append (bridge_onto e p (get_or xs k 0) (slice_get lanes (get_or xs k 0))) (bridges_over lanes e p (drop (k + 1) xs)) in
    omega (arith, was, here, is, both)

pub count_end : (lanes : List Lane) (e : ℕ) (p : Option Portal) (xs : List ℕ) (k n total : ℕ) → length xs ≤ k → n + length (bridges_over lanes e p (drop k xs)) ≡ total → n ≡ total
count_end lanes e p xs k n total h was = let none : length (bridges_over lanes e p (drop k xs)) ≡ 0 = ap length (over_end lanes e p xs k h) in omega (arith, was, none)

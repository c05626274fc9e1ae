-- Children that are kept, and what they bring to a strip.
use Rattle.std.proofs.Common.{◌≡◌, ◌∙◌, ◌⊎◌, inl, inr, ℕ, zero, suc, ◌+◌, ◌<◌, arith, refl, sym, ap, subst, List, [], ◌∷◌, get_or, length, Option, Some, None}
use Rattle.std.specs.Prelude.{option_map, slice_get, slice_set, IfSome}
use Rattle.std.proofs.lemmas.Option.{none-some, same_Some}
use Rattle.spot_terms.specs.declared.plain.Pt.{Pt}
use Rattle.spot_terms.proofs.ItemPlaces.{got_below, get_set_either}
use Rattle.round_out.specs.declared.frames.FrameNumbers.{FrameNumbers}
use Rattle.base_sets.specs.declared.grid.OuterBox.{OuterBox}
use Rattle.area_run.specs.Plans.{course_of}
use Rattle.area_run.specs.Strips.{AreKept, ArePartsIn, HasPolygon, IsChildAlong, IsChildOf, IsKeptOf, IsStripOf, JoinsChild}
use Rattle.area_run.specs.declared.children.ChildParts.{ChildParts}
use Rattle.area_run.specs.declared.children.Kept.{Kept}
use Rattle.area_run.specs.declared.plan.Plan.{Plan}

-- the item that was put
pub got_set : {X : Type 0} (xs : List X) (i : ℕ) (x d : X) → i < length xs → get_or (slice_set xs i x) i d ≡ x
got_set [] i x d h = absurd (omega (arith, h))
got_set (y ∷ xs) zero x d h = refl
got_set (y ∷ xs) (suc i) x d h = got_set xs i x d (omega (arith, h))

-- ---- none is kept

pub none_kept_more : (kept : List (Option Kept)) (n : ℕ) → n < length kept → ((j : ℕ) (k : Option Kept) → j < n → slice_get kept j ≡ Some k → k ≡ None)
    → (j : ℕ) (k : Option Kept) → j < n + 1 → slice_get (slice_set kept n None) j ≡ Some k → k ≡ None
none_kept_more kept n within h j k l got = elim (get_set_either kept n j None within) [
  | inl here ↦ sym (same_Some None k (sym here.1 ∙ got))
  | inr there ↦ h j k (less there.0) (sym there.1 ∙ got)
]
  where
    less : (n < j) ⊎ (j < n) → j < n
    less (inl a) = absurd (omega (arith, l, a))
    less (inr a) = a

module _ (plan : Plan) (b : OuterBox) where
  pub none_kept : (kept : List (Option Kept)) → ((j : ℕ) (k : Option Kept) → j < length kept → slice_get kept j ≡ Some k → k ≡ None) → AreKept plan b kept
  none_kept kept none i k got = absurd (none-some k (sym (none i (Some k) (got_below kept i (Some k) got) got)))

  -- ---- one is kept

  pub kept_in : (kept : List (Option Kept)) (i : ℕ) (k : Option Kept) → AreKept plan b kept → slice_get kept i ≡ Some k → IfSome k (λ e. IsChildOf plan b e.of e.child)
  kept_in kept i None h got = tt
  kept_in kept i (Some k) h got = h i k got

  of_entry : (corners : List Pt) (kept : Option Kept) (k : Kept) → IsKeptOf plan b corners kept → kept ≡ Some k → IsChildOf plan b corners k.child
  of_entry corners kept k h e = subst (λ (z : Kept). IsChildOf plan b corners z.child) (same_Some h.entry k (sym h.is ∙ e)) h.child_is

  pub kept_set : (kept : List (Option Kept)) (at : ℕ) (corners : List Pt) (new : Option Kept) → at < length kept → AreKept plan b kept → IsKeptOf plan b corners new → AreKept plan b (slice_set kept at new)
  kept_set kept at corners new within h is i k got = elim (get_set_either kept at i new within) [
    | inl here ↦
        let same : is.entry ≡ k = same_Some is.entry k (sym is.is ∙ same_Some new (Some k) (sym here.1 ∙ got)) in
        subst (λ (z : Kept). IsChildOf plan b z.of z.child) same (subst (λ (z : List Pt). IsChildOf plan b z is.entry.child) (sym is.of_it) is.child_is)
    | inr there ↦ h i k (sym there.1 ∙ got)
  ]

  pub still_kept : (corners : List Pt) (kept : Option Kept) → IfSome kept (λ k. IsChildOf plan b k.of k.child) → HasPolygon corners kept → IsKeptOf plan b corners kept
  still_kept corners None h has = absurd has
  still_kept corners (Some k) h has = record { entry = k; is = refl; of_it = has; child_is = subst (λ (z : List Pt). IsChildOf plan b z k.child) has h }

  -- ---- it comes to a strip

  pub joined_some : (corners : List Pt) (kept : Option Kept) (k : Kept) (c : ChildParts) (old new : List (Option FrameNumbers)) → kept ≡ Some k → k.child ≡ Some c
      → ((ys : List (List Pt)) → IsStripOf plan b ys old → IsStripOf plan b (c.y ∷ ys) new) → IsKeptOf plan b corners kept → JoinsChild plan b corners old new
  joined_some corners kept k c old new e f joined is = record {
    child = Some c.y;
    is = subst (λ (z : Option ChildParts). IsChildAlong (course_of plan) b.ylo b.yhi corners (option_map (λ d. d.y) z)) f (of_entry corners kept k is e).along;
    joined = joined;
  }

  pub joined_none : (corners : List Pt) (kept : Option Kept) (k : Kept) (old : List (Option FrameNumbers)) → kept ≡ Some k → ((c : ChildParts) → k.child ≡ Some c → ⊥)
      → IsKeptOf plan b corners kept → JoinsChild plan b corners old old
  joined_none corners kept k old e not is = go k.child refl
    where
      go : (child : Option ChildParts) → k.child ≡ child → JoinsChild plan b corners old old
      go (Some c) f = absurd (not c f)
      go None f = record {
        child = None;
        is = subst (λ (z : Option ChildParts). IsChildAlong (course_of plan) b.ylo b.yhi corners (option_map (λ d. d.y) z)) f (of_entry corners kept k is e).along;
        joined = λ ys h. h;
      }

  pub joined_never : (corners : List Pt) (kept : Option Kept) (old new : List (Option FrameNumbers)) → ((k : Kept) → kept ≡ Some k → ⊥) → IsKeptOf plan b corners kept → JoinsChild plan b corners old new
  joined_never corners kept old new not is = absurd (not is.entry is.is)

  pub parts_kept : (corners : List Pt) (kept : Option Kept) (k : Kept) (c : ChildParts) → kept ≡ Some k → k.child ≡ Some c → IsKeptOf plan b corners kept → ArePartsIn plan b c
  parts_kept corners kept k c e f is = subst (λ (z : Option ChildParts). IfSome z (ArePartsIn plan b)) f (of_entry corners kept k is e).parts

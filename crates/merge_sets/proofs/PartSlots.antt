-- Parts of polygons in slots: their numbers, and where there are none.
use Rattle.std.proofs.Common.{◌≡◌, ◌∙◌, ◌⊎◌, ℕ, ◌+◌, ◌*◌, ◌≤◌, ◌<◌, arith, ap, sym, refl, subst, List, [], ◌∷◌, map, inl, inr, length, true, false, Bool, ◌↔◌, to_z, of_z, w64, FitsSigned, get_or}
use Rattle.std.specs.Prelude.{nat_abs, IsTrue, Option, Some, None}
use Rattle.std.specs.List.{AllByRecursion}
use Rattle.std.proofs.lemmas.Int.{ints, by_lt_z, fits_signed_from_abs}
use lib.IntN.{ℤ, pos, negsuc, neg_ℤ, ◌+ℤ◌, ◌-ℤ◌, ◌*ℤ◌}
use lib.Signed.{lt_z, ◌≤ℤ◌, ◌<ℤ◌}
use Rattle.spot_terms.specs.ChildNumbers.{support, frame_supports}
use Rattle.spot_terms.specs.ClippedTo.{Side, places, IsClippedTo, IsClippedAway}
use Rattle.spot_terms.specs.Clips.{IsClip, as_it_is, x_turned}
use Rattle.spot_terms.specs.Frames.{frame_normals, AreFrameSupports}
use Rattle.spot_terms.specs.Grid.{slot, slot_low, slot_high}
use Rattle.spot_terms.specs.Hull.{Before, dot, IsCornerList, IsSupport}
use Rattle.spot_terms.specs.Lists.{Includes, Pairwise}
use Rattle.spot_terms.specs.Reach.{Normal}
use Rattle.spot_terms.specs.Whole.{SizeAtMost, Within}
use Rattle.spot_terms.specs.declared.plain.Pt.{Pt}
use Rattle.spot_terms.proofs.ListLemmas.{all_included, all_of}
use Rattle.spot_terms.proofs.Ring.{ring, var, num, ◌⊕◌, ◌⊖◌, ◌⊗◌}
use Rattle.spot_terms.proofs.Quotients.{product_le_at, next_product_gt_at}
use Rattle.spot_terms.proofs.Supports.{supports_are}
use Rattle.convex_poly.specs.Polygons.{IsPolygon, IsPosition}
use Rattle.round_out.specs.Clips.{StaysInBox, IsAxis}
use Rattle.round_out.specs.declared.frames.FrameNumbers.{FrameNumbers}
use Rattle.round_out.proofs.ClipCases.{whole_clip}
use Rattle.round_out.proofs.Reflections.{mirror_as_it_is, mirror_x_turned}
use Rattle.round_out.proofs.TwoClips.{corner_at_most}
use Rattle.merge_sets.specs.Cells.{IsPartNumbers}
use Rattle.merge_sets.specs.Slots.{IsPartFrom}
use Rattle.spot_terms.proofs.Orders.{product_not_negative, at_most_opposite}

-- ---- supports

same_supports : (ns : List Normal) (corners : List Pt) (hs : List ℤ) → Pairwise (λ n h. IsSupport corners n.0 n.1 h) ns hs → hs ≡ map (λ n. support n corners) ns
same_supports [] corners [] p = refl
same_supports [] corners (h ∷ hs) p = absurd p
same_supports (n ∷ ns) corners [] p = absurd p
same_supports (n ∷ ns) corners (h ∷ hs) p =
    let first : support n corners ≡ h = supports_are.one n corners h p.0 in
    let rest : hs ≡ map (λ n. support n corners) ns = same_supports ns corners hs p.1 in
    ap (λ (z : ℤ). z ∷ hs) (sym first) ∙ ap (λ (zs : List ℤ). support n corners ∷ zs) rest

pub supports_are_frame : (k : ℕ) (corners : List Pt) (hs : List ℤ) → AreFrameSupports (pos k) corners hs → hs ≡ frame_supports k corners
supports_are_frame k corners hs p = same_supports (frame_normals (pos k)) corners hs p

-- ---- speeds of a part

-- what is left of a polygon by one clip has no speed above the polygon's
pub part_slow : (vs part : List Pt) → IsCornerList vs → IsCornerList part → StaysInBox vs (Some part) → AllByRecursion (λ c. SizeAtMost 1_000_000 c.y) vs → AllByRecursion (λ c. SizeAtMost 1_000_000 c.y) part
part_slow vs part cv cp inside slow =
    all_of (λ c. SizeAtMost 1_000_000 c.y) part (λ u i. size u.x u.y
    (corner_at_most (pos 0) (pos 1) (pos 1_000_000) vs part u (inr (inr (inl (refl, refl)))) cv cp inside (λ w j. up w.x w.y (all_included (λ c. SizeAtMost 1_000_000 c.y) vs w slow j)) i)
    (corner_at_most (pos 0) (neg_ℤ (pos 1)) (pos 1_000_000) vs part u (inr (inr (inr (refl, refl)))) cv cp inside (λ w j. down w.x w.y (all_included (λ c. SizeAtMost 1_000_000 c.y) vs w slow j)) i))
  where
    up : (x y : ℤ) → nat_abs y ≤ 1_000_000 → (pos 0 *ℤ x +ℤ pos 1 *ℤ y) ≤ℤ pos 1_000_000
    up x y h = omega (arith, ints)

    down : (x y : ℤ) → nat_abs y ≤ 1_000_000 → (pos 0 *ℤ x +ℤ negsuc 0 *ℤ y) ≤ℤ pos 1_000_000
    down x y h = omega (arith, ints)

    size : (x y : ℤ) → (pos 0 *ℤ x +ℤ pos 1 *ℤ y) ≤ℤ pos 1_000_000 → (pos 0 *ℤ x +ℤ negsuc 0 *ℤ y) ≤ℤ pos 1_000_000 → nat_abs y ≤ 1_000_000
    size x y h g = omega (arith, ints)

-- ---- clips to a side on which all corners are

pub whole_left : (vs : List Pt) (c : ℤ) → IsCornerList vs → AllByRecursion (λ v. v.x ≤ℤ c) vs → IsClip as_it_is c vs (Some vs)
whole_left vs c convex all = whole_clip as_it_is mirror_as_it_is c vs convex all

pub whole_right : (vs : List Pt) (lo : ℤ) → IsCornerList vs → AllByRecursion (λ v. lo ≤ℤ v.x) vs → IsClip x_turned (neg_ℤ lo) vs (Some vs)
whole_right vs lo convex all = whole_clip x_turned mirror_x_turned (neg_ℤ lo) vs convex (all_of (λ v. (pos 0 -ℤ v.x) ≤ℤ neg_ℤ lo) vs (λ u i. at_most_opposite lo u.x (all_included (λ v. lo ≤ℤ v.x) vs u all i)))

-- no place is before the first corner's
pub first_least : (v : Pt) (vs : List Pt) (lo : ℤ) → IsCornerList (v ∷ vs) → lo ≤ℤ v.x → AllByRecursion (λ c. lo ≤ℤ c.x) (v ∷ vs)
first_least v vs lo convex h = (h, all_of (λ c. lo ≤ℤ c.x) vs (λ u i. past v u lo h (all_included (Before v) vs u convex.0 i)))
  where
    past : (v u : Pt) (lo : ℤ) → lo ≤ℤ v.x → Before v u → lo ≤ℤ u.x
    past v u lo h (inl l) = omega (arith, ints, h, l)
    past v u lo h (inr e) = omega (arith, ints, h, e.0)

-- none is past a support
pub support_most : (vs : List Pt) (g hi : ℤ) → IsSupport vs (pos 1) (pos 0) g → g ≤ℤ hi → AllByRecursion (λ c. c.x ≤ℤ hi) vs
support_most vs g hi s h = all_of (λ c. c.x ≤ℤ hi) vs (λ u i. most u.x u.y g hi (s.bound u i) h)
  where
    most : (x y g hi : ℤ) → (pos 1 *ℤ x +ℤ pos 0 *ℤ y) ≤ℤ g → g ≤ℤ hi → x ≤ℤ hi
    most x y g hi l h = omega (arith, ints)

-- ---- slots past a polygon

-- slots before that of the least place, and after that of the greatest, have no part
pub none_outside : (vs : List Pt) (width lo hi c : ℤ) → pos 0 <ℤ width → IsCornerList vs → AllByRecursion (λ v. Within lo hi v.x) vs → (c <ℤ slot width lo) ⊎ (slot width hi <ℤ c)
    → IsClippedAway (places (slot_low width c) (slot_high width c)) vs
none_outside vs width lo hi c some convex all (inl before) =
    inl (all_of (λ v. slot_high width c <ℤ v.x) vs (λ u i. past (slot_high width c) lo hi u.x (ends c (slot width lo) width lo some before (product_le_at lo width (slot width lo) some refl)) (all_included (λ v. Within lo hi v.x) vs u all i)))
  where
    past : (e lo hi x : ℤ) → e <ℤ lo → Within lo hi x → e <ℤ x
    past e lo hi x h w = omega (arith, ints, h, w.low)

    step : (c q width : ℤ) → pos 0 <ℤ width → c <ℤ q → (c *ℤ width +ℤ width) ≤ℤ (q *ℤ width)
    step c q width some l =
        let p : pos 0 ≤ℤ (((q -ℤ c) -ℤ pos 1) *ℤ width) = product_not_negative ((q -ℤ c) -ℤ pos 1) width (omega (arith, ints, l)) (omega (arith, ints, some)) in
        let e : ((q -ℤ c) -ℤ pos 1) *ℤ width ≡ q *ℤ width -ℤ (c *ℤ width +ℤ width) = ring (q ∷ c ∷ width ∷ []) (((var 0 ⊖ var 1) ⊖ num (pos 1)) ⊗ var 2) ((var 0 ⊗ var 2) ⊖ ((var 1 ⊗ var 2) ⊕ var 2)) refl in
        omega (arith, ints, p, e)

    ends : (c q width lo : ℤ) → pos 0 <ℤ width → c <ℤ q → (q *ℤ width) ≤ℤ lo → (c *ℤ width +ℤ width -ℤ pos 1) <ℤ lo
    ends c q width lo some l h = let s = step c q width some l in omega (arith, ints, s, h)
none_outside vs width lo hi c some convex all (inr after) =
    let low = begins c (slot width hi) width hi some after (next_product_gt_at hi width (slot width hi) some refl) in
    inr (
      vs,
      whole_left vs (slot_high width c) convex (all_of (λ v. v.x ≤ℤ slot_high width c) vs (λ u i. under c width lo hi u.x some low (all_included (λ v. Within lo hi v.x) vs u all i))),
      inl (all_of (λ v. neg_ℤ (slot_low width c) <ℤ (pos 0 -ℤ v.x)) vs (λ u i. before (slot_low width c) lo hi u.x low (all_included (λ v. Within lo hi v.x) vs u all i))),
    )
  where
    step : (c q width : ℤ) → pos 0 <ℤ width → q <ℤ c → ((q +ℤ pos 1) *ℤ width) ≤ℤ (c *ℤ width)
    step c q width some l =
        let p : pos 0 ≤ℤ (((c -ℤ q) -ℤ pos 1) *ℤ width) = product_not_negative ((c -ℤ q) -ℤ pos 1) width (omega (arith, ints, l)) (omega (arith, ints, some)) in
        let e : ((c -ℤ q) -ℤ pos 1) *ℤ width ≡ c *ℤ width -ℤ ((q +ℤ pos 1) *ℤ width) = ring (q ∷ c ∷ width ∷ []) (((var 1 ⊖ var 0) ⊖ num (pos 1)) ⊗ var 2) ((var 1 ⊗ var 2) ⊖ ((var 0 ⊕ num (pos 1)) ⊗ var 2)) refl in
        omega (arith, ints, p, e)

    begins : (c q width hi : ℤ) → pos 0 <ℤ width → q <ℤ c → hi <ℤ ((q +ℤ pos 1) *ℤ width) → hi <ℤ (c *ℤ width)
    begins c q width hi some l h = let s = step c q width some l in omega (arith, ints, s, h)

    under : (c width lo hi x : ℤ) → pos 0 <ℤ width → hi <ℤ (c *ℤ width) → Within lo hi x → x ≤ℤ (c *ℤ width +ℤ width -ℤ pos 1)
    under c width lo hi x some h w = omega (arith, ints, some, h, w.high)

    before : (e lo hi x : ℤ) → hi <ℤ e → Within lo hi x → neg_ℤ e <ℤ (pos 0 -ℤ x)
    before e lo hi x h w = omega (arith, ints, h, w.high)

-- ---- parts by one clip or two

-- the part at the places from low on of the part up to high
pub part_after : (width c : ℤ) (k : ℕ) (vs half : List Pt) (left : Option FrameNumbers) → IsClip as_it_is (slot_high width c) vs (Some half) → IsPartFrom (slot_low width c) k half left → IsPartNumbers width c k vs left
part_after width c k vs half None h p = inr (half, h, p)
part_after width c k vs half (Some f) h (part, p, e) = (part, (half, h, p), e)

-- numbers of the whole polygon, where no place is before low
pub from_whole : (low : ℤ) (k : ℕ) (vs : List Pt) (f : FrameNumbers) → IsCornerList vs → AllByRecursion (λ v. low ≤ℤ v.x) vs → f.n ≡ frame_supports k vs → IsPartFrom low k vs (Some f)
from_whole low k vs f convex all e = (vs, (vs, whole_right vs low convex all, refl), e)

pub from_clip : (low : ℤ) (k : ℕ) (vs part : List Pt) (f : FrameNumbers) → IsClip x_turned (neg_ℤ low) vs (Some part) → f.n ≡ frame_supports k part → IsPartFrom low k vs (Some f)
from_clip low k vs part f h e = (part, (part, h, refl), e)

-- ---- the ends of a slot as the code computes them

abbrev pub read : ℤ → ℤ
read z = to_z w64 (of_z w64 z)

-- the slot isn't further off than places go
pub record IsNearSlot (width c : ℤ) : Type 0 where
  pub width_low : pos 100_000 ≤ℤ width
  pub width_high : width ≤ℤ pos 100_000_000
  pub low : slot_low width c ≤ℤ pos 40_000_000_000_000
  pub high : neg_ℤ (pos 40_000_000_000_000) ≤ℤ slot_high width c
  pub c_read : read c ≡ c
  pub width_read : read width ≡ width

pub low_read : (width c : ℤ) → IsNearSlot width c → read (read c *ℤ read width) ≡ slot_low width c
low_read width c n = rw (n.c_read, n.width_read) (small (c *ℤ width) width n.width_low n.width_high n.low n.high)
  where
    small : (z width : ℤ) → pos 100_000 ≤ℤ width → width ≤ℤ pos 100_000_000 → z ≤ℤ pos 40_000_000_000_000 → neg_ℤ (pos 40_000_000_000_000) ≤ℤ (z +ℤ width -ℤ pos 1) → read z ≡ z
    small z width a b l h = omega (arith, ints)

sum_read : (z width : ℤ) → pos 100_000 ≤ℤ width → width ≤ℤ pos 100_000_000 → z ≤ℤ pos 40_000_000_000_000 → neg_ℤ (pos 40_000_000_000_000) ≤ℤ (z +ℤ width -ℤ pos 1) → read (z +ℤ read (width -ℤ pos 1)) ≡ z +ℤ width -ℤ pos 1
sum_read z width a b l h = omega (arith, ints)

pub high_read : (width c : ℤ) → IsNearSlot width c → read (read (read c *ℤ read width) +ℤ read (read width -ℤ pos 1)) ≡ slot_high width c
high_read width c n = rw (low_read width c n, n.width_read) (sum_read (c *ℤ width) width n.width_low n.width_high n.low n.high)

pub high_fits : (width c : ℤ) → IsNearSlot width c → FitsSigned w64 (read (read c *ℤ read width) +ℤ read (read width -ℤ pos 1))
high_fits width c n = rw (low_read width c n, n.width_read) (small (c *ℤ width) width n.width_low n.width_high n.low n.high)
  where
    in_range : (z : ℤ) → nat_abs z ≤ 100_000_000_000_000 → FitsSigned w64 z
    in_range z h = fits_signed_from_abs w64 z (omega (arith, h))

    small : (z width : ℤ) → pos 100_000 ≤ℤ width → width ≤ℤ pos 100_000_000 → z ≤ℤ pos 40_000_000_000_000 → neg_ℤ (pos 40_000_000_000_000) ≤ℤ (z +ℤ width -ℤ pos 1) → FitsSigned w64 (z +ℤ read (width -ℤ pos 1))
    small z width a b l h = in_range (z +ℤ read (width -ℤ pos 1)) (omega (arith, ints))

pub told : (p q a b : ℤ) → p ≡ a → q ≡ b → lt_z p q ≡ true → a <ℤ b
told p q a b e f h = omega (arith, ints)

pub denied : (p q a b : ℤ) → p ≡ a → q ≡ b → lt_z p q ≡ false → b ≤ℤ a
denied p q a b e f h = omega (arith, ints)

-- a line that some corner is past
pub line_size : (width c : ℤ) (vs : List Pt) → IsNearSlot width c → AllByRecursion IsPosition vs → (AllByRecursion (λ v. v.x ≤ℤ slot_high width c) vs → ⊥) → nat_abs (slot_high width c) ≤ 40_000_000_000_000
line_size width c vs n positions fails = by_lt_z (pos 40_000_000_000_000) (slot_high width c)
    (λ far. absurd (fails (all_of (λ v. v.x ≤ℤ slot_high width c) vs (λ u i. near u.x (slot_high width c) (all_included IsPosition vs u positions i).x far))))
    (λ l. size (slot_high width c) n.high l)
  where
    near : (x z : ℤ) → nat_abs x ≤ 40_000_000_000_000 → pos 40_000_000_000_000 <ℤ z → x ≤ℤ z
    near x z h l = omega (arith, ints)

    size : (z : ℤ) → neg_ℤ (pos 40_000_000_000_000) ≤ℤ z → z ≤ℤ pos 40_000_000_000_000 → nat_abs z ≤ 40_000_000_000_000
    size z a d = omega (arith, ints)

pub under_limit : (width c : ℤ) → IsNearSlot width c → read (slot_low width c) ≡ slot_low width c
under_limit width c n = small (c *ℤ width) width n.width_low n.width_high n.low n.high
  where
    small : (z width : ℤ) → pos 100_000 ≤ℤ width → width ≤ℤ pos 100_000_000 → z ≤ℤ pos 40_000_000_000_000 → neg_ℤ (pos 40_000_000_000_000) ≤ℤ (z +ℤ width -ℤ pos 1) → read z ≡ z
    small z width a b l h = omega (arith, ints)

pub not_up_to : (r : Bool) (P : Type 0) → (IsTrue r ↔ P) → r ≡ false → P → ⊥
not_up_to r P h fails p = let holds : r ≡ true = h.1 p in absurd (let f : false ≡ true = sym fails ∙ holds in cc)

-- numbers of the part of a polygon that is up to high
pub part_whole : (width c : ℤ) (k : ℕ) (vs : List Pt) (left : Option FrameNumbers) → IsCornerList vs → AllByRecursion (λ v. v.x ≤ℤ slot_high width c) vs → IsPartFrom (slot_low width c) k vs left → IsPartNumbers width c k vs left
part_whole width c k vs left convex all p = part_after width c k vs vs left (whole_left vs (slot_high width c) convex all) p

pub whole_from : (vs us : List Pt) (d : Pt) (low : ℤ) → us ≡ vs → IsCornerList vs → AllByRecursion IsPosition vs → read low ≡ low → lt_z (read (get_or us 0 d).x) (read low) ≡ false → AllByRecursion (λ c. low ≤ℤ c.x) vs
whole_from vs us d low e convex positions l t = go vs convex positions (subst (λ (z : List Pt). lt_z (read (get_or z 0 d).x) (read low) ≡ false) e t)
  where
    place : (x : ℤ) → nat_abs x ≤ 40_000_000_000_000 → read x ≡ x
    place x h = omega (arith, ints)

    go : (vs : List Pt) → IsCornerList vs → AllByRecursion IsPosition vs → lt_z (read (get_or vs 0 d).x) (read low) ≡ false → AllByRecursion (λ c. low ≤ℤ c.x) vs
    go [] convex p t = absurd convex
    go (v ∷ vs) convex p t = first_least v vs low convex (denied (read v.x) (read low) v.x low (place v.x p.0.x) l t)

pub near_of : (width c : ℤ) → Within (pos 100_000) (pos 100_000_000) width → slot_low width c ≤ℤ pos 40_000_000_000_000 → neg_ℤ (pos 40_000_000_000_000) ≤ℤ slot_high width c → read c ≡ c → read width ≡ width → IsNearSlot width c
near_of width c w l h e f = record { width_low = w.low; width_high = w.high; low = l; high = h; c_read = e; width_read = f }

pub tests_of : (r : Bool) (width c : ℤ) (us vs : List Pt) → IsNearSlot width c → us ≡ vs → (IsTrue r ↔ AllByRecursion (λ v. v.x ≤ℤ read (read (read c *ℤ read width) +ℤ read (read width -ℤ pos 1))) us)
    → IsTrue r ↔ AllByRecursion (λ v. v.x ≤ℤ slot_high width c) vs
tests_of r width c us vs n e h = subst (λ (z : ℤ). IsTrue r ↔ AllByRecursion (λ v. v.x ≤ℤ z) vs) (high_read width c n) (subst (λ (ws : List Pt). IsTrue r ↔ AllByRecursion (λ v. v.x ≤ℤ read (read (read c *ℤ read width) +ℤ read (read width -ℤ pos 1))) ws) e h)

-- Spans that an edge narrows.
use Rattle.std.proofs.Common.{◌≡◌, ℕ, ◌≤◌, arith, refl, sym, ap, ◌∙◌, subst, [], ◌∷◌, inl, inr}
use Rattle.std.specs.Prelude.{nat_abs, ◌↔◌, Option, Some, None}
use Rattle.std.specs.Int.{int_min}
use Rattle.std.proofs.Math.Nat.{div-le_self}
use Rattle.std.proofs.lemmas.Int.{ints, by_lt_z}
use lib.IntN.{ℤ, pos, negsuc, ◌+ℤ◌, ◌-ℤ◌, ◌*ℤ◌}
use lib.Signed.{◌≤ℤ◌, ◌<ℤ◌}
use Rattle.spot_terms.specs.declared.plain.Pt.{Pt}
use Rattle.spot_terms.specs.Whole.{Within, quotient_floor}
use Rattle.spot_terms.proofs.Products.{scaled_order}
use Rattle.spot_terms.proofs.Quotients.{below_factor, product_le_at, next_product_gt_at}
use Rattle.spot_terms.proofs.Ring.{ring, var, num, ◌⊖◌, ◌⊗◌, turn}
use Rattle.spot_terms.proofs.Orders.{at_most_of_difference, at_most_trans, below_next, below_not_at_least, difference_across, negative_clash, lesser_is}
use Rattle.convex_poly.specs.Turns.{cross}
use Rattle.convex_poly.specs.Runs.{IsSpanOf, IsRun, IsQuotient, AreLeft, pt}

-- ---- quotients

times_le : (rise z w room : ℤ) → pos 0 <ℤ rise → z ≤ℤ w → (rise *ℤ w) ≤ℤ room → (rise *ℤ z) ≤ℤ room
times_le (pos n) z w room h l k = at_most_trans (pos n *ℤ z) (pos n *ℤ w) room (scaled_order n z w l) k
times_le (negsuc n) z w room h l k = absurd (omega (arith, ints))

-- the product is at most room exactly for numbers up to the quotient
pub up_to_quotient : (room rise q z : ℤ) → pos 0 <ℤ rise → IsQuotient room rise q → ((rise *ℤ z) ≤ℤ room) ↔ (z ≤ℤ q)
up_to_quotient room rise q z h u = (
  (λ k. below_next z q (below_factor z (q +ℤ pos 1) rise h (le_lt (z *ℤ rise) (rise *ℤ z) room ((q +ℤ pos 1) *ℤ rise) (turn z rise) k u.high))),
  (λ k. times_le rise z q room h k (turned (rise *ℤ q) (q *ℤ rise) room (turn rise q) u.low)),
)
  where
    le_lt : (a b c d : ℤ) → a ≡ b → b ≤ℤ c → c <ℤ d → a <ℤ d
    le_lt a b c d e h k = omega (arith, ints)

    turned : (a b c : ℤ) → a ≡ b → b ≤ℤ c → a ≤ℤ c
    turned a b c e h = omega (arith, ints)

floor_size : (a b : ℤ) → nat_abs (quotient_floor a b) ≤ nat_abs a
floor_size (pos n) b = div-le_self n (nat_abs b)
floor_size (negsuc n) b = omega (arith, div-le_self n (nat_abs b))

pub quotient_size : (a b q : ℤ) (m : ℕ) → nat_abs a ≤ m → q ≡ quotient_floor a b → nat_abs q ≤ m
quotient_size a b q m h e = rw e (omega (arith, floor_size a b, h))

pub quotient_is : (a b q : ℤ) → pos 0 <ℤ b → q ≡ quotient_floor a b → IsQuotient a b q
quotient_is a b q h e = record { low = product_le_at a b q h e; high = next_product_gt_at a b q h e }

-- ---- lowered

abbrev pub IsLowered : ℤ → ℤ → ℤ → ℤ → ℤ → ℤ → Type 0
IsLowered lo hi from room rise x = Within lo hi x × ((rise *ℤ (x -ℤ from)) ≤ℤ room)

pub lowered_keep : (lo hi from room rise : ℤ) → lo ≤ℤ hi → pos 0 <ℤ rise → (rise *ℤ (hi -ℤ from)) ≤ℤ room → IsSpanOf (IsLowered lo hi from room rise) (lo, hi)
lowered_keep lo hi from room rise o h k = record {
  ordered = o;
  exact = λ x. ((λ p. p.0), (λ w. (w, times_le rise (x -ℤ from) (hi -ℤ from) room h (shift x w.high) k)));
}
  where
    shift : (x : ℤ) → x ≤ℤ hi → (x -ℤ from) ≤ℤ (hi -ℤ from)
    shift x h = omega (arith, ints)

-- the quotient's end is below the span's
pub lowered_below : (hi from room rise q : ℤ) → pos 0 <ℤ rise → IsQuotient room rise q → room <ℤ (rise *ℤ (hi -ℤ from)) → (from +ℤ q) <ℤ hi
lowered_below hi from room rise q h u k =
    by_lt_z (from +ℤ q) hi (λ l. l) (λ l. absurd (below_not_at_least room (rise *ℤ (hi -ℤ from)) k ((up_to_quotient room rise q (hi -ℤ from) h u).1 (shift l))))
  where
    shift : hi ≤ℤ (from +ℤ q) → (hi -ℤ from) ≤ℤ q
    shift h = omega (arith, ints)

pub lowered_cut : (lo hi from room rise q e : ℤ) → pos 0 <ℤ rise → IsQuotient room rise q → room <ℤ (rise *ℤ (hi -ℤ from)) → e ≡ from +ℤ q → lo ≤ℤ e → IsSpanOf (IsLowered lo hi from room rise) (lo, e)
lowered_cut lo hi from room rise q e h u k is o = record {
  ordered = o;
  exact = λ x. let t = up_to_quotient room rise q (x -ℤ from) h u in
      ((λ p. record { low = p.0.low; high = down x (t.0 p.1) }), (λ w. (record { low = w.low; high = under x w.high (lowered_below hi from room rise q h u k) }, t.1 (back x w.high))));
}
  where
    down : (x : ℤ) → (x -ℤ from) ≤ℤ q → x ≤ℤ e
    down x h = omega (arith, ints, is)

    back : (x : ℤ) → x ≤ℤ e → (x -ℤ from) ≤ℤ q
    back x h = omega (arith, ints, is)

    under : (x : ℤ) → x ≤ℤ e → (from +ℤ q) <ℤ hi → x ≤ℤ hi
    under x h k = omega (arith, ints, is)

pub lowered_none : (lo hi from room rise q : ℤ) → pos 0 <ℤ rise → IsQuotient room rise q → (from +ℤ q) <ℤ lo → (x : ℤ) → IsLowered lo hi from room rise x → ⊥
lowered_none lo hi from room rise q h u k x p = clash ((up_to_quotient room rise q (x -ℤ from) h u).0 p.1) p.0.low
  where
    clash : (x -ℤ from) ≤ℤ q → lo ≤ℤ x → ⊥
    clash h g = omega (arith, ints, k)

-- ---- raised: the same from the other side

abbrev pub IsRaised : ℤ → ℤ → ℤ → ℤ → ℤ → ℤ → Type 0
IsRaised lo hi from room fall x = Within lo hi x × ((fall *ℤ (from -ℤ x)) ≤ℤ room)

pub raised_keep : (lo hi from room fall : ℤ) → lo ≤ℤ hi → pos 0 <ℤ fall → (fall *ℤ (from -ℤ lo)) ≤ℤ room → IsSpanOf (IsRaised lo hi from room fall) (lo, hi)
raised_keep lo hi from room fall o h k = record {
  ordered = o;
  exact = λ x. ((λ p. p.0), (λ w. (w, times_le fall (from -ℤ x) (from -ℤ lo) room h (shift x w.low) k)));
}
  where
    shift : (x : ℤ) → lo ≤ℤ x → (from -ℤ x) ≤ℤ (from -ℤ lo)
    shift x h = omega (arith, ints)

pub raised_above : (lo from room fall q : ℤ) → pos 0 <ℤ fall → IsQuotient room fall q → room <ℤ (fall *ℤ (from -ℤ lo)) → lo <ℤ (from -ℤ q)
raised_above lo from room fall q h u k =
    by_lt_z lo (from -ℤ q) (λ l. l) (λ l. absurd (below_not_at_least room (fall *ℤ (from -ℤ lo)) k ((up_to_quotient room fall q (from -ℤ lo) h u).1 (shift l))))
  where
    shift : (from -ℤ q) ≤ℤ lo → (from -ℤ lo) ≤ℤ q
    shift h = omega (arith, ints)

pub raised_cut : (lo hi from room fall q e : ℤ) → pos 0 <ℤ fall → IsQuotient room fall q → room <ℤ (fall *ℤ (from -ℤ lo)) → e ≡ from -ℤ q → e ≤ℤ hi → IsSpanOf (IsRaised lo hi from room fall) (e, hi)
raised_cut lo hi from room fall q e h u k is o = record {
  ordered = o;
  exact = λ x. let t = up_to_quotient room fall q (from -ℤ x) h u in
      ((λ p. record { low = up x (t.0 p.1); high = p.0.high }), (λ w. (record { low = over x w.low (raised_above lo from room fall q h u k); high = w.high }, t.1 (back x w.low))));
}
  where
    up : (x : ℤ) → (from -ℤ x) ≤ℤ q → e ≤ℤ x
    up x h = omega (arith, ints, is)

    back : (x : ℤ) → e ≤ℤ x → (from -ℤ x) ≤ℤ q
    back x h = omega (arith, ints, is)

    over : (x : ℤ) → e ≤ℤ x → lo <ℤ (from -ℤ q) → lo ≤ℤ x
    over x h k = omega (arith, ints, is)

pub raised_none : (lo hi from room fall q : ℤ) → pos 0 <ℤ fall → IsQuotient room fall q → hi <ℤ (from -ℤ q) → (x : ℤ) → IsRaised lo hi from room fall x → ⊥
raised_none lo hi from room fall q h u k x p = clash ((up_to_quotient room fall q (from -ℤ x) h u).0 p.1) p.0.high
  where
    clash : (from -ℤ x) ≤ℤ q → x ≤ℤ hi → ⊥
    clash h g = omega (arith, ints, k)

-- ---- an edge

-- the same run of the same numbers
pub run_same : (P Q : ℤ → Type 0) (r : Option (ℤ × ℤ)) → ((x : ℤ) → P x → Q x) → ((x : ℤ) → Q x → P x) → IsRun P r → IsRun Q r
run_same P Q None f g h = λ x q. h x (g x q)
run_same P Q (Some span) f g h = record { ordered = h.ordered; exact = λ x. ((λ q. (h.exact x).0 (g x q)), (λ w. f x ((h.exact x).1 w))) }

-- the cross product of an edge and a point of a row
row_cross : (a b : Pt) (x y : ℤ) → cross a b (pt x y) ≡ ((b.x -ℤ a.x) *ℤ (y -ℤ a.y)) -ℤ ((b.y -ℤ a.y) *ℤ (x -ℤ a.x))
row_cross a b x y = refl

-- left of the edge in both rows, where the rise is at most the lesser room
pub left_of_room : (a b : Pt) (y0 y1 x r s m : ℤ) → r ≡ (b.x -ℤ a.x) *ℤ (y0 -ℤ a.y) → s ≡ (b.x -ℤ a.x) *ℤ (y1 -ℤ a.y) → m ≡ int_min r s → (((b.y -ℤ a.y) *ℤ (x -ℤ a.x)) ≤ℤ m) ↔ AreLeft a b y0 y1 x
left_of_room a b y0 y1 x r s m er es em =
    let w = lesser_is r s m em in (
      (λ h. (subst (λ z. pos 0 ≤ℤ (z -ℤ ((b.y -ℤ a.y) *ℤ (x -ℤ a.x)))) er (difference_across ((b.y -ℤ a.y) *ℤ (x -ℤ a.x)) m r h w.0), subst (λ z. pos 0 ≤ℤ (z -ℤ ((b.y -ℤ a.y) *ℤ (x -ℤ a.x)))) es (difference_across ((b.y -ℤ a.y) *ℤ (x -ℤ a.x)) m s h w.1.0))),
      (λ l. elim w.1.1 [
        | inl e ↦ subst (λ z. ((b.y -ℤ a.y) *ℤ (x -ℤ a.x)) ≤ℤ z) (sym (e ∙ er)) (at_most_of_difference ((b.y -ℤ a.y) *ℤ (x -ℤ a.x)) ((b.x -ℤ a.x) *ℤ (y0 -ℤ a.y)) l.0)
        | inr e ↦ subst (λ z. ((b.y -ℤ a.y) *ℤ (x -ℤ a.x)) ≤ℤ z) (sym (e ∙ es)) (at_most_of_difference ((b.y -ℤ a.y) *ℤ (x -ℤ a.x)) ((b.x -ℤ a.x) *ℤ (y1 -ℤ a.y)) l.1)
      ]),
    )

abbrev pub IsNarrowed : ℤ → ℤ → Pt → Pt → ℤ → ℤ → ℤ → Type 0
IsNarrowed lo hi a b y0 y1 x = Within lo hi x × AreLeft a b y0 y1 x

module _ (lo hi : ℤ) (a b : Pt) (y0 y1 r s m : ℤ) (er : r ≡ (b.x -ℤ a.x) *ℤ (y0 -ℤ a.y)) (es : s ≡ (b.x -ℤ a.x) *ℤ (y1 -ℤ a.y)) (em : m ≡ int_min r s) where
  pub rising_edge : (rise : ℤ) (result : Option (ℤ × ℤ)) → rise ≡ b.y -ℤ a.y → IsRun (IsLowered lo hi a.x m rise) result → IsRun (IsNarrowed lo hi a b y0 y1) result
  rising_edge rise result e h = run_same (IsLowered lo hi a.x m rise) (IsNarrowed lo hi a b y0 y1) result
      (λ x p. (p.0, (left_of_room a b y0 y1 x r s m er es em).0 (subst (λ z. (z *ℤ (x -ℤ a.x)) ≤ℤ m) e p.1)))
      (λ x q. (q.0, subst (λ z. (z *ℤ (x -ℤ a.x)) ≤ℤ m) (sym e) ((left_of_room a b y0 y1 x r s m er es em).1 q.1))) h

  turned : (p q u v : ℤ) → (p -ℤ q) *ℤ (u -ℤ v) ≡ (q -ℤ p) *ℤ (v -ℤ u)
  turned p q u v = ring (p ∷ q ∷ u ∷ v ∷ []) ((var 0 ⊖ var 1) ⊗ (var 2 ⊖ var 3)) ((var 1 ⊖ var 0) ⊗ (var 3 ⊖ var 2)) refl

  pub falling_edge : (fall : ℤ) (result : Option (ℤ × ℤ)) → fall ≡ a.y -ℤ b.y → IsRun (IsRaised lo hi a.x m fall) result → IsRun (IsNarrowed lo hi a b y0 y1) result
  falling_edge fall result e h = run_same (IsRaised lo hi a.x m fall) (IsNarrowed lo hi a b y0 y1) result
      (λ x p. (p.0, (left_of_room a b y0 y1 x r s m er es em).0 (subst (λ z. z ≤ℤ m) (ap (λ z. z *ℤ (a.x -ℤ x)) e ∙ turned a.y b.y a.x x) p.1)))
      (λ x q. (q.0, subst (λ z. z ≤ℤ m) (sym (ap (λ z. z *ℤ (a.x -ℤ x)) e ∙ turned a.y b.y a.x x)) ((left_of_room a b y0 y1 x r s m er es em).1 q.1))) h

  level : (x : ℤ) → a.y ≡ b.y → (b.y -ℤ a.y) *ℤ (x -ℤ a.x) ≡ pos 0
  level x e = ap (λ z. (b.y -ℤ z) *ℤ (x -ℤ a.x)) e ∙ ring (b.y ∷ x ∷ a.x ∷ []) ((var 0 ⊖ var 0) ⊗ (var 1 ⊖ var 2)) (num (pos 0)) refl

  pub level_keep : a.y ≡ b.y → lo ≤ℤ hi → pos 0 ≤ℤ m → IsSpanOf (IsNarrowed lo hi a b y0 y1) (lo, hi)
  level_keep e o h = record { ordered = o; exact = λ x. ((λ p. p.0), (λ w. (w, (left_of_room a b y0 y1 x r s m er es em).0 (subst (λ z. z ≤ℤ m) (sym (level x e)) h)))) }

  pub level_none : a.y ≡ b.y → m <ℤ pos 0 → (x : ℤ) → IsNarrowed lo hi a b y0 y1 x → ⊥
  level_none e h x p = negative_clash m h (subst (λ z. z ≤ℤ m) (level x e) ((left_of_room a b y0 y1 x r s m er es em).1 p.1))

-- Runs that are found from the left to the right.
use Rattle.std.proofs.Common.{◌≡◌, ℕ, ◌+◌, ◌<◌, ◌≤◌, arith, refl, sym, ap, subst, List, [], ◌∷◌, ◌++◌, ◌⊎◌, inl, inr, ◌∙◌, ℤ, pos, ◌+ℤ◌, ◌-ℤ◌, ◌*ℤ◌, ◌≤ℤ◌, ◌<ℤ◌}
use Rattle.std.proofs.lemmas.Int.{ints, by_lt_z}
use Rattle.std.specs.List.{AllByRecursion}
use Rattle.spot_terms.specs.Lists.{Includes}
use Rattle.spot_terms.specs.Whole.{Within}
use Rattle.spot_terms.proofs.ListLemmas.{includes_front, includes_back, includes_either, all_of}
use Rattle.spot_terms.specs.Grid.{slot_low, slot_high, IsFreeRun, AreInTurn, IsInRun}
use Rattle.carve.specs.Taking.{AreRunsBefore, MayBegin}
use Rattle.spot_terms.proofs.Slots.{one_slot}

all_push : {X : Type 0} (P : X → Type 0) (xs : List X) (x : X) → AllByRecursion P xs → P x → AllByRecursion P (xs ++ x ∷ [])
all_push P [] x h p = (p, tt)
all_push P (y ∷ ys) x h p = (h.0, all_push P ys x h.1 p)

ascending_push : (runs : List (ℤ × ℤ)) (run : ℤ × ℤ) → AreInTurn runs → AllByRecursion (λ r. r.1 <ℤ run.0) runs → AreInTurn (runs ++ run ∷ [])
ascending_push [] run a b = (tt, tt)
ascending_push (r ∷ runs) run a b = (all_push (λ later. r.1 <ℤ later.0) runs run a.0 b.0, ascending_push runs run a.1 b.1)

module _ (removed : ℤ → Type 0) (w first : ℤ) (wide : pos 0 <ℤ w) where
  -- nothing is found yet
  pub none_yet : AreRunsBefore removed w first (slot_low w first) []
  none_yet = record {
    ordered = tt;
    each = λ run h. absurd h;
    all = λ col lo hi f a b. absurd (omega (arith, ints));
    covers = λ x a b. absurd (omega (arith, ints));
    from = omega (arith, ints);
  }

  -- what is removed is passed over
  pub over : (at to : ℤ) (runs : List (ℤ × ℤ)) → at <ℤ to → ((x : ℤ) → Within at (to -ℤ pos 1) x → removed x) → AreRunsBefore removed w first at runs → AreRunsBefore removed w first to runs
  over at to runs less all_removed h = record {
    ordered = h.ordered;
    each = λ run i. let (col, f, a, b) = h.each run i in (col, f, a, omega (arith, ints));
    all = λ col lo hi f a b. by_lt_z lo at (λ before. h.all col lo hi f a before)
        (λ after. absurd (f.free lo (record { low = omega (arith, ints); high = f.some }) (all_removed lo (record { low = after; high = omega (arith, ints) }))));
    from = let k = h.from in omega (arith, ints);
    covers = λ x a b. by_lt_z x at (λ before. h.covers x a before) (λ after. inl (all_removed x (record { low = after; high = omega (arith, ints) })));
  }

  -- a run is found: its column's end, or what is removed, comes behind it
  pub found : (at to col : ℤ) (runs : List (ℤ × ℤ)) → slot_low w col ≤ℤ at → at <ℤ to → to ≤ℤ (slot_high w col +ℤ pos 1)
      → ((x : ℤ) → Within at (to -ℤ pos 1) x → removed x → ⊥) → ((to ≡ slot_high w col +ℤ pos 1) ⊎ removed to)
      → MayBegin removed w at → AreRunsBefore removed w first at runs → AreRunsBefore removed w first to (runs ++ (at, to -ℤ pos 1) ∷ [])
  found at to col runs low less high free behind begins h = record {
    ordered = ascending_push runs (at, to -ℤ pos 1) h.ordered (all_of (λ r. r.1 <ℤ at) runs (λ r i. (h.each r i).3));
    each = λ run i. cases_each run (includes_either runs ((at, to -ℤ pos 1) ∷ []) run i);
    all = λ col' lo hi f a b. by_lt_z lo at (λ before. includes_front runs ((at, to -ℤ pos 1) ∷ []) (lo, hi) (h.all col' lo hi f a before))
        (λ after. includes_back runs ((at, to -ℤ pos 1) ∷ []) (lo, hi) (inl (same col' lo hi f after b)));
    from = let k = h.from in omega (arith, ints);
    covers = λ x a b. by_lt_z x at (λ before. earlier x (h.covers x a before)) (λ after. inr ((at, to -ℤ pos 1), includes_back runs ((at, to -ℤ pos 1) ∷ []) (at, to -ℤ pos 1) (inl refl), record { low = after; high = omega (arith, ints) }));
  }
    where
      earlier : (x : ℤ) → removed x ⊎ IsInRun runs x → removed x ⊎ IsInRun (runs ++ (at, to -ℤ pos 1) ∷ []) x
      earlier x (inl r) = inl r
      earlier x (inr (run, i, k)) = inr (run, includes_front runs ((at, to -ℤ pos 1) ∷ []) run i, k)

      left_end : MayBegin removed w at → (at ≡ slot_low w col) ⊎ removed (at -ℤ pos 1)
      left_end (inl r) = inr r
      left_end (inr (c, e)) = inl (e ∙ ap (λ (z : ℤ). z *ℤ w) (one_slot w c col at wide (record { low = omega (arith, ints); high = omega (arith, ints) }) (record { low = low; high = omega (arith, ints) })))

      right_end : (to ≡ slot_high w col +ℤ pos 1) ⊎ removed to → (to -ℤ pos 1 ≡ slot_high w col) ⊎ removed (to -ℤ pos 1 +ℤ pos 1)
      right_end (inl e) = inl (omega (arith, ints))
      right_end (inr r) = inr (subst removed (omega (arith, ints)) r)

      cases_each : (run : ℤ × ℤ) → Includes runs run ⊎ Includes ((at, to -ℤ pos 1) ∷ []) run → (c : ℤ) × IsFreeRun removed w c run.0 run.1 × (slot_low w first ≤ℤ run.0) × (run.1 <ℤ to)
      cases_each run (inl i) = let (c, f, a, b) = h.each run i in (c, f, a, omega (arith, ints))
      cases_each run (inr (inl e)) = subst (λ (r : ℤ × ℤ). (c : ℤ) × IsFreeRun removed w c r.0 r.1 × (slot_low w first ≤ℤ r.0) × (r.1 <ℤ to)) (sym e)
          (col, record { low = low; some = omega (arith, ints); high = omega (arith, ints); free = free; left = left_end begins; right = right_end behind }, h.from, omega (arith, ints))
      cases_each run (inr (inr e)) = absurd e

      same : (col' lo hi : ℤ) → IsFreeRun removed w col' lo hi → at ≤ℤ lo → lo <ℤ to → ◌≡◌ {A = ℤ × ℤ} (lo, hi) (at, to -ℤ pos 1)
      same col' lo hi f a b = cc_pair (starts (f.left)) (by_lt_z hi (to -ℤ pos 1) (λ before. absurd (too_short before f.right)) (λ after. by_lt_z (to -ℤ pos 1) hi (λ past. absurd (too_long past behind)) (λ rest. omega (arith, ints))))
        where
          col_same : col' ≡ col
          col_same = one_slot w col' col lo wide (record { low = f.low; high = omega (arith, ints, f.some, f.high) }) (record { low = omega (arith, ints); high = omega (arith, ints) })

          high_same : slot_high w col' ≡ slot_high w col
          high_same = ap (λ (z : ℤ). slot_high w z) col_same

          low_same : slot_low w col' ≡ slot_low w col
          low_same = ap (λ (z : ℤ). slot_low w z) col_same

          starts : (lo ≡ slot_low w col') ⊎ removed (lo -ℤ pos 1) → lo ≡ at
          starts (inl e) = omega (arith, ints, low_same)
          starts (inr r) = by_lt_z at lo (λ past. absurd (free (lo -ℤ pos 1) (record { low = omega (arith, ints); high = omega (arith, ints) }) r)) (λ rest. omega (arith, ints))

          too_short : hi <ℤ (to -ℤ pos 1) → (hi ≡ slot_high w col') ⊎ removed (hi +ℤ pos 1) → ⊥
          too_short less' (inl e) = omega (arith, ints, high_same)
          too_short less' (inr r) = free (hi +ℤ pos 1) (record { low = omega (arith, ints, f.some); high = omega (arith, ints) }) r

          too_long : (to -ℤ pos 1) <ℤ hi → (to ≡ slot_high w col +ℤ pos 1) ⊎ removed to → ⊥
          too_long more (inl e) = omega (arith, ints, high_same, f.high)
          too_long more (inr r) = f.free to (record { low = omega (arith, ints); high = omega (arith, ints) }) r

          cc_pair : lo ≡ at → hi ≡ to -ℤ pos 1 → ◌≡◌ {A = ℤ × ℤ} (lo, hi) (at, to -ℤ pos 1)
          cc_pair d e = cc

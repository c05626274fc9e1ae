-- Lists of the cells that are paired with a cell.
use Rattle.std.proofs.Common.{◌≡◌, ◌∙◌, ◌⊎◌, inl, inr, ℕ, ◌+◌, ◌≤◌, ◌<◌, Bool, true, false, ◌&&◌, ◌||◌, ◌==◌, not, arith, refl, sym, ap, subst, List, [], ◌∷◌, ◌++◌, length, take}
use Rattle.std.proofs.lemmas.List.{length-map, length_push}
use Rattle.std.proofs.lemmas.Option.{same_Some}
use Rattle.std.specs.List.{list_any}
use Rattle.std.specs.Prelude.{Some, slice_get}
use Rattle.spot_terms.specs.Cells.{Lane, NetCell}
use Rattle.spot_terms.specs.Lists.{Includes, Lists, Rises}
use Rattle.spot_terms.specs.Network.{IsSide, Overlaps, lane_of}
use Rattle.spot_terms.specs.declared.network.Origin.{Origin}
use Rattle.spot_terms.specs.declared.network.Origin.TheVariants.{Part, Bridge}
use Rattle.spot_terms.proofs.ListLemmas.{all_included, includes_front, includes_back, includes_either}
use Rattle.spot_terms.proofs.Unique.{some_injective}
use Rattle.lanelets.specs.declared.cell.Placed.{Placed}
use Rattle.lanelets.specs.Beside.{ArePairs, ArePairsOf, HasPairsIn, IsFirst, IsPair}
use Rattle.lanelets.specs.Listing.{AreBelow, Gathers, GathersBetween}
use Rattle.lanelets.specs.Nearby.{AreListed, HasPieceNumber, IsPieceNumber}
use Rattle.lanelets.specs.Steps.{net_of, HasOrigin, IsOfLane}
use Rattle.lanelets.proofs.Places.{get_pushed, same_at}
use Rattle.lanelets.proofs.RowLists.{gathers_as, gathers_list, gathers_more}
use Rattle.lanelets.proofs.StepLists.{origin_is}

-- each cell is one of the network
pub net_many : (cells : List Placed) → length (net_of cells) ≡ length cells
net_many cells = length-map cells (λ p. record { origin = p.origin; entry = p.cell.entry; exit = p.cell.exit })

-- ---- where side cells are

either_of : (n a b : Bool) → (not n && (a || b)) ≡ true → (a || b) ≡ true
either_of true a b h = cc
either_of false a b h = h

-- the lanelet of a cell beside one of the lanelet at e is listed with that
side_listed : (lanes : List Lane) (net : List NetCell) (c d e : ℕ) (s : IsSide lanes net c d) → IsOfLane net c e → AreListed lanes e s.f
side_listed lanes net c d e s here =
    let same : s.e ≡ e = some_injective s.e e (sym s.e_is.0 ∙ ap (λ (n : NetCell). lane_of n.origin) (same_at net c s.a here.0 s.c_is here.1) ∙ here.2) in (
      s.l,
      s.m,
      subst (λ k. slice_get lanes k ≡ Some s.l) same s.e_is.1,
      s.f_is.1,
      either_of (s.l.0 == s.m.0) (list_any (λ i. i == s.m.0) s.l.1.sides) (list_any (λ i. i == s.l.0) s.m.1.sides) s.neighbours,
    )

overlapped : (e piece part parts : ℕ) (o : Origin) → Overlaps (Part e piece part parts) o → (f i n : ℕ) × (o ≡ Part f piece i n)
overlapped e piece part parts (Part f q i n) h = (f, i, n, ap (λ k. Part f k i n) (sym h.0))
overlapped e piece part parts (Bridge f g) h = absurd h

-- of lanelets with equal numbers of points a cell beside one is of the same piece
pub side_piece : (lanes : List Lane) (net : List NetCell) (lists : List (List ℕ)) (c d e f piece part parts k : ℕ) → HasOrigin net c (Part e piece part parts) → IsPieceNumber lists (length net) f piece k → IsOfLane net d f
    → ((l m : Lane) → slice_get lanes e ≡ Some l → slice_get lanes f ≡ Some m → length l.1.left ≡ length m.1.left) → IsSide lanes net c d → HasPieceNumber lists net d k
side_piece lanes net lists c d e f piece part parts k o number of equal s =
    let from : s.a.origin ≡ Part e piece part parts = origin_is net c s.a (Part e piece part parts) s.c_is o in
    let same_e : s.e ≡ e = some_injective s.e e (sym s.e_is.0 ∙ ap lane_of from) in
    let same_f : s.f ≡ f = some_injective s.f f (sym s.f_is.0 ∙ ap (λ (n : NetCell). lane_of n.origin) (same_at net d s.b of.0 s.d_is of.1) ∙ of.2) in
    let as_many = equal s.l s.m (subst (λ z. slice_get lanes z ≡ Some s.l) same_e s.e_is.1) (subst (λ z. slice_get lanes z ≡ Some s.m) same_f s.f_is.1) in
    let over : Overlaps (Part e piece part parts) s.b.origin = subst (λ (z : Origin). Overlaps z s.b.origin) from (s.beside as_many) in
    let to = overlapped e piece part parts s.b.origin over in
    let same : to.0 ≡ f = some_injective to.0 f (ap lane_of (sym to.3) ∙ s.f_is.0 ∙ ap (λ (z : ℕ). Some z) same_f) in
    (f, piece, to.1, to.2, s.b, s.d_is, subst (λ (z : ℕ). s.b.origin ≡ Part z piece to.1 to.2) same to.3, number)

-- ---- the first cell of a lanelet

-- a cell is of one lanelet
lane_one : (net : List NetCell) (c e f : ℕ) → IsOfLane net c e → IsOfLane net c f → e ≡ f
lane_one net c e f h g = some_injective e f (sym h.2 ∙ ap (λ (n : NetCell). lane_of n.origin) (same_at net c h.0 g.0 h.1 g.1) ∙ g.2)

-- the least item of a list that rises is its first
first_at : (xs : List ℕ) (c : ℕ) → Rises xs → Includes xs c → ((d : ℕ) → Includes xs d → c ≤ d) → slice_get xs 0 ≡ Some c
first_at [] c r i low = absurd i
first_at (x ∷ xs) c r i low = ap (λ (z : ℕ). Some z) (same i)
  where
    same : (c ≡ x) ⊎ Includes xs c → x ≡ c
    same (inl e) = sym e
    same (inr j) = let up : x < c = all_included (λ y. x < y) xs c r.0 j in let down : c ≤ x = low x (inl refl) in absurd (omega (arith, up, down))

-- of the cells of a lanelet it is the first in their list
first_listed : (net : List NetCell) (c e : ℕ) (list : List ℕ) → Lists (λ d. IsOfLane net d e) list → IsOfLane net c e → IsFirst net c → slice_get list 0 ≡ Some c
first_listed net c e list lists of first =
    let same : first.0 ≡ e = lane_one net c first.0 e first.1 of in
    first_at list c lists.rises (lists.all c of) (λ d i. first.2 d (subst (λ (z : ℕ). IsOfLane net d z) (sym same) (lists.each d i)))

-- a list cut behind its first item has that
front_has : (xs : List ℕ) (d : ℕ) → slice_get xs 0 ≡ Some d → Includes (take 1 xs) d
front_has [] d h = cc
front_has (x ∷ xs) d h = inl (sym (same_Some x d h))

-- and what is below n in all is below n there
pub star_below : (n : ℕ) (other result : List ℕ) → (result ≡ other) ⊎ (result ≡ take 1 other) → AreBelow n other → AreBelow n result
star_below n other result (inl same) low = subst (AreBelow n) (sym same) low
star_below n [] result (inr cut) low = subst (AreBelow n) (sym cut) tt
star_below n (x ∷ xs) result (inr cut) low = subst (AreBelow n) (sym cut) (low.0, tt)

-- of lanelets with unlike numbers of points the pairs of a cell are among all cells of the other, or its first alone
pub star_has : (lanes : List Lane) (net : List NetCell) (c d e f : ℕ) (own other result : List ℕ) → Lists (λ x. IsOfLane net x e) own → Lists (λ x. IsOfLane net x f) other → (slice_get own 0 ≡ Some c → result ≡ other) → (result ≡ other) ⊎ (result ≡ take 1 other)
    → IsOfLane net c e → IsOfLane net d f → ((l m : Lane) → slice_get lanes e ≡ Some l → slice_get lanes f ≡ Some m → length l.1.left ≡ length m.1.left → ⊥) → IsPair lanes net c d → Includes result d
star_has lanes net c d e f own other result own_is other_is whole some here of unlike p =
    let s = p.side in
    let same_e : s.e ≡ e = lane_one net c s.e e (s.a, s.c_is, s.e_is.0) here in
    let same_f : s.f ≡ f = lane_one net d s.f f (s.b, s.d_is, s.f_is.0) of in
    elim (p.first (unlike s.l s.m (subst (λ z. slice_get lanes z ≡ Some s.l) same_e s.e_is.1) (subst (λ z. slice_get lanes z ≡ Some s.m) same_f s.f_is.1))) [
      | inl first ↦ all (whole (first_listed net c e own own_is here first))
      | inr first ↦ elim some [
        | inl same ↦ all same
        | inr cut ↦ subst (λ (xs : List ℕ). Includes xs d) (sym cut) (front_has other d (first_listed net d f other other_is of first))
      ]
    ]
  where
    all : result ≡ other → Includes result d
    all same = subst (λ (xs : List ℕ). Includes xs d) (sym same) (other_is.all d of)

-- ---- the pairs of one cell

one_of : (list : List ℕ) (d x : ℕ) → Includes (list ++ d ∷ []) x → Includes list x ⊎ (x ≡ d)
one_of list d x i = elim (includes_either list (d ∷ []) x i) [ inl j ↦ inl j | inr j ↦ elim j [ inl e ↦ inr e | inr none ↦ absurd none ] ]

module _ (lanes : List Lane) (net : List NetCell) (c : ℕ) where
  -- none of an empty list
  pub among_none : (pairs : List ℕ) → Gathers (λ d. Includes [] d × IsSide lanes net c d) pairs pairs
  among_none pairs x = ((λ i. inl i), (λ s. elim s [ inl i ↦ i | inr h ↦ absurd h.0 ]))

  -- cell d lies beside cell c
  pub among_more : (list : List ℕ) (d : ℕ) (first before after : List ℕ) → IsSide lanes net c d → after ≡ before ++ d ∷ [] → Gathers (λ x. Includes list x × IsSide lanes net c x) first before → Gathers (λ x. Includes (list ++ d ∷ []) x × IsSide lanes net c x) first after
  among_more list d first before after s e g =
      gathers_as (λ x. (Includes list x × IsSide lanes net c x) ⊎ Includes (d ∷ []) x) (λ x. Includes (list ++ d ∷ []) x × IsSide lanes net c x) first after
      (λ x h. elim h [
        | inl old ↦ (includes_front list (d ∷ []) x old.0, old.1)
        | inr new ↦ (includes_back list (d ∷ []) x new, elim new [ inl same ↦ subst (λ (z : ℕ). IsSide lanes net c z) (sym same) s | inr none ↦ absurd none ])
      ])
      (λ x h. elim (includes_either list (d ∷ []) x h.0) [ inl old ↦ inl (old, h.1) | inr new ↦ inr new ])
      (gathers_more (λ x. Includes list x × IsSide lanes net c x) (Includes (d ∷ [])) first before after g (gathers_list before after (d ∷ []) e))

  -- cell d doesn't
  pub among_less : (list : List ℕ) (d : ℕ) (first now : List ℕ) → (IsSide lanes net c d → ⊥) → Gathers (λ x. Includes list x × IsSide lanes net c x) first now → Gathers (λ x. Includes (list ++ d ∷ []) x × IsSide lanes net c x) first now
  among_less list d first now none g =
      gathers_as (λ x. Includes list x × IsSide lanes net c x) (λ x. Includes (list ++ d ∷ []) x × IsSide lanes net c x) first now
      (λ x h. (includes_front list (d ∷ []) x h.0, h.1))
      (λ x h. (elim (one_of list d x h.0) [ inl i ↦ i | inr e ↦ absurd (none (subst (λ (z : ℕ). IsSide lanes net c z) e h.1)) ], h.1))
      g

  -- paired with cell c, and of one of these lanelets
  abbrev pub PairsIn : List ℕ → ℕ → Type 0
  PairsIn near d = IsPair lanes net c d × ((f : ℕ) × Includes near f × IsOfLane net d f)

  -- of no lanelets
  pub near_none : (pairs : List ℕ) → GathersBetween (PairsIn []) (IsSide lanes net c) pairs pairs
  near_none pairs = record { has = λ x i. elim i [ inl j ↦ j | inr h ↦ absurd h.1.1 ]; only = λ x i. inl i }

  -- of one lanelet more
  pub near_more : (near : List ℕ) (f : ℕ) (list : List ℕ) (first before after : List ℕ) → HasPairsIn lanes net c f list → GathersBetween (PairsIn near) (IsSide lanes net c) first before → Gathers (λ x. Includes list x × IsSide lanes net c x) before after
      → GathersBetween (PairsIn (near ++ f ∷ [])) (IsSide lanes net c) first after
  near_more near f list first before after all g h = record {
    has = λ x i. elim i [
      | inl j ↦ (h x).1 (inl (g.has x (inl j)))
      | inr k ↦ elim (one_of near f k.1.0 k.1.1) [
        | inl old ↦ (h x).1 (inl (g.has x (inr (k.0, (k.1.0, old, k.1.2)))))
        | inr new ↦ (h x).1 (inr (all x (subst (λ (z : ℕ). IsOfLane net x z) new k.1.2) k.0, k.0.side))
      ]
    ];
    only = λ x i. elim ((h x).0 i) [ inl j ↦ g.only x j | inr k ↦ inr k.1 ];
  }

  -- those in the neighbours of its lanelet are all
  pub pairs_near : (e : ℕ) (near before after : List ℕ) → before ≡ [] → IsOfLane net c e → ((f : ℕ) → AreListed lanes e f → Includes near f) → GathersBetween (PairsIn near) (IsSide lanes net c) before after → ArePairsOf lanes net c after
  pairs_near e near before after empty here all g = record {
    only = λ d i. elim (g.only d i) [ inl old ↦ absurd (subst (λ (xs : List ℕ). Includes xs d) empty old) | inr s ↦ s ];
    all = λ d p. let s = p.side in g.has d (inr (p, (s.f, all s.f (side_listed lanes net c d e s here), (s.b, s.d_is, s.f_is.0))));
  }

  -- a cell of no lanelet has none
  pub pairs_none : (pairs : List ℕ) → pairs ≡ [] → ((e : ℕ) → IsOfLane net c e → ⊥) → ArePairsOf lanes net c pairs
  pairs_none pairs empty none = record {
    only = λ d i. absurd (subst (λ (xs : List ℕ). Includes xs d) empty i);
    all = λ d p. let s = p.side in absurd (none s.e (s.a, s.c_is, s.e_is.0));
  }

-- ---- the pairs of all cells

-- of no cells
pub rows_none : (lanes : List Lane) (net : List NetCell) (rows : List (List ℕ)) → rows ≡ [] → ArePairs lanes net 0 rows
rows_none lanes net rows e = subst (ArePairs lanes net 0) (sym e) (record { many = refl; each = λ c row h. cc })

-- of one cell more
pub rows_more : (lanes : List Lane) (net : List NetCell) (n : ℕ) (rows after : List (List ℕ)) (row : List ℕ) → ArePairs lanes net n rows → ArePairsOf lanes net n row → after ≡ rows ++ row ∷ [] → ArePairs lanes net (n + 1) after
rows_more lanes net n rows after row k h e = subst (ArePairs lanes net (n + 1)) (sym e) (record {
  many = length_push rows row ∙ ap (λ (z : ℕ). z + 1) k.many;
  each = λ c one g. elim (get_pushed rows row one c g) [
    | inl old ↦ k.each c one old
    | inr new ↦ subst (λ (z : ℕ). ArePairsOf lanes net z one) (sym (new.0 ∙ k.many)) (subst (λ (xs : List ℕ). ArePairsOf lanes net n xs) (sym new.1) h)
  ];
})

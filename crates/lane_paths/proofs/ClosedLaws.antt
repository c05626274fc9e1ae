-- Blocks of cells that are closed.
use Rattle.std.proofs.Common.{◌≡◌, inl, inr, ℕ, zero, suc, ◌+◌, ◌≤◌, ◌<◌, arith, refl, sym, ap, ◌∙◌, subst, List, [], ◌∷◌, ◌++◌, ◌-◌, length, take, drop, get_or}
use Rattle.std.proofs.Math.Seq.{take-add}
use Rattle.std.proofs.lemmas.List.{length-drop, length-take, take_all, take_min, take_more, take_rest}
use Rattle.std.proofs.lemmas.Option.{same_Some, slice_get-get_or}
use Rattle.std.specs.List.{AllByRecursion}
use Rattle.std.specs.Prelude.{slice_get, slice_set, Option, Some, None}
use Rattle.spot_terms.specs.Cells.{Lane, cells}
use Rattle.spot_terms.specs.Lists.{Includes, Lists, Rises}
use Rattle.spot_terms.specs.Network.{IsAhead}
use Rattle.spot_terms.specs.declared.plain.Pt.{Pt}
use Rattle.spot_terms.proofs.ItemPlaces.{get_either, get_set_either, got_below, got_included, item_at}
use Rattle.spot_terms.proofs.ListLemmas.{all_append, all_included, all_of, includes_at, includes_back, includes_either, includes_front}
use Rattle.spot_terms.proofs.Listings.{lists_one}
use Rattle.spot_terms.proofs.Places.{all_map}
use Rattle.lanelets.specs.Beside.{IsBeside, here}
use Rattle.lanelets.proofs.BesideLaws.{beside_back, beside_join, beside_within}
use Rattle.lanelets.proofs.NumberLists.{lists_as}
use Rattle.lane_paths.specs.declared.closed.Closed.{Closed}
use Rattle.lane_paths.specs.declared.closed.TheConstants.{BLOCK}
use Rattle.lane_paths.specs.declared.shortest_lengths.ShortestLengths.{ShortestLengths}
use Rattle.lane_paths.specs.Closed.{AreAllClosed, AreClosed, IsAtMost, IsBlockAt, IsBlockOf, IsKept}
use Rattle.lane_paths.specs.Edges.{Edge, HasAtMost}
use Rattle.lane_paths.specs.Labels.{label_at, label_of}
use Rattle.lane_paths.specs.Relaxations.{Relaxes}
use Rattle.lane_paths.specs.Waypoints.{LinksBeside, LinksIn, LinksInCells}
use Rattle.lane_paths.proofs.LengthLists.{none_there}
use Rattle.lane_paths.proofs.LinkLaws.{end_or_entry}
use Rattle.lane_paths.proofs.RelaxLaws.{most_kept, most_on, relaxes_settled, relaxes_then}

-- ---- lists that rise

-- an item stands in one place
rises_place : (xs : List ℕ) (i j x : ℕ) → Rises xs → slice_get xs i ≡ Some x → slice_get xs j ≡ Some x → i ≡ j
rises_place [] i j x r h g = cc
rises_place (y ∷ ys) zero zero x r h g = refl
rises_place (y ∷ ys) zero (suc j) x r h g =
    let same : y ≡ x = same_Some y x h in
    let up : y < x = all_included (λ z. y < z) ys x r.0 (got_included ys j x g) in
    absurd (omega (arith, same, up))
rises_place (y ∷ ys) (suc i) zero x r h g =
    let same : y ≡ x = same_Some y x g in
    let up : y < x = all_included (λ z. y < z) ys x r.0 (got_included ys i x h) in
    absurd (omega (arith, same, up))
rises_place (y ∷ ys) (suc i) (suc j) x r h g = ap (λ (n : ℕ). suc n) (rises_place ys i j x r.1 h g)

-- an item of a part of a list is in the list
in_taken : (n : ℕ) (xs : List ℕ) (x : ℕ) → Includes (take n xs) x → Includes xs x
in_taken zero xs x i = absurd i
in_taken (suc n) [] x i = absurd i
in_taken (suc n) (y ∷ ys) x (inl e) = inl e
in_taken (suc n) (y ∷ ys) x (inr i) = inr (in_taken n ys x i)

in_dropped : (n : ℕ) (xs : List ℕ) (x : ℕ) → Includes (drop n xs) x → Includes xs x
in_dropped zero xs x i = i
in_dropped (suc n) [] x i = absurd i
in_dropped (suc n) (y ∷ ys) x i = inr (in_dropped n ys x i)

-- the first of a part of a list
first_taken : (n k : ℕ) (xs : List ℕ) (x : ℕ) → 0 < n → slice_get xs k ≡ Some x → slice_get (take n (drop k xs)) 0 ≡ Some x
first_taken zero k xs x h g = absurd (omega (arith, h))
first_taken (suc n) k [] x h g = cc
first_taken (suc n) zero (y ∷ ys) x h g = g
first_taken (suc n) (suc k) (y ∷ ys) x h g = first_taken (suc n) k ys x h g

-- ---- blocks

-- one block begins at a cell
block_one : (lanes : List Lane) (r : ℕ) (a b : List ℕ) → IsBlockAt lanes r a → IsBlockAt lanes r b → a ≡ b
block_one lanes r a b (xs, i, x_is, x_at, a_is) (ys, j, y_is, y_at, b_is) =
    let same : xs ≡ ys = lists_one (λ d. IsBeside lanes (cells lanes) d r) xs ys x_is y_is in
    let place : i ≡ j = rises_place ys i j r y_is.rises (subst (λ (z : List ℕ). slice_get z i ≡ Some r) same x_at) y_at in
    a_is ∙ ap (λ (z : List ℕ). take BLOCK (drop i z)) same ∙ ap (λ (n : ℕ). take BLOCK (drop n ys)) place ∙ sym b_is

-- the cells of a block of the cells beside s are beside s
pub block_beside : (lanes : List Lane) (s : ℕ) (block : List ℕ) → IsBlockOf lanes s block → AllByRecursion (λ c. IsBeside lanes (cells lanes) c s) block
block_beside lanes s block b = all_of (λ c. IsBeside lanes (cells lanes) c s) block (λ c i. within b.at c i)
  where
    within : IsBlockAt lanes b.first block → (c : ℕ) → Includes block c → IsBeside lanes (cells lanes) c s
    within (list, k, lists, at, is) c i =
        beside_join lanes (cells lanes) c b.first s b.beside (lists.each c (in_dropped k list c (in_taken BLOCK (drop k list) c (subst (λ (z : List ℕ). Includes z c) is i))))

-- so they are cells
pub block_within : (lanes : List Lane) (s : ℕ) (block : List ℕ) → s < length (cells lanes) → IsBlockOf lanes s block → AllByRecursion (λ c. c < length (cells lanes)) block
block_within lanes s block low b = all_of (λ c. c < length (cells lanes)) block (λ c i. beside_within lanes (cells lanes) c s low (all_included (λ d. IsBeside lanes (cells lanes) d s) block c (block_beside lanes s block b) i))

-- a part of the list of the cells beside s is a block of these
pub block_of : (lanes : List Lane) (s k : ℕ) (list block : List ℕ) → Lists (λ d. IsBeside lanes (cells lanes) d s) list → k < length list → block ≡ take BLOCK (drop k list) → IsBlockOf lanes s block
block_of lanes s k list block lists inside is =
    let (x, at) = item_at list k inside in
    let b : IsBeside lanes (cells lanes) x s = lists.each x (got_included list k x at) in
    record {
      first = x;
      first_is = subst (λ (z : List ℕ). slice_get z 0 ≡ Some x) (sym is) (first_taken BLOCK k list x (omega arith) at);
      beside = b;
      at = (
        list,
        k,
        lists_as (λ d. IsBeside lanes (cells lanes) d s) (λ d. IsBeside lanes (cells lanes) d x) list
            (λ d h. beside_join lanes (cells lanes) d s x (beside_back lanes (cells lanes) x s b) h)
            (λ d h. beside_join lanes (cells lanes) d x s b h)
            lists,
        at,
        is,
      );
    }

-- a part of a list is no longer than that
short : (n : ℕ) (xs : List ℕ) → length (take n xs) ≤ length xs
short zero xs = omega arith
short (suc n) [] = omega arith
short (suc n) (x ∷ xs) = let l = short n xs in omega (arith, l)

-- a block ends within the list
pub block_fits : (n k : ℕ) (list : List ℕ) → k < length list → k + length (take n (take (length list - k) (drop k list))) ≤ length list
block_fits n k list low =
    let a = short n (take (length list - k) (drop k list)) in
    let b = short (length list - k) (drop k list) in
    let e = length-drop k list in
    omega (arith, a, b, e, low)

-- where less than a block is left, all of that is one
pub block_rest : (k : ℕ) (list : List ℕ) → length (drop k list) ≤ BLOCK → take (length list - k) (drop k list) ≡ take BLOCK (drop k list)
block_rest k list few = take_rest list k ∙ sym (take_all BLOCK (drop k list) few)

-- ---- the greatest length

-- what is at most one number is at most a greater one
at_most_up : (lanes : List Lane) (lengths : List (Option ℕ)) (m n c : ℕ) → m ≤ n → IsAtMost lanes lengths m c → IsAtMost lanes lengths n c
at_most_up lanes lengths m n c l a = record { end = most_on lengths c m n l a.end; ahead = λ d s. most_on lengths (length (cells lanes) + d) m n l (a.ahead d s) }

taken_more : (P Q : ℕ → Type 0) (xs : List ℕ) (k : ℕ) → k < length xs → ((x : ℕ) → P x → Q x) → AllByRecursion P (take k xs) → Q (get_or xs k 0) → AllByRecursion Q (take (k + 1) xs)
taken_more P Q xs k inside up all last = subst (AllByRecursion Q) (sym (take_more xs k 0 inside)) (all_append Q (take k xs) (get_or xs k 0 ∷ []) (all_map P Q up (take k xs) all) (last, tt))

-- the entry of one more cell
pub entries_at_most : (lengths : List (Option ℕ)) (count k m n b : ℕ) (ahead : List ℕ) → k < length ahead → m ≤ b → n ≤ b → AllByRecursion (λ d. HasAtMost lengths (count + d) m) (take k ahead) → HasAtMost lengths (count + get_or ahead k 0) n
    → AllByRecursion (λ d. HasAtMost lengths (count + d) b) (take (k + 1) ahead)
entries_at_most lengths count k m n b ahead inside low high all last =
    taken_more (λ d. HasAtMost lengths (count + d) m) (λ d. HasAtMost lengths (count + d) b) ahead k inside (λ d h. most_on lengths (count + d) m b low h) all (most_on lengths (count + get_or ahead k 0) n b high last)

-- one more cell
pub cells_at_most : (lanes : List Lane) (lengths : List (Option ℕ)) (k m n b : ℕ) (block : List ℕ) → k < length block → m ≤ b → n ≤ b → AllByRecursion (IsAtMost lanes lengths m) (take k block) → IsAtMost lanes lengths n (get_or block k 0)
    → AllByRecursion (IsAtMost lanes lengths b) (take (k + 1) block)
cells_at_most lanes lengths k m n b block inside low high all last =
    taken_more (IsAtMost lanes lengths m) (IsAtMost lanes lengths b) block k inside (λ c a. at_most_up lanes lengths m b c low a) all (at_most_up lanes lengths n b (get_or block k 0) high last)

-- the end of a cell and the entries ahead of it
pub cell_at_most : (lanes : List Lane) (lengths : List (Option ℕ)) (c count end entries b : ℕ) (ahead : List ℕ) → count ≡ length (cells lanes) → end ≤ b → entries ≤ b → slice_get lengths c ≡ Some (Some end) → ((d : ℕ) → IsAhead lanes (cells lanes) c d → Includes ahead d)
    → AllByRecursion (λ d. HasAtMost lengths (count + d) entries) ahead → IsAtMost lanes lengths b c
cell_at_most lanes lengths c count end entries b ahead same low high is every all = record {
  end = (end, is, low);
  ahead = λ d s. subst (λ (z : ℕ). HasAtMost lengths (z + d) b) same (most_on lengths (count + d) entries b high (all_included (λ x. HasAtMost lengths (count + x) entries) ahead d all (every d s)));
}

-- ---- what is kept of blocks

at_most_on : (lanes : List Lane) (P : Edge → Type 0) (m : ℕ) (before after : ShortestLengths) (n c : ℕ) → Relaxes P m before after → IsAtMost lanes before.lengths n c → IsAtMost lanes after.lengths n c
at_most_on lanes P m before after n c g a = record { end = most_kept P m c n before after g a.end; ahead = λ d s. most_kept P m (length (cells lanes) + d) n before after g (a.ahead d s) }

-- where lengths only fall, it still holds
pub closed_on : (lanes : List Lane) (P : Edge → Type 0) (m : ℕ) (before after : ShortestLengths) (closed : List (Option ℕ)) → Relaxes P m before after → AreClosed lanes before.lengths closed → AreClosed lanes after.lengths closed
closed_on lanes P m before after closed g k r n block h b = all_map (IsAtMost lanes before.lengths n) (IsAtMost lanes after.lengths n) (λ c a. at_most_on lanes P m before after n c g a) block (k r n block h b)

-- a number is kept for one more
pub closed_more : (lanes : List Lane) (lengths closed now : List (Option ℕ)) (s m r : ℕ) (block : List ℕ) → AreClosed lanes lengths closed → IsBlockOf lanes s block → slice_get block 0 ≡ Some r → AllByRecursion (IsAtMost lanes lengths m) block → IsKept closed r m now
    → AreClosed lanes lengths now
closed_more lanes lengths closed now s m r block k b first most kept q n other h at = elim (kept q n h) [
  | inl (same, number) ↦
      (let here : IsBlockAt lanes q block = subst (λ (z : ℕ). IsBlockAt lanes z block) (same_Some b.first r (sym b.first_is ∙ first) ∙ sym same) b.at in
      subst (λ (z : List ℕ). AllByRecursion (IsAtMost lanes lengths n) z) (block_one lanes q block other here at) (subst (λ (z : ℕ). AllByRecursion (IsAtMost lanes lengths z) block) (sym number) most))
  | inr old ↦ k q n other old at
]

-- the first cell of a block
pub block_first : (lanes : List Lane) (s : ℕ) (block : List ℕ) → IsBlockOf lanes s block → slice_get block 0 ≡ Some (get_or block 0 0)
block_first lanes s block b = slice_get-get_or block 0 0 (got_below block 0 b.first b.first_is)

-- ---- a block that is closed to a waypoint

-- a link in a cell with lengths of at most n makes none less from there on
link_settled : (lanes : List Lane) (p : Pt) (c m n : ℕ) (e : Edge) (now : ShortestLengths) → LinksIn lanes p c e → n ≤ m → IsAtMost lanes now.lengths n c → HasAtMost now.lengths e.to (m + e.gap)
link_settled lanes p c m n e now link low a = elim (end_or_entry lanes p c e.to link.v link.enters) [
  | inl end ↦ most_on now.lengths e.to n (m + e.gap) (omega (arith, low)) (subst (λ (z : ℕ). HasAtMost now.lengths z n) (sym end) a.end)
  | inr (d, ahead, entry) ↦ most_on now.lengths e.to n (m + e.gap) (omega (arith, low)) (subst (λ (z : ℕ). HasAtMost now.lengths z n) (sym entry) (a.ahead d ahead))
]

-- a way that is as long as each length in the block betters none
pub block_settled : (lanes : List Lane) (p : Pt) (i s m r : ℕ) (block : List ℕ) (closed : List (Option ℕ)) (now : ShortestLengths) → AreClosed lanes now.lengths closed → IsBlockOf lanes s block → slice_get block 0 ≡ Some r → HasAtMost closed r m
    → Relaxes (LinksInCells lanes p i block) m now now
block_settled lanes p i s m r block closed now k b first (n, kept, low) = relaxes_settled (LinksInCells lanes p i block) m now (λ e (c, j, (from, link)) limit.
    let a = all_included (IsAtMost lanes now.lengths n) block c (k r n block kept (subst (λ (z : ℕ). IsBlockAt lanes z block) (same_Some b.first r (sym b.first_is ∙ first)) b.at)) j in
    link_settled lanes p c m n e now link low a)

-- ---- block after block

-- the first cells of a list, and a block behind them
joined : (k : ℕ) (list block : List ℕ) → block ≡ take BLOCK (drop k list) → take (k + length block) list ≡ take k list ++ block
joined k list block is = take-add k (length block) list ∙ ap (λ (z : List ℕ). take k list ++ z) whole
  where
    whole : take (length block) (drop k list) ≡ block
    whole = ap (λ (z : List ℕ). take (length z) (drop k list)) is ∙ ap (λ (n : ℕ). take n (drop k list)) (length-take BLOCK (drop k list)) ∙ take_min BLOCK (drop k list) ∙ sym is

-- the links in the cells of one more block
pub blocks_more : (lanes : List Lane) (p : Pt) (i k m : ℕ) (list block : List ℕ) (first before after : ShortestLengths) → block ≡ take BLOCK (drop k list) → Relaxes (LinksInCells lanes p i (take k list)) m first before → Relaxes (LinksInCells lanes p i block) m before after
    → Relaxes (LinksInCells lanes p i (take (k + length block) list)) m first after
blocks_more lanes p i k m list block first before after is g h =
    relaxes_then (LinksInCells lanes p i (take k list)) (LinksInCells lanes p i block) (LinksInCells lanes p i (take (k + length block) list)) m first before after g h
    (λ e (c, j, l). (c, subst (λ (z : List ℕ). Includes z c) (sym (joined k list block is)) (includes_front (take k list) block c j), l))
    (λ e (c, j, l). (c, subst (λ (z : List ℕ). Includes z c) (sym (joined k list block is)) (includes_back (take k list) block c j), l))
    (λ e (c, j, l). elim (includes_either (take k list) block c (subst (λ (z : List ℕ). Includes z c) (joined k list block is) j)) [ inl front ↦ inl (c, front, l) | inr back ↦ inr (c, back, l) ])

-- the lengths of one more block, whose first cell has a number
pub blocks_at_most : (lanes : List Lane) (lengths closed : List (Option ℕ)) (s k m n b : ℕ) (list block : List ℕ) → AreClosed lanes lengths closed → Lists (λ d. IsBeside lanes (cells lanes) d s) list → k < length list → block ≡ take BLOCK (drop k list) → slice_get closed (get_or block 0 0) ≡ Some (Some n)
    → m ≤ b → n ≤ b → AllByRecursion (IsAtMost lanes lengths m) (take k list) → AllByRecursion (IsAtMost lanes lengths b) (take (k + length block) list)
blocks_at_most lanes lengths closed s k m n b list block closed_is lists inside is kept low high all =
    let of : IsBlockOf lanes s block = block_of lanes s k list block lists inside is in
    let r = same_Some of.first (get_or block 0 0) (sym of.first_is ∙ block_first lanes s block of) in
    let here = closed_is (get_or block 0 0) n block kept (subst (λ (z : ℕ). IsBlockAt lanes z block) r of.at) in
    subst (AllByRecursion (IsAtMost lanes lengths b)) (sym (joined k list block is))
    (all_append (IsAtMost lanes lengths b) (take k list) block
    (all_map (IsAtMost lanes lengths m) (IsAtMost lanes lengths b) (λ c a. at_most_up lanes lengths m b c low a) (take k list) all)
    (all_map (IsAtMost lanes lengths n) (IsAtMost lanes lengths b) (λ c a. at_most_up lanes lengths n b c high a) block here))

-- ---- classes

-- the first cell of a class
pub class_first : (lanes : List Lane) (s : ℕ) (list : List ℕ) → s < length (cells lanes) → Lists (λ d. IsBeside lanes (cells lanes) d s) list → (0 < length list) × IsBeside lanes (cells lanes) (get_or list 0 0) s × (get_or list 0 0 < length (cells lanes))
class_first lanes s list low lists =
    let some : 0 < length list = some_items list s (lists.all s here) in
    let b : IsBeside lanes (cells lanes) (get_or list 0 0) s = lists.each (get_or list 0 0) (includes_at list 0 0 some) in
    (some, b, beside_within lanes (cells lanes) (get_or list 0 0) s low b)
  where
    some_items : (xs : List ℕ) (x : ℕ) → Includes xs x → 0 < length xs
    some_items [] x i = absurd i
    some_items (y ∷ ys) x i = omega arith

-- nothing is known of any
pub all_none : (lanes : List Lane) (lengths : List (Option ℕ)) (closed : Closed) → closed.blocks.greatest.items ≡ [] → closed.classes.greatest.items ≡ [] → AreAllClosed lanes lengths closed
all_none lanes lengths closed b k = record {
  blocks = λ r m block h at. absurd (none_there r m (subst (λ (z : List (Option ℕ)). slice_get z r ≡ Some (Some m)) b h));
  classes = λ r m c h s. absurd (none_there r m (subst (λ (z : List (Option ℕ)). slice_get z r ≡ Some (Some m)) k h));
}

-- a way that is as long as each length in the class betters none
pub class_settled : (lanes : List Lane) (p : Pt) (i s m r : ℕ) (closed : Closed) (now : ShortestLengths) → AreAllClosed lanes now.lengths closed → IsBeside lanes (cells lanes) r s → HasAtMost closed.classes.greatest.items r m → Relaxes (LinksBeside lanes p i s) m now now
class_settled lanes p i s m r closed now k b (n, kept, low) = relaxes_settled (LinksBeside lanes p i s) m now (λ e (c, j, (from, link)) limit.
    let a = k.classes r n c kept (beside_join lanes (cells lanes) c s r (beside_back lanes (cells lanes) r s b) j) in
    link_settled lanes p c m n e now link low a)

-- ---- after a class

-- where lengths only fall, what is known of classes still holds
pub classes_on : (lanes : List Lane) (P : Edge → Type 0) (m : ℕ) (before after : ShortestLengths) (closed now : Closed) → Relaxes P m before after → now.classes.greatest.items ≡ closed.classes.greatest.items → AreAllClosed lanes before.lengths closed → AreClosed lanes after.lengths now.blocks.greatest.items → AreAllClosed lanes after.lengths now
classes_on lanes P m before after closed now g same k blocks = record {
  blocks = blocks;
  classes = λ r n c h s. at_most_on lanes P m before after n c g (k.classes r n c (subst (λ (z : List (Option ℕ)). slice_get z r ≡ Some (Some n)) same h) s);
}

-- and a number is kept for one more
pub classes_more : (lanes : List Lane) (lengths : List (Option ℕ)) (s m r : ℕ) (list : List ℕ) (closed now : Closed) → AreAllClosed lanes lengths closed → IsBeside lanes (cells lanes) r s → Lists (λ d. IsBeside lanes (cells lanes) d s) list → AllByRecursion (IsAtMost lanes lengths m) list
    → now.blocks.greatest.items ≡ closed.blocks.greatest.items → IsKept closed.classes.greatest.items r m now.classes.greatest.items → AreAllClosed lanes lengths now
classes_more lanes lengths s m r list closed now k b lists most blocks_are kept = record {
  blocks = subst (AreClosed lanes lengths) (sym blocks_are) k.blocks;
  classes = λ q n c h beside. elim (kept q n h) [
    | inl (same, number) ↦
        (let in_class : IsBeside lanes (cells lanes) c s = beside_join lanes (cells lanes) c r s b (subst (λ (z : ℕ). IsBeside lanes (cells lanes) c z) same beside) in
        subst (λ (z : ℕ). IsAtMost lanes lengths z c) (sym number) (all_included (IsAtMost lanes lengths m) list c most (lists.all c in_class)))
    | inr old ↦ k.classes q n c old beside
  ];
}

-- ---- as the code keeps them

-- a length that is read is there
pub label_there : (lengths : List (Option ℕ)) (r m : ℕ) → label_at lengths r ≡ Some m → slice_get lengths r ≡ Some (Some m)
label_there lengths r m h = by (slice_get lengths r) refl h
  where
    by : (o : Option (Option ℕ)) → slice_get lengths r ≡ o → label_of o ≡ Some m → slice_get lengths r ≡ Some (Some m)
    by None e k = cc
    by (Some l) e k = e ∙ ap (λ (z : Option ℕ). Some z) k

-- at most as much
pub label_at_most : (lengths : List (Option ℕ)) (r m n : ℕ) → label_at lengths r ≡ Some m → m ≤ n → HasAtMost lengths r n
label_at_most lengths r m n h low = (m, label_there lengths r m h, low)

-- an item that is no length was added
pub padded : (before now after : List (Option ℕ)) → ((q n : ℕ) → slice_get now q ≡ Some (Some n) → slice_get before q ≡ Some (Some n)) → after ≡ now ++ None ∷ [] → (q n : ℕ) → slice_get after q ≡ Some (Some n) → slice_get before q ≡ Some (Some n)
padded before now after h e q n is = elim (get_either now q None (Some n) (subst (λ (z : List (Option ℕ)). slice_get z q ≡ Some (Some n)) e is)) [ inl old ↦ h q n old | inr new ↦ none-some-is n new.1 ]
  where
    none-some-is : (m : ℕ) → Some m ≡ None → slice_get before q ≡ Some (Some n)
    none-some-is m e = cc

-- and a number was written
pub kept_set : (before now : List (Option ℕ)) (r m : ℕ) → r < length now → ((q n : ℕ) → slice_get now q ≡ Some (Some n) → slice_get before q ≡ Some (Some n)) → IsKept before r m (slice_set now r (Some m))
kept_set before now r m low h q n is = elim (get_set_either now r q (Some m) low) [
  | inl (same, new) ↦ inl (same, same_Some n m (same_Some (Some n) (Some m) (sym is ∙ new)))
  | inr (other, old) ↦ inr (h q n (sym old ∙ is))
]

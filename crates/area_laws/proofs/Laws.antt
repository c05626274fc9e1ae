-- The laws over the pieces of each step.
use Rattle.std.proofs.Common.{ℕ, ◌+◌, arith}
use lib.IntN.{ℤ}
use lib.Signed.{◌≤ℤ◌}
use Rattle.spot_terms.specs.Frames.{at}
use Rattle.spot_terms.specs.declared.plain.Pt.{Pt}
use Rattle.area_laws.specs.Laws.{CellsMakeLists, MotionsStayHeld, SetsHaveRoom, SetsStayInBox}
use Rattle.area_laws.proofs.Holding.{first_step, next_step, none_left}
use Rattle.area_laws.proofs.NextLists.{goes_from_cell_to_cell}
use Rattle.area_laws.proofs.Reaching.{first_few, first_in_box, next_few, next_in_box, small_box, step_set}
use Rattle.area_laws.proofs.Rooms.{room_before, room_of_list}

module _ (count : ℕ → ℕ) (Hits : ℕ → ℕ → Pt → Type 0) where
  pub cells_make_lists : CellsMakeLists count Hits
  cells_make_lists = λ course i before t wide high filled. goes_from_cell_to_cell course i before (count i) (Hits i) t wide high filled

  pub motions_stay_held : ((i p : ℕ) (x y0 y y1 : ℤ) → y0 ≤ℤ y → y ≤ℤ y1 → Hits i p (at x y0) → Hits i p (at x y1) → Hits i p (at x y)) → MotionsStayHeld count Hits
  motions_stay_held upright = record {
    first = λ course sets high list. first_step course 0 count Hits Hits high (λ i p x y0 y y1 l below a b h k. upright i p x y0 y y1 a b h k) sets list;
    next = λ course i before after high held leads. next_step course (i + 1) count Hits Hits high (λ i p x y0 y y1 l below a b h k. upright i p x y0 y y1 a b h k) i before after (omega arith) held leads;
    none_left = λ course i held states state motion there. none_left course count Hits i held states state motion there;
  }

  pub sets_stay_in_box : SetsStayInBox count Hits
  sets_stay_in_box = record {
    first = λ course m sets b fits v list. first_in_box course m b fits v count Hits sets list;
    next = λ course i before after ticks list. next_in_box course i before (count i) (Hits i) after ticks list;
    first_few = λ course sets b list j. first_few course count Hits sets list b j;
    next_few = λ course i before after o b ticks e near speed list j. next_few course i before (count i) (Hits i) after (small_box course i o e near speed) ticks list b j;
    step = step_set;
  }

  pub sets_have_room : (range : ℕ → ℕ → ℤ × ℤ) → SetsHaveRoom count Hits range
  sets_have_room range = record {
    cell = λ course i before col row sets runs wide high order has cell are free. room_before course i before (count i) (Hits i) (range i) wide high col row sets runs order has cell are free;
    list = λ course i before after wide high order has list. room_of_list course i before (count i) (Hits i) (range i) wide high after order has list;
  }

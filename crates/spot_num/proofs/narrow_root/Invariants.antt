use Rattle.std.proofs.Common.{◌+◌, ◌*◌, ◌<◌, ◌≤◌, ◌^◌, ℕ}
use Rattle.spot_num.proofs.narrow_root.Given as goal

-- both are not below the root, and where the next isn't less, the root is reached
pub record IsAbove (n root next : ℕ) : Type 0 where
  pub some : 0 < next
  pub above : n < (root + 1) * (root + 1)
  pub next_above : n < (next + 1) * (next + 1)
  pub reached : root ≤ next → root * root ≤ n
  pub bound : root ≤ 2 ^ 32

abbrev pub invariant-loop-next : goal.invariant-loop-next
invariant-loop-next l = IsAbove l.n l.root l.next

abbrev pub decreases-loop-next : goal.decreases-loop-next
decreases-loop-next l = l.root

-- No reserve changes the mode more than twice: each change leaves one fewer allowed, and `place_of` starts with two. That two
-- are enough, so that the reservation fits where the placing stops, is `place_orderly`. Assumes nothing.
use mathlib.Core.Bool.{false}
use mathlib.Core.List.{[]}
use Prim.Native.Nat.{ℕ, ◌≤◌}
use native.Mathlib.Omega.{arith}
use Rattle.buffer_pool.specs.declared.buffer_pool.BufferPool.{BufferPool}
use Rattle.buffer_pool.specs.declared.buffer_pool.PoolMode.{PoolMode}
use Rattle.buffer_pool.specs.declared.buffer_pool.PoolMode.TheVariants.{Back, Front, Alloc}
use Rattle.buffer_pool.specs.Placing.{finish, most_changes, reset, place}
use Rattle.buffer_pool.proofs.Unchanged.{decided}

pub changes_at_most : (w : ℕ) (r : BufferPool) (len : ℕ) → (place w r len).changes ≤ most_changes
unfolding place
changes_at_most w r len =
    decided w len (λ k x q n. n ≤ k) stop (λ k x q n h. omega arith) most_changes false (reset r).mode (reset r)
  where
    stop : (k : ℕ) (mode : PoolMode) (q : BufferPool) → (finish mode q [] len).changes ≤ k
    stop k Back q = omega arith
    stop k (Front f) q = omega arith
    stop k Alloc q = omega arith

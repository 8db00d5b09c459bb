-- The held bytes of line T, SPECIFICATION 10.11 (W-206): `held` is what the listing shows; `IsHighestEnd` says what it means, and
-- proofs/HeldBytes.antt has that the one is the other.
use Rattle.std.specs.Prelude.{◌≡◌, ℕ, zero, suc, ◌≤◌, ◌<◌, max}
use Rattle.laws.specs.Tests.{pick}
use Rattle.laws.specs.Live.{live_at}
use Rattle.buffer_pool.specs.declared.buffer_pool.BufferPool.{BufferPool}
use Rattle.buffer_pool.specs.Record.{after}
use Rattle.buffer_pool.specs.Sound.{Held}

-- ---- The held bytes

-- the end of slot p's slice, and 0 where it is free
unfoldable pub live_end : BufferPool → ℕ → ℕ
live_end r p = pick (live_at r.slots r.live p) (after r.starts r.lengths p) 0

-- the highest of these ends over slots 1 to b
unfoldable pub highest_end : BufferPool → ℕ → ℕ
highest_end r zero = 0
highest_end r (suc b) = max (highest_end r b) (live_end r (suc b))

-- over all slots: "the highest end of a live pooled slice, 0 without one"
unfoldable pub held : BufferPool → ℕ
held r = highest_end r r.slots

-- ---- What it means

-- no live slice of r ends above n, and one ends at n, unless n is 0
pub record IsHighestEnd (r : BufferPool) (n : ℕ) : Type 0 where
  pub none_above : (p : ℕ) → Held r.slots r.live p → after r.starts r.lengths p ≤ n
  pub one_there : 0 < n → (p : ℕ) × Held r.slots r.live p × (after r.starts r.lengths p ≡ n)

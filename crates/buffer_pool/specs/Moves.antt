-- The byte moves of a call (SPECIFICATION 6), and what each leaves in the two lent memories: every byte of both is determined.
use Rattle.std.specs.Prelude.{List, [], ◌∷◌, Bool, true, ◌&&◌, ◌||◌, ℕ, ◌+◌, leb, eqb}
use Rattle.laws.specs.Tests.{pick}
use Rattle.laws.specs.Lists.{copied, moved, zeroed}

-- the pool memory and the overflow (SPECIFICATION 1.1)
pub record Memories : Type 0 where
  pub pool : List ℕ
  pub overflow : List ℕ

abbrev pub memories : List ℕ → List ℕ → Memories
memories pool overflow = record { pool = pool; overflow = overflow }

pub data Move : Type 0 where
  -- 6.2, in the pool, from, length, to: the Rust's `copy_within`
  Within : ℕ → ℕ → ℕ → Move
  -- 6.3, so many bytes from the overflow's start to the pool's start: `prepend_raw_data`
  In : ℕ → Move
  -- 6.4, in the overflow, from, length, down to 0: what is left of the `Vec` by `split_off`
  Down : ℕ → ℕ → Move
  -- 6.5, from, length in the pool, to the overflow's start: `copy_into_buffer`
  Out : ℕ → ℕ → Move
  -- 6.6, zeros in the overflow, from, up to: the growth of the `Vec`
  Grow : ℕ → ℕ → Move

-- what one move leaves. A `Down` leaves the bytes past those it moved as they were.
unfoldable pub act : Memories → Move → Memories
act m (Within start len to) = memories (moved m.pool start len to) m.overflow
act m (In len) = memories (copied m.overflow 0 len m.pool 0) m.overflow
act m (Down start len) = memories m.pool (moved m.overflow start len 0)
act m (Out start len) = memories m.pool (copied m.pool start len m.overflow 0)
act m (Grow start end) = memories m.pool (zeroed m.overflow start end)

-- what a list of moves leaves, made in its order
unfoldable pub perform : List Move → Memories → Memories
perform [] m = m
perform (a ∷ rest) m = perform rest (act m a)

-- W-203, the move of a frame within the pool: none for an empty frame, and none "to the start where the frame already lies"
abbrev pub within : ℕ → ℕ → ℕ → List Move
within start len to = pick (eqb len 0 || eqb start to) [] (Within start len to ∷ [])

-- do the places of a move lie in memories of these lengths (pool, overflow)?
unfoldable pub inside : ℕ → ℕ → Move → Bool
inside pool overflow (Within start len to) = leb (start + len) pool && leb (to + len) pool
inside pool overflow (In len) = leb len overflow && leb len pool
inside pool overflow (Down start len) = leb (start + len) overflow
inside pool overflow (Out start len) = leb (start + len) pool && leb len overflow
inside pool overflow (Grow start end) = leb start end && leb end overflow

unfoldable pub all_inside : ℕ → ℕ → List Move → Bool
all_inside pool overflow [] = true
all_inside pool overflow (a ∷ rest) = inside pool overflow a && all_inside pool overflow rest

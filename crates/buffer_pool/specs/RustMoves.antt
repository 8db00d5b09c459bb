-- The byte moves that the Rust makes in a reserve, in its order, and which of them are ours (W-203). Rust.antt moves the bytes at
-- once, and a copy onto itself leaves no trace in them, so the moves are listed here: of the functions there on which the moves
-- depend, under their names, some shortened, with `-moves`. What comes after a function goes on from what Rust.antt says that it
-- left.
use Rattle.std.specs.Prelude.{Bool, false, ◌&&◌, ◌||◌, List, [], ◌∷◌, ◌++◌, ℕ, zero, suc, ◌+◌, ◌-◌, ltb, eqb, length}
use Rattle.laws.specs.Tests.{pick}
use Rattle.buffer_pool.specs.declared.buffer_pool.PoolFront.{PoolFront}
use Rattle.buffer_pool.specs.declared.buffer_pool.PoolMode.{PoolMode}
use Rattle.buffer_pool.specs.declared.buffer_pool.PoolMode.TheVariants.{Back, Front, Alloc}
use Rattle.buffer_pool.specs.Moves.{Move, Within, In, Down, Out, Grow}
use Rattle.buffer_pool.specs.Placing.{grows, is_alloc}
use Rattle.buffer_pool.specs.Rust.{Run, done, panic, Result, ok, err, PoolBack, InnerMemory, SystemMemory, RustPool, pool, tail_is_clearable, try_clear_tail_unchecked, clear_unchecked, back_has_capacity, back_reserve, has_capacity_until_offset, front_try_clear_tail, front_reserve, change_mode, rust_reset, resets_now}

-- ---- Which of them are ours

-- is it a move "to the start where the frame already lies in that memory"? In and out go to the other memory; down and grow move
-- no frame
unfoldable pub self_copy : Move → Bool
self_copy (Within start len to) = eqb start to
self_copy (In len) = false
self_copy (Down start len) = false
self_copy (Out start len) = false
self_copy (Grow start end) = false

-- "the Rust's, in its order, less those"
unfoldable pub less_self_copies : List Move → List Move
less_self_copies [] = []
less_self_copies (a ∷ rest) = pick (self_copy a) (less_self_copies rest) (a ∷ less_self_copies rest)

-- ---- The moves of InnerMemory, PoolBack and PoolFront

module _ {A : Type 0} where
  -- the moves after a run, by what it gave; none after a panic
  abbrev pub moves_after : Run A → (A → List Move) → List Move
  moves_after (done a) moves = moves a
  moves_after panic moves = []

-- `match self.raw_len`, with the `copy_within` of its second arm: offset, length, new offset
abbrev pub move_raw_on_moves : ℕ → ℕ → ℕ → List Move
move_raw_on_moves start zero to = []
move_raw_on_moves start (suc l) to = Within start (suc l) to ∷ []

abbrev pub move_raw_moves : InnerMemory → ℕ → List Move
move_raw_moves m offset = move_raw_on_moves m.raw_offset m.raw_len offset

-- of a clear of a tail, of the back (by `try_change_len`) or of the front: it gives true exactly where it has called
-- `move_raw_at_offset`, once, and the frame then lies at the offset of that call
abbrev pub told_moves : InnerMemory → Bool → InnerMemory → List Move
told_moves m value left = pick value (move_raw_moves m left.raw_offset) []

unfoldable pub try_clear_tail_moves : ℕ → PoolBack → InnerMemory → ℕ → ℕ → List Move
try_clear_tail_moves w b m live len =
    moves_after (try_clear_tail_unchecked w b m live len) (λ t. told_moves m t.value t.memory)

-- `try_clear_head` moves nothing
unfoldable pub back_reserve_moves : ℕ → PoolBack → InnerMemory → ℕ → ℕ → List Move
back_reserve_moves w b m live len =
    pick (back_has_capacity w b m len) []
    (moves_after (tail_is_clearable w b live) (λ c. pick c (try_clear_tail_moves w b m live len) []))

unfoldable pub front_reserve_moves : ℕ → PoolFront → InnerMemory → ℕ → ℕ → List Move
front_reserve_moves w f m live len =
    pick (ltb f.len f.back_start && has_capacity_until_offset m len f.byte_capacity) []
    (pick (ltb 0 f.len) (moves_after (front_try_clear_tail w f m live) (λ t. told_moves m t.value t.memory)) [])

-- ---- The moves of BufferPool

-- `copy_into_buffer`; outside A the cursor of the `Vec` is 0. If the `Vec` is too short it is first lengthened by zeros, all of
-- which the copy covers: that is no move of its own
abbrev pub to_alloc_moves : InnerMemory → List Move
to_alloc_moves m = Out m.raw_offset m.raw_len ∷ []

unfoldable pub front_to_back_moves : ℕ → RustPool → ℕ → ℕ → List Move
front_to_back_moves w r len live =
    moves_after (tail_is_clearable w r.pool_back live)
    (λ c. pick c
    (moves_after (try_clear_tail_unchecked w r.pool_back r.inner_memory live len)
    (λ t. pick t.value (move_raw_moves r.inner_memory t.memory.raw_offset) (to_alloc_moves t.memory)))
    (to_alloc_moves r.inner_memory))

-- `match (&mut self.mode, &mode)`
unfoldable pub change_mode_moves : ℕ → PoolMode → PoolMode → RustPool → ℕ → ℕ → List Move
change_mode_moves w Back Alloc r len live = to_alloc_moves r.inner_memory
change_mode_moves w Back (Front f) r len live = move_raw_moves r.inner_memory 0
change_mode_moves w (Front f) Back r len live = front_to_back_moves w r len live
change_mode_moves w Alloc Back r len live = []
change_mode_moves w Alloc (Front f) r len live = []
change_mode_moves w (Front f) Alloc r len live = []
change_mode_moves w Back Back r len live = []
change_mode_moves w (Front f) (Front f') r len live = []
change_mode_moves w Alloc Alloc r len live = []

-- `self.change_mode(mode, ..)`, then `self.reserve_(.., without_check)`
abbrev pub changed_then_moves : (Bool → RustPool → List Move) → (RustPool → Bool) → ℕ → PoolMode → RustPool → ℕ → ℕ → List Move
changed_then_moves again without-check w mode r len live =
    change_mode_moves w r.mode mode r len live
    ++ moves_after (change_mode w r.mode mode r len live) (λ q. again (without-check q) q)

-- `Vec::resize`, where the `Vec` is too short
abbrev pub from_system_moves : SystemMemory → ℕ → List Move
from_system_moves s len = grows (ltb (length s.inner) (s.cursor + len)) (length s.inner) (s.cursor + len)

-- the arms of `match self.pool_back.clear_unchecked(..)`
unfoldable pub system_cleared_moves : (Bool → RustPool → List Move) → ℕ → Result (Unit {0}) → RustPool → ℕ → ℕ → List Move
system_cleared_moves again w (ok t) r len live = changed_then_moves again (λ q. false) w Back r len live
system_cleared_moves again w (err (Front f)) r len live = changed_then_moves again (λ q. false) w (Front f) r len live
system_cleared_moves again w (err Alloc) r len live = from_system_moves r.system_memory len
system_cleared_moves again w (err Back) r len live = []

unfoldable pub reserve_from_system_memory_moves : (Bool → RustPool → List Move) → ℕ → RustPool → ℕ → ℕ → Bool → List Move
reserve_from_system_memory_moves again w r len live without-check =
    pick (ltb 0 r.system_memory.cursor || (without-check || eqb r.pool_back.len 0)) (from_system_moves r.system_memory len)
    (moves_after (tail_is_clearable w r.pool_back live)
    (λ c. pick c
    (try_clear_tail_moves w r.pool_back r.inner_memory live len
    ++ moves_after (clear_unchecked w r.pool_back r.inner_memory live len)
    (λ t. system_cleared_moves again w t.value (pool t.back r.mode t.memory r.system_memory r.reserved) len live))
    (from_system_moves r.system_memory len)))

-- the arms of `match writable`
unfoldable pub offered_moves : (Bool → RustPool → List Move) → ℕ → Result ℕ → RustPool → ℕ → ℕ → List Move
offered_moves again w (ok start) r len live = []
offered_moves again w (err mode) r len live = changed_then_moves again (λ q. is_alloc q.mode) w mode r len live

-- `reserve_`; `calls` as in Rust.antt
unfoldable pub reserve_moves : ℕ → ℕ → PoolMode → RustPool → ℕ → ℕ → Bool → List Move
reserve_moves w zero mode r len live without-check = []
reserve_moves w (suc calls) Back r len live without-check =
    back_reserve_moves w r.pool_back r.inner_memory live len
    ++ moves_after (back_reserve w r.pool_back r.inner_memory live len)
    (λ t. offered_moves (λ c q. reserve_moves w calls q.mode q len live c) w t.value (pool t.back Back t.memory r.system_memory r.reserved) len live)
reserve_moves w (suc calls) (Front f) r len live without-check =
    front_reserve_moves w f r.inner_memory live len
    ++ moves_after (front_reserve w f r.inner_memory live len)
    (λ t. offered_moves (λ c q. reserve_moves w calls q.mode q len live c) w t.value (pool r.pool_back (Front t.front) t.memory r.system_memory r.reserved) len live)
reserve_moves w (suc calls) Alloc r len live without-check =
    reserve_from_system_memory_moves (λ c q. reserve_moves w calls q.mode q len live c) w r len live without-check

-- the arms of `reset`'s match: `move_raw_at_offset`, or `prepend_raw_data` and `split_off`
unfoldable pub rust_reset_moves : PoolMode → RustPool → List Move
rust_reset_moves Back r = move_raw_moves r.inner_memory 0
rust_reset_moves (Front f) r = move_raw_moves r.inner_memory 0
rust_reset_moves Alloc r =
    let s = r.system_memory in
    pick (ltb s.cursor (length r.inner_memory.bytes))
    (pick (ltb 0 s.cursor) (In s.cursor ∷ Down s.cursor (length s.inner - s.cursor) ∷ []) []) []

-- the reset, if it is due, and then `reserve_`
unfoldable pub rust_reserve_moves : ℕ → ℕ → RustPool → ℕ → List Move
rust_reserve_moves w calls r len =
    pick (resets_now r) (rust_reset_moves r.mode r) []
    ++ moves_after (pick (resets_now r) (rust_reset w r) (done r))
    (λ q. reserve_moves w calls q.mode (pool q.pool_back q.mode q.inner_memory q.system_memory len) len r.inner_memory.live false)

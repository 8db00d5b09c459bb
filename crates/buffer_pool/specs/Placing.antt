-- Placing a frame, SPECIFICATION 5: which record a reserve leaves, how often the mode changes, which bytes are moved, and
-- whether the overflow is used. Numbers alone: no definition here sees a byte. w is the slot count. What is quoted is the
-- SPECIFICATION's, under the number that stands with it.
use Rattle.std.specs.Prelude.{Bool, true, false, not, ◌&&◌, ◌||◌, List, [], ◌∷◌, ◌++◌, ℕ, zero, suc, ◌+◌, ◌-◌, min, max, leb, ltb, eqb, get_or}
use Rattle.std.specs.Int.Count.{count_leading_zeros, count_trailing_zeros}
use Rattle.laws.specs.Tests.{pick}
use Rattle.laws.specs.Live.{last_live}
use Rattle.buffer_pool.specs.declared.buffer_pool.BufferPool.{BufferPool}
use Rattle.buffer_pool.specs.declared.buffer_pool.PoolFront.{PoolFront}
use Rattle.buffer_pool.specs.declared.buffer_pool.PoolMode.{PoolMode}
use Rattle.buffer_pool.specs.declared.buffer_pool.PoolMode.TheVariants.{Back, Front, Alloc}
use Rattle.buffer_pool.specs.Record.{after, front, placed, framed, without_entries}
use Rattle.buffer_pool.specs.Moves.{Move, In, Down, Out, Grow, within}

-- what a reserve decides: the next record, the count of mode changes, the moves in their order, and whether the Rust would
-- use the heap
pub record Decision : Type 0 where
  pub next : BufferPool
  pub changes : ℕ
  pub moves : List Move
  pub heap : Bool

-- ---- The tail

-- 5.5: d is "the smaller of w − s and the trailing zeros", which are w if no slot is live
unfoldable pub drops : ℕ → ℕ → ℕ → ℕ
drops w live s = min (w - s) (count_trailing_zeros w live)

-- 5.5: clearable "if d ≤ n and s + n = w", the Rust's `tail_is_clearable`
unfoldable pub clearable : ℕ → BufferPool → Bool
clearable w r = leb (drops w r.live r.back_start) r.back_len && eqb (r.back_start + r.back_len) w

-- 5.6: "if d = n, the end of the highest live slot of slots 1 to s, 0 if none of them is live"; "otherwise the end of slot
-- s + n − d"
unfoldable pub tail_start : ℕ → BufferPool → ℕ
tail_start w r =
    pick (eqb (drops w r.live r.back_start) r.back_len)
    (after r.starts r.lengths (last_live w r.live r.back_start))
    (after r.starts r.lengths (r.back_start + r.back_len - drops w r.live r.back_start))

-- 5.6: "at least one trailing zero and tail start + `raw_len` + `len` ≤ `capacity`"
unfoldable pub tail_fits : ℕ → BufferPool → ℕ → Bool
tail_fits w r len = ltb 0 (count_trailing_zeros w r.live) && leb (tail_start w r + r.raw_len + len) r.capacity

-- 5.6: "n falls by d". The record after a tail clear, in B
abbrev pub tail_cleared : ℕ → BufferPool → BufferPool
tail_cleared w r =
    placed r Back r.back_start (r.back_len - drops w r.live r.back_start)
    (r.back_start + (r.back_len - drops w r.live r.back_start)) (tail_start w r)

-- ---- The head

-- 5.7: f, and the start of slot f + 1, which is c
abbrev pub front_slots : ℕ → BufferPool → ℕ
front_slots w r = count_leading_zeros w r.live

abbrev pub front_bytes : ℕ → BufferPool → ℕ
front_bytes w r = get_or r.starts (count_leading_zeros w r.live) 0

-- 5.7: "if f ≥ 1, f < w, and `raw_len` is strictly below the start of slot f + 1"
unfoldable pub head_fits : ℕ → BufferPool → Bool
head_fits w r = leb 1 (front_slots w r) && (ltb (front_slots w r) w && ltb r.raw_len (front_bytes w r))

-- 5.7: "if f > s, then n falls by f − s and s becomes f"; `max` and the difference that stops at 0 say the "if"
abbrev pub head_cleared_to : BufferPool → ℕ → ℕ → BufferPool
head_cleared_to r f bytes = placed r (front f bytes 0) (max r.back_start f) (r.back_len - (f - r.back_start)) 0 0

abbrev pub head_cleared : ℕ → BufferPool → BufferPool
head_cleared w r = head_cleared_to r (front_slots w r) (front_bytes w r)

-- ---- The overflow

-- 5.4, out to the overflow: "`kept` becomes the frame length if it was less". The Rust's `copy_into_buffer` and `reset_raw`
abbrev pub to_alloc : BufferPool → BufferPool
to_alloc r = framed r Alloc 0 0 (max r.kept (r.cursor + r.raw_len)) (r.cursor + r.raw_len) r.reserved

-- 6.6: "Growth shows zeros"
abbrev pub grows : Bool → ℕ → ℕ → List Move
grows true start end = Grow start end ∷ []
grows false start end = []

-- ---- A mode that keeps the frame, and the change to another

-- 5.12: the reservation is made where the frame lies
abbrev pub finish : PoolMode → BufferPool → List Move → ℕ → Decision
finish Back r moves len =
    record { next = framed r Back r.raw_offset r.raw_len r.kept r.cursor len; changes = 0; moves = moves; heap = false }
finish (Front f) r moves len =
    record { next = framed r (Front f) r.raw_offset r.raw_len r.kept r.cursor len; changes = 0; moves = moves; heap = false }
finish Alloc r moves len =
    record {
      next = framed r Alloc r.raw_offset r.raw_len (max r.kept (r.cursor + len)) r.cursor len;
      changes = 0;
      moves = moves ++ grows (ltb r.kept (r.cursor + len)) r.kept (r.cursor + len);
      heap = true;
    }

-- moves made before a decision
abbrev pub first : List Move → Decision → Decision
first moves d = record { next = d.next; changes = d.changes; moves = moves ++ d.moves; heap = d.heap }

-- a mode change with its moves, before a decision
abbrev pub changed : List Move → Decision → Decision
changed moves d = record { next = d.next; changes = suc d.changes; moves = moves ++ d.moves; heap = d.heap }

-- ---- One call of `reserve_`: what a mode does with the frame

-- the mode keeps the frame, in this record after these moves; or, where `again`, it changes, with these moves, and the frame
-- is placed again: `entered` says that A was entered just now
pub record Layer : Type 0 where
  pub again : Bool
  pub entered : Bool
  pub mode : PoolMode
  pub pool : BufferPool
  pub moves : List Move

abbrev pub stay : PoolMode → BufferPool → List Move → Layer
stay mode r moves = record { again = false; entered = false; mode = mode; pool = r; moves = moves }

abbrev pub change : Bool → BufferPool → List Move → Layer
change entered r moves = record { again = true; entered = entered; mode = r.mode; pool = r; moves = moves }

-- 5.4: out to the overflow, after these moves
abbrev pub go_out : BufferPool → List Move → Layer
go_out r moves = change true (to_alloc r) (moves ++ (Out r.raw_offset r.raw_len ∷ []))

-- 5.9, 1: "The frame's end + `len` ≤ `capacity`, and s + n < w"
unfoldable pub back_fits : ℕ → BufferPool → ℕ → Bool
back_fits w r len = leb (r.raw_offset + r.raw_len + len) r.capacity && ltb (r.back_start + r.back_len) w

-- 5.9, the step of B: fits? clearable? tail clear? head clear? "The first that holds decides"
unfoldable pub back_on : Bool → Bool → Bool → Bool → ℕ → BufferPool → Layer
back_on true c t h w r = stay Back r []
back_on false false t h w r = go_out r []
back_on false true true h w r = stay Back (tail_cleared w r) (within r.raw_offset r.raw_len (tail_start w r))
back_on false true false true w r = change false (head_cleared w r) (within r.raw_offset r.raw_len 0)
back_on false true false false w r = go_out r []

-- 5.10, the bytes that F needs: "the frame's end + `len` ≤ c"
unfoldable pub front_fits : BufferPool → ℕ → ℕ → Bool
front_fits r c len = leb (r.raw_offset + r.raw_len + len) c

-- 5.10, 2: "the front drops its free tail slots". The last of F's own slots that is live, and F after that
abbrev pub front_last : ℕ → BufferPool → PoolFront → ℕ
front_last w r f = last_live w r.live f.len

abbrev pub front_start : ℕ → BufferPool → PoolFront → ℕ
front_start w r f = after r.starts r.lengths (front_last w r f)

abbrev pub shorter : ℕ → BufferPool → PoolFront → PoolFront
shorter w r f = record { back_start = f.back_start; byte_capacity = f.byte_capacity; len = front_last w r f }

abbrev pub front_cleared : ℕ → BufferPool → PoolFront → BufferPool
front_cleared w r f =
    placed r (Front (shorter w r f)) r.back_start r.back_len (front_last w r f) (front_start w r f)

-- 5.10, 3: F gives way after these moves: clearable? tail clear? "Otherwise out to the overflow"
unfoldable pub leave_on : Bool → Bool → ℕ → BufferPool → List Move → Layer
leave_on true true w r moves = change false (tail_cleared w r) (moves ++ within r.raw_offset r.raw_len (tail_start w r))
leave_on true false w r moves = go_out r moves
leave_on false t w r moves = go_out r moves

abbrev pub leave : ℕ → BufferPool → List Move → ℕ → Layer
leave w r moves len = leave_on (clearable w r) (tail_fits w r len) w r moves

-- 5.10, the step of F: fits? drops a slot? fits after that?
unfoldable pub front_on : Bool → Bool → Bool → ℕ → BufferPool → PoolFront → ℕ → Layer
front_on true d g w r f len = stay (Front f) r []
front_on false true true w r f len =
    stay (Front (shorter w r f)) (front_cleared w r f) (within r.raw_offset r.raw_len (front_start w r f))
front_on false true false w r f len =
    leave w (front_cleared w r f) (within r.raw_offset r.raw_len (front_start w r f)) len
front_on false false g w r f len = leave w r [] len

-- 5.11, 1: "A stays if it was entered in this reserve, or its frame is not empty, or n = 0, or the tail is not clearable"
unfoldable pub stays : ℕ → Bool → BufferPool → Bool
stays w entered r = entered || (ltb 0 r.cursor || (eqb r.back_len 0 || not (clearable w r)))

-- 5.11, the step of A: stays? tail clear? head clear?
unfoldable pub alloc_on : Bool → Bool → Bool → ℕ → BufferPool → Layer
alloc_on true t h w r = stay Alloc r []
alloc_on false true h w r = change false (tail_cleared w r) []
alloc_on false false true w r = change false (head_cleared w r) []
alloc_on false false false w r = stay Alloc r []

-- the three, with their tests made
unfoldable pub back_layer : ℕ → BufferPool → ℕ → Layer
back_layer w r len = back_on (back_fits w r len) (clearable w r) (tail_fits w r len) (head_fits w r) w r

unfoldable pub front_layer : ℕ → PoolFront → BufferPool → ℕ → Layer
front_layer w f r len =
    front_on (ltb f.len f.back_start && front_fits r f.byte_capacity len) (ltb (front_last w r f) f.len)
    (front_fits (front_cleared w r f) f.byte_capacity len) w r f len

unfoldable pub alloc_layer : ℕ → Bool → BufferPool → ℕ → Layer
alloc_layer w entered r len = alloc_on (stays w entered r) (tail_fits w r len) (head_fits w r) w r

unfoldable pub layer : ℕ → Bool → PoolMode → BufferPool → ℕ → Layer
layer w entered Back r len = back_layer w r len
layer w entered (Front f) r len = front_layer w f r len
layer w entered Alloc r len = alloc_layer w entered r len

-- ---- 5.2: "after each change of mode another step, of the new mode"; the Rust's `reserve_` calls itself

-- the decision of a layer, where `next` places again
abbrev pub resolve_on : (Bool → BufferPool → Decision) → Bool → Layer → ℕ → Decision
resolve_on next true l len = changed l.moves (next l.entered l.pool)
resolve_on next false l len = finish l.mode l.pool l.moves len

abbrev pub resolve : (Bool → BufferPool → Decision) → Layer → ℕ → Decision
resolve next l len = resolve_on next l.again l len

-- the decision with so many changes still allowed
unfoldable pub place_of : ℕ → ℕ → Bool → PoolMode → BufferPool → ℕ → Decision
place_of w zero entered mode r len = finish mode r [] len
place_of w (suc k) entered mode r len =
    resolve (λ e q. place_of w k e q.mode q len) (layer w entered mode r len) len

-- 5.13: "no reserve makes more than two changes"
abbrev pub most_changes : ℕ
most_changes = 2

-- ---- The reset

abbrev pub is_alloc : PoolMode → Bool
is_alloc Back = false
is_alloc (Front f) = false
is_alloc Alloc = true

-- 5.3: "if no slot is live and either n is not 0, or the mode is A and the frame is empty"
unfoldable pub resets : BufferPool → Bool
resets r = eqb r.live 0 && (not (eqb r.back_len 0) || (is_alloc r.mode && eqb r.cursor 0))

-- 5.3, the record after a reset, a line for each row of its table: reset at all? A's frame strictly shorter than the
-- capacity? A's frame empty?
unfoldable pub reset_on : Bool → Bool → Bool → PoolMode → BufferPool → BufferPool
reset_on false t z mode r = r
reset_on true t z Back r = placed r Back 0 0 0 0
reset_on true t z (Front f) r = placed r Back 0 0 0 0
reset_on true true true Alloc r = without_entries (placed r Back 0 0 0 0)
reset_on true true false Alloc r = framed (placed r Back 0 0 0 0) Back 0 r.cursor (r.kept - r.cursor) 0 r.reserved
reset_on true false z Alloc r = placed r Alloc r.back_start r.back_len 0 r.raw_offset

-- its moves, by the same tests: 6.3 and 6.4 from A
unfoldable pub reset_moves : Bool → Bool → Bool → PoolMode → BufferPool → List Move
reset_moves false t z mode r = []
reset_moves true t z Back r = within r.raw_offset r.raw_len 0
reset_moves true t z (Front f) r = within r.raw_offset r.raw_len 0
reset_moves true true true Alloc r = []
reset_moves true true false Alloc r = In r.cursor ∷ Down r.cursor (r.kept - r.cursor) ∷ []
reset_moves true false z Alloc r = []

unfoldable pub reset : BufferPool → BufferPool
reset r = reset_on (resets r) (ltb r.cursor r.capacity) (eqb r.cursor 0) r.mode r

-- ---- The whole decision of a reserve of len bytes

unfoldable pub place : ℕ → BufferPool → ℕ → Decision
place w r len =
    first (reset_moves (resets r) (ltb r.cursor r.capacity) (eqb r.cursor 0) r.mode r)
    (place_of w most_changes false (reset r).mode (reset r) len)

-- cause 4, by 5.12: "If the overflow is used and frame length + `len` exceeds the length of the overflow"
unfoldable pub is_too_long : Decision → ℕ → Bool
is_too_long d len = d.heap && ltb d.next.overflow (d.next.cursor + len)

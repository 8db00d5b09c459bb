-- The cases of SPECIFICATION 11 as a table of calls and of what each must show, and how the table is run on the definitions and on
-- the Rust's. proofs/Cases.antt has the theorem.
use Rattle.std.specs.Prelude.{Ok, List, [], ◌∷◌, ◌++◌, map, ℕ, ◌+◌, ◌-◌, length, replicate}
use Rattle.laws.specs.Lists.{part, copied}
use Rattle.buffer_pool.specs.declared.slice.Handle.{Handle}
use Rattle.buffer_pool.specs.declared.buffer_pool.BufferPool.{BufferPool}
use Rattle.buffer_pool.specs.declared.buffer_pool.PoolMode.{PoolMode}
use Rattle.buffer_pool.specs.declared.buffer_pool.PoolMode.TheVariants.{Back, Front, Alloc}
use Rattle.buffer_pool.specs.declared.buffer_pool.Memory.{Memory}
use Rattle.buffer_pool.specs.declared.buffer_pool.Memory.TheVariants.{Pool, Overflow}
use Rattle.buffer_pool.specs.declared.buffer_pool.Place.{Place}
use Rattle.buffer_pool.specs.declared.buffer_pool.Answer.TheVariants.{Done}
use Rattle.buffer_pool.specs.Record.{rust_slots, start_at}
use Rattle.buffer_pool.specs.Moves.{Memories, memories, Move, Within, Out, Grow}
use Rattle.buffer_pool.specs.Placing.{place}
use Rattle.buffer_pool.specs.Values.{values}
use Rattle.buffer_pool.specs.Steps.{at, reservation}
use Rattle.buffer_pool.specs.Calls as calls
use Rattle.buffer_pool.specs.Calls.{Outcome, bytes_at}
use Rattle.buffer_pool.specs.Rust.{Run, done, panic, RustPool, Reply, Took, pool, raw, system, rust_new, rust_reserve, rust_commit, rust_truncate, rust_take, rust_release}
use Rattle.buffer_pool.specs.RustMoves.{rust_reserve_moves}

-- ---- The table's words

-- a call of the table. `Release p` gives back the slice last taken as slot p; `Write` writes bytes from the reservation's start on.
pub data CaseCall : Type 0 where
  Reserve : ℕ → CaseCall
  Write : List ℕ → CaseCall
  Commit : ℕ → CaseCall
  Truncate : ℕ → CaseCall
  Take : CaseCall
  Release : ℕ → CaseCall

pub data Letter : Type 0 where
  A : Letter
  B : Letter
  F : Letter

-- what a call shows: its refusal number or 0, the mode, the live slots, start and length of the place in its answer and its
-- count of mode changes, by how much the frame moved up, and the reservation's bytes
pub data Fact : Type 0 where
  Number : ℕ → Fact
  Mode : Letter → Fact
  Live : ℕ → Fact
  Start : ℕ → Fact
  Length : ℕ → Fact
  Changes : ℕ → Fact
  Moved : ℕ → Fact
  Shows : List ℕ → Fact

-- a call with the facts that the SPECIFICATION states of it
pub record Line : Type 0 where
  pub call : CaseCall
  pub facts : List Fact

infix 4 ◌▸◌
abbrev pub ◌▸◌ : CaseCall → List Fact → Line
call ▸ facts = record { call = call; facts = facts }

-- calls of which the SPECIFICATION states nothing
abbrev pub quietly : List CaseCall → List Line
quietly = map (λ call. call ▸ [])

-- capacity, overflow, and the calls on a new pool
pub record Case : Type 0 where
  pub capacity : ℕ
  pub overflow : ℕ
  pub lines : List Line

abbrev pub new : ℕ → ℕ → List Line → Case
new capacity overflow lines = record { capacity = capacity; overflow = overflow; lines = lines }

-- ---- The table

-- a slice of so many bytes taken
abbrev pub slice : ℕ → List CaseCall
slice n = Reserve n ∷ Commit n ∷ Take ∷ []

-- "*Octet* is capacity 17, overflow 20, with eight slices of 2 bytes taken"
unfoldable pub octet : List Line → Case
octet lines =
    new 17 20 (quietly (slice 2 ++ slice 2 ++ slice 2 ++ slice 2 ++ slice 2 ++ slice 2 ++ slice 2 ++ slice 2) ++ lines)

-- octet, then d 1, d 2, r 3, c 3
unfoldable pub octet_in_front : List Line → Case
octet_in_front lines = octet (quietly (Release 1 ∷ Release 2 ∷ Reserve 3 ∷ Commit 3 ∷ []) ++ lines)

unfoldable pub table : List Case
table =
    -- 11.1, 11.2: slot 1 is 0x80; slot 8 is 0x01
    new 17 20 (quietly (Reserve 2 ∷ Commit 2 ∷ []) ++ ((Take ▸ Live 0x80 ∷ []) ∷ []))
    ∷ octet (quietly (Release 1 ∷ Release 2 ∷ Release 3 ∷ Release 4 ∷ Release 5 ∷ Release 6 ∷ []) ++ ((Release 7 ▸ Live 0x01 ∷ []) ∷ []))
    -- 11.3 to 11.5
    ∷ new 0 4 ((Reserve 0 ▸ Mode B ∷ Start 0 ∷ []) ∷ (Reserve 1 ▸ Mode A ∷ []) ∷ (Reserve 0 ▸ Mode A ∷ []) ∷ [])
    -- 11.6, 11.7
    ∷ new 16 20 ((Reserve 16 ▸ Mode B ∷ []) ∷ [])
    ∷ new 16 20 ((Reserve 17 ▸ Mode A ∷ []) ∷ [])
    -- 11.8 to 11.13
    ∷ new 16 20
    ((Reserve 6 ▸ [])
    ∷ (Commit 7 ▸ Number 5 ∷ []) ∷ (Commit 6 ▸ Number 0 ∷ []) ∷ (Commit 1 ▸ Number 5 ∷ []) ∷ (Commit 0 ▸ Number 0 ∷ [])
    ∷ (Reserve 4 ▸ []) ∷ (Truncate 9 ▸ Length 6 ∷ []) ∷ (Commit 1 ▸ Number 5 ∷ []) ∷ [])
    -- 11.14: F, start 0, one change
    ∷ octet ((Release 1 ▸ []) ∷ (Release 2 ▸ []) ∷ (Reserve 4 ▸ Mode F ∷ Start 0 ∷ Changes 1 ∷ []) ∷ [])
    -- 11.15: A, start 0, two changes
    ∷ octet ((Release 1 ▸ []) ∷ (Release 2 ▸ []) ∷ (Reserve 5 ▸ Mode A ∷ Start 0 ∷ Changes 2 ∷ []) ∷ [])
    -- 11.16: B, reservation start 15, the frame moved by 12
    ∷ octet_in_front ((Release 7 ▸ []) ∷ (Release 8 ▸ []) ∷ (Reserve 2 ▸ Mode B ∷ Start 15 ∷ Moved 12 ∷ []) ∷ [])
    -- 11.17: A, reservation start 3
    ∷ octet_in_front ((Release 7 ▸ []) ∷ (Release 8 ▸ []) ∷ (Reserve 3 ▸ Mode A ∷ Start 3 ∷ []) ∷ [])
    -- 11.18, 11.19: B, start 3; then start 3 again, as there is no reset
    ∷ octet_in_front
    (quietly (Take ∷ Release 3 ∷ Release 4 ∷ Release 5 ∷ Release 6 ∷ Release 7 ∷ Release 8 ∷ [])
    ++ ((Reserve 2 ▸ Mode B ∷ Start 3 ∷ []) ∷ (Release 1 ▸ Live 0 ∷ []) ∷ (Reserve 1 ▸ Start 3 ∷ []) ∷ []))
    -- 11.20: the reservation shows c, d, e, 0
    ∷ new 0 8 (quietly (Reserve 5 ∷ Write (97 ∷ 98 ∷ 99 ∷ 100 ∷ 101 ∷ []) ∷ Commit 2 ∷ Take ∷ []) ++ ((Reserve 4 ▸ Shows (99 ∷ 100 ∷ 101 ∷ 0 ∷ []) ∷ []) ∷ []))
    ∷ []

-- 11.21: the same handle released twice. (The Rust's `Slice` is gone with its drop, so this is not of its table.)
unfoldable pub twice : Case
twice = new 16 20 (quietly (slice 6) ++ ((Release 1 ▸ Number 0 ∷ []) ∷ (Release 1 ▸ Number 7 ∷ []) ∷ []))

-- ---- The moves of a reserve, SPECIFICATION 6.9

-- the calls before it, its length, the Rust's moves and ours
pub record MoveCase : Type 0 where
  pub before : Case
  pub len : ℕ
  pub rusts : List Move
  pub ours : List Move

abbrev pub moving : Case → ℕ → List Move → List Move → MoveCase
moving before len rusts ours = record { before = before; len = len; rusts = rusts; ours = ours }

-- d 3 .. d 8
abbrev pub back_released : List CaseCall
back_released = Release 3 ∷ Release 4 ∷ Release 5 ∷ Release 6 ∷ Release 7 ∷ Release 8 ∷ []

unfoldable pub move_table : List MoveCase
move_table =
    -- 11.22: a reset, with the frame at 0
    moving (octet_in_front (quietly back_released)) 2 (Within 0 3 0 ∷ []) []
    -- 11.23: a tail clear, with the frame at the tail start
    ∷ moving (octet_in_front (quietly (Take ∷ Reserve 1 ∷ Commit 1 ∷ back_released))) 2 (Within 3 1 3 ∷ []) []
    -- 11.24: the reset of 11.22, then out
    ∷ moving (octet_in_front (quietly back_released)) 15 (Within 0 3 0 ∷ Out 0 3 ∷ Grow 3 18 ∷ []) (Out 0 3 ∷ Grow 3 18 ∷ [])
    -- 11.25: that of 11.16, to another start
    ∷ moving (octet_in_front (quietly (Release 7 ∷ Release 8 ∷ []))) 2 (Within 0 3 12 ∷ []) (Within 0 3 12 ∷ [])
    ∷ []

-- ---- What a call showed

pub record Seen : Type 0 where
  pub number : ℕ
  pub mode : Letter
  pub live : ℕ
  pub start : ℕ
  pub length : ℕ
  pub changes : ℕ
  pub moved : ℕ
  pub bytes : List ℕ

-- a fact with the value that was seen
unfoldable pub observed : Seen → Fact → Fact
observed s (Number n) = Number s.number
observed s (Mode m) = Mode s.mode
observed s (Live n) = Live s.live
observed s (Start n) = Start s.start
observed s (Length n) = Length s.length
observed s (Changes n) = Changes s.changes
observed s (Moved n) = Moved s.moved
observed s (Shows bytes) = Shows s.bytes

unfoldable pub letter : PoolMode → Letter
letter Back = B
letter (Front f) = F
letter Alloc = A

-- ---- The table run on the definitions

-- a memory of the overflow's length whose bytes are not 0
abbrev pub strange : ℕ → List ℕ
strange n = replicate n 255

-- bytes written from the place on
abbrev pub write_in : Memory → Memories → ℕ → List ℕ → Memories
write_in Pool m start bytes = memories (copied bytes 0 (length bytes) m.pool start) m.overflow
write_in Overflow m start bytes = memories m.pool (copied bytes 0 (length bytes) m.overflow start)

-- the handle of the slice last taken as slot p
abbrev pub entry : BufferPool → ℕ → Handle
entry r p =
    record {
      slot = p;
      start = start_at r.starts p;
      length = start_at r.lengths p;
      serial = start_at r.serials p;
      caller = start_at r.callers p;
    }

unfoldable pub play : BufferPool → Memories → CaseCall → Outcome
play r m (Reserve n) = calls.reserve rust_slots r m n
play r m (Write bytes) = calls.outcome (record { pool = r; answer = Ok Done }) (write_in (reservation r).memory m (reservation r).start bytes) []
play r m (Commit n) = calls.commit rust_slots r m n
play r m (Truncate n) = calls.truncate rust_slots r m n
play r m Take = calls.take rust_slots r m 0 (strange r.overflow)
play r m (Release p) = calls.release rust_slots r m (entry r p)

unfoldable pub see : BufferPool → Outcome → Seen
see r o =
    record {
      number = (values o.call.answer).number;
      mode = letter o.call.pool.mode;
      live = o.call.pool.live;
      start = (values o.call.answer).place.start;
      length = (values o.call.answer).place.length;
      changes = (values o.call.answer).changes;
      moved = o.call.pool.raw_offset - r.raw_offset;
      bytes = bytes_at o.memory (reservation o.call.pool);
    }

unfoldable pub play_all : BufferPool → Memories → List Line → List (List Fact)
play_all r m [] = []
play_all r m (l ∷ rest) =
    let o : Outcome = play r m l.call in map (observed (see r o)) l.facts ∷ play_all o.call.pool o.memory rest

unfoldable pub shown_by : Case → List (List Fact)
shown_by c =
    let o : Outcome = calls.new rust_slots (memories (strange c.capacity) (strange c.overflow)) in
    play_all o.call.pool o.memory c.lines

-- the record after the lines, and the moves that a reserve then decides on
unfoldable pub play_to : BufferPool → Memories → List Line → BufferPool
play_to r m [] = r
play_to r m (l ∷ rest) = let o : Outcome = play r m l.call in play_to o.call.pool o.memory rest

unfoldable pub moves_by : MoveCase → List Move
moves_by c =
    let o : Outcome = calls.new rust_slots (memories (strange c.before.capacity) (strange c.before.overflow)) in
    (place rust_slots (play_to o.call.pool o.memory c.before.lines) c.len).moves

unfoldable pub wanted : Case → List (List Fact)
wanted c = map (λ (l : Line). l.facts) c.lines

-- ---- The table run on the Rust's definitions

-- what a call showed of the Rust's pool, and the pool left
pub record Watched : Type 0 where
  pub seen : Seen
  pub left : RustPool

-- the reservation's bytes: after the frame
unfoldable pub rust_offer : PoolMode → RustPool → List ℕ
rust_offer Back r = part r.inner_memory.bytes (r.inner_memory.raw_offset + r.inner_memory.raw_len) r.reserved
rust_offer (Front f) r = part r.inner_memory.bytes (r.inner_memory.raw_offset + r.inner_memory.raw_len) r.reserved
rust_offer Alloc r = part r.system_memory.inner r.system_memory.cursor r.reserved

unfoldable pub watched : RustPool → ℕ → Place → ℕ → RustPool → Watched
watched r number place changes q =
    record {
      seen =
          record {
            number = number;
            mode = letter q.mode;
            live = q.inner_memory.live;
            start = place.start;
            length = place.length;
            changes = changes;
            moved = q.inner_memory.raw_offset - r.inner_memory.raw_offset;
            bytes = rust_offer q.mode q;
          };
      left = q;
    }

unfoldable pub rust_frame : PoolMode → RustPool → Place
rust_frame Back r = at Pool r.inner_memory.raw_offset r.inner_memory.raw_len
rust_frame (Front f) r = at Pool r.inner_memory.raw_offset r.inner_memory.raw_len
rust_frame Alloc r = at Overflow 0 r.system_memory.cursor

-- bytes written from the reservation's start on
unfoldable pub rust_write_pool : RustPool → List ℕ → RustPool
rust_write_pool r bytes =
    pool r.pool_back r.mode
    (raw r.inner_memory (copied bytes 0 (length bytes) r.inner_memory.bytes (r.inner_memory.raw_offset + r.inner_memory.raw_len)) r.inner_memory.raw_offset r.inner_memory.raw_len)
    r.system_memory r.reserved

unfoldable pub rust_write : PoolMode → RustPool → List ℕ → RustPool
rust_write Alloc r bytes =
    pool r.pool_back r.mode r.inner_memory
    (system (copied bytes 0 (length bytes) r.system_memory.inner r.system_memory.cursor) r.system_memory.cursor r.system_memory.reserved) r.reserved
rust_write Back r bytes = rust_write_pool r bytes
rust_write (Front f) r bytes = rust_write_pool r bytes

-- a panic of `commit` is shown as 5, and leaves the pool; no other call of the table panics (99 would be seen)
unfoldable pub reserved' : RustPool → Run Reply → Watched
reserved' r (done a) = watched r 0 a.writable a.changes a.left
reserved' r panic = watched r 99 (at Pool 0 0) 0 r

unfoldable pub committed : RustPool → Run RustPool → Watched
committed r (done q) = watched r 0 (rust_frame q.mode q) 0 q
committed r panic = watched r 5 (at Pool 0 0) 0 r

unfoldable pub taken : RustPool → Run Took → Watched
taken r (done t) = watched r 0 (at Pool 0 0) 0 t.left
taken r panic = watched r 99 (at Pool 0 0) 0 r

unfoldable pub released : RustPool → Run RustPool → Watched
released r (done q) = watched r 0 (at Pool 0 0) 0 q
released r panic = watched r 99 (at Pool 0 0) 0 r

unfoldable pub rust_play : RustPool → CaseCall → Watched
rust_play r (Reserve n) = reserved' r (rust_reserve rust_slots 3 r n)
rust_play r (Write bytes) = watched r 0 (at Pool 0 0) 0 (rust_write r.mode r bytes)
rust_play r (Commit n) = committed r (rust_commit r n)
rust_play r (Truncate n) = committed r (done (rust_truncate r n))
rust_play r Take = taken r (rust_take rust_slots r)
rust_play r (Release p) = released r (rust_release rust_slots r p)

unfoldable pub rust_play_all : RustPool → List Line → List (List Fact)
rust_play_all r [] = []
rust_play_all r (l ∷ rest) =
    let o : Watched = rust_play r l.call in map (observed o.seen) l.facts ∷ rust_play_all o.left rest

unfoldable pub rust_shown_by : Case → List (List Fact)
rust_shown_by c = rust_play_all (rust_new rust_slots c.capacity) c.lines

unfoldable pub rust_play_to : RustPool → List Line → RustPool
rust_play_to r [] = r
rust_play_to r (l ∷ rest) = rust_play_to (rust_play r l.call).left rest

unfoldable pub rust_moves_by : MoveCase → List Move
rust_moves_by c = rust_reserve_moves rust_slots 3 (rust_play_to (rust_new rust_slots c.before.capacity) c.before.lines) c.len

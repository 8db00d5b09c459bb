-- How our record and bytes stand for a pool of the Rust, and what it means that a run of the Rust leaves them. A record whose arrays are
-- longer than its slot count stands for one by its first entries (`cut` of Record.antt).
-- proofs/RustAgrees.antt shows it of the reserve, proofs/RustCalls.antt of every call.
use Rattle.std.specs.Prelude.{◌≡◌, true, List, [], ◌∷◌, ℕ, zero, suc, ◌+◌, ltb, length, take, drop, set}
use Rattle.laws.specs.Tests.{pick}
use Rattle.laws.specs.Lists.{copied, moved}
use Rattle.buffer_pool.specs.declared.buffer_pool.BufferPool.{BufferPool}
use Rattle.buffer_pool.specs.declared.buffer_pool.PoolMode.{PoolMode}
use Rattle.buffer_pool.specs.declared.buffer_pool.Memory.{Memory}
use Rattle.buffer_pool.specs.declared.buffer_pool.Memory.TheVariants.{Pool, Overflow}
use Rattle.buffer_pool.specs.declared.buffer_pool.Place.{Place}
use Rattle.buffer_pool.specs.Moves.{Memories, memories, Move, Within, In, Down, Out, Grow}
use Rattle.buffer_pool.specs.Placing.{Decision, is_alloc}
use Rattle.buffer_pool.specs.Values.{Values, refusal}
use Rattle.buffer_pool.specs.Steps.{reservation}
use Rattle.buffer_pool.specs.Calls.{Outcome}
use Rattle.buffer_pool.specs.Rust.{Run, done, PoolBack, InnerMemory, RustPool, Slice, Pooled, Heap, Reply, reply, back, raw, system, pool, resized}

-- ---- The Rust's pool of a record

abbrev pub back_of : BufferPool → PoolBack
back_of r = back r.back_start r.back_len

abbrev pub inner_of : BufferPool → List ℕ → InnerMemory
inner_of r bytes =
    record {
      live = r.live;
      bytes = bytes;
      raw_offset = r.raw_offset;
      raw_len = r.raw_len;
      starts = r.starts;
      lengths = r.lengths;
      len = r.used;
    }

-- the arrays have w entries each, as the Rust's: what a cut record has
abbrev pub Exact : ℕ → BufferPool → Type 0
Exact w r = (length r.starts ≡ w) × (length r.lengths ≡ w)

-- in this mode, with the pool's bytes and those of the `Vec` (as `overflow`), and the `reserved` of the `Vec` and of the pool
abbrev pub rust_at : PoolMode → BufferPool → Memories → ℕ → ℕ → RustPool
rust_at mode r m own reserved = pool (back_of r) mode (inner_of r m.pool) (system m.overflow r.cursor own) reserved

abbrev pub rust_of : BufferPool → Memories → ℕ → RustPool
rust_of r m own = rust_at r.mode r m own r.reserved

-- p is the Rust's pool of r, with these bytes of the pool and of the `Vec`. The serials, the callers and the overflow's length are
-- ours alone; the capacity and the kept length are the lengths of the bytes. The `Vec`'s own `reserved` is the pool's in A; in B and
-- F it is left from an earlier A.
pub record Mirrors (r : BufferPool) (m : Memories) (p : RustPool) : Type 0 where
  pub own : ℕ
  pub is : p ≡ rust_of r m own
  pub pool_size : length m.pool ≡ r.capacity
  pub heap_size : length m.overflow ≡ r.kept
  pub own_is : is_alloc r.mode ≡ true → own ≡ r.reserved

-- the same with the lent memories: the kept bytes of the overflow are the `Vec`
abbrev pub heap_of : BufferPool → Memories → Memories
heap_of r m = memories m.pool (take r.kept m.overflow)

pub record Stands (r : BufferPool) (m : Memories) (p : RustPool) : Type 0 where
  pub mirrors : Mirrors r (heap_of r m) p
  pub overflow_size : length m.overflow ≡ r.overflow

-- the run does not panic, gives a value of this form, and leaves a pool of which P holds
pub record Leaves {A : Type 0} (run : Run A) (value : RustPool → A) (P : RustPool → Type 0) : Type 0 where
  pub left : RustPool
  pub run_is : run ≡ done (value left)
  pub holds : P left

-- a call of ours that is not refused
abbrev pub Unrefused : Outcome → Type 0
Unrefused o = refusal o.call.answer ≡ 0

-- the run is that of the Rust where ours leaves o: it gives a value of this form, and its pool stands for our record and bytes
abbrev pub AsRust : {A : Type 0} → Run A → (RustPool → A) → Outcome → Type 0
AsRust run value o = Leaves run value (Stands o.call.pool o.memory)

-- what the Rust gives where a reserve is decided so
abbrev pub decided : Decision → RustPool → Reply
decided d p = reply p (reservation d.next) d.changes

-- what the Rust gives where a reserve of ours says so
abbrev pub reply_of : Values → RustPool → Reply
reply_of v p = reply p v.place v.changes

-- what the Rust gives where a take of ours says so and leaves this destination: by the handle's slot, a slice of the pool, or with
-- slot 0 the bytes that were copied
abbrev pub slice_in : ℕ → Values → List ℕ → Slice
slice_in zero v destination = Heap (take v.length destination)
slice_in (suc k) v destination = Pooled v.handle.slot v.handle.start v.handle.length

abbrev pub slice_of : Values → List ℕ → Slice
slice_of v destination = slice_in v.handle.slot v destination

-- a byte written at index i of what the Rust hands out for this place: a `&mut [u8]` of `reserve` or `frame_mut`, or a slice
abbrev pub rust_written_in : Memory → RustPool → ℕ → ℕ → RustPool
rust_written_in Pool p i byte =
    let m = p.inner_memory in
    pool p.pool_back p.mode (raw m (set m.bytes i byte) m.raw_offset m.raw_len) p.system_memory p.reserved
rust_written_in Overflow p i byte =
    let s = p.system_memory in
    pool p.pool_back p.mode p.inner_memory (system (set s.inner i byte) s.cursor s.reserved) p.reserved

unfoldable pub rust_written : RustPool → Place → ℕ → ℕ → RustPool
rust_written p place i byte = pick (ltb i place.length) (rust_written_in place.memory p (place.start + i) byte) p

-- ---- The moves on a `Vec`, which has no limit and no bytes past its length

unfoldable pub heap_act : Memories → Move → Memories
heap_act m (Within start len to) = memories (moved m.pool start len to) m.overflow
heap_act m (In len) = memories (copied m.overflow 0 len m.pool 0) m.overflow
heap_act m (Down start len) = memories m.pool (drop start m.overflow)
heap_act m (Out start len) = memories m.pool (copied m.pool start len (resized m.overflow len) 0)
heap_act m (Grow start end) = memories m.pool (resized m.overflow end)

unfoldable pub heap_perform : List Move → Memories → Memories
heap_perform [] m = m
heap_perform (a ∷ rest) m = heap_perform rest (heap_act m a)

-- Every call of ours that is not refused is the Rust's, from the same state to the same state: record, bytes, answer, and no
-- panic. A reserve by `rust_agrees`; of the other calls the Rust's asserts hold by the soundness of the record. Assumes nothing.
use mathlib.Core.Path.{◌≡◌, refl, sym, ap, ◌∙◌, subst}
use mathlib.Core.Bool.{Bool, true, false, not, ◌||◌}
use mathlib.Core.List.{List, [], ◌∷◌}
use Prim.Native.Nat.{ℕ, zero, suc, ◌+◌, ◌-◌, ◌≤◌, ◌<◌, min}
use native.Mathlib.Omega.{arith}
use borrow.Author.Tests.{ltb-true, ltb-false, eqb-true, eqb-false, lt-ltb, le-leb}
use lib.Dec.{leb, ltb, eqb}
use lib.ListN.{length, take, drop, length-drop, length-set, length-replicate}
use lib.Seq.{length-take-le, take-take, take_at, take-set-lt}
use Rattle.std.specs.Prelude.{Ok}
use Rattle.laws.specs.Tests.{pick}
use Rattle.laws.specs.Lists.{part, copied}
use Rattle.laws.proofs.Tests.{no_true}
use Rattle.buffer_pool.specs.declared.refusals.Refusal.{Refusal}
use Rattle.buffer_pool.specs.declared.slice.Handle.{Handle}
use Rattle.buffer_pool.specs.declared.buffer_pool.BufferPool.{BufferPool}
use Rattle.buffer_pool.specs.declared.buffer_pool.PoolMode.{PoolMode}
use Rattle.buffer_pool.specs.declared.buffer_pool.PoolMode.TheVariants.{Back, Front, Alloc}
use Rattle.buffer_pool.specs.declared.buffer_pool.Memory.{Memory}
use Rattle.buffer_pool.specs.declared.buffer_pool.Memory.TheVariants.{Pool, Overflow}
use Rattle.buffer_pool.specs.declared.buffer_pool.Place.{Place}
use Rattle.buffer_pool.specs.declared.buffer_pool.Answer.TheVariants.{Done}
use Rattle.buffer_pool.specs.declared.buffer_pool.Called.{Called}
use Rattle.buffer_pool.specs.declared.refusals.Refusal.TheVariants.{Unsound, WrongLength, CommitTooLong, NotLive}
use Rattle.buffer_pool.specs.Record.{cut, most_slots, byte_limit, caller_count, framed}
use Rattle.buffer_pool.specs.Soundness.{is_slot_count}
use Rattle.buffer_pool.specs.Moves.{Memories, memories, Move, Down, perform}
use Rattle.buffer_pool.specs.Placing.{place, is_too_long, is_alloc}
use Rattle.buffer_pool.specs.Sound.{InMode, InAlloc, Orderly}
use Rattle.buffer_pool.specs.Soundness.{sound}
use Rattle.buffer_pool.specs.Values.{refusal_number, refusal, values}
use Rattle.buffer_pool.specs.Steps.{called, refused, frame_of, frame, reserve_on, reserve_step, resized, reframed, commit_step, truncate_step, handed_out, most_serials, given_to, take_on, take_step, take_moves, names, freed, release_step}
use Rattle.buffer_pool.specs.Calls.{Outcome, outcome, misfit, guarded, guarded_call, new_on, new, reserve, commit, truncate, copied_out, take as taken, release, bytes_at, written_in, written}
use Rattle.buffer_pool.specs.Rust.{Run, done, RustPool, InnerMemory, Slice, Pooled, Heap, took, pool, back, system, front_len, in_bounds, raw_data, system_commit, system_frame, system_get_data_owned, system_truncate, commit_raw, get_data_owned_on, memory_get_data_owned, rust_reserve, rust_commit_on, rust_commit, rust_truncate_on, rust_truncate, rust_take_on, rust_take, rust_release, rust_frame_on, rust_frame_bytes, rust_new}
use Rattle.buffer_pool.specs.RustMoves.{less_self_copies, rust_reserve_moves}
use Rattle.buffer_pool.specs.AsRust.{Exact, back_of, inner_of, rust_at, rust_of, heap_of, Stands, Leaves, Unrefused, AsRust, reply_of, slice_of, rust_written_in, rust_written}
use Rattle.buffer_pool.proofs.Soundness.{sound_use}
use Rattle.buffer_pool.proofs.Unchanged.{place_overflow}
use Rattle.buffer_pool.proofs.Ranges.{orderly_claim}
use Rattle.buffer_pool.proofs.HeapMoves.{Leads, leads_down, leads_heap, lent_bytes, lent_sizes}
use Rattle.buffer_pool.proofs.RustLayers.{Sized}
use Rattle.buffer_pool.proofs.Named.{names_use}
use Rattle.buffer_pool.proofs.Parts.{count_bounds}
use Rattle.buffer_pool.proofs.Cut.{zeros_cut}
use Rattle.buffer_pool.proofs.RustAgrees.{rust_agrees, moves_agree, bytes_agree, sizes_agree}

-- what a reserve of ours leaves: is it refused with 4?
abbrev reserving : ℕ → BufferPool → Memories → Bool → ℕ → Outcome
reserving w r m t len = outcome (reserve_on t r (place w r len)) (pick t m (perform (place w r len).moves m)) []

-- ---- A call that is not refused: its record is sound, and its outcome is the call's own work

pub record Works {A : Type 0} (number : A → ℕ) (w : ℕ) (r : BufferPool) (o worked : A) : Type 0 where
  pub orderly : Orderly w r
  pub is : worked ≡ o
  pub unrefused : number worked ≡ 0

pub unguarded : {A : Type 0} (number : A → ℕ) (refuse : Refusal → A) → ((why : Refusal) → number (refuse why) ≡ refusal_number why)
    → (w : ℕ) (r : BufferPool) (m : Memories) (worked : A) → number (guarded w r m refuse worked) ≡ 0
    → Works number w r (guarded w r m refuse worked) worked
unguarded number refuse numbered w r m worked = go (sound w r) refl (misfit r m)
  where
    go : (a : Bool) → sound w r ≡ a → (b : Bool) → number (pick (not a) (refuse Unsound) (pick b (refuse WrongLength) worked)) ≡ 0
        → Works number w r (pick (not a) (refuse Unsound) (pick b (refuse WrongLength) worked)) worked
    go true p true e = absurd (omega (arith, e, numbered WrongLength))
    go true p false e = record { orderly = (sound_use w r p).orderly; is = refl; unrefused = e }
    go false p b e = absurd (omega (arith, e, numbered Unsound))

abbrev number_of : Outcome → ℕ
number_of o = refusal o.call.answer

-- ---- The pool that a run leaves

-- memories of the record's lengths, and all kept bytes in them
abbrev Fits : BufferPool → Memories → Type 0
Fits q n = (length n.pool ≡ q.capacity) × ((length n.overflow ≡ q.overflow) × (q.kept ≤ length n.overflow))

stands : {q : BufferPool} {n : Memories} {p : RustPool} → Fits q n → (own : ℕ) → p ≡ rust_of q (heap_of q n) own
    → (is_alloc q.mode ≡ true → own ≡ q.reserved) → Stands q n p
stands {q} {n} F own e f =
    record {
      mirrors = record { own = own; is = e; pool_size = F.0; heap_size = length-take-le q.kept n.overflow F.1.1; own_is = f };
      overflow_size = F.1.0;
    }

leaves : {A : Type 0} {run : Run A} {value : RustPool → A} {q : BufferPool} {n : Memories} → Fits q n → (own : ℕ)
    → run ≡ done (value (rust_of q (heap_of q n) own)) → (is_alloc q.mode ≡ true → own ≡ q.reserved) → Leaves run value (Stands q n)
leaves {q = q} {n = n} F own e f = record { left = rust_of q (heap_of q n) own; run_is = e; holds = stands F own refl f }

-- an end in the overflow is one of the kept bytes
abbrev pub InKept : Memory → ℕ → ℕ → Type 0
InKept Pool end kept = Unit {0}
InKept Overflow end kept = end ≤ kept

pooled : {A : Type 0} → false ≡ true → A
pooled e = absurd (no_true e)

module _ {w : ℕ} {r : BufferPool} {m : Memories} {p : RustPool} (O : Orderly w r) (T : Stands r m p) where
  abbrev own : ℕ
  own = T.mirrors.own

  abbrev v : List ℕ
  v = take r.kept m.overflow

  abbrev inner : InnerMemory
  inner = inner_of r m.pool

  -- p, whose mode this is
  abbrev at_mode : PoolMode → RustPool
  at_mode mode = rust_at mode r (heap_of r m) own r.reserved

  pool_size : length m.pool ≡ r.capacity
  pool_size = T.mirrors.pool_size

  fits : Fits r m
  fits = (pool_size, (T.overflow_size, omega (arith, O.kept_within, T.overflow_size)))

  -- ---- Commit and truncate

  commit_on : (n : ℕ) → n ≤ r.reserved → (mode : PoolMode) → InMode w mode r r.reserved → (is_alloc mode ≡ true → own ≡ r.reserved)
      → Leaves (rust_commit (at_mode mode) n) (λ q. q) (Stands (resized mode r ((frame_of mode r).length + n)) m)
  unfolding rust_commit rust_commit_on commit_raw in_bounds system_commit
  commit_on n h Back I o =
      let k : r.raw_offset + r.raw_len + n ≤ length m.pool = omega (arith, I.fits, pool_size) in
      leaves fits own (rw (le-leb n r.reserved h, le-leb (r.raw_offset + r.raw_len + n) (length m.pool) k) refl) pooled
  commit_on n h (Front f) I o =
      let k : r.raw_offset + r.raw_len + n ≤ length m.pool = omega (arith, I.fits, I.bytes_within, pool_size) in
      leaves fits own (rw (le-leb n r.reserved h, le-leb (r.raw_offset + r.raw_len + n) (length m.pool) k) refl) pooled
  commit_on n h Alloc I o =
      leaves fits 0 (rw (le-leb n r.reserved h, le-leb n own (omega (arith, o refl))) refl) (λ e. refl)

  pub commit_agrees : (n : ℕ) → refusal (commit_step r n).answer ≡ 0 → Leaves (rust_commit p n) (λ q. q) (Stands (commit_step r n).pool m)
  unfolding commit_step refusal
  commit_agrees n = go (ltb r.reserved n) refl
    where
      step : Bool → Called
      step t = pick t (refused r CommitTooLong) (reframed (resized r.mode r ((frame r).length + n)))

      go : (t : Bool) → ltb r.reserved n ≡ t → refusal (step t).answer ≡ 0 → Leaves (rust_commit p n) (λ q. q) (Stands (step t).pool m)
      go true e z = absurd (omega (arith, z))
      go false e z = rw T.mirrors.is (commit_on n (ltb-false r.reserved n e) r.mode O.in_mode T.mirrors.own_is)

  pub truncate_agrees : (n : ℕ) → Leaves (done (rust_truncate p n)) (λ q. q) (Stands (truncate_step r n).pool m)
  unfolding truncate_step rust_truncate rust_truncate_on system_truncate
  truncate_agrees n = rw T.mirrors.is (go r.mode)
    where
      go : (mode : PoolMode) → Leaves (done (rust_truncate (at_mode mode) n)) (λ q. q) (Stands (resized mode r (min (frame_of mode r).length n)) m)
      go Back = leaves fits own refl pooled
      go (Front f) = leaves fits own refl pooled
      go Alloc = leaves fits 0 refl (λ e. refl)

  -- ---- Release

  pub release_agrees : (h : Handle) → refusal (release_step w r h).answer ≡ 0
      → Leaves (rust_release w p h.slot) (λ q. q) (Stands (release_step w r h).pool m)
  unfolding release_step refusal rust_release
  release_agrees h = go (names w r h) refl
    where
      step : Bool → Called
      step t = pick t (called (freed w r h.slot) (Ok Done)) (refused r NotLive)

      go : (t : Bool) → names w r h ≡ t → refusal (step t).answer ≡ 0 → Leaves (rust_release w p h.slot) (λ q. q) (Stands (step t).pool m)
      go true e z =
          let H = (names_use w r h e).here in
          rw T.mirrors.is
          (leaves fits own (rw (le-leb 1 h.slot H.one, le-leb h.slot w H.most, H.here) refl) T.mirrors.own_is)
      go false e z = absurd (omega (arith, z))

  -- ---- The frame, and a written byte: in the overflow it must be one of the kept

  pub frame_agrees : rust_frame_bytes p ≡ done (bytes_at m (frame r))
  unfolding rust_frame_bytes rust_frame_on raw_data in_bounds system_frame bytes_at part
  frame_agrees = rw T.mirrors.is (go r.mode O.in_mode)
    where
      go : (mode : PoolMode) → InMode w mode r r.reserved → rust_frame_bytes (at_mode mode) ≡ done (bytes_at m (frame_of mode r))
      go Back I = rw (le-leb (r.raw_offset + r.raw_len) (length m.pool) (omega (arith, I.fits, pool_size))) refl
      go (Front f) I =
          rw (le-leb (r.raw_offset + r.raw_len) (length m.pool) (omega (arith, I.fits, I.bytes_within, pool_size))) refl
      go Alloc I =
          rw (le-leb r.cursor (length v) (omega (arith, I.fits, T.mirrors.heap_size)))
          (ap done (take-take r.cursor r.kept m.overflow (omega (arith, I.fits))))

  pub written_agrees : (place : Place) (i byte : ℕ) → InKept place.memory (place.start + place.length) r.kept
      → Stands r (written m place i byte) (rust_written p place i byte)
  unfolding written rust_written
  written_agrees place i byte h = rw T.mirrors.is (go (ltb i place.length) refl place.memory h)
    where
      go : (t : Bool) → ltb i place.length ≡ t → (memory : Memory) → InKept memory (place.start + place.length) r.kept
          → Stands r (pick t (written_in memory m (place.start + i) byte) m)
          (pick t (rust_written_in memory (at_mode r.mode) (place.start + i) byte) (at_mode r.mode))
      go false e memory k = stands fits own refl T.mirrors.own_is
      go true e Pool k = stands (length-set m.pool (place.start + i) byte ∙ pool_size, fits.1) own refl T.mirrors.own_is
      go true e Overflow k =
          let s = length-set m.overflow (place.start + i) byte in
          let j : place.start + i < r.kept = omega (arith, ltb-true i place.length e) in
          stands (pool_size, (s ∙ T.overflow_size, omega (arith, s, fits.1.1))) own
          (ap (λ (x : List ℕ). rust_at r.mode r (memories m.pool x) own r.reserved)
          (sym (take-set-lt r.kept m.overflow (place.start + i) byte j)))
          T.mirrors.own_is

  -- ---- Take

  owned_none : r.raw_len ≡ 0 → memory_get_data_owned w inner ≡ done (record { slice = Heap []; memory = inner })
  unfolding memory_get_data_owned get_data_owned_on
  owned_none e = ap (λ (l : ℕ). get_data_owned_on l w inner) e

  abbrev slice : Slice
  slice = Pooled (suc r.used) r.raw_offset r.raw_len

  owned_some : 0 < r.raw_len
      → memory_get_data_owned w inner ≡ done (record { slice = slice; memory = inner_of (handed_out w 0 r Back 0) m.pool })
  unfolding memory_get_data_owned get_data_owned_on
  owned_some l = go r.raw_len refl
    where
      go : (n : ℕ) → r.raw_len ≡ n
          → get_data_owned_on n w inner ≡ done (record { slice = slice; memory = inner_of (handed_out w 0 r Back 0) m.pool })
      go zero e = absurd (omega arith)
      go (suc n) e = let c = orderly_claim w r O l in rw (lt-ltb r.used w c.within, c.free) refl

  -- an empty frame: nothing is taken
  take_none : (mode : PoolMode) → InMode w mode r r.reserved → (frame_of mode r).length ≡ 0
      → Leaves (rust_take w (at_mode mode)) (took (Heap [])) (Stands (resized mode r (frame_of mode r).length) m)
  unfolding rust_take rust_take_on system_frame system_get_data_owned
  take_none Back I e =
      let k : r.used - r.back_start ≡ r.back_len = omega (arith, I.used_is) in
      leaves fits own
      (rw (owned_none e, le-leb r.back_start r.used (omega (arith, I.used_is)))
      (ap (λ (n : ℕ). done (took (Heap []) (pool (back r.back_start n) Back inner (system v r.cursor own) 0))) k))
      pooled
  take_none (Front f) I e =
      leaves fits own
      (rw (owned_none e)
      (ap (λ (l : ℕ). done (took (Heap []) (pool (back_of r) (Front (front_len f l)) inner (system v r.cursor own) 0))) I.used_is))
      pooled
  take_none Alloc I e =
      leaves fits 0
      (rw (le-leb r.cursor (length v) (omega (arith, e)))
      (ap (λ (c : ℕ). done (took (Heap (take c v)) (pool (back_of r) Alloc inner (system (drop c v) 0 0) 0))) e
      ∙ ap (λ (c : ℕ). done (took (Heap []) (pool (back_of r) Alloc inner (system v c 0) 0))) (sym e)))
      (λ f. refl)

  -- a frame in the pool: the next slot
  take_pooled : (caller : ℕ) (mode : PoolMode) → InMode w mode r r.reserved → is_alloc mode ≡ false → 0 < r.raw_len
      → Leaves (rust_take w (at_mode mode)) (took slice) (Stands (take_on false false false false mode w caller r).pool m)
  unfolding rust_take rust_take_on take_on
  take_pooled caller Back I a l =
      leaves fits own (rw (owned_some l, le-leb r.back_start (suc r.used) (omega (arith, I.used_is))) refl) pooled
  take_pooled caller (Front f) I a l = leaves fits own (rw (owned_some l) refl) pooled
  take_pooled caller Alloc I a l = absurd (no_true (sym a))

  -- a frame in the overflow: its bytes
  module _ (I : InAlloc r r.reserved) (l : 0 < r.cursor) where
    abbrev rest : BufferPool
    rest = framed r Alloc r.raw_offset r.raw_len (r.kept - r.cursor) 0 0

    abbrev after : Memories
    after = perform (take_moves r r.cursor) m

    down_moves : (n : ℕ) → 0 < n → Down n (r.kept - n) ∷ [] ≡ take_moves r n
    unfolding take_moves
    down_moves zero h = absurd (omega arith)
    down_moves (suc n) h = refl

    down_leads : Leads (take_moves r r.cursor) (take_moves r r.cursor) (heap_of r m) (memories m.pool (drop r.cursor v))
    down_leads =
        subst (λ (moves : List Move). Leads moves moves (heap_of r m) (memories m.pool (drop r.cursor v)))
        (ap (λ (k : ℕ). Down r.cursor (k - r.cursor) ∷ []) T.mirrors.heap_size ∙ down_moves r.cursor l)
        (leads_down (heap_of r m) r.cursor (omega (arith, I.fits, T.mirrors.heap_size)))

    rest_size : length (drop r.cursor v) ≡ r.kept - r.cursor
    rest_size = length-drop r.cursor v ∙ ap (λ (k : ℕ). k - r.cursor) T.mirrors.heap_size

    take_heap : Leaves (rust_take w (at_mode Alloc)) (took (Heap (take r.cursor v))) (Stands rest after)
    unfolding rust_take rust_take_on system_frame system_get_data_owned
    take_heap =
        let k : r.kept - r.cursor ≤ length m.overflow = omega (arith, fits.1.1) in
        let s = lent_sizes r rest m down_leads fits.1.1 k rest_size in
        leaves (s.0 ∙ pool_size, (s.1 ∙ T.overflow_size, omega (arith, s.1, k))) 0
        (rw (le-leb r.cursor (length v) (omega (arith, I.fits, T.mirrors.heap_size)))
        (ap (λ (x : Memories). done (took (Heap (take r.cursor v)) (rust_of rest x 0)))
        (sym (leads_heap down_leads) ∙ lent_bytes r rest m down_leads fits.1.1 k rest_size)))
        (λ e. refl)

    -- the destination begins with them
    copied_out_lem : (destination : List ℕ) → take r.cursor v ≡ take r.cursor (copied m.overflow 0 r.cursor destination 0)
    unfolding copied part
    copied_out_lem destination =
        let c : length (take r.cursor m.overflow) ≡ r.cursor =
        length-take-le r.cursor m.overflow (omega (arith, I.fits, fits.1.1)) in
        take-take r.cursor r.kept m.overflow (omega (arith, I.fits))
        ∙ sym (take_at (take r.cursor m.overflow) (drop (0 + r.cursor) destination) r.cursor c)

  -- what a take of ours leaves, by its step
  abbrev taking : List ℕ → Called → Outcome
  taking destination c = copied_out c r m destination (values c.answer).length

  abbrev TakesAs : PoolMode → List ℕ → Called → Type 0
  TakesAs mode destination c =
      AsRust (rust_take w (at_mode mode)) (took (slice_of (values c.answer) (taking destination c).destination)) (taking destination c)

  module _ (caller : ℕ) (destination : List ℕ) where
    take_on_lem : (mode : PoolMode) → InMode w mode r r.reserved → (none z : Bool) → eqb (frame_of mode r).length 0 ≡ z
        → (long spent : Bool) → let c = take_on none z long spent mode w caller r in
        refusal c.answer ≡ 0 → TakesAs mode destination c
    unfolding take_on copied_out refusal take_moves perform
    take_on_lem mode I true z e long spent u = absurd (omega (arith, u))
    take_on_lem mode I false true e long spent u = take_none mode I (eqb-true (frame_of mode r).length 0 e)
    take_on_lem Back I false false e long true u = absurd (omega (arith, u))
    take_on_lem Back I false false e long false u = take_pooled caller Back I refl (omega (arith, eqb-false r.raw_len 0 e))
    take_on_lem (Front f) I false false e long true u = absurd (omega (arith, u))
    take_on_lem (Front f) I false false e long false u =
        take_pooled caller (Front f) I refl (omega (arith, eqb-false r.raw_len 0 e))
    take_on_lem Alloc I false false e true spent u = absurd (omega (arith, u))
    take_on_lem Alloc I false false e false spent u =
        let l : 0 < r.cursor = omega (arith, eqb-false r.cursor 0 e) in
        subst (λ (bytes : List ℕ). Leaves (rust_take w (at_mode Alloc)) (took (Heap bytes)) (Stands (rest I l) (after I l)))
        (copied_out_lem I l destination) (take_heap I l)

    pub take_agrees : let c = take_step w r caller (length destination) in
        refusal c.answer ≡ 0
        → AsRust (rust_take w p) (took (slice_of (values c.answer) (taking destination c).destination)) (taking destination c)
    unfolding take_step
    take_agrees u =
        rw T.mirrors.is
        (take_on_lem r.mode O.in_mode (leb caller_count caller) (eqb (frame r).length 0) refl
        (ltb (length destination) (frame r).length) (leb most_serials (given_to r caller)) u)

  -- ---- Reserve

  pub reserve_agrees : Exact w r → (k len : ℕ) → let o = reserving w r m (is_too_long (place w r len) len) len in
      refusal o.call.answer ≡ 0 → AsRust (rust_reserve w (suc (suc (suc k))) p len) (reply_of (values o.call.answer)) o
  unfolding reserve_on refusal
  reserve_agrees X k len = go (is_too_long (place w r len) len) refl
    where
      go : (t : Bool) → is_too_long (place w r len) len ≡ t → refusal (reserving w r m t len).call.answer ≡ 0
          → AsRust (rust_reserve w (suc (suc (suc k))) p len) (reply_of (values (reserving w r m t len).call.answer)) (reserving w r m t len)
      go true e u = absurd (omega (arith, u))
      go false e u =
          let S : Sized r (heap_of r m) = (pool_size, T.mirrors.heap_size) in
          let G = rust_agrees w k r (heap_of r m) p len X O T.mirrors in
          record {
            left = G.left;
            run_is = G.run_is;
            holds =
                record {
                  mirrors = rw (← bytes_agree w r m len X O S T.overflow_size e) G.holds;
                  overflow_size = (sizes_agree w r m len X O S T.overflow_size e).1 ∙ T.overflow_size ∙ sym (place_overflow w r len);
                };
          }

-- ---- The calls of specs/Calls.antt

pub new_as_rust : (w : ℕ) (m : Memories) → Unrefused (new w m)
    → Stands (cut w (new w m).call.pool) (new w m).memory (rust_new w (length m.pool))
unfolding new refusal rust_new
new_as_rust w m = go (is_slot_count w) refl (ltb byte_limit (length m.pool) || ltb byte_limit (length m.overflow))
  where
    go : (i : Bool) → is_slot_count w ≡ i → (t : Bool) → Unrefused (new_on i t w m)
        → Stands (cut w (new_on i t w m).call.pool) (new_on i t w m).memory (rust_new w (length m.pool))
    go false e t u = absurd (omega (arith, u))
    go true e true u = absurd (omega (arith, u))
    go true e false u =
        rw (zeros_cut w most_slots (count_bounds w e).1)
        (stands (length-replicate (length m.pool) 0, (refl, omega arith)) 0 refl (λ e. refl))

worked : (w : ℕ) (r : BufferPool) (m : Memories) (destination : List ℕ) (o : Outcome) → Unrefused (guarded_call w r m destination o)
    → Works number_of w r (guarded_call w r m destination o) o
unfolding refusal
worked w r m destination o = unguarded number_of (λ n. outcome (refused r n) m destination) (λ n. refl) w r m o

module _ (w : ℕ) (r : BufferPool) (m : Memories) (p : RustPool) (T : Stands r m p) where
  pub reserve_as_rust : (Orderly w r → Exact w r) → (k len : ℕ) → let o = reserve w r m len in
      Unrefused o → AsRust (rust_reserve w (suc (suc (suc k))) p len) (reply_of (values o.call.answer)) o
  unfolding reserve reserve_step
  reserve_as_rust X k len u =
      let W = worked w r m [] (reserving w r m (is_too_long (place w r len) len) len) u in
      subst (λ (o : Outcome). AsRust (rust_reserve w (suc (suc (suc k))) p len) (reply_of (values o.call.answer)) o) W.is
      (reserve_agrees W.orderly T (X W.orderly) k len W.unrefused)

  -- W-203, what an unrefused reserve makes: the Rust's moves less the self copies
  pub reserve_makes : (Orderly w r → Exact w r) → (k len : ℕ) → Unrefused (reserve w r m len)
      → (reserve w r m len).memory ≡ perform (less_self_copies (rust_reserve_moves w (suc (suc (suc k))) p len)) m
  unfolding reserve reserve_step reserve_on refusal
  reserve_makes X k len u =
      let W = worked w r m [] (reserving w r m (is_too_long (place w r len) len) len) u in
      ap (λ (x : Outcome). x.memory) (sym W.is) ∙ go W.orderly (is_too_long (place w r len) len) W.unrefused
    where
      go : Orderly w r → (t : Bool) → Unrefused (reserving w r m t len)
          → (reserving w r m t len).memory ≡ perform (less_self_copies (rust_reserve_moves w (suc (suc (suc k))) p len)) m
      go O true e = absurd (omega (arith, e))
      go O false e = ap (λ (l : List Move). perform l m) (moves_agree w k r (heap_of r m) p len (X O) O T.mirrors)

  pub commit_as_rust : (n : ℕ) → Unrefused (commit w r m n) → AsRust (rust_commit p n) (λ q. q) (commit w r m n)
  unfolding commit
  commit_as_rust n u =
      let W = worked w r m [] (outcome (commit_step r n) m []) u in
      subst (λ (o : Outcome). AsRust (rust_commit p n) (λ q. q) o) W.is (commit_agrees W.orderly T n W.unrefused)

  pub truncate_as_rust : (n : ℕ) → Unrefused (truncate w r m n) → AsRust (done (rust_truncate p n)) (λ q. q) (truncate w r m n)
  unfolding truncate
  truncate_as_rust n u =
      let W = worked w r m [] (outcome (truncate_step r n) m []) u in
      subst (λ (o : Outcome). AsRust (done (rust_truncate p n)) (λ q. q) o) W.is (truncate_agrees W.orderly T n)

  pub take_as_rust : (caller : ℕ) (destination : List ℕ) → let o = taken w r m caller destination in
      Unrefused o → AsRust (rust_take w p) (took (slice_of (values o.call.answer) o.destination)) o
  unfolding taken copied_out
  take_as_rust caller destination u =
      let c = take_step w r caller (length destination) in
      let W = worked w r m destination (copied_out c r m destination (values c.answer).length) u in
      subst (λ (o : Outcome). AsRust (rust_take w p) (took (slice_of (values o.call.answer) o.destination)) o) W.is
      (take_agrees W.orderly T caller destination W.unrefused)

  pub release_as_rust : (h : Handle) → Unrefused (release w r m h) → AsRust (rust_release w p h.slot) (λ q. q) (release w r m h)
  unfolding release
  release_as_rust h u =
      let W = worked w r m [] (outcome (release_step w r h) m []) u in
      subst (λ (o : Outcome). AsRust (rust_release w p h.slot) (λ q. q) o) W.is (release_agrees W.orderly T h W.unrefused)

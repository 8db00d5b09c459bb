-- The numbers that the lines show are small. A run keeps its record sound and the lengths of its memories, and in a sound record
-- every slice, the frame and the reservation lie in their memories; so no start and no length exceeds the longest memory. Assumes
-- nothing.
use mathlib.Core.Path.{◌≡◌, refl, sym, subst}
use mathlib.Core.Bool.{Bool, true, false, ◌||◌}
use mathlib.Core.List.{List}
use Prim.Native.Nat.{ℕ, suc, ◌+◌, ◌-◌, ◌≤◌, ◌<◌, min}
use native.Mathlib.Omega.{arith}
use borrow.Author.Tests.{ne_eqb, lt-leb}
use lib.Dec.{leb, ltb, eqb}
use lib.ListN.{length}
use Rattle.std.specs.Prelude.{Ok, Err}
use Rattle.laws.specs.Tests.{pick}
use Rattle.laws.specs.Lists.{part}
use Rattle.laws.proofs.Tests.{pick_cases}
use Rattle.buffer_pool.specs.declared.slice.Handle.{Handle}
use Rattle.buffer_pool.specs.declared.buffer_pool.BufferPool.{BufferPool}
use Rattle.buffer_pool.specs.declared.buffer_pool.PoolMode.{PoolMode}
use Rattle.buffer_pool.specs.declared.buffer_pool.PoolMode.TheVariants.{Back, Front, Alloc}
use Rattle.buffer_pool.specs.declared.buffer_pool.Answer.TheVariants.{Done, Taken, Copied}
use Rattle.buffer_pool.specs.declared.buffer_pool.Called.{Called}
use Rattle.buffer_pool.specs.declared.refusals.Refusal.{Refusal}
use Rattle.buffer_pool.specs.declared.refusals.Refusal.TheVariants.{Unsound, WrongLength, OverflowTooShort, CommitTooLong, DestinationTooShort, NotLive, NoSerials}
use Rattle.buffer_pool.specs.Record.{rust_slots, byte_limit, caller_count, start_at}
use Rattle.buffer_pool.specs.Values.{refusal_number, no_handle, Values, values}
use Rattle.buffer_pool.specs.Moves.{Memories}
use Rattle.buffer_pool.specs.Placing.{place, is_too_long}
use Rattle.buffer_pool.specs.Soundness.{is_slot_count, sound}
use Rattle.buffer_pool.specs.Sound.{Held}
use Rattle.buffer_pool.specs.Steps.{refused, frame, frame_of, reserve_on, reserve_step, resized, reframed, commit_step, truncate_step, most_serials, given_to, next_handle, take_on, take_step, names, release_step}
use Rattle.buffer_pool.specs.Calls.{Outcome, new}
use Rattle.buffer_pool.proofs.BoundLaws.{end_some}
use Rattle.buffer_pool.proofs.Ranges.{Inside, bytes_for}
use Rattle.buffer_pool.proofs.SoundKept as kept
use Rattle.buffer_pool.proofs.SoundKept.{step_sizes, sound_kept, sound_inside}
use Rattle.trace.specs.declared.Event.{Event}
use Rattle.trace.specs.Trace.{size_limit, take_kind, release_kind, most_caller}
use Rattle.replay.specs.declared.event.Extent.{Extent}
use Rattle.replay.specs.declared.event.Shown.{Shown}
use Rattle.replay.specs.Slots.{slot_of, handle_at, handle_of}
use Rattle.replay.specs.Run.{extent, take_extent, release_extent, extent_of, shown_so, shown_of, filling, filled, call_of, Running, step_of, step}
use Rattle.replay.proofs.SlotLaws.{slot_held}
use Rattle.std.specs.Prelude.{Option, Some, None, IfSome}
use Rattle.replay.proofs.Kept.{call_by_steps, new_sound, step_sound, Starting, starts_within}

-- ---- The record

-- a sound record whose memories are no longer than a trace may ask for
pub record Small (r : BufferPool) : Type 0 where
  pub is_sound : sound r.slots r ≡ true
  pub capacity_within : r.capacity ≤ size_limit
  pub overflow_within : r.overflow ≤ size_limit

small_kept : (r : BufferPool) (s : kept.Step) → Small r → Small (kept.step r.slots r s).pool
small_kept r s S =
    let z = step_sizes r.slots r s in
    record {
      is_sound = subst (λ (w : ℕ). sound w (kept.step r.slots r s).pool ≡ true) (sym z.2) (sound_kept r.slots r s S.is_sound);
      capacity_within = omega (arith, z.0, S.capacity_within);
      overflow_within = omega (arith, z.1, S.overflow_within);
    }

pub small_new : (m : Memories) → length m.pool ≤ size_limit → length m.overflow ≤ size_limit → Small (new rust_slots m).call.pool
unfolding new is_slot_count
small_new m c o =
    record {
      is_sound = subst (λ (w : ℕ). sound w (new rust_slots m).call.pool ≡ true) (sym sizes.2) (new_sound m);
      capacity_within = sizes.0;
      overflow_within = sizes.1;
    }
  where
    Sized : Outcome → Type 0
    Sized x = (x.call.pool.capacity ≤ size_limit) × (x.call.pool.overflow ≤ size_limit) × (x.call.pool.slots ≡ rust_slots)

    sizes : Sized (new rust_slots m)
    sizes =
        pick_cases Sized (ltb byte_limit (length m.pool) || ltb byte_limit (length m.overflow)) (λ t. (omega arith, omega arith, refl))
        (λ t. (c, o, refl))

-- frame and reservation lie in their memory
gathered_within : (r : BufferPool) → Small r → (frame r).start + (frame r).length + r.reserved ≤ size_limit
gathered_within r S = go r.mode I.gathered
  where
    I : Inside r.slots r
    I = sound_inside r.slots r S.is_sound

    go : (mode : PoolMode) → (frame_of mode r).start + (frame_of mode r).length + r.reserved ≤ bytes_for mode r
        → (frame_of mode r).start + (frame_of mode r).length + r.reserved ≤ size_limit
    go Back h = omega (arith, S.capacity_within)
    go (Front f) h = omega (arith, S.capacity_within)
    go Alloc h = omega (arith, I.kept, S.overflow_within)

-- ---- The answer

-- no start and no length above the limit
abbrev Near : Extent → Type 0
Near x = (x.start ≤ size_limit) × (x.length ≤ size_limit)

-- an answer says a refusal of one digit, and a place and a slice within the limit
abbrev Shows : Values → Type 0
Shows v = (v.number < 10) × Near (extent v.place.start v.place.length) × Near (take_extent v)

near : {start length : ℕ} → start + length ≤ size_limit → Near (extent start length)
near h = (omega arith, omega arith)

-- an answer that is a place shows no slice
placed_shows : (v : Values) → v.number < 10 → v.place.start + v.place.length ≤ size_limit → v.handle ≡ no_handle → v.length ≡ 0 → Shows v
unfolding take_extent
placed_shows v n p h l = (n, near p, rw (h, l) (omega arith, omega arith))

module _ (r : BufferPool) (S : Small r) where
  refused_shows : (why : Refusal) → refusal_number why < 10 → Shows (values (Err why))
  refused_shows why l = placed_shows (values (Err why)) l (omega arith) refl refl

  reserve_shows : (n : ℕ) → Shows (values (reserve_step r.slots r n).answer)
  unfolding reserve_step reserve_on
  reserve_shows n = go (is_too_long (place r.slots r n) n) (small_kept r (kept.Reserve n) S)
    where
      go : (t : Bool) → Small (reserve_on t r (place r.slots r n)).pool → Shows (values (reserve_on t r (place r.slots r n)).answer)
      go true Z = refused_shows OverflowTooShort (omega arith)
      go false Z =
          placed_shows (values (reserve_on false r (place r.slots r n)).answer) (omega arith) (gathered_within (place r.slots r n).next Z) refl refl

  reframed_shows : (q : BufferPool) → Small q → Shows (values (reframed q).answer)
  reframed_shows q Z = placed_shows (values (reframed q).answer) (omega arith) (omega (arith, gathered_within q Z)) refl refl

  commit_shows : (n : ℕ) → Shows (values (commit_step r n).answer)
  unfolding commit_step
  commit_shows n = go (ltb r.reserved n) (small_kept r (kept.Commit n) S)
    where
      q : BufferPool
      q = resized r.mode r ((frame r).length + n)

      go : (t : Bool) → Small (pick t (refused r CommitTooLong) (reframed q)).pool → Shows (values (pick t (refused r CommitTooLong) (reframed q)).answer)
      go true Z = refused_shows CommitTooLong (omega arith)
      go false Z = reframed_shows q Z

  truncate_shows : (n : ℕ) → Shows (values (truncate_step r n).answer)
  unfolding truncate_step
  truncate_shows n = reframed_shows (resized r.mode r (min (frame r).length n)) (small_kept r (kept.Truncate n) S)

  copied_shows : (n : ℕ) → n ≤ size_limit → Shows (values (Ok (Copied n)))
  unfolding take_extent
  copied_shows n h = (omega arith, near (omega arith), near (omega (arith, h)))

  pooled_shows : (caller : ℕ) → r.raw_offset + r.raw_len ≤ size_limit → Shows (values (Ok (Taken (next_handle r caller))))
  unfolding take_extent
  pooled_shows caller h = (omega arith, near (omega arith), rw (ne_eqb (suc r.used) 0 (λ z. omega (arith, z))) (near h))

  -- the refusal of a caller above 3 has two digits, and an accepted file has no such caller
  take_shows : (caller n : ℕ) → caller ≤ most_caller → Shows (values (take_step r.slots r caller n).answer)
  unfolding take_step take_on
  take_shows caller n l =
      rw (lt-leb caller_count caller (omega arith))
      (go (eqb (frame r).length 0) (ltb n (frame r).length) (leb most_serials (given_to r caller)) r.mode (omega (arith, gathered_within r S)))
    where
      go : (z long spent : Bool) (mode : PoolMode) → (frame_of mode r).start + (frame_of mode r).length ≤ size_limit
          → Shows (values (take_on false z long spent mode r.slots caller r).answer)
      go true long spent mode g = copied_shows 0 (omega arith)
      go false long true Back g = refused_shows NoSerials (omega arith)
      go false long false Back g = pooled_shows caller g
      go false long true (Front f) g = refused_shows NoSerials (omega arith)
      go false long false (Front f) g = pooled_shows caller g
      go false true spent Alloc g = refused_shows DestinationTooShort (omega arith)
      go false false spent Alloc g = copied_shows r.cursor (omega arith)

  release_shows : (h : Handle) → Shows (values (release_step r.slots r h).answer)
  unfolding release_step
  release_shows h =
      pick_cases (λ (c : Called). Shows (values c.answer)) (names r.slots r h) (λ e. placed_shows (values (Ok Done)) (omega arith) (omega arith) refl refl)
      (λ e. refused_shows NotLive (omega arith))

  -- the call of an event leaves such a record, and answers so
  abbrev Good : Called → Type 0
  Good c = Small c.pool × Shows (values c.answer)

  call_good : (m : Memories) (d : List ℕ) (x : Event) (h : Handle) → x.caller ≤ most_caller → Good (call_of r m d x h).call
  call_good m d x h l =
      call_by_steps r m Good (S, refused_shows Unsound (omega arith)) (S, refused_shows WrongLength (omega arith)) d x h
      (λ n. (small_kept r (kept.Reserve n) S, reserve_shows n)) (λ n. (small_kept r (kept.Commit n) S, commit_shows n))
      (λ n. (small_kept r (kept.Truncate n) S, truncate_shows n)) (λ n. (small_kept r (kept.Take x.caller n) S, take_shows x.caller n l))
      (small_kept r (kept.Release h) S, release_shows h)

  -- the handle that a caller and a serial give is of a live slot, which lies in the pool, or of none
  slot_near : (caller serial : ℕ) (o : Option ℕ) → IfSome o (Held r.slots r.live)
      → Near (extent (handle_at r caller serial o).start (handle_at r caller serial o).length)
  unfolding handle_at
  slot_near caller serial None z = (omega arith, omega arith)
  slot_near caller serial (Some p) H =
      let some : p ≡ 0 → ⊥ = λ z. omega (arith, z, H.one) in
      let end = end_some r.starts r.lengths p some (start_at r.starts p) (start_at r.lengths p) refl refl in
      near (omega (arith, end, (sound_inside r.slots r S.is_sound).slices p H, S.capacity_within))

  handle_near : (caller serial : ℕ) → Near (extent (handle_of r caller serial).start (handle_of r caller serial).length)
  unfolding handle_of slot_of
  handle_near caller serial =
      slot_near caller serial _ (slot_held r caller serial r.slots 1 (omega arith) (omega arith))

  -- what a line shows
  extent_near : (e : Event) (v : Values) → Shows v → Near (extent_of e.kind (handle_of r e.caller e.number) v)
  unfolding extent_of release_extent
  extent_near e v s =
      let h = handle_of r e.caller e.number in
      pick_cases Near (eqb e.kind take_kind) (λ t. s.2)
      (λ t. pick_cases Near (eqb e.kind release_kind)
      (λ u. pick_cases Near (eqb v.number 0) {a = extent h.start h.length} {b = extent 0 0} (λ w. handle_near e.caller e.number) (λ w. (omega arith, omega arith)))
      (λ u. s.1))

-- ---- The line of an event

-- a line shows a refusal of one digit, and no start and no length above the limit
pub record Narrow (s : Shown) : Type 0 where
  pub refusal_digit : s.refusal < 10
  pub start_within : s.place.start ≤ size_limit
  pub length_within : s.place.length ≤ size_limit
  pub frame_within : Starting size_limit s.frame

module _ (bytes : List ℕ) (s : Running) (e : Event) (S : Small s.state.pool) (l : e.caller ≤ most_caller) where
  abbrev r : BufferPool
  r = s.state.pool

  abbrev c : Called
  c = (call_of r (filled r (part bytes s.state.next (filling r e (length bytes - s.state.next))) s.memory) s.destination e
      (handle_of r e.caller e.number)).call

  good : Good r S c
  good = call_good r S _ s.destination e (handle_of r e.caller e.number) l

  pub step_small : Small (step bytes s e).step.state.pool
  unfolding step step_of
  step_small = good.0

  pub step_narrow : Narrow (step bytes s e).step.shown
  unfolding step step_of shown_of shown_so
  step_narrow =
      let x = extent_near r S e (values c.answer) good.1 in
      record {
        refusal_digit = good.1.0;
        start_within = x.0;
        length_within = x.1;
        frame_within =
            starts_within r.slots size_limit e.kind r _ S.is_sound (step_sound bytes s e r.slots S.is_sound) S.capacity_within
            good.0.capacity_within;
      }

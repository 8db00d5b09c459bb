-- What a run keeps: the record stays sound, so that every frame start is a small number; the trace bytes used are some of
-- those there are; and no count exceeds the number of events. Assumes nothing.
use mathlib.Core.Path.{◌≡◌, refl, sym, subst}
use mathlib.Core.Bool.{true, not, ◌&&◌, ◌||◌}
use mathlib.Core.List.{List, []}
use Prim.Native.Nat.{ℕ, ◌+◌, ◌-◌, ◌≤◌, ◌<◌, ◌^◌}
use native.Mathlib.Omega.{arith}
use borrow.Author.Tests.{ltb-false, eq-eqb, le-leb}
use lib.Dec.{ltb, eqb}
use lib.ListN.{length}
use Rattle.laws.proofs.Tests.{pick_cases, either_false}
use Rattle.buffer_pool.specs.declared.slice.Handle.{Handle}
use Rattle.buffer_pool.specs.declared.buffer_pool.BufferPool.{BufferPool}
use Rattle.buffer_pool.specs.declared.buffer_pool.PoolMode.{PoolMode}
use Rattle.buffer_pool.specs.declared.buffer_pool.PoolMode.TheVariants.{Back, Front, Alloc}
use Rattle.buffer_pool.specs.declared.buffer_pool.Called.{Called}
use Rattle.buffer_pool.specs.declared.refusals.Refusal.TheVariants.{Unsound, WrongLength}
use Rattle.buffer_pool.specs.Record.{rust_slots, byte_limit}
use Rattle.buffer_pool.specs.Values.{Values}
use Rattle.buffer_pool.specs.Moves.{Memories}
use Rattle.buffer_pool.specs.Soundness.{is_slot_count, sound}
use Rattle.buffer_pool.specs.Sound.{InMode}
use Rattle.buffer_pool.specs.Steps.{refused, reserve_step, commit_step, truncate_step, take_step, release_step}
use Rattle.buffer_pool.specs.Calls as calls
use Rattle.buffer_pool.specs.Calls.{Outcome, guarded_call, misfit, new, copied_out}
use Rattle.buffer_pool.proofs.Soundness.{sound_use}
use Rattle.buffer_pool.proofs.SoundKept as kept
use Rattle.buffer_pool.proofs.SoundKept.{sound_kept, sound_new}
use Rattle.trace.specs.declared.Event.{Event}
use Rattle.replay.specs.declared.event.Tally.{Tally}
use Rattle.replay.specs.declared.event.Starts.{Starts}
use Rattle.replay.specs.Slots.{handle_of}
use Rattle.replay.specs.Run.{counted, Within, in_pool, starts, starts_of, shown_so, shown_of, fills, filling, call_of, Running, step_of, step}

-- ---- The record stays sound

-- what holds of a call refused with 1 or 2, and of each call's step, holds of an event's call
module _ (r : BufferPool) (m : Memories) (P : Called → Type 0) (one : P (refused r Unsound)) (two : P (refused r WrongLength)) where
  guarded_by : (d : List ℕ) (o : Outcome) → P o.call → P (guarded_call r.slots r m d o).call
  guarded_by d o h =
      pick_cases (λ (x : Outcome). P x.call) (not (sound r.slots r)) (λ t. one)
      (λ t. pick_cases (λ (x : Outcome). P x.call) (misfit r m) (λ u. two) (λ u. h))

  pub call_by_steps : (d : List ℕ) (x : Event) (h : Handle) → ((n : ℕ) → P (reserve_step r.slots r n)) → ((n : ℕ) → P (commit_step r n))
      → ((n : ℕ) → P (truncate_step r n)) → ((n : ℕ) → P (take_step r.slots r x.caller n)) → P (release_step r.slots r h) → P (call_of r m d x h).call
  unfolding call_of calls.reserve calls.commit calls.truncate calls.take copied_out calls.release
  call_by_steps d x h reserve commit truncate take release =
      pick_cases (λ (o : Outcome). P o.call) (eqb x.kind 1) (λ t. guarded_by [] _ (reserve x.number))
      (λ t. pick_cases (λ (o : Outcome). P o.call) (eqb x.kind 2) (λ t. guarded_by [] _ (commit x.number))
      (λ t. pick_cases (λ (o : Outcome). P o.call) (eqb x.kind 3) (λ t. guarded_by d _ (take (length d)))
      (λ t. pick_cases (λ (o : Outcome). P o.call) (eqb x.kind 4) (λ t. guarded_by [] _ (truncate x.number))
      (λ t. guarded_by [] _ release))))

call_sound : (w : ℕ) (r : BufferPool) (m : Memories) (d : List ℕ) (x : Event) (h : Handle) → sound w r ≡ true
    → sound w (call_of r m d x h).call.pool ≡ true
call_sound w r m d x h e =
    call_by_steps r m (λ (c : Called). sound w c.pool ≡ true) e e d x h (λ n. own (kept.Reserve n)) (λ n. own (kept.Commit n))
    (λ n. own (kept.Truncate n)) (λ n. own (kept.Take x.caller n)) (own (kept.Release h))
  where
    -- a step with the record's own slot count, which is w
    own : (s : kept.Step) → sound w (kept.step r.slots r s).pool ≡ true
    own s = subst (λ (v : ℕ). sound w (kept.step v r s).pool ≡ true) (sym (sound_use w r e).orderly.ready.count_is) (sound_kept w r s e)

-- the record that an outcome leaves is sound
abbrev Sound : Outcome → Type 0
Sound o = sound rust_slots o.call.pool ≡ true

pub new_sound : (m : Memories) → Sound (new rust_slots m)
unfolding new is_slot_count
new_sound m =
    pick_cases Sound (ltb byte_limit (length m.pool) || ltb byte_limit (length m.overflow))
    (λ t. sound_new rust_slots 0 0 refl (omega arith) (omega arith))
    (λ t.
    let f = either_false (ltb byte_limit (length m.pool)) (ltb byte_limit (length m.overflow)) t in
    sound_new rust_slots (length m.pool) (length m.overflow) refl (ltb-false byte_limit (length m.pool) f.0)
    (ltb-false byte_limit (length m.overflow) f.1))

-- ---- Frame starts are small

offset_in : (w : ℕ) (r : BufferPool) (mode : PoolMode) → InMode w mode r r.reserved → r.raw_offset ≤ r.capacity
offset_in w r Back I = omega (arith, I.fits)
offset_in w r (Front f) I = omega (arith, I.fits, I.bytes_within)
offset_in w r Alloc I = omega (arith, I.no_offset)

offset_within : (w : ℕ) (r : BufferPool) → sound w r ≡ true → r.raw_offset ≤ r.capacity
offset_within w r e = offset_in w r r.mode (sound_use w r e).orderly.in_mode

-- both starts of a move are at most n
abbrev pub Starting : ℕ → Starts → Type 0
Starting n s = (s.before ≤ n) × (s.after ≤ n)

pub starts_within : (w n kind : ℕ) (r q : BufferPool) → sound w r ≡ true → sound w q ≡ true → r.capacity ≤ n → q.capacity ≤ n
    → Starting n (starts_of kind r q)
unfolding starts_of
starts_within w n kind r q e f a b =
    pick_cases (Starting n) (eqb kind 1 && (in_pool r.mode && in_pool q.mode)) {a = starts r.raw_offset q.raw_offset} {b = starts 0 0}
    (λ t. (omega (arith, offset_within w r e), omega (arith, offset_within w q f))) (λ t. (omega arith, omega arith))

-- ---- Trace bytes, and counts

-- a commit that is not refused fills as many bytes as it commits, if there are as many left
pub filling_whole : (r : BufferPool) (e : Event) (left : ℕ) → e.kind ≡ 2 → e.number ≤ r.reserved → e.number ≤ left → e.number ≡ filling r e left
unfolding filling fills
filling_whole r e left k h l = rw (eq-eqb e.kind 2 k, le-leb e.number r.reserved h) (omega arith)

filling_left : (r : BufferPool) (e : Event) (left : ℕ) → filling r e left ≤ left
unfolding filling
filling_left r e left = pick_cases (λ (k : ℕ). k ≤ left) (fills r e) (λ t. omega arith) (λ t. omega arith)

counted_within : (n : ℕ) (t : Tally) (v : Values) → Within n t → Within (n + 1) (counted t v)
unfolding counted
counted_within n t v w = (omega (arith, w.0), omega (arith, w.1), omega (arith, w.2), omega (arith, w.3))

-- ---- An event

module _ (bytes : List ℕ) (s : Running) (e : Event) where
  pub step_sound : (w : ℕ) → sound w s.state.pool ≡ true → sound w (step bytes s e).step.state.pool ≡ true
  unfolding step step_of
  step_sound w h = call_sound w s.state.pool _ s.destination e (handle_of s.state.pool e.caller e.number) h

  pub step_starts : (w : ℕ) → sound w s.state.pool ≡ true → Starting byte_limit (step bytes s e).step.shown.frame
  unfolding step step_of shown_of shown_so
  step_starts w h =
      let k = step_sound w h in
      starts_within w byte_limit e.kind s.state.pool _ h k (sound_use w _ h).capacity_limit (sound_use w _ k).capacity_limit

  -- the live word has a bit for each slot
  pub step_live : (w : ℕ) → sound w s.state.pool ≡ true → (step bytes s e).step.shown.live < 2 ^ w
  unfolding step step_of shown_of shown_so
  step_live w h = (sound_use w _ (step_sound w h)).orderly.ready.slots.live_fits

  pub step_next : s.state.next ≤ length bytes → (step bytes s e).step.state.next ≤ length bytes
  unfolding step step_of
  step_next h = omega (arith, filling_left s.state.pool e (length bytes - s.state.next))

  pub step_within : (n : ℕ) → Within n s.state.tally → Within (n + 1) (step bytes s e).step.state.tally
  unfolding step step_of
  step_within n w = counted_within n s.state.tally _ w

-- A refused call leaves record, both memories and a take's destination as they were: for every record and memories, sound or
-- not. Refused by 1 or 2, nothing was begun; refused by a cause of its own, each call's step gives back what it got. Assumes
-- nothing.
use mathlib.Core.Path.{◌≡◌, refl, ap, ◌∙◌}
use mathlib.Core.Bool.{Bool, true, false, not, ◌||◌}
use mathlib.Core.List.{List, []}
use mathlib.Core.Logic.{◌⊎◌, inl, inr}
use Prim.Native.Nat.{ℕ, ◌≤◌, ◌<◌}
use native.Mathlib.Omega.{arith}
use borrow.Author.Tests.{le-ltb}
use lib.Dec.{leb, ltb, eqb}
use lib.ListN.{length}
use Rattle.laws.specs.Tests.{pick}
use Rattle.laws.specs.Lists.{part, copied}
use Rattle.laws.proofs.Tests.{pick_cases}
use Rattle.buffer_pool.specs.declared.slice.Handle.{Handle}
use Rattle.buffer_pool.specs.declared.buffer_pool.BufferPool.{BufferPool}
use Rattle.buffer_pool.specs.declared.buffer_pool.PoolMode.{PoolMode}
use Rattle.buffer_pool.specs.declared.buffer_pool.PoolMode.TheVariants.{Back, Front, Alloc}
use Rattle.buffer_pool.specs.declared.buffer_pool.Memory.TheVariants.{Pool}
use Rattle.buffer_pool.specs.declared.buffer_pool.Place.{Place}
use Rattle.buffer_pool.specs.declared.buffer_pool.Called.{Called}
use Rattle.buffer_pool.specs.Record.{byte_limit, caller_count}
use Rattle.buffer_pool.specs.Moves.{Memories, perform}
use Rattle.buffer_pool.specs.Placing.{place, is_too_long}
use Rattle.buffer_pool.specs.Soundness.{is_slot_count, sound}
use Rattle.buffer_pool.specs.Values.{refusal, values, View, view_refusal, view_place}
use Rattle.buffer_pool.specs.Steps.{refused, at, frame, reserve_on, reserve_step, commit_step, truncate_step, most_serials, given_to, take_on, take_step, take_moves, names, release_step}
use Rattle.std.specs.Prelude.{Ok, Err}
use Rattle.buffer_pool.specs.declared.refusals.Refusal.{Refusal}
use Rattle.buffer_pool.specs.declared.refusals.Refusal.TheVariants.{Unsound, WrongLength, MemoryTooLong, OverflowTooShort, CommitTooLong, DestinationTooShort, NotLive, NoSerials, UnknownCaller, WrongSlotCount}
use Rattle.buffer_pool.specs.Calls.{Outcome, outcome, misfit, guarded, guarded_call, new_refused, new_done, new_on, new, reserve, commit, truncate, copied_out, take, release, hidden, frame_view, reservation_view, slice_view, written}
use Rattle.buffer_pool.specs.Vocabulary.{Part, TheFrame, TheReservation, TheSlice, Call, Reserve, Commit, Truncate, Take, Release, Look, view_of, view_answer, call, number_of, destination_of}
use Rattle.buffer_pool.specs.Causes.{too_large, wrong_count}

-- an outcome that, where it is a refusal, leaves these
abbrev Keeps : BufferPool → Memories → List ℕ → Outcome → Type 0
Keeps r m destination o =
    0 < refusal o.call.answer → (why : Refusal) × (o ≡ outcome (refused r why) m destination)

module _ (w : ℕ) (r : BufferPool) (m : Memories) where
  guarded_keeps : (destination : List ℕ) (o : Outcome) → Keeps r m destination o
      → Keeps r m destination (guarded_call w r m destination o)
  unfolding refusal
  guarded_keeps destination o k = go (sound w r) (misfit r m)
    where
      refuse : Refusal → Outcome
      refuse why = outcome (refused r why) m destination

      go : (a b : Bool) → Keeps r m destination (pick (not a) (refuse Unsound) (pick b (refuse WrongLength) o))
      go false b = λ h. (Unsound, refl)
      go true true = λ h. (WrongLength, refl)
      go true false = k

  reserve_keeps : (len : ℕ)
      → Keeps r m [] (outcome (reserve_step w r len) (pick (is_too_long (place w r len) len) m (perform (place w r len).moves m)) [])
  unfolding reserve_step reserve_on refusal
  reserve_keeps len = go (is_too_long (place w r len) len)
    where
      go : (t : Bool) → Keeps r m [] (outcome (reserve_on t r (place w r len)) (pick t m (perform (place w r len).moves m)) [])
      go true h = (OverflowTooShort, refl)
      go false h = absurd (omega arith)

  commit_keeps : (n : ℕ) → Keeps r m [] (outcome (commit_step r n) m [])
  unfolding commit_step refusal
  commit_keeps n =
      pick_cases (λ (c : Called). Keeps r m [] (outcome c m [])) (ltb r.reserved n) (λ e h. (CommitTooLong, refl)) (λ e h. absurd (omega arith))

  truncate_keeps : (n : ℕ) → Keeps r m [] (outcome (truncate_step r n) m [])
  unfolding truncate_step refusal
  truncate_keeps n h = absurd (omega arith)

  take_keeps : (caller : ℕ) (destination : List ℕ) → let c = take_step w r caller (length destination) in
      Keeps r m destination (copied_out c r m destination (values c.answer).length)
  unfolding take_step take_on refusal copied_out take_moves perform copied part
  take_keeps caller destination =
      go (leb caller_count caller) (eqb (frame r).length 0) (ltb (length destination) (frame r).length)
      (leb most_serials (given_to r caller)) r.mode
    where
      taking : Called → Outcome
      taking c = copied_out c r m destination (values c.answer).length

      go : (none z long spent : Bool) (mode : PoolMode)
          → Keeps r m destination (taking (take_on none z long spent mode w caller r))
      go true z long spent mode h = (UnknownCaller, refl)
      go false true long spent mode h = absurd (omega arith)
      go false false long true Back h = (NoSerials, refl)
      go false false long false Back h = absurd (omega arith)
      go false false long true (Front f) h = (NoSerials, refl)
      go false false long false (Front f) h = absurd (omega arith)
      go false false true spent Alloc h = (DestinationTooShort, refl)
      go false false false spent Alloc h = absurd (omega arith)

  release_keeps : (h : Handle) → Keeps r m [] (outcome (release_step w r h) m [])
  unfolding release_step refusal
  release_keeps h =
      pick_cases (λ (c : Called). Keeps r m [] (outcome c m [])) (names w r h) (λ e k. absurd (omega arith)) (λ e k. (NotLive, refl))

  pub refused_keeps : (c : Call) → 0 < number_of w r m c
      → (why : Refusal) × (call w r m c ≡ outcome (refused r why) m (destination_of c))
  unfolding number_of call reserve commit truncate take release view_answer refusal
  refused_keeps (Reserve len) = guarded_keeps [] _ (reserve_keeps len)
  refused_keeps (Commit n) = guarded_keeps [] _ (commit_keeps n)
  refused_keeps (Truncate n) = guarded_keeps [] _ (truncate_keeps n)
  refused_keeps (Take caller destination) = guarded_keeps destination _ (take_keeps caller destination)
  refused_keeps (Release h) = guarded_keeps [] _ (release_keeps h)
  refused_keeps (Look seen) = go (view_of w r m seen)
    where
      go : (v : View) → Keeps r m [] (outcome (record { pool = r; answer = view_answer v }) m [])
      go (Ok place) h = absurd (omega arith)
      go (Err why) h = (why, refl)

-- SPECIFICATION 3.6: "A refused view is an empty place: the pool memory, start 0, length 0"
module _ (w : ℕ) (r : BufferPool) (m : Memories) where
  abbrev Hides : View → Type 0
  Hides v = 0 < view_refusal v → (why : Refusal) × (v ≡ hidden why)

  guarded_hides : (v : View) → Hides v → Hides (guarded w r m hidden v)
  guarded_hides v k = go (sound w r) (misfit r m)
    where
      go : (a b : Bool) → Hides (pick (not a) (hidden Unsound) (pick b (hidden WrongLength) v))
      go false b = λ h. (Unsound, refl)
      go true true = λ h. (WrongLength, refl)
      go true false = k

  pub refused_view : (part : Part) → 0 < view_refusal (view_of w r m part) → (why : Refusal) × (view_of w r m part ≡ hidden why)
  unfolding view_of frame_view reservation_view slice_view
  refused_view TheFrame = guarded_hides _ (λ h. absurd (omega arith))
  refused_view TheReservation = guarded_hides _ (λ h. absurd (omega arith))
  refused_view (TheSlice h) = guarded_hides _ (pick_cases Hides (names w r h) (λ e k. absurd (omega arith)) (λ e k. (NotLive, refl)))

  -- past a place's end a write sets no byte, and a refused view has none
  pub past_written : (p : Place) (i byte : ℕ) → p.length ≤ i → written m p i byte ≡ m
  unfolding written
  past_written p i byte h = rw (le-ltb i p.length h) refl

  pub refused_written : (part : Part) (i byte : ℕ) → 0 < view_refusal (view_of w r m part) → written m (view_place (view_of w r m part)) i byte ≡ m
  refused_written part i byte h =
      ap (λ (v : View). written m (view_place v) i byte) (refused_view part h).1 ∙ past_written (at Pool 0 0) i byte (omega arith)

-- ---- New

pub new_cases : (w : ℕ) (m : Memories)
    → ((wrong_count w ≡ false) × (too_large m ≡ false) × (new w m ≡ new_done w m))
    ⊎ (((wrong_count w ≡ true) × (new w m ≡ new_refused WrongSlotCount m))
    ⊎ ((wrong_count w ≡ false) × (too_large m ≡ true) × (new w m ≡ new_refused MemoryTooLong m)))
unfolding new too_large wrong_count
new_cases w m = go (is_slot_count w) (ltb byte_limit (length m.pool) || ltb byte_limit (length m.overflow))
  where
    go : (i t : Bool) → ((not i ≡ false) × (t ≡ false) × (new_on i t w m ≡ new_done w m))
        ⊎ (((not i ≡ true) × (new_on i t w m ≡ new_refused WrongSlotCount m)) ⊎ ((not i ≡ false) × (t ≡ true) × (new_on i t w m ≡ new_refused MemoryTooLong m)))
    go true false = inl (refl, refl, refl)
    go false t = inr (inl (refl, refl))
    go true true = inr (inr (refl, refl, refl))

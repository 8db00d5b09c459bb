-- What turns every call away and what holds of a record that is not turned away, and the laws of `BufferPool::new`, from what the code knows
-- where it returns. Assumes nothing.
use mathlib.Core.Path.{◌≡◌, refl, sym, ap, ◌∙◌}
use mathlib.Core.Bool.{Bool, true, false, not}
use mathlib.Core.List.{List, [], append-nil}
use Rattle.std.specs.Prelude.{⊤, Result, IsErrAnd, Ok, Err}
use Prim.Native.Nat.{ℕ, ◌+◌, ◌≤◌, ◌<◌}
use native.Mathlib.Nat.{le_refl, sub-zero}
use native.Mathlib.Omega.{arith}
use lib.Dec.{eqb}
use lib.ListN.{length, replicate, drop_of_length-le}
use borrow.Author.Tests.{lt-ltb, le-ltb, eq-eqb, ne_eqb, eqb-true}
use Rattle.laws.specs.Tests.{pick}
use Rattle.laws.specs.Lists.{zeroed}
use Rattle.laws.proofs.Tests.{both_true, no_true, not_true, not_false}
use Rattle.buffer_pool.specs.declared.buffer_pool.BufferPool.{BufferPool}
use Rattle.buffer_pool.specs.declared.buffer_pool.PoolMode.{PoolMode}
use Rattle.buffer_pool.specs.declared.buffer_pool.PoolMode.TheVariants.{Back, Front, Alloc}
use Rattle.buffer_pool.specs.declared.buffer_pool.Answer.TheVariants.{Done}
use Rattle.buffer_pool.specs.declared.buffer_pool.Called.{Called}
use Rattle.buffer_pool.specs.declared.refusals.Refusal.{Refusal}
use Rattle.buffer_pool.specs.declared.refusals.Refusal.TheVariants.{Unsound, WrongLength, MemoryTooLong, WrongSlotCount}
use Rattle.buffer_pool.specs.Record.{most_slots, byte_limit, new_record}
use Rattle.buffer_pool.specs.Moves.{Memories, memories}
use Rattle.buffer_pool.specs.Placing.{is_alloc}
use Rattle.buffer_pool.specs.Deciding.{Worded, Placeable}
use Rattle.buffer_pool.specs.Soundness.{is_slot_count, sound}
use Rattle.buffer_pool.specs.Sound.{Orderly, InMode}
use Rattle.buffer_pool.specs.Steps.{refused, frame_of}
use Rattle.buffer_pool.specs.Calls.{Outcome, outcome, misfit, guarded, guard, guarded_call, new_refused_by, new}
use Rattle.buffer_pool.proofs.Soundness.{sound_use}
use Rattle.buffer_pool.proofs.Parts.{ready_worded}
use Rattle.buffer_pool.proofs.DecidingLaws.{fit_placeable}
use Rattle.buffer_pool.proofs.ReserveKept.{kept_fit}

-- ---- What turns every call away

module _ (p : BufferPool) (m : Memories) (b : Bool) (e : b ≡ sound p.slots p) where
  pub guard_unsound : not b ≡ true → Err Unsound ≡ guard p.slots p m
  unfolding guard
  guard_unsound h = rw (← e, not_true b h)

  module _ (h : not b ≡ false) where
    pub guard_pool_length : (length m.pool ≡ p.capacity → ⊥) → Err WrongLength ≡ guard p.slots p m
    unfolding guard misfit
    guard_pool_length n = rw (← e, not_false b h, ne_eqb (length m.pool) p.capacity n)

    module _ (c : length m.pool ≡ p.capacity) where
      pub guard_overflow_length : (length m.overflow ≡ p.overflow → ⊥) → Err WrongLength ≡ guard p.slots p m
      unfolding guard misfit
      guard_overflow_length n =
          rw (← e, not_false b h, eq-eqb (length m.pool) p.capacity c, ne_eqb (length m.overflow) p.overflow n)

      pub guard_passes : length m.overflow ≡ p.overflow → Ok tt ≡ guard p.slots p m
      unfolding guard misfit
      guard_passes o = rw (← e, not_false b h, eq-eqb (length m.pool) p.capacity c, eq-eqb (length m.overflow) p.overflow o)

-- a guarded answer, by the guard's two tests: is the record sound, do the memories not fit
abbrev guard_by : Bool → Bool → Result ⊤ Refusal
guard_by s f = pick (not s) (Err Unsound) (pick f (Err WrongLength) (Ok tt))

abbrev is_refused : Result ⊤ Refusal → Bool
is_refused (Ok x) = false
is_refused (Err why) = true

abbrev why_refused : Refusal → Result ⊤ Refusal → Refusal
why_refused other (Ok x) = other
why_refused other (Err why) = why

guarded_by : {A : Type 0} (s f : Bool) (refuse : Refusal → A) (done : A) (why : Refusal) → Err why ≡ guard_by s f
    → refuse why ≡ pick (not s) (refuse Unsound) (pick f (refuse WrongLength) done)
guarded_by true true refuse done why e = ap refuse (ap (why_refused Unsound) e)
guarded_by true false refuse done why e = absurd (no_true (sym (ap is_refused e)))
guarded_by false f refuse done why e = ap refuse (ap (why_refused Unsound) e)

passed_by : {A : Type 0} (s f : Bool) (refuse : Refusal → A) (done : A) → Ok tt ≡ guard_by s f
    → done ≡ pick (not s) (refuse Unsound) (pick f (refuse WrongLength) done)
passed_by true true refuse done e = absurd (no_true (ap is_refused e))
passed_by true false refuse done e = refl
passed_by false f refuse done e = absurd (no_true (ap is_refused e))

sound_by : (s f : Bool) → Ok tt ≡ guard_by s f → s ≡ true
sound_by true f e = refl
sound_by false f e = absurd (no_true (ap is_refused e))

fits_by : (s f : Bool) → Ok tt ≡ guard_by s f → f ≡ false
fits_by true true e = absurd (no_true (ap is_refused e))
fits_by true false e = refl
fits_by false f e = absurd (no_true (ap is_refused e))

-- the exit of a `?`: the error is handed on as it is
pub err_is : {A E : Type 0} (r : Result A E) (e : E) → IsErrAnd r (λ y. y ≡ e) → r ≡ Err e
err_is (Ok x) e h = absurd h
err_is (Err y) e h = ap (λ z. Err z) h

module _ (p : BufferPool) (m : Memories) where
  -- a call that is turned away
  module _ (why : Refusal) (e : Err why ≡ guard p.slots p m) where
    pub turned : {A : Type 0} (refuse : Refusal → A) (done : A) → refuse why ≡ guarded p.slots p m refuse done
    unfolding guard
    turned refuse done = guarded_by (sound p.slots p) (misfit p m) refuse done why e

    pub turned_away : (destination : List ℕ) (done : Outcome) → outcome (refused p why) m destination ≡ guarded_call p.slots p m destination done
    turned_away destination done = turned (λ x. outcome (refused p x) m destination) done

  -- and one that is not
  module _ (e : Ok tt ≡ guard p.slots p m) where
    pub through : {A : Type 0} (refuse : Refusal → A) (done : A) → done ≡ guarded p.slots p m refuse done
    unfolding guard
    through refuse done = passed_by (sound p.slots p) (misfit p m) refuse done e

    pub let_through : (destination : List ℕ) (o done : Outcome) → o ≡ done → o ≡ guarded_call p.slots p m destination done
    let_through destination o done f = f ∙ through (λ x. outcome (refused p x) m destination) done

    pub through_sound : sound p.slots p ≡ true
    unfolding guard
    through_sound = sound_by (sound p.slots p) (misfit p m) e

    pub through_orderly : Orderly p.slots p
    through_orderly = (sound_use p.slots p through_sound).orderly

    pub through_capacity : p.capacity ≤ 4294967295
    through_capacity = omega (arith, (sound_use p.slots p through_sound).capacity_limit)

    pub through_worded : Worded p
    through_worded = ready_worded p.slots p through_orderly.ready

    pub through_most : p.slots ≤ most_slots
    through_most = through_worded.most

    pub through_back : p.back_start + p.back_len ≤ p.slots
    through_back = through_orderly.ready.back_within

    pub through_pool : length m.pool ≡ p.capacity
    unfolding guard misfit
    through_pool = eqb-true (length m.pool) p.capacity (both_true _ _ (not_false _ (fits_by (sound p.slots p) (misfit p m) e))).0

    pub through_overflow : length m.overflow ≡ p.overflow
    unfolding guard misfit
    through_overflow =
        eqb-true (length m.overflow) p.overflow (both_true (eqb (length m.pool) p.capacity) _ (not_false _ (fits_by (sound p.slots p) (misfit p m) e))).1

-- ---- What a call knows of a record that is not turned away

-- what place asks of a record
pub orderly_placeable : (p : BufferPool) → Orderly p.slots p → Placeable p.slots p
orderly_placeable p O = fit_placeable p.slots p (kept_fit p.slots p O)

pub orderly_cursor : (p : BufferPool) → Orderly p.slots p → is_alloc p.mode ≡ true → p.cursor ≤ p.kept
orderly_cursor p O e = go p.mode e O.in_mode
  where
    go : (mode : PoolMode) → is_alloc mode ≡ true → InMode p.slots mode p p.reserved → p.cursor ≤ p.kept
    go Back e I = absurd (no_true e)
    go (Front f) e I = absurd (no_true e)
    go Alloc e I = omega (arith, I.fits)

-- the frame ends within a memory, whose length is a 64-bit number
pub frame_end_lem : (w : ℕ) (q : BufferPool) → Orderly w q → q.capacity ≤ byte_limit → q.overflow ≤ byte_limit → (frame_of q.mode q).start + (frame_of q.mode q).length ≤ 18446744073709551615
frame_end_lem w q O c o = go q.mode O.in_mode
  where
    go : (mode : PoolMode) → InMode w mode q q.reserved → (frame_of mode q).start + (frame_of mode q).length ≤ 18446744073709551615
    go Back I = omega (arith, I.fits)
    go (Front f) I = omega (arith, I.fits, I.bytes_within)
    go Alloc I = omega (arith, I.fits, O.kept_within)

-- ---- New

all_zeroed : (l : List ℕ) → zeroed l 0 (length l) ≡ replicate (length l) 0
unfolding zeroed
all_zeroed l = rw (drop_of_length-le l (le_refl (length l)), append-nil, sub-zero)

module _ (w : ℕ) (pool overflow : List ℕ) (b : Bool) (i : b ≡ is_slot_count w) where
  pub new_other_count : not b ≡ true → (c : Called) → c ≡ new_refused_by WrongSlotCount
      → outcome c (memories pool overflow) [] ≡ new w (memories pool overflow)
  unfolding new
  new_other_count j c e = rw (e, ← i, not_true b j)

  module _ (j : not b ≡ false) where
    pub new_pool_long : 1048576 < length pool → (c : Called) → c ≡ new_refused_by MemoryTooLong
        → outcome c (memories pool overflow) [] ≡ new w (memories pool overflow)
    unfolding new
    new_pool_long h c e = rw (e, ← i, not_false b j, lt-ltb 1048576 (length pool) h)

    module _ (h : length pool ≤ 1048576) where
      pub new_overflow_long : 1048576 < length overflow → (c : Called) → c ≡ new_refused_by MemoryTooLong
          → outcome c (memories pool overflow) [] ≡ new w (memories pool overflow)
      unfolding new
      new_overflow_long k c e =
          rw (e, ← i, not_false b j, le-ltb 1048576 (length pool) h, lt-ltb 1048576 (length overflow) k)

      pub new_done_lem : length overflow ≤ 1048576 → (cleared : List ℕ) → cleared ≡ zeroed pool 0 (length pool)
          → (q : BufferPool) → q ≡ new_record w (length pool) (length overflow)
          → outcome (record { pool = q; answer = Ok Done }) (memories cleared overflow) [] ≡ new w (memories pool overflow)
      unfolding new
      new_done_lem k cleared z q e =
          rw (z, e, ← i, not_false b j, le-ltb 1048576 (length pool) h, le-ltb 1048576 (length overflow) k, all_zeroed pool)

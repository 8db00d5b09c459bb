-- Soundness is an invariant, and what it gives: a new pool is sound, every record step on a sound record leaves a sound one,
-- refused or not, and in a sound record no range leaves its memory or overlaps another. Each statement is proved for the
-- propositions of Sound.antt in the other files; here it is said of the test. Assumes nothing.
use mathlib.Core.Path.{◌≡◌}
use mathlib.Core.Bool.{true}
use Prim.Native.Nat.{ℕ, ◌≤◌, ◌<◌}
use native.Mathlib.Omega.{arith}
use Rattle.buffer_pool.specs.declared.slice.Handle.{Handle}
use Rattle.buffer_pool.specs.declared.buffer_pool.BufferPool.{BufferPool}
use Rattle.buffer_pool.specs.declared.buffer_pool.Called.{Called}
use Rattle.buffer_pool.specs.Record.{byte_limit, new_record}
use Rattle.buffer_pool.specs.Soundness.{is_slot_count, sound}
use Rattle.buffer_pool.specs.Sound.{Orderly}
use Rattle.buffer_pool.specs.Steps.{reserve_step, commit_step, truncate_step, take_step, release_step}
use Rattle.buffer_pool.proofs.Soundness.{sound_use, sound_make}
use Rattle.buffer_pool.proofs.ReserveKept.{reserve_kept}
use Rattle.buffer_pool.proofs.StepsKept.{new_orderly, commit_kept, truncate_kept, take_kept, release_kept}
use Rattle.buffer_pool.proofs.Unchanged.{SameSizes, reserve_sizes, commit_sizes, truncate_sizes, take_sizes, release_sizes}
use Rattle.buffer_pool.proofs.Ranges.{Inside, Separate, Claimable, orderly_inside, orderly_apart, orderly_claim}

-- ---- The invariant

pub sound_new : (w capacity overflow : ℕ) → is_slot_count w ≡ true → capacity ≤ byte_limit → overflow ≤ byte_limit
    → sound w (new_record w capacity overflow) ≡ true
sound_new w capacity overflow h c o =
    sound_make w _ (record { capacity_limit = c; overflow_limit = o; orderly = new_orderly w capacity overflow h })

-- a call that may replace the record, as far as the record's next state depends on it: of a take's destination its length
pub data Step : Type 0 where
  Reserve : ℕ → Step
  Commit : ℕ → Step
  Truncate : ℕ → Step
  -- by this caller
  Take : ℕ → ℕ → Step
  Release : Handle → Step

abbrev pub step : ℕ → BufferPool → Step → Called
step w r (Reserve len) = reserve_step w r len
step w r (Commit n) = commit_step r n
step w r (Truncate n) = truncate_step r n
step w r (Take caller destination) = take_step w r caller destination
step w r (Release h) = release_step w r h

pub step_orderly : (w : ℕ) (r : BufferPool) (s : Step) → Orderly w r → Orderly w (step w r s).pool
step_orderly w r (Reserve len) S = reserve_kept w r len S
step_orderly w r (Commit n) S = commit_kept w r n S
step_orderly w r (Truncate n) S = truncate_kept w r n S
step_orderly w r (Take caller destination) S = take_kept w r caller destination S
step_orderly w r (Release h) S = release_kept w r h S

-- the lengths of the two memories stay, and the slot count
pub step_sizes : (w : ℕ) (r : BufferPool) (s : Step) → SameSizes r (step w r s).pool
step_sizes w r (Reserve len) = reserve_sizes r w len
step_sizes w r (Commit n) = commit_sizes r n
step_sizes w r (Truncate n) = truncate_sizes r n
step_sizes w r (Take caller destination) = take_sizes r w caller destination
step_sizes w r (Release h) = release_sizes r w h

pub sound_kept : (w : ℕ) (r : BufferPool) (s : Step) → sound w r ≡ true → sound w (step w r s).pool ≡ true
sound_kept w r s e =
    let S = sound_use w r e in
    let z = step_sizes w r s in
    sound_make w _
    (record {
      capacity_limit = omega (arith, z.0, S.capacity_limit);
      overflow_limit = omega (arith, z.1, S.overflow_limit);
      orderly = step_orderly w r s S.orderly;
    })

-- ---- What it gives

module _ (w : ℕ) (r : BufferPool) (e : sound w r ≡ true) where
  pub sound_inside : Inside w r
  sound_inside = orderly_inside w r (sound_use w r e).orderly

  pub sound_apart : Separate w r
  sound_apart = orderly_apart w r (sound_use w r e).orderly

  pub claim_free : 0 < r.raw_len → Claimable w r
  claim_free = orderly_claim w r (sound_use w r e).orderly

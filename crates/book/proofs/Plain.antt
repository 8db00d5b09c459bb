-- On a sound record, a call lent memories of its lengths does what the call's step says, and a call lent others is refused
-- with 2. Assumes nothing.
use mathlib.Core.Path.{◌≡◌, ap}
use mathlib.Core.Bool.{true, false}
use mathlib.Core.List.{List, []}
use Prim.Native.Nat.{ℕ}
use borrow.Author.Tests.{eq-eqb}
use lib.ListN.{length}
use Rattle.laws.specs.Tests.{pick}
use Rattle.buffer_pool.specs.declared.buffer_pool.BufferPool.{BufferPool}
use Rattle.buffer_pool.specs.declared.buffer_pool.Memory.TheVariants.{Pool}
use Rattle.buffer_pool.specs.declared.buffer_pool.Called.{Called}
use Rattle.buffer_pool.specs.Moves.{Memories, perform}
use Rattle.buffer_pool.specs.Placing.{place, is_too_long}
use Rattle.buffer_pool.specs.Soundness.{sound}
use Rattle.buffer_pool.specs.Values.{values, View}
use Rattle.buffer_pool.specs.Steps.{called, refused, at, frame, reservation, reserve_step, commit_step, truncate_step, take_step, names, release_step}
use Rattle.buffer_pool.specs.declared.refusals.Refusal.TheVariants.{WrongLength, NotLive}
use Rattle.buffer_pool.specs.Calls.{Outcome, outcome, misfit, reserve, commit, truncate, copied_out, take, release, shown, hidden, frame_view, reservation_view, slice_view}
use Rattle.buffer_pool.specs.Vocabulary.{Part, TheFrame, TheReservation, TheSlice, Call, Reserve, Commit, Truncate, Take, Release, Look, destination_of, view_of, view_answer, call}
use Rattle.buffer_pool.proofs.Unchanged.{fixed}
use Rattle.book.proofs.Carried.{Sized}

abbrev pub plain_view : ℕ → BufferPool → Part → View
plain_view w r TheReservation = shown (reservation r)
plain_view w r TheFrame = shown (frame r)
plain_view w r (TheSlice h) = pick (names w r h) (shown (at Pool h.start h.length)) (hidden NotLive)

-- a take with this step
abbrev pub plain_take : BufferPool → Memories → List ℕ → Called → Outcome
plain_take r m destination call = copied_out call r m destination (values call.answer).length

abbrev pub plain : ℕ → BufferPool → Memories → Call → Outcome
plain w r m (Reserve len) =
    outcome (reserve_step w r len) (pick (is_too_long (place w r len) len) m (perform (place w r len).moves m)) []
plain w r m (Commit n) = outcome (commit_step r n) m []
plain w r m (Truncate n) = outcome (truncate_step r n) m []
plain w r m (Take caller destination) = plain_take r m destination (take_step w r caller (length destination))
plain w r m (Release h) = outcome (release_step w r h) m []
plain w r m (Look v) = outcome (called r (view_answer (plain_view w r v))) m []

pub sized_fits : (r : BufferPool) (m : Memories) → Sized (fixed r) m → misfit r m ≡ false
unfolding misfit
sized_fits r m Z =
    rw (eq-eqb (length m.pool) r.capacity Z.pool_is, eq-eqb (length m.overflow) r.overflow Z.overflow_is)

module _ (w : ℕ) (r : BufferPool) (m : Memories) (e : sound w r ≡ true) where
  pub view_own : misfit r m ≡ false → (v : Part) → view_of w r m v ≡ plain_view w r v
  unfolding view_of reservation_view frame_view slice_view
  view_own f TheReservation = rw (e, f)
  view_own f TheFrame = rw (e, f)
  view_own f (TheSlice h) = rw (e, f)

  pub call_own : misfit r m ≡ false → (c : Call) → call w r m c ≡ plain w r m c
  unfolding call reserve commit truncate take release
  call_own f (Reserve len) = rw (e, f)
  call_own f (Commit n) = rw (e, f)
  call_own f (Truncate n) = rw (e, f)
  call_own f (Take caller destination) = rw (e, f)
  call_own f (Release h) = rw (e, f)
  call_own f (Look v) = ap (λ (x : View). outcome (called r (view_answer x)) m []) (view_own f v)

  view_other : misfit r m ≡ true → (v : Part) → view_of w r m v ≡ hidden WrongLength
  unfolding view_of reservation_view frame_view slice_view
  view_other f TheReservation = rw (e, f)
  view_other f TheFrame = rw (e, f)
  view_other f (TheSlice h) = rw (e, f)

  pub call_other : misfit r m ≡ true → (c : Call) → call w r m c ≡ outcome (refused r WrongLength) m (destination_of c)
  unfolding call view_answer reserve commit truncate take release
  call_other f (Reserve len) = rw (e, f)
  call_other f (Commit n) = rw (e, f)
  call_other f (Truncate n) = rw (e, f)
  call_other f (Take caller destination) = rw (e, f)
  call_other f (Release h) = rw (e, f)
  call_other f (Look v) = ap (λ (x : View). outcome (called r (view_answer x)) m []) (view_other f v)

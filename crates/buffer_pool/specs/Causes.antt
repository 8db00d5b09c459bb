-- What turns a call away: the table of SPECIFICATION 3.3, one definition a row, and the order of 3.4. proofs/OnlyForCause.antt
-- shows that every call is refused with the first of its causes that holds, and only then; proofs/RefusedKeeps.antt that it then
-- leaves everything.
use Rattle.std.specs.Prelude.{◌≡◌, Bool, true, false, not, ◌&&◌, ◌||◌, List, [], ◌∷◌, ◌⊎◌, ℕ, suc, ◌+◌, leb, ltb, eqb, length}
use Rattle.laws.specs.Tests.{pick}
use Rattle.laws.specs.Live.{live_at}
use Rattle.buffer_pool.specs.declared.slice.Handle.{Handle}
use Rattle.buffer_pool.specs.declared.buffer_pool.BufferPool.{BufferPool}
use Rattle.buffer_pool.specs.declared.buffer_pool.Memory.{Memory}
use Rattle.buffer_pool.specs.declared.buffer_pool.Memory.TheVariants.{Pool, Overflow}
use Rattle.buffer_pool.specs.Record.{cut, byte_limit, start_at}
use Rattle.buffer_pool.specs.Moves.{Memories}
use Rattle.buffer_pool.specs.Placing.{most_changes}
use Rattle.buffer_pool.specs.Soundness.{is_slot_count, sound}
use Rattle.buffer_pool.specs.Steps.{frame, reservation, most_serials, given_to}
use Rattle.buffer_pool.specs.Calls.{misfit}
use Rattle.buffer_pool.specs.Rust.{Run, done, panic, Reply, rust_reserve}
use Rattle.buffer_pool.specs.AsRust.{rust_of, heap_of}
use Rattle.buffer_pool.specs.Vocabulary.{Part, TheFrame, TheReservation, TheSlice, Call, Reserve, Commit, Truncate, Take, Release, Look}

-- ---- The causes: 2 is `misfit` of Calls.antt

-- 1: "the record fails the soundness test"
unfoldable pub unsound : ℕ → BufferPool → Bool
unsound w r = not (sound w r)

-- 3: "either memory has more than 1,048,576 bytes"
unfoldable pub too_large : Memories → Bool
too_large m = ltb byte_limit (length m.pool) || ltb byte_limit (length m.overflow)

-- 16: "the slot count is neither 8 nor 16"
unfoldable pub wrong_count : ℕ → Bool
wrong_count w = not (is_slot_count w)

abbrev pub in_overflow : Memory → Bool
in_overflow Pool = false
in_overflow Overflow = true

-- does the Rust's reserve answer a range of the heap?
abbrev pub uses_heap : Run Reply → Bool
uses_heap (done a) = in_overflow a.writable.memory
uses_heap panic = false

-- 4: "the Rust would use the heap, and frame length + `len` exceeds the length of the overflow", its sums being those of
-- SPECIFICATION 1.13. The Rust's pool is that of the record's first w entries and the memories; its `reserve_` calls itself twice at most.
unfoldable pub heap_too_short : ℕ → BufferPool → Memories → ℕ → Bool
heap_too_short w r m len =
    uses_heap (rust_reserve w (suc most_changes) (rust_of (cut w r) (heap_of r m) r.reserved) len)
    && ltb r.overflow ((frame r).length + len)

-- 5: "`len` exceeds the length of the reservation"
unfoldable pub past_reservation : BufferPool → ℕ → Bool
past_reservation r n = ltb (reservation r).length n

-- 6: "the frame lies in the overflow and is longer than the destination"
unfoldable pub destination_too_short : BufferPool → List ℕ → Bool
destination_too_short r destination = in_overflow (frame r).memory && ltb (length destination) (frame r).length

-- 12: "the caller is above 3"
unfoldable pub unknown_caller : ℕ → Bool
unknown_caller caller = ltb 3 caller

-- 7: "the handle's slot is not one of 1 to w, or is not live, or the handle's start, length, serial or caller is not that slot's, or
-- the handle's caller is above 3"
unfoldable pub unknown : ℕ → BufferPool → Handle → Bool
unknown w r h =
    not (leb 1 h.slot && leb h.slot w)
    || (not (live_at w r.live h.slot)
    || (not (eqb h.start (start_at r.starts h.slot))
    || (not (eqb h.length (start_at r.lengths h.slot))
    || (not (eqb h.serial (start_at r.serials h.slot))
    || (not (eqb h.caller (start_at r.callers h.slot)) || unknown_caller h.caller)))))

-- 8: "the frame is not empty, lies in the pool, and 4,294,967,295 serials were given to the caller"
unfoldable pub serials_exhausted : BufferPool → ℕ → Bool
serials_exhausted r caller =
    not (in_overflow (frame r).memory) && (ltb 0 (frame r).length && leb most_serials (given_to r caller))

-- ---- The order, SPECIFICATION 3.4: "1, then 2, then the call's own cause"

pub record Cause : Type 0 where
  pub number : ℕ
  pub holds : Bool

abbrev pub cause : ℕ → Bool → Cause
cause number holds = record { number = number; holds = holds }

unfoldable pub view_causes : ℕ → BufferPool → Part → List Cause
view_causes w r TheFrame = []
view_causes w r TheReservation = []
view_causes w r (TheSlice h) = cause 7 (unknown w r h) ∷ []

unfoldable pub own_causes : ℕ → BufferPool → Memories → Call → List Cause
own_causes w r m (Reserve len) = cause 4 (heap_too_short w r m len) ∷ []
own_causes w r m (Commit n) = cause 5 (past_reservation r n) ∷ []
own_causes w r m (Truncate n) = []
own_causes w r m (Take caller destination) =
    cause 12 (unknown_caller caller) ∷ cause 6 (destination_too_short r destination) ∷ cause 8 (serials_exhausted r caller) ∷ []
own_causes w r m (Release h) = cause 7 (unknown w r h) ∷ []
own_causes w r m (Look part) = view_causes w r part

unfoldable pub causes : ℕ → BufferPool → Memories → Call → List Cause
causes w r m c = cause 1 (unsound w r) ∷ cause 2 (misfit r m) ∷ own_causes w r m c

-- SPECIFICATION 3.5: "New has no causes but 16 and 3, tested in this order."
unfoldable pub new_causes : ℕ → Memories → List Cause
new_causes w m = cause 16 (wrong_count w) ∷ cause 3 (too_large m) ∷ []

-- the number of the first cause that holds, and 0 where none does
unfoldable pub first_cause : List Cause → ℕ
first_cause [] = 0
first_cause (c ∷ rest) = pick c.holds c.number (first_cause rest)

-- cause k is in the list and holds, and no cause before it does
unfoldable pub First : ℕ → List Cause → Type 0
First k [] = ⊥
First k (c ∷ rest) = ((c.holds ≡ true) × (c.number ≡ k)) ⊎ ((c.holds ≡ false) × First k rest)

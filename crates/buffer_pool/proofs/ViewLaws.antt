-- The views and the writes, from what the code of views.rt knows where it returns: a refused view is hidden, and another's place
-- (ViewPlaces.antt) is a part of its memory. Assumes nothing.
use mathlib.Core.Path.{◌≡◌, refl, ap, ◌∙◌}
use mathlib.Core.Bool.{Bool, true, false, not}
use mathlib.Core.List.{List}
use Prim.Native.Nat.{ℕ, ◌+◌, ◌-◌, ◌≤◌}
use native.Mathlib.Nat.{add-sub_cancel_left}
use lib.Dec.{ltb}
use lib.ListN.{length, take, drop, set}
use Rattle.std.specs.Prelude.{Ok, Result, ⊤}
use Rattle.laws.specs.Tests.{pick}
use Rattle.laws.specs.Lists.{part}
use Rattle.laws.proofs.Tests.{not_true, not_false}
use Rattle.buffer_pool.specs.declared.slice.Handle.{Handle}
use Rattle.buffer_pool.specs.declared.buffer_pool.BufferPool.{BufferPool}
use Rattle.buffer_pool.specs.declared.buffer_pool.Memory.TheVariants.{Pool, Overflow}
use Rattle.buffer_pool.specs.declared.buffer_pool.Place.{Place}
use Rattle.buffer_pool.specs.Moves.{Memories, memories}
use Rattle.buffer_pool.specs.Steps.{at, frame_of, names}
use Rattle.buffer_pool.specs.Values.{View, view_place, told}
use Rattle.buffer_pool.specs.declared.refusals.Refusal.{Refusal}
use Rattle.buffer_pool.specs.declared.refusals.Refusal.TheVariants.{NotLive}
use Rattle.buffer_pool.specs.Calls.{guard, shown, hidden, slice_view, bytes_at, written, moved_on, place_at}
use Rattle.buffer_pool.proofs.Soundness.{sound_use}
use Rattle.buffer_pool.proofs.ViewPlaces.{slice_lies, slice_pool}
use Rattle.buffer_pool.proofs.CallLaws.{through, through_sound, frame_end_lem}

-- ---- A view that may be refused with 1 or 2

-- the reservation starts where the frame ends, at a 64-bit number
pub through_sum : (p : BufferPool) (m : Memories) → Ok tt ≡ guard p.slots p m → (frame_of p.mode p).start + (frame_of p.mode p).length ≤ 18446744073709551615
through_sum p m e = let S = sound_use p.slots p (through_sound p m e) in frame_end_lem p.slots p S.orderly S.capacity_limit S.overflow_limit

-- ---- Parts of the memories

pub part_as : (memory : List ℕ) (start len : ℕ) → take (start + len - start) (drop start memory) ≡ part memory start len
unfolding part
part_as memory start len = rw add-sub_cancel_left

module _ (pool overflow : List ℕ) (q : Place) where
  module _ (e : q.memory ≡ Pool) where
    pub bytes_pool : (bytes : List ℕ) → bytes ≡ part pool q.start q.length → bytes ≡ bytes_at (memories pool overflow) q
    unfolding bytes_at
    bytes_pool bytes f = f ∙ rw e

  module _ (e : q.memory ≡ Overflow) where
    pub bytes_overflow : (bytes : List ℕ) → bytes ≡ part overflow q.start q.length → bytes ≡ bytes_at (memories pool overflow) q
    unfolding bytes_at
    bytes_overflow bytes f = f ∙ rw e

module _ (pool overflow : ℕ × ℕ) (q : Place) (pointer : ℕ × ℕ) where
  pub pointer_pool : q.memory ≡ Pool → pointer ≡ moved_on pool q.start → pointer ≡ place_at pool overflow q
  unfolding place_at
  pointer_pool e f = f ∙ rw e

  pub pointer_overflow : q.memory ≡ Overflow → pointer ≡ moved_on overflow q.start → pointer ≡ place_at pool overflow q
  unfolding place_at
  pointer_overflow e f = f ∙ rw e

-- ---- A byte written

-- a memory with byte i of the place set; past the place's end, none: what `set_byte` leaves
abbrev set_at : List ℕ → Place → ℕ → ℕ → List ℕ
set_at memory q i byte = pick (ltb i q.length) (set memory (q.start + i) byte) memory

module _ (pool overflow : List ℕ) (q : Place) (i byte : ℕ) (after : List ℕ) where
  pub written_pool : q.memory ≡ Pool → after ≡ set_at pool q i byte → memories after overflow ≡ written (memories pool overflow) q i byte
  unfolding written
  written_pool e f = rw (e, f) (go (ltb i q.length))
    where
      go : (t : Bool) → memories (pick t (set pool (q.start + i) byte) pool) overflow
          ≡ pick t (memories (set pool (q.start + i) byte) overflow) (memories pool overflow)
      go true = refl
      go false = refl

  pub written_overflow : q.memory ≡ Overflow → after ≡ set_at overflow q i byte
      → memories pool after ≡ written (memories pool overflow) q i byte
  unfolding written
  written_overflow e f = rw (e, f) (go (ltb i q.length))
    where
      go : (t : Bool) → memories pool (pick t (set overflow (q.start + i) byte) overflow)
          ≡ pick t (memories pool (set overflow (q.start + i) byte)) (memories pool overflow)
      go true = refl
      go false = refl

-- ---- A write through a view

module _ (v view : View) (e : v ≡ view) where
  pub told_there : (r : Result ⊤ Refusal) → r ≡ told v → r ≡ told view
  told_there r f = f ∙ ap told e

  pub written_there : (m after : Memories) (q : Place) → q ≡ view_place v → (i byte : ℕ) → after ≡ written m q i byte → after ≡ written m (view_place view) i byte
  written_there m after q f i byte g = g ∙ ap (λ (x : Place). written m x i byte) (f ∙ ap view_place e)

-- ---- The slice of a handle

module _ (p : BufferPool) (pool overflow : List ℕ) (h : Handle) (v : View) (e : v ≡ slice_view p.slots p (memories pool overflow) h) (q : Place) (f : q ≡ view_place v) where
  place_is : q ≡ view_place (slice_view p.slots p (memories pool overflow) h)
  place_is = f ∙ ap view_place e

  pub slice_within : q.start + q.length ≤ length pool
  slice_within = rw place_is (slice_lies p.slots p (memories pool overflow) h)

  in_pool : q.memory ≡ Pool
  in_pool = ap (λ (x : Place). x.memory) place_is ∙ slice_pool p.slots p (memories pool overflow) h

  pub slice_bytes : (bytes : List ℕ) → bytes ≡ part pool q.start q.length
      → bytes ≡ bytes_at (memories pool overflow) (view_place (slice_view p.slots p (memories pool overflow) h))
  slice_bytes bytes g = bytes_pool pool overflow q in_pool bytes g ∙ ap (bytes_at (memories pool overflow)) place_is

  pub slice_written : (i byte : ℕ) (after : List ℕ) → after ≡ set_at pool q i byte
      → memories after overflow ≡ written (memories pool overflow) (view_place (slice_view p.slots p (memories pool overflow) h)) i byte
  slice_written i byte after g =
      written_pool pool overflow q i byte after in_pool g ∙ ap (λ (x : Place). written (memories pool overflow) x i byte) place_is

  pub slice_pointer : (a b pointer : ℕ × ℕ) → pointer ≡ moved_on a q.start → pointer ≡ place_at a b (view_place (slice_view p.slots p (memories pool overflow) h))
  slice_pointer a b pointer g = pointer_pool a b q pointer in_pool g ∙ ap (place_at a b) place_is

module _ (p : BufferPool) (m : Memories) (e : Ok tt ≡ guard p.slots p m) (h : Handle) (b : Bool) (f : b ≡ names p.slots p h) where
  pub unnamed_view : not b ≡ true → hidden NotLive ≡ slice_view p.slots p m h
  unfolding slice_view
  unnamed_view t = through p m e hidden (hidden NotLive) ∙ rw (← f, not_true b t)

  pub named_view : not b ≡ false → shown (at Pool h.start h.length) ≡ slice_view p.slots p m h
  unfolding slice_view
  named_view t = through p m e hidden (shown (at Pool h.start h.length)) ∙ rw (← f, not_false b t)

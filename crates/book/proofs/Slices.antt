-- A handle that names its slot: no other handle names that slot, and its slice meets no other handle's slice, nor frame and
-- reservation. Assumes nothing.
use mathlib.Core.Path.{◌≡◌, refl, sym, ap, ◌∙◌}
use mathlib.Core.Bool.{Bool, true, false}
use mathlib.Core.Logic.{◌≢◌}
use Prim.Native.Nat.{ℕ, ◌≤◌, ◌+◌}
use native.Mathlib.Omega.{arith}
use native.Mathlib.Nat.{le_refl}
use borrow.Author.Tests.{eqb-true, eq-eqb}
use Rattle.laws.proofs.Tests.{no_true, both, eqb_and}
use Rattle.buffer_pool.specs.declared.buffer_pool.BufferPool.{BufferPool}
use Rattle.buffer_pool.specs.declared.buffer_pool.PoolMode.{PoolMode}
use Rattle.buffer_pool.specs.declared.buffer_pool.PoolMode.TheVariants.{Back, Front, Alloc}
use Rattle.buffer_pool.specs.declared.buffer_pool.Memory.{Memory}
use Rattle.buffer_pool.specs.declared.buffer_pool.Memory.TheVariants.{Pool, Overflow}
use Rattle.buffer_pool.specs.declared.buffer_pool.Place.{Place}
use Rattle.buffer_pool.specs.declared.slice.Handle.{Handle}
use Rattle.buffer_pool.specs.Placing.{is_alloc}
use Rattle.buffer_pool.specs.Sound.{Orderly}
use Rattle.buffer_pool.specs.Steps.{at, frame_of, frame, reservation}
use Rattle.buffer_pool.proofs.Order.{start_of, end_of}
use Rattle.buffer_pool.proofs.Unchanged.{fixed}
use Rattle.buffer_pool.proofs.Named.{Named, handle_alike, slot_one}
use Rattle.buffer_pool.proofs.Ranges.{Apart, before, behind, orderly_apart}
use Rattle.book.specs.Book.{same_handle}
use Rattle.book.proofs.Carried.{end_is}
use Rattle.book.proofs.Places.{Off, elsewhere, below, above}

-- ---- Handles

pub same_is : (h k : Handle) → same_handle h k ≡ true → h ≡ k
unfolding same_handle
same_is h k e =
    let a = eqb_and h.slot k.slot e in
    let b = eqb_and h.start k.start a.1 in
    let c = eqb_and h.length k.length b.1 in
    let d = eqb_and h.serial k.serial c.1 in
    handle_alike a.0 b.0 c.0 d.0 (eqb-true h.caller k.caller d.1)

pub same_self : (h : Handle) → same_handle h h ≡ true
unfolding same_handle
same_self h =
    both (eq-eqb h.slot h.slot refl)
    (both (eq-eqb h.start h.start refl)
    (both (eq-eqb h.length h.length refl)
    (both (eq-eqb h.serial h.serial refl) (eq-eqb h.caller h.caller refl))))

-- ---- Where slices, frame and reservation lie

abbrev is_pool : Memory → Bool
is_pool Pool = true
is_pool Overflow = false

not_overflow : Pool ≢ Overflow
not_overflow e = no_true (sym (ap is_pool e))

module _ (w : ℕ) (r : BufferPool) (S : Orderly w r) where
  abbrev slice : Handle → Place
  slice h = at Pool h.start h.length

  module _ (h : Handle) (N : Named w (fixed r) h) where
    -- where it ends
    pub slice_end : h.start + h.length ≡ end_of r h.slot
    slice_end = rw (N.start_is, N.length_is) (sym (end_is r.starts r.lengths h.slot N.here.one))

    ranges_off : (q : Place) (start end : ℕ) → start ≤ q.start → q.start + q.length ≤ end
        → Apart (start_of r h.slot) (end_of r h.slot) start end → Off (slice h) q
    ranges_off q start end a b (before x) = below (omega (arith, slice_end))
    ranges_off q start end a b (behind x) = above (omega (arith, N.start_is))

    -- a place that frame and reservation span
    spanned_off : (q : Place) → q.memory ≡ (frame r).memory → (frame r).start ≤ q.start
        → q.start + q.length ≤ (frame r).start + (frame r).length + r.reserved → Off (slice h) q
    spanned_off q = go r.mode refl
      where
        clear : is_alloc r.mode ≡ false → r.raw_offset ≤ q.start
            → q.start + q.length ≤ r.raw_offset + r.raw_len + r.reserved → Off (slice h) q
        clear e a b = ranges_off q _ _ a b ((orderly_apart w r S).gathered e h.slot N.here)

        go : (mode : PoolMode) → r.mode ≡ mode → q.memory ≡ (frame_of mode r).memory → (frame_of mode r).start ≤ q.start
            → q.start + q.length ≤ (frame_of mode r).start + (frame_of mode r).length + r.reserved → Off (slice h) q
        go Back e k a b = clear (ap is_alloc e) a b
        go (Front f) e k a b = clear (ap is_alloc e) a b
        go Alloc e k a b = elsewhere (λ d. not_overflow (d ∙ k))

    pub slice_frame : Off (slice h) (frame r)
    slice_frame = spanned_off (frame r) refl (le_refl _) (omega arith)

    pub slice_offer : Off (slice h) (reservation r)
    slice_offer = spanned_off (reservation r) refl (omega arith) (le_refl _)

  pub slice_slice : (h k : Handle) → Named w (fixed r) h → Named w (fixed r) k → h ≢ k → Off (slice h) (slice k)
  slice_slice h k N M n =
      ranges_off h N (slice k) (start_of r k.slot) (end_of r k.slot) (omega (arith, M.start_is))
      (omega (arith, slice_end k M))
      ((orderly_apart w r S).slices h.slot k.slot (λ e. n (slot_one N M e)) N.here M.here)

-- Every view's place lies in its memory, whatever record and memories it is asked of: a refused view is empty, and in a sound record
-- frame, reservation and every live slice lie inside. Assumes nothing.
use mathlib.Core.Path.{◌≡◌, refl, sym, ap, ◌∙◌, subst}
use mathlib.Core.Bool.{Bool, true, false, not}
use Prim.Native.Nat.{ℕ, ◌+◌, ◌≤◌}
use native.Mathlib.Omega.{arith}
use lib.ListN.{length}
use borrow.Author.Tests.{eqb-true}
use Rattle.laws.specs.Tests.{pick}
use Rattle.laws.proofs.Tests.{not_false, eqb_and}
use Rattle.buffer_pool.specs.declared.slice.Handle.{Handle}
use Rattle.buffer_pool.specs.declared.buffer_pool.BufferPool.{BufferPool}
use Rattle.buffer_pool.specs.declared.buffer_pool.PoolMode.{PoolMode}
use Rattle.buffer_pool.specs.declared.buffer_pool.PoolMode.TheVariants.{Back, Front, Alloc}
use Rattle.buffer_pool.specs.declared.buffer_pool.Memory.{Memory}
use Rattle.buffer_pool.specs.declared.buffer_pool.Place.{Place}
use Rattle.buffer_pool.specs.declared.buffer_pool.Memory.TheVariants.{Pool}
use Rattle.buffer_pool.specs.Values.{View, view_place}
use Rattle.buffer_pool.specs.declared.refusals.Refusal.TheVariants.{Unsound, WrongLength, NotLive}
use Rattle.buffer_pool.specs.Moves.{Memories}
use Rattle.buffer_pool.specs.Soundness.{sound}
use Rattle.buffer_pool.specs.Sound.{Orderly}
use Rattle.buffer_pool.specs.Steps.{at, frame, frame_of, reservation, names}
use Rattle.buffer_pool.specs.Calls.{misfit, guarded, shown, hidden, frame_view, reservation_view, slice_view, memory_at, Lies}
use Rattle.buffer_pool.specs.Vocabulary.{Part, TheFrame, TheReservation, TheSlice, view_of}
use Rattle.buffer_pool.proofs.BoundLaws.{end_some}
use Rattle.buffer_pool.proofs.Soundness.{sound_use}
use Rattle.buffer_pool.proofs.Ranges.{bytes_for, Inside, orderly_inside}
use Rattle.buffer_pool.proofs.Named.{names_use}

-- memories that fit have the record's lengths
pub fits : (p : BufferPool) (m : Memories) → misfit p m ≡ false → (length m.pool ≡ p.capacity) × (length m.overflow ≡ p.overflow)
unfolding misfit
fits p m e =
    let t = eqb_and (length m.pool) p.capacity (not_false _ e) in
    (t.0, eqb-true (length m.overflow) p.overflow t.1)

module _ (w : ℕ) (p : BufferPool) (m : Memories) where
  -- what is not refused with 1 or 2
  abbrev Passes : Type 0
  Passes = (sound w p ≡ true) × (misfit p m ≡ false)

  guarded_lies : (v : View) → (Passes → Lies m (view_place v)) → Lies m (view_place (guarded w p m hidden v))
  guarded_lies v h = go (sound w p) (misfit p m) h
    where
      go : (s f : Bool) → ((s ≡ true) × (f ≡ false) → Lies m (view_place v)) → Lies m (view_place (pick (not s) (hidden Unsound) (pick f (hidden WrongLength) v)))
      go true true h = omega arith
      go true false h = h (refl, refl)
      go false f h = omega arith

  passes_orderly : Passes → Orderly w p
  passes_orderly z = (sound_use w p z.0).orderly

  -- frame and reservation together
  gathered_lies : Passes → (frame p).start + (frame p).length + p.reserved ≤ length (memory_at (frame p).memory m)
  gathered_lies z = go p.mode I.gathered
    where
      I : Inside w p
      I = orderly_inside w p (passes_orderly z)

      go : (mode : PoolMode) → (frame_of mode p).start + (frame_of mode p).length + p.reserved ≤ bytes_for mode p
          → (frame_of mode p).start + (frame_of mode p).length + p.reserved ≤ length (memory_at (frame_of mode p).memory m)
      go Back h = omega (arith, (fits p m z.1).0)
      go (Front f) h = omega (arith, (fits p m z.1).0)
      go Alloc h = omega (arith, I.kept, (fits p m z.1).1)

  pub frame_lies : (v : View) → v ≡ frame_view w p m → (q : Place) → q ≡ view_place v → Lies m q
  unfolding frame_view
  frame_lies v e q f = subst (λ (x : Place). Lies m x) (sym (f ∙ ap view_place e)) (guarded_lies (shown (frame p)) (λ z. omega (arith, gathered_lies z)))

  pub reservation_lies : (v : View) → v ≡ reservation_view w p m → (q : Place) → q ≡ view_place v → Lies m q
  unfolding reservation_view
  reservation_lies v e q f = subst (λ (x : Place). Lies m x) (sym (f ∙ ap view_place e)) (guarded_lies (shown (reservation p)) gathered_lies)

  -- a handle that names a live slice has its range, which lies in the pool
  named_lies : (h : Handle) → Orderly w p → names w p h ≡ true → h.start + h.length ≤ p.capacity
  named_lies h O n =
      let N = names_use w p h n in
      let end = end_some p.starts p.lengths h.slot (λ z. omega (arith, z, N.here.one)) h.start h.length N.start_is N.length_is in
      omega (arith, end, (orderly_inside w p O).slices h.slot N.here)

  module _ (h : Handle) where
    -- a slice's view, by the tests: is the record sound, do the memories not fit, does the handle name a live slice
    abbrev slice_by : Bool → Bool → Bool → View
    slice_by s f b = pick (not s) (hidden Unsound) (pick f (hidden WrongLength) (pick b (shown (at Pool h.start h.length)) (hidden NotLive)))

    pub slice_lies : (view_place (slice_view w p m h)).start + (view_place (slice_view w p m h)).length ≤ length m.pool
    unfolding slice_view
    slice_lies = go (sound w p) (misfit p m) (names w p h) refl refl refl
      where
        go : (s f b : Bool) → sound w p ≡ s → misfit p m ≡ f → names w p h ≡ b
            → (view_place (slice_by s f b)).start + (view_place (slice_by s f b)).length ≤ length m.pool
        go true true b e g i = omega arith
        go true false false e g i = omega arith
        go true false true e g i = omega (arith, named_lies h (passes_orderly (e, g)) i, (fits p m g).0)
        go false f b e g i = omega arith

    pub slice_pool : (view_place (slice_view w p m h)).memory ≡ Pool
    unfolding slice_view
    slice_pool = go (sound w p) (misfit p m) (names w p h)
      where
        go : (s f b : Bool) → (view_place (slice_by s f b)).memory ≡ Pool
        go true true b = refl
        go true false true = refl
        go true false false = refl
        go false f b = refl

  -- every view, refused or not
  pub part_lies : (part : Part) → Lies m (view_place (view_of w p m part))
  unfolding view_of
  part_lies TheFrame = frame_lies _ refl _ refl
  part_lies TheReservation = reservation_lies _ refl _ refl
  part_lies (TheSlice h) =
      subst (λ (x : Memory). (view_place (slice_view w p m h)).start + (view_place (slice_view w p m h)).length ≤ length (memory_at x m))
      (sym (slice_pool h)) (slice_lies h)

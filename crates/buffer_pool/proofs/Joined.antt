-- Our pool and the Rust's, joined: the Rust's pool stands for our record and memories, which are sound and of the right lengths,
-- and the same slices are held. Joined pools show the same: each of our views is unrefused and lies where the Rust's part lies, and
-- of the overflow only kept bytes are seen. Assumes nothing.
use mathlib.Core.Path.{◌≡◌, refl, sym, ap, ◌∙◌}
use mathlib.Core.Bool.{Bool, true, false}
use mathlib.Core.List.{List, [], ◌∷◌, map}
use mathlib.Core.Logic.{◌⊎◌, inl, inr}
use Prim.Native.Nat.{ℕ, ◌+◌}
use native.Mathlib.Omega.{arith}
use borrow.Author.Tests.{eqb-true, eqb-false, eq-eqb}
use lib.Dec.{eqb}
use lib.ListN.{length}
use Rattle.laws.specs.Tests.{pick}
use Rattle.laws.specs.Lists.{part}
use Rattle.laws.proofs.Lists.{part_take}
use Rattle.buffer_pool.specs.declared.refusals.Refusal.{Refusal}
use Rattle.buffer_pool.specs.declared.slice.Handle.{Handle}
use Rattle.buffer_pool.specs.declared.buffer_pool.BufferPool.{BufferPool}
use Rattle.buffer_pool.specs.declared.buffer_pool.PoolMode.{PoolMode}
use Rattle.buffer_pool.specs.declared.buffer_pool.PoolMode.TheVariants.{Back, Front, Alloc}
use Rattle.buffer_pool.specs.declared.buffer_pool.Memory.{Memory}
use Rattle.buffer_pool.specs.declared.buffer_pool.Memory.TheVariants.{Pool, Overflow}
use Rattle.buffer_pool.specs.declared.buffer_pool.Place.{Place}
use Rattle.buffer_pool.specs.Record.{cut, start_at}
use Rattle.buffer_pool.specs.Moves.{Memories}
use Rattle.buffer_pool.specs.Sound.{InMode, Orderly}
use Rattle.buffer_pool.specs.Soundness.{sound}
use Rattle.buffer_pool.specs.Steps.{at, frame_of, frame, reservation, names}
use Rattle.buffer_pool.specs.Values.{View, view_refusal, view_place}
use Rattle.buffer_pool.specs.declared.refusals.Refusal.TheVariants.{NotLive}
use Rattle.buffer_pool.specs.Calls.{misfit, guarded, shown, hidden, frame_view, reservation_view, slice_view, memory_at, bytes_at}
use Rattle.buffer_pool.specs.Rust.{done, RustPool}
use Rattle.buffer_pool.specs.AsRust.{rust_of, heap_of, Stands}
use Rattle.buffer_pool.specs.Vocabulary.{Part, TheFrame, TheReservation, TheSlice, view_of}
use Rattle.buffer_pool.specs.Together.{Seen, seen, Given, Shown, Ours, view, seen_in, shown_by, Holder, holder, Theirs, rust_frame_in, rust_frame, rust_reservation, held_place, rust_place, rust_memory, rust_seen, rust_shown}
use Rattle.buffer_pool.proofs.Soundness.{sound_use}
use Rattle.buffer_pool.proofs.RustCalls.{InKept, frame_agrees}
use Rattle.buffer_pool.proofs.Handles.{Has, Holds}
use Rattle.buffer_pool.proofs.Named.{Named, names_use, names_make}
use Rattle.buffer_pool.proofs.Unchanged.{fixed}
use Rattle.buffer_pool.proofs.Cut.{orderly_cut, frame_cut}

-- ---- Joined pools

abbrev pub holder_of : Handle → Holder
holder_of h = holder h.slot (at Pool h.start h.length)

pub record Joined (w : ℕ) (s : Ours) (t : Theirs) : Type 0 where
  pub sound_is : sound w s.pool ≡ true
  pub stands : Stands (cut w s.pool) s.memory t.pool
  pub held_is : t.held ≡ map holder_of s.held
  pub holds : Holds w s.pool s.held

abbrev showing : Given → PoolMode → ℕ → Seen → Seen → List Seen → Shown
showing g mode live f o l = record { given = g; mode = mode; live = live; frame = f; reservation = o; slices = l }

shown_alike : (g : Given) {mode mode' : PoolMode} {live live' : ℕ} {f f' o o' : Seen} {l l' : List Seen} → mode ≡ mode' → live ≡ live'
    → f ≡ f' → o ≡ o' → l ≡ l' → showing g mode live f o l ≡ showing g mode' live' f' o' l'
shown_alike g {mode} {mode'} {live} {live'} {f} {f'} {o} {o'} {l} {l'} a b c d e =
    ap (λ (x : PoolMode). showing g x live f o l) a ∙ ap (λ (x : ℕ). showing g mode' x f o l) b
    ∙ ap (λ (x : Seen). showing g mode' live' x o l) c ∙ ap (λ (x : Seen). showing g mode' live' f' x l) d
    ∙ ap (λ (x : List Seen). showing g mode' live' f' o' x) e

-- where the Rust's frame and reservation lie
module _ (w : ℕ) (r : BufferPool) (m : Memories) (p : RustPool) (T : Stands (cut w r) m p) where
  pub frame_place : rust_frame p ≡ frame r
  frame_place = rw T.mirrors.is (go r.mode)
    where
      go : (mode : PoolMode) → rust_frame_in mode (rust_of (cut w r) (heap_of r m) T.mirrors.own) ≡ frame_of mode r
      go Back = refl
      go (Front f) = refl
      go Alloc = refl

  reservation_place : rust_reservation p ≡ reservation r
  reservation_place =
      ap (λ (f : Place). at f.memory (f.start + f.length) p.reserved) frame_place
      ∙ ap (λ (q : RustPool). at (frame r).memory ((frame r).start + (frame r).length) q.reserved) T.mirrors.is

-- frame and reservation lie in the kept bytes
module _ (w : ℕ) (r : BufferPool) (O : Orderly w r) where
  frame_kept : InKept (frame r).memory ((frame r).start + (frame r).length) r.kept
  frame_kept = go r.mode O.in_mode
    where
      go : (mode : PoolMode) → InMode w mode r r.reserved
          → InKept (frame_of mode r).memory ((frame_of mode r).start + (frame_of mode r).length) r.kept
      go Back I = tt
      go (Front f) I = tt
      go Alloc I = omega (arith, I.fits)

  reservation_kept : InKept (reservation r).memory ((reservation r).start + (reservation r).length) r.kept
  reservation_kept = go r.mode O.in_mode
    where
      go : (mode : PoolMode) → InMode w mode r r.reserved
          → InKept (frame_of mode r).memory ((frame_of mode r).start + (frame_of mode r).length + r.reserved) r.kept
      go Back I = tt
      go (Front f) I = tt
      go Alloc I = omega (arith, I.fits)

-- ---- What joined pools show

module _ (w : ℕ) (s : Ours) (t : Theirs) (J : Joined w s t) where
  abbrev r : BufferPool
  r = s.pool

  abbrev m : Memories
  m = s.memory

  abbrev p : RustPool
  p = t.pool

  pub joined_orderly : Orderly w r
  joined_orderly = (sound_use w r J.sound_is).orderly

  pub joined_fits : misfit r m ≡ false
  unfolding misfit
  joined_fits =
      rw (
        eq-eqb (length m.pool) r.capacity J.stands.mirrors.pool_size,
        eq-eqb (length m.overflow) r.overflow J.stands.overflow_size,
      )
      refl

  -- no call is refused with 1 or 2
  unguarded : {A : Type 0} (refuse : Refusal → A) (a : A) → guarded w r m refuse a ≡ a
  unguarded refuse a = rw (J.sound_is, joined_fits) refl

  seen_agrees : (place : Place) → InKept place.memory (place.start + place.length) r.kept
      → rust_seen p place ≡ seen place (bytes_at m place)
  unfolding bytes_at
  seen_agrees place k = rw J.stands.mirrors.is (go place.memory k)
    where
      go : (memory : Memory) → InKept memory (place.start + place.length) r.kept
          → seen place (part (rust_memory memory (rust_of (cut w r) (heap_of r m) J.stands.mirrors.own)) place.start place.length)
          ≡ seen place (part (memory_at memory m) place.start place.length)
      go Pool k = refl
      go Overflow k = ap (seen place) (part_take r.kept m.overflow place.start place.length k)

  -- a part: the Rust's place is that of our view
  pub record Agrees (part : Part) : Type 0 where
    pub at_place : Place
    pub view_is : view w s part ≡ shown at_place
    pub rust_is : rust_place t part ≡ done at_place
    pub kept : InKept at_place.memory (at_place.start + at_place.length) r.kept

  frame_view_lem : view w s TheFrame ≡ shown (frame r)
  unfolding view_of frame_view
  frame_view_lem = unguarded hidden (shown (frame r))

  frame_part : Agrees TheFrame
  frame_part =
      record { at_place = frame r; view_is = frame_view_lem; rust_is = ap done (frame_place w r m p J.stands); kept = frame_kept w r joined_orderly }

  reservation_view_lem : view w s TheReservation ≡ shown (reservation r)
  unfolding view_of reservation_view
  reservation_view_lem = unguarded hidden (shown (reservation r))

  reservation_part : Agrees TheReservation
  reservation_part =
      record {
        at_place = reservation r;
        view_is = reservation_view_lem;
        rust_is = ap done (reservation_place w r m p J.stands);
        kept = reservation_kept w r joined_orderly;
      }

  slice_view_lem : (h : Handle) → view w s (TheSlice h) ≡ pick (names w r h) (shown (at Pool h.start h.length)) (hidden NotLive)
  unfolding view_of slice_view
  slice_view_lem h = unguarded hidden _

  slice_named : (h : Handle) → Named w (fixed r) h → view w s (TheSlice h) ≡ shown (at Pool h.start h.length)
  slice_named h N = slice_view_lem h ∙ rw (names_make w r h N) refl

  -- the slice of a slot among the handles held
  place_held : (h : Handle) → Named w (fixed r) h → (l : List Handle) → ((k : Handle) → Has k l → Named w (fixed r) k) → Has h l
      → held_place h.slot (map holder_of l) ≡ done (at Pool h.start h.length)
  unfolding held_place Has
  place_held h N [] all x = absurd x
  place_held h N (k ∷ l) all x =
      go (eqb k.slot h.slot) refl x (place_held h N l (λ j y. all j (inr y)))
    where
      go : (b : Bool) → eqb k.slot h.slot ≡ b → (h ≡ k) ⊎ Has h l
          → (Has h l → held_place h.slot (map holder_of l) ≡ done (at Pool h.start h.length))
          → pick b (done (at Pool k.start k.length)) (held_place h.slot (map holder_of l)) ≡ done (at Pool h.start h.length)
      go true e y rest =
          let M = all k (inl refl) in
          let d = eqb-true k.slot h.slot e in
          let a : k.start ≡ h.start = M.start_is ∙ ap (start_at r.starts) d ∙ sym N.start_is in
          let b : k.length ≡ h.length = M.length_is ∙ ap (start_at r.lengths) d ∙ sym N.length_is in
          ap (λ (x : ℕ). done (at Pool x k.length)) a ∙ ap (λ (x : ℕ). done (at Pool h.start x)) b
      go false e (inl y) rest = absurd (eqb-false k.slot h.slot e (ap (λ (j : Handle). j.slot) (sym y)))
      go false e (inr y) rest = rest y

  pub slice_part : (h : Handle) → Named w (fixed r) h → Agrees (TheSlice h)
  slice_part h N =
      record {
        at_place = at Pool h.start h.length;
        view_is = slice_named h N;
        rust_is = rw J.held_is (place_held h N s.held J.holds.named (J.holds.has h N));
        kept = tt;
      }

  -- through a view
  viewed : (part : Part) (place : Place) → view w s part ≡ shown place → seen place (bytes_at m place) ≡ seen_in w s part
  viewed part place e = ap (λ (v : View). seen (view_place v) (bytes_at m (view_place v))) (sym e)

  pub part_seen : (part : Part) (place : Place) → view w s part ≡ shown place
      → InKept place.memory (place.start + place.length) r.kept → rust_seen p place ≡ seen_in w s part
  part_seen part place e k = seen_agrees place k ∙ viewed part place e

  slice_seen : (h : Handle) → Named w (fixed r) h → rust_seen p (at Pool h.start h.length) ≡ seen_in w s (TheSlice h)
  slice_seen h N = part_seen (TheSlice h) (at Pool h.start h.length) (slice_named h N) tt

  slices_seen : (l : List Handle) → ((h : Handle) → Has h l → Named w (fixed r) h)
      → map (λ h. rust_seen p h.place) (map holder_of l) ≡ map (λ h. seen_in w s (TheSlice h)) l
  unfolding Has
  slices_seen [] all = refl
  slices_seen (h ∷ l) all =
      ap (λ (x : Seen). x ∷ map (λ h. rust_seen p h.place) (map holder_of l)) (slice_seen h (all h (inl refl)))
      ∙ ap (λ (rest : List Seen). seen_in w s (TheSlice h) ∷ rest) (slices_seen l (λ k x. all k (inr x)))

  pub shown_agrees : (g : Given) → rust_shown (record { given = g; left = t }) ≡ done (shown_by w s g)
  unfolding rust_shown shown_by
  shown_agrees g =
      let T = J.stands in
      let is = T.mirrors.is in
      rw (frame_agrees (orderly_cut w r joined_orderly) T, frame_cut w r.mode r)
      (ap done
      (shown_alike g (ap (λ (q : RustPool). q.mode) is) (ap (λ (q : RustPool). q.inner_memory.live) is)
      (ap (λ (f : Place). seen f (bytes_at m (frame r))) (frame_place w r m p T) ∙ viewed TheFrame (frame r) frame_view_lem)
      (ap (rust_seen p) (reservation_place w r m p T)
      ∙ part_seen TheReservation (reservation r) reservation_view_lem (reservation_kept w r joined_orderly))
      (ap (map (λ h. rust_seen p h.place)) J.held_is ∙ slices_seen s.held J.holds.named)))

  -- ---- A part whose view is not refused

  pub part_agrees : (part : Part) → view_refusal (view w s part) ≡ 0 → Agrees part
  part_agrees TheFrame u = frame_part
  part_agrees TheReservation u = reservation_part
  part_agrees (TheSlice h) u = go (names w r h) refl (ap view_refusal (sym (slice_view_lem h)) ∙ u)
    where
      go : (b : Bool) → names w r h ≡ b → (view_refusal (pick b (shown (at Pool h.start h.length)) (hidden NotLive))) ≡ 0 → Agrees (TheSlice h)
      go true e z = slice_part h (names_use w r h e)
      go false e z = absurd (omega (arith, z))

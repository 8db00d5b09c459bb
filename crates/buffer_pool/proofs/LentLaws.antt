-- The calls on a record's numbers (lent.rt) and those on a record by value (calls.rt, views.rt), from what their code knows where it
-- returns: commit, truncate, release and the views. Assumes nothing.
use mathlib.Core.Path.{◌≡◌, refl, sym, ap, ◌∙◌}
use mathlib.Core.Bool.{Bool, true, false, not}
use mathlib.Core.List.{List, []}
use Prim.Native.Nat.{ℕ, ◌+◌, ◌≤◌, ◌<◌, ◌^◌, min}
use native.Mathlib.Omega.{arith}
use mir.Val.{Fits}
use mir.Syntax.{w64}
use lib.Dec.{leb}
use borrow.Author.Tests.{lt-ltb, le-ltb, leb-true}
use Rattle.std.specs.Prelude.{Result, Ok, Err}
use Rattle.laws.specs.Live.{released}
use Rattle.laws.proofs.Tests.{both_true, not_true, not_false}
use Rattle.buffer_pool.specs.declared.slice.Handle.{Handle}
use Rattle.buffer_pool.specs.declared.buffer_pool.BufferPool.{BufferPool}
use Rattle.buffer_pool.specs.declared.buffer_pool.Entries.{Entries}
use Rattle.buffer_pool.specs.declared.buffer_pool.PoolMode.{PoolMode}
use Rattle.buffer_pool.specs.declared.buffer_pool.PoolMode.TheVariants.{Back, Front, Alloc}
use Rattle.buffer_pool.specs.declared.buffer_pool.Place.{Place}
use Rattle.buffer_pool.specs.declared.buffer_pool.Answer.TheVariants.{Framed}
use Rattle.buffer_pool.specs.declared.numbers.Numbers.{Numbers}
use Rattle.buffer_pool.specs.declared.lent.Resizing.{Resizing}
use Rattle.buffer_pool.specs.declared.refusals.Refusal.{Refusal}
use Rattle.buffer_pool.specs.declared.refusals.Refusal.TheVariants.{CommitTooLong, NotLive}
use Rattle.buffer_pool.specs.Record.{most_slots}
use Rattle.buffer_pool.specs.declared.buffer_pool.Memory.TheVariants.{Pool}
use Rattle.buffer_pool.specs.Numbers.{Rest, numbers_of, entries_of, rest_in, filled, bare, with_entries}
use Rattle.buffer_pool.specs.Moves.{Memories}
use Rattle.buffer_pool.specs.Sound.{InMode}
use Rattle.buffer_pool.specs.Values.{View}
use Rattle.buffer_pool.specs.Steps.{refused, at, frame, frame_of, reservation, resized, reframed, commit_step, truncate_step, names, release_step, called}
use Rattle.buffer_pool.specs.Calls.{outcome, guard, reserve, commit, truncate, release, hidden, shown, frame_view, reservation_view, slice_view}
use Rattle.buffer_pool.specs.Lent.{resized_in, resize_called, release_called, resized_on}
use Rattle.buffer_pool.specs.Deciding.{Worded}
use Rattle.buffer_pool.proofs.CallLaws.{through_back, turned, turned_away, through, let_through, through_orderly, through_sound, through_most}
use Rattle.buffer_pool.proofs.Soundness.{sound_use}
use Rattle.buffer_pool.proofs.ViewLaws.{through_sum, unnamed_view, named_view}

-- frame and reservation are those of the numbers
module _ (n : Numbers) (S L : List ℕ) (o : Rest) where
  pub frame_filled : (mode : PoolMode) → frame_of mode (bare n) ≡ frame_of mode (filled n S L o)
  frame_filled Back = refl
  frame_filled (Front f) = refl
  frame_filled Alloc = refl

  pub reservation_filled : reservation (bare n) ≡ reservation (filled n S L o)
  reservation_filled = ap (λ (f : Place). at f.memory (f.start + f.length) n.reserved) (frame_filled n.mode)

-- frame and reservation end within the pool or the kept bytes, so their sum is a 64-bit number
frame_sum : (p : BufferPool) (mode : PoolMode) → InMode p.slots mode p p.reserved → (bound : ℕ) → p.capacity ≤ bound → p.kept ≤ bound
    → (frame_of mode p).length + p.reserved ≤ bound
frame_sum p Back I bound c k = omega (arith, I.fits)
frame_sum p (Front f) I bound c k = omega (arith, I.fits, I.bytes_within)
frame_sum p Alloc I bound c k = omega (arith, I.fits)

module _ (n : Numbers) (E : Entries) (m : Memories) where
  abbrev p : BufferPool
  p = with_entries n E

  abbrev frame_is : frame_of n.mode (bare n) ≡ frame p
  frame_is = frame_filled n E.starts E.lengths (rest_in E) n.mode

  -- ---- A frame of another length

  resized_as : (mode : PoolMode) → n.mode ≡ mode → (len : ℕ) → resize_called p (Ok (resized_in mode n len)) ≡ reframed (resized mode p len)
  resized_as Back e len = rw e refl
  resized_as (Front f) e len = rw e refl
  resized_as Alloc e len = rw e refl

  -- ---- Turned away

  module _ (why : Refusal) (e : Err why ≡ guard n.slots p m) where
    module _ (r : Result Resizing Refusal) (f : r ≡ Err why) (len : ℕ) where
      pub commit_turned : outcome (resize_called p r) m [] ≡ commit n.slots p m len
      unfolding commit
      commit_turned = rw f (turned_away p m why e [] (outcome (commit_step p len) m []))

      pub truncate_turned : outcome (resize_called p r) m [] ≡ truncate n.slots p m len
      unfolding truncate
      truncate_turned = rw f (turned_away p m why e [] (outcome (truncate_step p len) m []))

    pub release_turned : (r : Result ℕ Refusal) → r ≡ Err why → (h : Handle) → outcome (release_called p r) m [] ≡ release n.slots p m h
    unfolding release
    release_turned r f h = rw f (turned_away p m why e [] (outcome (release_step p.slots p h) m []))

    module _ (v : View) (f : v ≡ Err why) where
      pub frame_turned : v ≡ frame_view n.slots p m
      unfolding frame_view
      frame_turned = f ∙ turned p m why e hidden (shown (frame p))

      pub reservation_turned : v ≡ reservation_view n.slots p m
      unfolding reservation_view
      reservation_turned = f ∙ turned p m why e hidden (shown (reservation p))

      pub slice_turned : (h : Handle) → v ≡ slice_view n.slots p m h
      unfolding slice_view
      slice_turned h = f ∙ turned p m why e hidden _

  -- ---- Let through

  module _ (e : Ok tt ≡ guard n.slots p m) where
    pub few_slots : n.slots ≤ most_slots
    few_slots = through_most p m e

    pub live_fits : n.live < 2 ^ n.slots
    live_fits = (through_orderly p m e).ready.slots.live_fits

    pub words_fit : Worded (bare n)
    words_fit = record { most = few_slots; word = live_fits }

    pub back_fits : n.back_start + n.back_len ≤ n.slots
    back_fits = through_back p m e

    pub reservation_start : (frame_of n.mode (bare n)).start + (frame_of n.mode (bare n)).length ≤ 18446744073709551615
    reservation_start = rw frame_is (through_sum p m e)

    module _ (len : ℕ) where
      pub commit_refused : n.reserved < len → outcome (refused p CommitTooLong) m [] ≡ commit n.slots p m len
      unfolding commit commit_step
      commit_refused h = let_through p m e [] _ (outcome (commit_step p len) m []) (rw (lt-ltb n.reserved len h))

      module _ (f : Place) (i : f ≡ frame_of n.mode (bare n)) where
        pub commit_done : len ≤ n.reserved → (r : Resizing) → r ≡ resized_in n.mode n (f.length + len)
            → outcome (resize_called p (Ok r)) m [] ≡ commit n.slots p m len
        unfolding commit commit_step
        commit_done h r g =
            let_through p m e [] _ (outcome (commit_step p len) m [])
            (rw (g, resized_as n.mode refl (f.length + len), le-ltb n.reserved len h, i, frame_is))

        pub commit_fits : len ≤ n.reserved → Fits w64 (f.length + len)
        commit_fits h =
            let s = sound_use n.slots p (through_sound p m e) in
            let O = through_orderly p m e in
            record {
              fits = rw (i, frame_is) (omega (arith, frame_sum p n.mode O.in_mode 1048576 s.capacity_limit (omega (arith, O.kept_within, s.overflow_limit))));
            }

        truncate_to : (kept : ℕ) → min f.length len ≡ kept → (r : Resizing) → r ≡ resized_in n.mode n kept
            → outcome (resize_called p (Ok r)) m [] ≡ truncate n.slots p m len
        unfolding truncate truncate_step
        truncate_to kept h r g =
            let_through p m e [] _ (outcome (truncate_step p len) m [])
            (rw (g, resized_as n.mode refl kept, ← h, i, frame_is))

        pub truncate_cuts : len < f.length → (r : Resizing) → r ≡ resized_in n.mode n len
            → outcome (resize_called p (Ok r)) m [] ≡ truncate n.slots p m len
        truncate_cuts h = truncate_to len (omega arith)

        pub truncate_keeps : f.length ≤ len → (r : Resizing) → r ≡ resized_in n.mode n f.length
            → outcome (resize_called p (Ok r)) m [] ≡ truncate n.slots p m len
        truncate_keeps h = truncate_to f.length (omega arith)

    pub frame_shown : (x : Place) → x ≡ frame_of n.mode (bare n) → Ok x ≡ frame_view n.slots p m
    unfolding frame_view
    frame_shown x f = rw (f, frame_is) (through p m e hidden (shown (frame p)))

    pub reservation_shown : (x : Place) → x ≡ reservation (bare n) → Ok x ≡ reservation_view n.slots p m
    unfolding reservation_view
    reservation_shown x f = rw (f, reservation_filled n E.starts E.lengths (rest_in E)) (through p m e hidden (shown (reservation p)))

    module _ (h : Handle) (b : Bool) (f : b ≡ names n.slots p h) where
      pub slice_unnamed : not b ≡ true → Err NotLive ≡ slice_view n.slots p m h
      slice_unnamed t = unnamed_view p m e h b f t

      module _ (t : not b ≡ false) where
        pub slice_shown : Ok (at Pool h.start h.length) ≡ slice_view n.slots p m h
        slice_shown = named_view p m e h b f t

        named : names n.slots p h ≡ true
        named = sym f ∙ not_false b t

        pub named_one : 1 ≤ h.slot
        unfolding names
        named_one = leb-true 1 h.slot (both_true (leb 1 h.slot) _ named).0

        pub named_most : h.slot ≤ n.slots
        unfolding names
        named_most = leb-true h.slot n.slots (both_true (leb h.slot n.slots) _ (both_true (leb 1 h.slot) _ named).1).0

        pub release_done : (live : ℕ) → live ≡ released n.slots n.live h.slot → outcome (release_called p (Ok live)) m [] ≡ release n.slots p m h
        unfolding release release_step
        release_done live i =
            let_through p m e [] _ (outcome (release_step p.slots p h) m []) (rw (i, ← f, not_false b t))

      pub release_refused : not b ≡ true → outcome (refused p NotLive) m [] ≡ release n.slots p m h
      unfolding release release_step
      release_refused t = let_through p m e [] _ (outcome (release_step p.slots p h) m []) (rw (← f, not_true b t))

-- ---- A commit or a truncate of a record by value

pub resized_left : (p : BufferPool) (x : Result Resizing Refusal) (r : Resizing) → x ≡ Ok r → called (resized_on p r) (Ok (Framed r.place)) ≡ resize_called p x
resized_left p x r e = ap (resize_called p) (sym e)

-- ---- A reserve of a record by value that is refused

pub reserve_left : (p : BufferPool) (n : Numbers) → n ≡ numbers_of p → (E : Entries) → E ≡ entries_of p → (m l : Memories) (len : ℕ) (why : Refusal)
    → outcome (refused (with_entries n E) why) l [] ≡ reserve n.slots (with_entries n E) m len
    → outcome (refused (with_entries n E) why) l [] ≡ reserve p.slots p m len
reserve_left p n i E j m l len why h = rw (i, j) (rw (i, j) at h)

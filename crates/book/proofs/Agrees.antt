-- Record, memories and book agree, and go on agreeing after every entry: a reserve by `place_carries`, the other calls by
-- what they do to frame and slots, a write because no two of frame, reservation and live slices meet. Assumes nothing.
use mathlib.Core.Path.{◌≡◌, refl, sym, ap, ◌∙◌, subst}
use mathlib.Core.Bool.{Bool, true, false}
use mathlib.Core.Logic.{◌≢◌}
use mathlib.Core.List.{List, [], ◌∷◌, ◌++◌}
use Prim.Native.Nat.{ℕ, zero, suc, ◌+◌, ◌-◌, ◌≤◌, min}
use native.Mathlib.Nat.{le_refl}
use native.Mathlib.Decide.{dec_le}
use native.Mathlib.Omega.{arith}
use borrow.Author.Tests.{leb-false, ltb-false, eqb-true, eqb-false}
use lib.Dec.{leb, ltb, eqb}
use lib.ListN.{length, set, take, drop, length-take}
use lib.Seq.{take-take, take_all}
use Rattle.std.specs.Prelude.{Ok}
use Rattle.laws.specs.Tests.{pick}
use Rattle.laws.specs.Lists.{part, moved}
use Rattle.laws.proofs.Tests.{no_true}
use Rattle.laws.proofs.Lists.{part_none, part_add}
use Rattle.laws.proofs.Copies.{length_copied}
use Rattle.buffer_pool.specs.declared.buffer_pool.BufferPool.{BufferPool}
use Rattle.buffer_pool.specs.declared.buffer_pool.PoolMode.{PoolMode}
use Rattle.buffer_pool.specs.declared.buffer_pool.PoolMode.TheVariants.{Back, Front, Alloc}
use Rattle.buffer_pool.specs.declared.buffer_pool.Memory.TheVariants.{Pool}
use Rattle.buffer_pool.specs.declared.buffer_pool.Place.{Place}
use Rattle.buffer_pool.specs.declared.buffer_pool.Answer.TheVariants.{Done}
use Rattle.buffer_pool.specs.declared.slice.Handle.{Handle}
use Rattle.buffer_pool.specs.Record.{caller_count}
use Rattle.buffer_pool.specs.Moves.{Memories, act, perform}
use Rattle.buffer_pool.specs.Placing.{Decision, place, is_too_long}
use Rattle.buffer_pool.specs.Soundness as test
use Rattle.buffer_pool.specs.Sound.{InMode, Orderly, Sound}
use Rattle.buffer_pool.specs.Values.{values, View, view_place}
use Rattle.buffer_pool.specs.Steps.{called, at, frame_of, frame, reservation, reserve_on, reserve_step, resized, reframed, refused, commit_step, truncate_step, most_serials, given_to, next_handle, handed_out, longer, take_on, take_step, take_moves, names, freed, release_step}
use Rattle.buffer_pool.specs.declared.refusals.Refusal.TheVariants.{CommitTooLong, NotLive}
use Rattle.buffer_pool.specs.Calls.{Outcome, outcome, misfit, copied_out, shown, hidden, memory_at, bytes_at, written}
use Rattle.buffer_pool.specs.Vocabulary.{Part, TheFrame, TheReservation, TheSlice, Call, Reserve, Commit, Truncate, Take, Release, Look, view_of, call}
use Rattle.buffer_pool.proofs.Soundness.{sound_make}
use Rattle.buffer_pool.proofs.Named.{Named, names_use, names_make, place_same}
use Rattle.buffer_pool.proofs.Unchanged.{Fixed, fixed, place_capacity, place_overflow}
use Rattle.buffer_pool.proofs.Ranges.{orderly_claim}
use Rattle.buffer_pool.proofs.SoundKept.{Step, step, step_orderly, step_sizes}
use Rattle.buffer_pool.proofs.SoundKept as kept
use Rattle.book.specs.Entries.{Entry, Own, Other, Write, State, lent_other, next}
use Rattle.book.specs.Book.{Pair, pair, Book, book, note, note_write, noted}
use Rattle.book.specs.Demand3.{Member, slice_of}
use Rattle.book.proofs.Carried.{Sized, pooled}
use Rattle.book.proofs.Carries.{Enough, place_carries}
use Rattle.book.proofs.Places.{Off, below, above, off_sym, written_same, written_off, written_sized}
use Rattle.book.proofs.Slices.{slice_frame, slice_offer, slice_slice}
use Rattle.book.proofs.Pairs.{Booked, booked_beside, booked_slots, booked_written, booked_claimed, booked_released}
use Rattle.book.proofs.Plain.{plain_view, plain_take, plain, sized_fits, view_own, call_own, call_other}

pub record Agrees (w : ℕ) (r : BufferPool) (m : Memories) (b : Book) : Type 0 where
  pub sound : Sound w r
  pub sized : Sized (fixed r) m
  pub gathered : bytes_at m (frame r) ≡ b.F
  pub offered : bytes_at m (reservation r) ≡ b.R
  pub booked : Booked w (fixed r) m b.pairs

-- calls and views are not turned away
module _ {w : ℕ} {r : BufferPool} {m : Memories} {b : Book} (G : Agrees w r m b) where
  pub agrees_tested : test.sound w r ≡ true
  agrees_tested = sound_make w r G.sound

  pub agrees_view : (v : Part) → view_of w r m v ≡ plain_view w r v
  agrees_view = view_own w r m agrees_tested (sized_fits r m G.sized)

  pub agrees_call : (c : Call) → call w r m c ≡ plain w r m c
  agrees_call = call_own w r m agrees_tested (sized_fits r m G.sized)

-- ---- Bytes at a place

pub empty_at : (m : Memories) (p : Place) → p.length ≡ 0 → bytes_at m p ≡ []
unfolding bytes_at
empty_at m p e = ap (part (memory_at p.memory m) p.start) e ∙ part_none (memory_at p.memory m) p.start

-- a frame longer by the first n of what follows it, and a frame cut
gains : (x : List ℕ) (s l a n : ℕ) → n ≤ a → part x s (l + n) ≡ part x s l ++ take n (part x (s + l) a)
unfolding part
gains x s l a n h = part_add x s l n ∙ ap (λ (y : List ℕ). part x s l ++ y) (sym (take-take n a (drop (s + l) x) h))

cuts : (x : List ℕ) (s l n : ℕ) → part x s (min l n) ≡ take n (part x s l)
unfolding part
cuts x s l n = go (dec_le n l)
  where
    go : Dec (n ≤ l) → take (min l n) (drop s x) ≡ take n (take l (drop s x))
    go (yes h) = let e : min l n ≡ n = omega arith in rw e (sym (take-take n l (drop s x) h))
    go (no h) = let e : min l n ≡ l = omega arith in rw e (sym (take_all n (take l (drop s x)) (rw length-take (omega arith))))

-- ---- The record after a commit or a truncate, and after a release

module _ (r : BufferPool) (len : ℕ) where
  resized_fixed : (mode : PoolMode) → fixed (resized mode r len) ≡ fixed r
  resized_fixed Back = refl
  resized_fixed (Front f) = refl
  resized_fixed Alloc = refl

  resized_frame : (mode : PoolMode) → frame (resized mode r len) ≡ at (frame_of mode r).memory (frame_of mode r).start len
  resized_frame Back = refl
  resized_frame (Front f) = refl
  resized_frame Alloc = refl

  resized_spent : (mode : PoolMode) → (resized mode r len).reserved ≡ 0
  resized_spent Back = refl
  resized_spent (Front f) = refl
  resized_spent Alloc = refl

freed_frame : (w : ℕ) (r : BufferPool) (p : ℕ) (mode : PoolMode) → frame_of mode (freed w r p) ≡ frame_of mode r
freed_frame w r p Back = refl
freed_frame w r p (Front f) = refl
freed_frame w r p Alloc = refl

sound_after : (w : ℕ) (r : BufferPool) (c : Step) → Sound w r → Sound w (step w r c).pool
sound_after w r c S =
    let z = step_sizes w r c in
    record {
      capacity_limit = omega (arith, z.0, S.capacity_limit);
      overflow_limit = omega (arith, z.1, S.overflow_limit);
      orderly = step_orderly w r c S.orderly;
    }

-- ---- The calls

abbrev After : ℕ → Book → Call → Outcome → Type 0
After w b c o =
    let said = values o.call.answer in
    Agrees w o.call.pool o.memory (note b (Own c) said (bytes_at o.memory said.place))

module _ (w : ℕ) (r : BufferPool) (m : Memories) (b : Book) (G : Agrees w r m b) where
  abbrev S : Orderly w r
  S = G.sound.orderly

  resize : {x : Fixed} → x.capacity ≡ r.capacity → x.overflow ≡ r.overflow → Sized x m
  resize p q = record { pool_is = G.sized.pool_is ∙ sym p; overflow_is = G.sized.overflow_is ∙ sym q }

  -- ---- Reserve

  module _ (len : ℕ) where
    abbrev d : Decision
    d = place w r len

    placed_agrees : Enough len d → Sound w d.next
        → Agrees w d.next (perform d.moves m)
        (book b.F (bytes_at (perform d.moves m) (reservation d.next)) b.pairs)
    unfolding bytes_at
    placed_agrees h N =
        let C = place_carries w len r S m G.sized h in
        record {
          sound = N;
          sized =
              record {
                pool_is = C.pool_same ∙ G.sized.pool_is ∙ sym (place_capacity w r len);
                overflow_is = C.overflow_same ∙ G.sized.overflow_is ∙ sym (place_overflow w r len);
              };
          gathered = C.frame ∙ G.gathered;
          offered = refl;
          booked =
              booked_slots
              (booked_beside G.booked
              (λ y i. let N = G.booked.named y i in rw (N.start_is, N.length_is) (C.slices y.handle.slot N.here)))
              (place_same w r len);
        }

    reserve_agrees : After w b (Reserve len) (plain w r m (Reserve len))
    unfolding reserve_step reserve_on is_too_long
    reserve_agrees = go (is_too_long d len) refl (sound_after w r (kept.Reserve len) G.sound)
      where
        go : (t : Bool) → is_too_long d len ≡ t → Sound w (reserve_on t r d).pool
            → After w b (Reserve len) (outcome (reserve_on t r d) (pick t m (perform d.moves m)) [])
        go true e N = G
        go false e N = placed_agrees (λ h. ltb-false _ _ (rw h at e)) N

  -- ---- Commit and truncate

  -- another length of the frame, nothing reserved
  resized_agrees : (mode : PoolMode) (len : ℕ) (F : List ℕ) → Sound w (resized mode r len)
      → bytes_at m (at (frame_of mode r).memory (frame_of mode r).start len) ≡ F
      → Agrees w (resized mode r len) m (book F [] b.pairs)
  resized_agrees mode len F N h =
      record {
        sound = N;
        sized = subst (λ (x : Fixed). Sized x m) (sym (resized_fixed r len mode)) G.sized;
        gathered = ap (bytes_at m) (resized_frame r len mode) ∙ h;
        offered = empty_at m (reservation (resized mode r len)) (resized_spent r len mode);
        booked = subst (λ (x : Fixed). Booked w x m b.pairs) (sym (resized_fixed r len mode)) G.booked;
      }

  commit_agrees : (n : ℕ) → After w b (Commit n) (plain w r m (Commit n))
  unfolding commit_step bytes_at
  commit_agrees n = go (ltb r.reserved n) refl (sound_after w r (kept.Commit n) G.sound)
    where
      go : (t : Bool) → ltb r.reserved n ≡ t
          → Sound w (pick t (refused r CommitTooLong) (reframed (resized r.mode r ((frame r).length + n)))).pool
          → After w b (Commit n) (outcome (pick t (refused r CommitTooLong) (reframed (resized r.mode r ((frame r).length + n)))) m [])
      go true e N = G
      go false e N =
          resized_agrees r.mode ((frame r).length + n) _ N
          (gains (memory_at (frame r).memory m) (frame r).start (frame r).length r.reserved n (ltb-false r.reserved n e)
          ∙ rw (← G.gathered, ← G.offered) refl)

  truncate_agrees : (n : ℕ) → After w b (Truncate n) (plain w r m (Truncate n))
  unfolding truncate_step bytes_at
  truncate_agrees n =
      resized_agrees r.mode (min (frame r).length n) _ (sound_after w r (kept.Truncate n) G.sound)
      (cuts (memory_at (frame r).memory m) (frame r).start (frame r).length n ∙ ap (take n) G.gathered)

  -- ---- Take

  -- the frame becomes the slice of a free slot
  handed_booked : (caller : ℕ) → leb caller_count caller ≡ false → eqb r.raw_len 0 ≡ false → (mode : PoolMode) (n : ℕ)
      → pooled r m ≡ b.F → Booked w (fixed (handed_out w caller r mode n)) m (pair (next_handle r caller) b.F ∷ b.pairs)
  unfolding bytes_at
  handed_booked caller a e mode n h =
      let C = orderly_claim w r S (omega (arith, eqb-false r.raw_len 0 e)) in
      booked_claimed G.booked r.used r.raw_offset r.raw_len (suc (given_to r caller)) caller b.F C.within
      C.free S.ready.slots.starts_w S.ready.slots.lengths_w S.ready.serials_fit (leb-false caller_count caller a) h

  -- the bytes after a copied frame move down in the overflow
  down_sizes : (n : ℕ) → n ≤ r.kept → r.kept ≤ length m.overflow
      → ((perform (take_moves r n) m).pool ≡ m.pool) × (length (perform (take_moves r n) m).overflow ≡ length m.overflow)
  unfolding take_moves perform act moved
  down_sizes zero h k = (refl, refl)
  down_sizes (suc n) h k =
      (refl, length_copied m.overflow (suc n) (r.kept - suc n) m.overflow 0 (omega arith) (omega arith))

  take_agrees : (caller : ℕ) (destination : List ℕ) → After w b (Take caller destination) (plain w r m (Take caller destination))
  unfolding take_step take_on copied_out take_moves perform bytes_at
  take_agrees caller destination =
      go (leb caller_count caller) refl (eqb (frame r).length 0) (ltb (length destination) (frame r).length)
      (leb most_serials (given_to r caller)) r.mode refl S.in_mode G.gathered
      (sound_after w r (kept.Take caller (length destination)) G.sound)
    where
      go : (none : Bool) → leb caller_count caller ≡ none → (z long spent : Bool) (mode : PoolMode) → eqb (frame_of mode r).length 0 ≡ z
          → InMode w mode r r.reserved → bytes_at m (frame_of mode r) ≡ b.F → let c = take_on none z long spent mode w caller r in
          Sound w c.pool → After w b (Take caller destination) (plain_take r m destination c)
      go true a z long spent mode e I h N = G
      go false a true long spent mode e I h N =
          resized_agrees mode (frame_of mode r).length [] N
          (empty_at m (frame_of mode r) (eqb-true (frame_of mode r).length 0 e))
      go false a false long true Back e I h N = G
      go false a false long false Back e I h N =
          record {
            sound = N;
            sized = resize refl refl;
            gathered = part_none m.pool (r.raw_offset + r.raw_len);
            offered = part_none m.pool (r.raw_offset + r.raw_len + 0);
            booked = handed_booked caller a e Back (suc r.used - r.back_start) h;
          }
      go false a false long true (Front f) e I h N = G
      go false a false long false (Front f) e I h N =
          record {
            sound = N;
            sized = resize refl refl;
            gathered = part_none m.pool (r.raw_offset + r.raw_len);
            offered = part_none m.pool (r.raw_offset + r.raw_len + 0);
            booked = handed_booked caller a e (Front (longer f (suc r.used))) r.back_len h;
          }
      go false a false true spent Alloc e I h N = G
      go false a false false spent Alloc e I h N =
          let d = down_sizes r.cursor (omega (arith, I.fits)) (omega (arith, S.kept_within, G.sized.overflow_is)) in
          record {
            sound = N;
            sized = record { pool_is = ap length d.0 ∙ G.sized.pool_is; overflow_is = d.1 ∙ G.sized.overflow_is };
            gathered = part_none _ 0;
            offered = part_none _ 0;
            booked =
                booked_beside G.booked
                (λ y i. ap (λ (x : List ℕ). part x y.handle.start y.handle.length) d.0);
          }

  -- ---- Release and the views

  release_agrees : (h : Handle) → After w b (Release h) (plain w r m (Release h))
  unfolding release_step
  release_agrees h = go (names w r h) refl (sound_after w r (kept.Release h) G.sound)
    where
      go : (t : Bool) → names w r h ≡ t → Sound w (pick t (called (freed w r h.slot) (Ok Done)) (refused r NotLive)).pool
          → After w b (Release h) (outcome (pick t (called (freed w r h.slot) (Ok Done)) (refused r NotLive)) m [])
      go true e N =
          let q = freed_frame w r h.slot r.mode in
          record {
            sound = N;
            sized = resize refl refl;
            gathered = ap (bytes_at m) q ∙ G.gathered;
            offered = ap (λ (p : Place). bytes_at m (at p.memory (p.start + p.length) r.reserved)) q ∙ G.offered;
            booked = booked_released G.booked h (names_use w r h e);
          }
      go false e N = G

  look_agrees : (v : Part) → After w b (Look v) (plain w r m (Look v))
  look_agrees v = go (eqb (values (plain w r m (Look v)).call.answer).number 0)
    where
      go : (t : Bool) → Agrees w r m (pick t b b)
      go true = G
      go false = G

  call_agrees : (c : Call) → After w b c (plain w r m c)
  call_agrees (Reserve len) = reserve_agrees len
  call_agrees (Commit n) = commit_agrees n
  call_agrees (Truncate n) = truncate_agrees n
  call_agrees (Take caller destination) = take_agrees caller destination
  call_agrees (Release h) = release_agrees h
  call_agrees (Look v) = look_agrees v

  -- ---- Writes

  offer_frame : Off (reservation r) (frame r)
  offer_frame = above (le_refl _)

  write_agrees : (v : Part) (i byte : ℕ) → Agrees w r (written m (view_place (plain_view w r v)) i byte) (note_write b v i byte)
  write_agrees TheFrame i byte =
      record {
        sound = G.sound;
        sized = written_sized m i byte (frame r) G.sized;
        gathered = written_same m i byte (frame r) ∙ ap (λ (l : List ℕ). set l i byte) G.gathered;
        offered = written_off m i byte (frame r) (reservation r) offer_frame ∙ G.offered;
        booked =
            booked_beside G.booked
            (λ y j. written_off m i byte (frame r) (slice_of y) (slice_frame w r S y.handle (G.booked.named y j)));
      }
  write_agrees TheReservation i byte =
      record {
        sound = G.sound;
        sized = written_sized m i byte (reservation r) G.sized;
        gathered = written_off m i byte (reservation r) (frame r) (off_sym offer_frame) ∙ G.gathered;
        offered = written_same m i byte (reservation r) ∙ ap (λ (l : List ℕ). set l i byte) G.offered;
        booked =
            booked_beside G.booked
            (λ y j. written_off m i byte (reservation r) (slice_of y) (slice_offer w r S y.handle (G.booked.named y j)));
      }
  write_agrees (TheSlice h) i byte = go (names w r h) refl
    where
      shr_slice_at : (p : Place) → (Named w (fixed r) h → p ≡ at Pool h.start h.length) → Off p (frame r)
          → Off p (reservation r) → ((y : Pair) → Member y b.pairs → y.handle ≢ h → Off (slice_of y) p)
          → Agrees w r (written m p i byte) (note_write b (TheSlice h) i byte)
      shr_slice_at p is f o off =
          record {
            sound = G.sound;
            sized = written_sized m i byte p G.sized;
            gathered = written_off m i byte p (frame r) (off_sym f) ∙ G.gathered;
            offered = written_off m i byte p (reservation r) (off_sym o) ∙ G.offered;
            booked = booked_written G.booked h p i byte is off;
          }

      go : (t : Bool) → names w r h ≡ t
          → Agrees w r (written m (view_place (pick t (shown (at Pool h.start h.length)) (hidden NotLive))) i byte)
          (note_write b (TheSlice h) i byte)
      go true e =
          let N = names_use w r h e in
          shr_slice_at (at Pool h.start h.length) (λ n. refl) (slice_frame w r S h N) (slice_offer w r S h N)
          (λ y j n. slice_slice w r S y.handle h (G.booked.named y j) N n)
      go false e =
          shr_slice_at (at Pool 0 0) (λ n. absurd (no_true (sym e ∙ names_make w r h n))) (below (omega arith))
          (below (omega arith)) (λ y j n. above (omega arith))

-- ---- Every entry

pub next_agrees : (w : ℕ) (s : State) (b : Book) → Agrees w s.pool s.lent b → (e : Entry)
    → Agrees w (next w s e).pool (next w s e).lent (noted w s b e)
next_agrees w s b G (Own c) = subst (After w b c) (sym (agrees_call G c)) (call_agrees w s.pool s.lent b G c)
next_agrees w s b G (Other m c) = go (misfit s.pool m) refl
  where
    other : Bool → Outcome
    other t = lent_other t s (call w s.pool m c)

    go : (t : Bool) → misfit s.pool m ≡ t → Agrees w (other t).call.pool (other t).memory b
    go true f =
        subst (λ (o : Outcome). Agrees w o.call.pool s.lent b) (sym (call_other w s.pool m (agrees_tested G) f c)) G
    go false f = G
next_agrees w s b G (Write v i byte) =
    subst (λ (x : View). Agrees w s.pool (written s.lent (view_place x) i byte) (note_write b v i byte))
    (sym (agrees_view G v)) (write_agrees w s.pool s.lent b G v i byte)

-- Every call is refused with the first of its causes that holds, and with 0 where none does, for every record and memories. 1
-- and 2 are tested first; of the rest the step's own test is the cause, in other words: for 4 the Rust's own reserve decides
-- by `rust_agrees`, for 7 the test is turned over. Assumes nothing.
use mathlib.Core.Path.{◌≡◌, refl, sym, ◌∙◌, ap}
use mathlib.Core.Bool.{Bool, true, false, not, ◌&&◌, ◌||◌}
use mathlib.Core.List.{List, [], ◌∷◌}
use mathlib.Core.Logic.{◌⊎◌, inl, inr}
use Prim.Native.Nat.{ℕ, suc, ◌+◌}
use native.Mathlib.Omega.{arith}
use borrow.Author.Tests.{eqb-false, eqb-true, le-ltb, lt-ltb, ltb-false, ltb-true}
use lib.Dec.{leb, ltb, eqb}
use lib.ListN.{length}
use lib.Seq.{length-take-le}
use Rattle.std.specs.Prelude.{Ok}
use Rattle.laws.specs.Tests.{pick}
use Rattle.laws.specs.Live.{live_at}
use Rattle.laws.proofs.Tests.{no_true}
use Rattle.buffer_pool.specs.declared.refusals.Refusal.{Refusal}
use Rattle.buffer_pool.specs.declared.slice.Handle.{Handle}
use Rattle.buffer_pool.specs.declared.buffer_pool.BufferPool.{BufferPool}
use Rattle.buffer_pool.specs.declared.buffer_pool.PoolMode.{PoolMode}
use Rattle.buffer_pool.specs.declared.buffer_pool.PoolMode.TheVariants.{Back, Front, Alloc}
use Rattle.buffer_pool.specs.declared.buffer_pool.Memory.TheVariants.{Pool}
use Rattle.buffer_pool.specs.declared.buffer_pool.Place.{Place}
use Rattle.buffer_pool.specs.declared.buffer_pool.Answer.TheVariants.{Done}
use Rattle.buffer_pool.specs.Record.{cut, byte_limit, caller_count, start_at}
use Rattle.buffer_pool.specs.Moves.{Memories}
use Rattle.buffer_pool.specs.Placing.{Decision, place, is_too_long, is_alloc}
use Rattle.buffer_pool.specs.Soundness.{is_slot_count, sound}
use Rattle.buffer_pool.specs.Sound.{Orderly}
use Rattle.buffer_pool.specs.Values.{refusal_number, refusal, view_refusal}
use Rattle.buffer_pool.specs.Steps.{called, refused, at, frame, frame_of, reservation, reserve_on, reserve_step, resized, reframed, commit_step, truncate_step, most_serials, given_to, take_on, take_step, names, freed, release_step}
use Rattle.buffer_pool.specs.declared.refusals.Refusal.TheVariants.{Unsound, WrongLength, CommitTooLong, NotLive}
use Rattle.buffer_pool.specs.Calls.{Outcome, outcome, misfit, guarded, guarded_call, new_on, new, reserve, commit, truncate, copied_out, take, release, hidden, shown, frame_view, reservation_view, slice_view}
use Rattle.buffer_pool.specs.Rust.{RustPool, rust_reserve}
use Rattle.buffer_pool.specs.AsRust.{Exact, rust_of, heap_of, Mirrors, Stands}
use Rattle.buffer_pool.specs.Vocabulary.{Part, TheFrame, TheReservation, TheSlice, Call, Reserve, Commit, Truncate, Take, Release, Look, view_of, call, number_of}
use Rattle.buffer_pool.specs.Causes.{unsound, too_large, wrong_count, in_overflow, uses_heap, heap_too_short, past_reservation, destination_too_short, unknown_caller, unknown, serials_exhausted, Cause, cause, view_causes, own_causes, causes, new_causes, first_cause, First}
use Rattle.buffer_pool.proofs.ViewPlaces.{fits}
use Rattle.buffer_pool.proofs.Soundness.{sound_use}
use Rattle.buffer_pool.proofs.Answers.{view_number}
use Rattle.buffer_pool.proofs.Unchanged.{place_overflow}
use Rattle.buffer_pool.proofs.FrameLength.{place_leaves}
use Rattle.buffer_pool.proofs.RustAgrees.{rust_agrees}
use Rattle.buffer_pool.proofs.Cut.{frame_cut, orderly_cut, exact_cut, placed_cut}

-- ---- Cause 4, by the Rust's reserve

module _ (w : ℕ) (r : BufferPool) (len : ℕ) (O : Orderly w r) where
  abbrev d : Decision
  d = place w r len

  mode_memory : (mode : PoolMode) (q : BufferPool) → in_overflow (frame_of mode q).memory ≡ is_alloc mode
  mode_memory Back q = refl
  mode_memory (Front f) q = refl
  mode_memory Alloc q = refl

  -- in A the overflow's frame is the frame
  counted : (mode : PoolMode) (q : BufferPool) → q.overflow ≡ r.overflow → (frame_of mode q).length ≡ (frame r).length
      → (is_alloc mode && ltb r.overflow ((frame r).length + len)) ≡ (is_alloc mode && ltb q.overflow (q.cursor + len))
  counted Back q a b = refl
  counted (Front f) q a b = refl
  counted Alloc q a b = rw (a, b) refl

  heap_is : (k : ℕ) (m : Memories) (p : RustPool) → Exact w r → Mirrors r m p
      → (uses_heap (rust_reserve w (suc (suc (suc k))) p len) && ltb r.overflow ((frame r).length + len)) ≡ is_too_long d len
  unfolding is_too_long
  heap_is k m p X M =
      let L = place_leaves w r len O in
      rw ((rust_agrees w k r m p len X O M).run_is, mode_memory d.next.mode d.next, L.1)
      (counted d.next.mode d.next (place_overflow w r len) L.0)

-- ---- Memories of the record's lengths

-- the Rust's pool of a record and its memories
pub mirrored : (w : ℕ) (r : BufferPool) (m : Memories) → Orderly w r → length m.pool ≡ r.capacity → length m.overflow ≡ r.overflow
    → Mirrors r (heap_of r m) (rust_of r (heap_of r m) r.reserved)
mirrored w r m O a b =
    record {
      own = r.reserved;
      is = refl;
      pool_size = a;
      heap_size = length-take-le r.kept m.overflow (omega (arith, O.kept_within));
      own_is = λ e. refl;
    }

-- the same of a record with longer arrays: the Rust's pool is that of its cut
heap_cut : (w : ℕ) (r : BufferPool) (len : ℕ) → Orderly w r → (k : ℕ) (m : Memories) (p : RustPool) → Mirrors (cut w r) (heap_of r m) p
    → (uses_heap (rust_reserve w (suc (suc (suc k))) p len) && ltb r.overflow ((frame r).length + len)) ≡ is_too_long (place w r len) len
unfolding is_too_long
heap_cut w r len O k m p M =
    ap (λ (x : Place). uses_heap (rust_reserve w (suc (suc (suc k))) p len) && ltb r.overflow (x.length + len)) (sym (frame_cut w r.mode r))
    ∙ heap_is w (cut w r) len (orderly_cut w r O) k (heap_of r m) p (exact_cut w r (orderly_cut w r O)) M
    ∙ ap (λ (d : Decision). is_too_long d len) (placed_cut w r len O)

-- ---- The steps

-- the step's number is that of the first of its own causes
reserve_first : (w : ℕ) (r : BufferPool) (m : Memories) (len : ℕ) → Orderly w r → misfit r m ≡ false
    → refusal (reserve_step w r len).answer ≡ first_cause (cause 4 (heap_too_short w r m len) ∷ [])
unfolding reserve_step reserve_on refusal heap_too_short first_cause
reserve_first w r m len O e =
    rw (heap_cut w r len O 0 m (rust_of (cut w r) (heap_of r m) r.reserved) (mirrored w (cut w r) m (orderly_cut w r O) (fits r m e).0 (fits r m e).1)) (go (is_too_long (place w r len) len))
  where
    go : (t : Bool) → refusal (reserve_on t r (place w r len)).answer ≡ pick t 4 0
    go true = refl
    go false = refl

commit_first : (r : BufferPool) (n : ℕ) → refusal (commit_step r n).answer ≡ first_cause (cause 5 (past_reservation r n) ∷ [])
unfolding commit_step refusal past_reservation first_cause
commit_first r n = go (ltb r.reserved n)
  where
    go : (t : Bool)
        → refusal (pick t (refused r CommitTooLong) (reframed (resized r.mode r ((frame r).length + n)))).answer ≡ pick t 5 0
    go true = refl
    go false = refl

truncate_first : (r : BufferPool) (n : ℕ) → refusal (truncate_step r n).answer ≡ first_cause []
unfolding truncate_step refusal first_cause
truncate_first r n = refl

-- a frame or a reservation is not looked at
none : 0 ≡ first_cause []
unfolding first_cause
none = refl

take_first : (w : ℕ) (r : BufferPool) (caller : ℕ) (destination : List ℕ)
    → refusal (take_step w r caller (length destination)).answer
    ≡ first_cause
    (cause 12 (unknown_caller caller)
    ∷ cause 6 (destination_too_short r destination)
    ∷ cause 8 (serials_exhausted r caller)
    ∷ [])
unfolding take_step take_on refusal unknown_caller destination_too_short serials_exhausted first_cause
take_first w r caller destination =
    called_by (leb caller_count caller) _ _ _ (go r.mode (eqb (frame r).length 0) refl (leb most_serials (given_to r caller)))
  where
    room : ℕ
    room = length destination

    go : (mode : PoolMode) → let n = (frame_of mode r).length in
        (z : Bool) → eqb n 0 ≡ z → (spent : Bool)
        → refusal (take_on false z (ltb room n) spent mode w caller r).answer
        ≡ pick (in_overflow (frame_of mode r).memory && ltb room n) 6
        (pick (not (in_overflow (frame_of mode r).memory) && (ltb 0 n && spent)) 8 0)
    go Back true e spent = rw (le-ltb 0 r.raw_len (omega (arith, eqb-true r.raw_len 0 e))) refl
    go Back false e true = rw (lt-ltb 0 r.raw_len (omega (arith, eqb-false r.raw_len 0 e))) refl
    go Back false e false = rw (lt-ltb 0 r.raw_len (omega (arith, eqb-false r.raw_len 0 e))) refl
    go (Front f) true e spent = rw (le-ltb 0 r.raw_len (omega (arith, eqb-true r.raw_len 0 e))) refl
    go (Front f) false e true = rw (lt-ltb 0 r.raw_len (omega (arith, eqb-false r.raw_len 0 e))) refl
    go (Front f) false e false = rw (lt-ltb 0 r.raw_len (omega (arith, eqb-false r.raw_len 0 e))) refl
    go Alloc true e spent = rw (le-ltb room r.cursor (omega (arith, eqb-true r.cursor 0 e))) refl
    go Alloc false e spent = long (ltb room r.cursor)
      where
        long : (t : Bool) → refusal (take_on false false t spent Alloc w caller r).answer ≡ pick (true && t) 6 (pick false 8 0)
        long true = refl
        long false = refl

    called_by : (none z long spent : Bool) {rest : ℕ} → refusal (take_on false z long spent r.mode w caller r).answer ≡ rest
        → refusal (take_on none z long spent r.mode w caller r).answer ≡ pick none 12 rest
    called_by true z long spent e = refl
    called_by false z long spent e = e

-- above 3 is not below the count
above : (caller : ℕ) → ltb 3 caller ≡ not (ltb caller caller_count)
above caller = go (ltb caller caller_count) refl
  where
    go : (t : Bool) → ltb caller caller_count ≡ t → ltb 3 caller ≡ not t
    go true e = le-ltb 3 caller (omega (arith, ltb-true caller caller_count e))
    go false e = lt-ltb 3 caller (omega (arith, ltb-false caller caller_count e))

unknown_is : (w : ℕ) (r : BufferPool) (h : Handle) → unknown w r h ≡ not (names w r h)
unfolding unknown unknown_caller names
unknown_is w r h =
    go (leb 1 h.slot) (leb h.slot w) (live_at w r.live h.slot) (eqb h.start (start_at r.starts h.slot))
    (eqb h.length (start_at r.lengths h.slot)) (eqb h.serial (start_at r.serials h.slot))
    (eqb h.caller (start_at r.callers h.slot)) (ltb h.caller caller_count) (ltb 3 h.caller) (above h.caller)
  where
    go : (a b c d e f g k u : Bool) → u ≡ not k
        → (not (a && b) || (not c || (not d || (not e || (not f || (not g || u))))))
        ≡ not (a && (b && (c && (d && (e && (f && (g && k)))))))
    go false b c d e f g k u z = refl
    go true false c d e f g k u z = refl
    go true true false d e f g k u z = refl
    go true true true false e f g k u z = refl
    go true true true true false f g k u z = refl
    go true true true true true false g k u z = refl
    go true true true true true true false k u z = refl
    go true true true true true true true k u z = z

release_first : (w : ℕ) (r : BufferPool) (h : Handle) → refusal (release_step w r h).answer ≡ first_cause (cause 7 (unknown w r h) ∷ [])
unfolding release_step refusal first_cause
release_first w r h = rw (unknown_is w r h) (go (names w r h))
  where
    go : (t : Bool) → refusal (pick t (called (freed w r h.slot) (Ok Done)) (refused r NotLive)).answer ≡ pick (not t) 7 0
    go true = refl
    go false = refl

-- the views' own cause
view_first : (w : ℕ) (r : BufferPool) (h : Handle)
    → (view_refusal (pick (names w r h) (shown (at Pool h.start h.length)) (hidden NotLive))) ≡ first_cause (cause 7 (unknown w r h) ∷ [])
unfolding first_cause
view_first w r h = rw (unknown_is w r h) (go (names w r h))
  where
    go : (t : Bool) → (view_refusal (pick t (shown (at Pool h.start h.length)) (hidden NotLive))) ≡ pick (not t) 7 0
    go true = refl
    go false = refl

-- ---- The calls: 1 and 2 before the step's own

module _ (w : ℕ) (r : BufferPool) (m : Memories) where
  guarded_first : {A : Type 0} (number : A → ℕ) (refuse : Refusal → A) → ((why : Refusal) → number (refuse why) ≡ refusal_number why) → (a : A) (own : List Cause)
      → (Orderly w r → misfit r m ≡ false → number a ≡ first_cause own)
      → number (guarded w r m refuse a) ≡ first_cause (cause 1 (unsound w r) ∷ cause 2 (misfit r m) ∷ own)
  unfolding first_cause unsound
  guarded_first number refuse numbered a own f = go (sound w r) refl (misfit r m) refl
    where
      go : (s : Bool) → sound w r ≡ s → (x : Bool) → misfit r m ≡ x
          → number (pick (not s) (refuse Unsound) (pick x (refuse WrongLength) a)) ≡ pick (not s) 1 (pick x 2 (first_cause own))
      go false p x q = numbered Unsound
      go true p true q = numbered WrongLength
      go true p false q = f (sound_use w r p).orderly q

  -- a call, with this destination
  call_first : (destination : List ℕ) (o : Outcome) (own : List Cause)
      → (Orderly w r → misfit r m ≡ false → refusal o.call.answer ≡ first_cause own)
      → refusal (guarded_call w r m destination o).call.answer ≡ first_cause (cause 1 (unsound w r) ∷ cause 2 (misfit r m) ∷ own)
  unfolding refusal
  call_first destination = guarded_first (λ (o : Outcome). refusal o.call.answer) (λ n. outcome (refused r n) m destination) (λ n. refl)

  part_first : (part : Part) → view_refusal (view_of w r m part) ≡ first_cause (cause 1 (unsound w r) ∷ cause 2 (misfit r m) ∷ view_causes w r part)
  unfolding view_of view_causes frame_view reservation_view slice_view
  part_first TheFrame = guarded_first view_refusal hidden (λ n. refl) (shown (frame r)) [] (λ O e. none)
  part_first TheReservation = guarded_first view_refusal hidden (λ n. refl) (shown (reservation r)) [] (λ O e. none)
  part_first (TheSlice h) = guarded_first view_refusal hidden (λ n. refl) _ _ (λ O e. view_first w r h)

  pub only_for_cause : (c : Call) → number_of w r m c ≡ first_cause (causes w r m c)
  unfolding number_of call causes own_causes reserve commit truncate take copied_out release
  only_for_cause (Reserve len) = call_first [] _ _ (λ O e. reserve_first w r m len O e)
  only_for_cause (Commit n) = call_first [] _ _ (λ O e. commit_first r n)
  only_for_cause (Truncate n) = call_first [] _ _ (λ O e. truncate_first r n)
  only_for_cause (Take caller destination) = call_first destination _ _ (λ O e. take_first w r caller destination)
  only_for_cause (Release h) = call_first [] _ _ (λ O e. release_first w r h)
  only_for_cause (Look part) = view_number (view_of w r m part) ∙ part_first part

-- ---- Another slot count: a sound record has 8 or 16

pub other_count : (w : ℕ) (r : BufferPool) (m : Memories) (c : Call) → wrong_count w ≡ true → number_of w r m c ≡ 1
unfolding wrong_count causes unsound first_cause
other_count w r m c h = only_for_cause w r m c ∙ go (sound w r) refl
  where
    go : (b : Bool) → sound w r ≡ b → first_cause (cause 1 (not b) ∷ cause 2 (misfit r m) ∷ own_causes w r m c) ≡ 1
    go true e = absurd (no_true (sym (ap not (sound_use w r e).orderly.ready.is_count) ∙ h))
    go false e = refl

-- ---- New

pub new_only_for_cause : (w : ℕ) (m : Memories) → refusal (new w m).call.answer ≡ first_cause (new_causes w m)
unfolding new refusal new_causes wrong_count too_large first_cause
new_only_for_cause w m = go (is_slot_count w) (ltb byte_limit (length m.pool) || ltb byte_limit (length m.overflow))
  where
    go : (i t : Bool) → refusal (new_on i t w m).call.answer ≡ pick (not i) 16 (pick t 3 0)
    go false t = refl
    go true true = refl
    go true false = refl

-- ---- 4 in the Rust's terms

-- whichever of the Rust's pools stands for the record and the memories, and however many more calls of `reserve_` are allowed
pub four_is_the_rusts : (w k : ℕ) (r : BufferPool) (m : Memories) (p : RustPool) (len : ℕ) → sound w r ≡ true → Stands (cut w r) m p
    → heap_too_short w r m len
    ≡ (uses_heap (rust_reserve w (suc (suc (suc k))) p len) && ltb r.overflow ((frame r).length + len))
unfolding heap_too_short
four_is_the_rusts w k r m p len s T =
    let O = (sound_use w r s).orderly in
    heap_cut w r len O 0 m (rust_of (cut w r) (heap_of r m) r.reserved) (mirrored w (cut w r) m (orderly_cut w r O) T.mirrors.pool_size T.overflow_size)
    ∙ sym (heap_cut w r len O k m p T.mirrors)

-- ---- The first cause, in words

pub first_is : (k : ℕ) (cs : List Cause) → First k cs → first_cause cs ≡ k
unfolding First first_cause
first_is k [] f = absurd f
first_is k (c ∷ cs) (inl h) = rw h.0 h.1
first_is k (c ∷ cs) (inr h) = rw h.0 (first_is k cs h.1)

pub first_holds : (k : ℕ) (cs : List Cause) → first_cause cs ≡ suc k → First (suc k) cs
unfolding First first_cause
first_holds k [] = λ e. absurd (omega arith)
first_holds k (c ∷ cs) = go c.holds refl (first_holds k cs)
  where
    go : (t : Bool) → c.holds ≡ t → (first_cause cs ≡ suc k → First (suc k) cs) → pick t c.number (first_cause cs) ≡ suc k
        → ((c.holds ≡ true) × (c.number ≡ suc k)) ⊎ ((c.holds ≡ false) × First (suc k) cs)
    go true p rest e = inl (p, e)
    go false p rest e = inr (p, rest e)

-- What a call on numbers gives (src/lent.rt) it gives of every record with these numbers and the arrays that it reads: the entries that it
-- does not read may be others. Assumes nothing.
use mathlib.Core.Path.{◌≡◌, refl, sym, ap, ◌∙◌}
use mathlib.Core.Bool.{Bool, true, false, not}
use mathlib.Core.List.{List, []}
use Prim.Native.Nat.{ℕ, ◌+◌, min}
use lib.Dec.{ltb}
use Rattle.std.specs.Prelude.{Result, Ok, Err}
use Rattle.laws.specs.Tests.{pick}
use Rattle.buffer_pool.specs.declared.slice.Handle.{Handle}
use Rattle.buffer_pool.specs.declared.buffer_pool.BufferPool.{BufferPool}
use Rattle.buffer_pool.specs.declared.buffer_pool.PoolMode.{PoolMode}
use Rattle.buffer_pool.specs.declared.buffer_pool.PoolMode.TheVariants.{Back, Front, Alloc}
use Rattle.buffer_pool.specs.declared.buffer_pool.Answer.TheVariants.{Done, Reserved}
use Rattle.buffer_pool.specs.declared.buffer_pool.Called.{Called}
use Rattle.buffer_pool.specs.declared.numbers.Numbers.{Numbers}
use Rattle.buffer_pool.specs.declared.lent.Resizing.{Resizing}
use Rattle.buffer_pool.specs.declared.lent.Reserving.{Reserving}
use Rattle.buffer_pool.specs.declared.refusals.Refusal.{Refusal}
use Rattle.buffer_pool.specs.declared.refusals.Refusal.TheVariants.{Unsound, WrongLength, CommitTooLong, NotLive}
use Rattle.buffer_pool.specs.Record.{without_entries}
use Rattle.buffer_pool.specs.Numbers.{Rest, RestWhole, filled, plain, with_numbers}
use Rattle.buffer_pool.specs.Moves.{Memories, perform}
use Rattle.buffer_pool.specs.Soundness.{sound}
use Rattle.buffer_pool.specs.Placing.{Decision, place, is_too_long}
use Rattle.buffer_pool.specs.Steps.{called, refused, at, frame_of, resized, reframed, commit_step, truncate_step, reserve_on, reserve_step, names, freed, release_step}
use Rattle.buffer_pool.specs.Calls.{Outcome, outcome, misfit, guarded, guarded_call, reserve, commit, truncate, release, frame_view, reservation_view, slice_view}
use Rattle.buffer_pool.specs.Values.{View}
use Rattle.buffer_pool.specs.Lent.{reserve_called, resize_called, release_called}
use Rattle.buffer_pool.proofs.RestLaws.{rested, restored, sound_rest, place_rest}

-- an outcome whose record has other arrays of that kind
abbrev rested_outcome : Rest → Outcome → Outcome
rested_outcome o x = outcome (called (rested o x.call.pool) x.call.answer) x.memory x.destination

-- two tests before a call, and what they or it give
pick_rest : (o : Rest) (s t : Bool) (a b c : Outcome)
    → pick s (rested_outcome o a) (pick t (rested_outcome o b) (rested_outcome o c)) ≡ rested_outcome o (pick s a (pick t b c))
pick_rest o true t a b c = refl
pick_rest o false true a b c = refl
pick_rest o false false a b c = refl

module _ (n : Numbers) (S L : List ℕ) (m : Memories) where
  abbrev r : BufferPool
  r = plain n S L

  module _ (o : Rest) (W : RestWhole o) where
    abbrev q : BufferPool
    q = filled n S L o

    guarded_rest : (c d : Outcome) → d ≡ rested_outcome o c → guarded_call n.slots q m [] d ≡ rested_outcome o (guarded_call n.slots r m [] c)
    unfolding misfit
    guarded_rest c d e = rw (e, sound_rest n.slots n S L o W) (pick_rest o (not (sound n.slots r)) (misfit r m) _ _ c)

    resized_rest : (mode : PoolMode) (len : ℕ) → reframed (resized mode q len) ≡ called (rested o (reframed (resized mode r len)).pool) (reframed (resized mode r len)).answer
    resized_rest Back len = refl
    resized_rest (Front f) len = refl
    resized_rest Alloc len = refl

    commit_rest : (k : ℕ) → commit n.slots q m k ≡ rested_outcome o (commit n.slots r m k)
    unfolding commit commit_step
    commit_rest k = guarded_rest _ _ (go (ltb n.reserved k) n.mode)
      where
        go : (b : Bool) (mode : PoolMode)
            → outcome (pick b (refused q CommitTooLong) (reframed (resized mode q ((frame_of mode q).length + k)))) m []
            ≡ rested_outcome o (outcome (pick b (refused r CommitTooLong) (reframed (resized mode r ((frame_of mode r).length + k)))) m [])
        go true mode = refl
        go false Back = refl
        go false (Front f) = refl
        go false Alloc = refl

    truncate_rest : (k : ℕ) → truncate n.slots q m k ≡ rested_outcome o (truncate n.slots r m k)
    unfolding truncate truncate_step
    truncate_rest k = guarded_rest _ _ (go n.mode)
      where
        go : (mode : PoolMode)
            → outcome (reframed (resized mode q (min (frame_of mode q).length k))) m []
            ≡ rested_outcome o (outcome (reframed (resized mode r (min (frame_of mode r).length k))) m [])
        go Back = refl
        go (Front f) = refl
        go Alloc = refl

    reserve_rest : (len : ℕ) → reserve n.slots q m len ≡ rested_outcome o (reserve n.slots r m len)
    unfolding reserve reserve_step reserve_on is_too_long
    reserve_rest len = guarded_rest _ _ (rw (place_rest n.slots o len n S L) (go (is_too_long (place n.slots r len) len) (place n.slots r len)))
      where
        frame_rest : (mode : PoolMode) (p : BufferPool) → frame_of mode (rested o p) ≡ frame_of mode p
        frame_rest Back p = refl
        frame_rest (Front f) p = refl
        frame_rest Alloc p = refl

        go : (b : Bool) (d : Decision)
            → outcome (reserve_on b q (restored o d)) (pick b m (perform d.moves m)) []
            ≡ rested_outcome o (outcome (reserve_on b r d) (pick b m (perform d.moves m)) [])
        go true d = refl
        go false d = rw (frame_rest d.next.mode d.next) refl

    frame_view_rest : frame_view n.slots q m ≡ frame_view n.slots r m
    unfolding frame_view misfit
    frame_view_rest = rw (sound_rest n.slots n S L o W) (go n.mode)
      where
        go : (mode : PoolMode) → guarded n.slots r m (λ why. Err why) (Ok (frame_of mode q)) ≡ guarded n.slots r m (λ why. Err why) (Ok (frame_of mode r))
        go Back = refl
        go (Front f) = refl
        go Alloc = refl

    reservation_view_rest : reservation_view n.slots q m ≡ reservation_view n.slots r m
    unfolding reservation_view misfit
    reservation_view_rest = rw (sound_rest n.slots n S L o W) (go n.mode)
      where
        shown : PoolMode → BufferPool → View
        shown mode p = Ok (at (frame_of mode p).memory ((frame_of mode p).start + (frame_of mode p).length) n.reserved)

        go : (mode : PoolMode) → guarded n.slots r m (λ why. Err why) (shown mode q) ≡ guarded n.slots r m (λ why. Err why) (shown mode r)
        go Back = refl
        go (Front f) = refl
        go Alloc = refl

  -- ---- From a record with some entries to one with others

  module _ (a : Rest) (A : RestWhole a) (o : Rest) (O : RestWhole o) where
    abbrev before : BufferPool
    before = filled n S L a

    abbrev other : BufferPool
    other = filled n S L o

    every : (f : BufferPool → Outcome) → ((u : Rest) → RestWhole u → f (filled n S L u) ≡ rested_outcome u (f r))
        → (c d : Called) → called (rested o c.pool) c.answer ≡ d → (l : Memories) → outcome c l [] ≡ f before → outcome d l [] ≡ f other
    every f g c d e l h =
        ap (λ (x : Called). outcome x l []) (sym e) ∙ ap (rested_outcome o) h ∙ ap (rested_outcome o) (g a A) ∙ sym (g o O)

    resize_called_rest : (x : Result Resizing Refusal) → called (rested o (resize_called before x).pool) (resize_called before x).answer ≡ resize_called other x
    resize_called_rest (Ok x) = refl
    resize_called_rest (Err why) = refl

    pub commit_every : (k : ℕ) (x : Result Resizing Refusal) → outcome (resize_called before x) m [] ≡ commit n.slots before m k
        → outcome (resize_called other x) m [] ≡ commit n.slots other m k
    commit_every k x =
        every (λ u. commit n.slots u m k) (λ u U. commit_rest u U k) (resize_called before x) (resize_called other x) (resize_called_rest x) m

    pub truncate_every : (k : ℕ) (x : Result Resizing Refusal) → outcome (resize_called before x) m [] ≡ truncate n.slots before m k
        → outcome (resize_called other x) m [] ≡ truncate n.slots other m k
    truncate_every k x =
        every (λ u. truncate n.slots u m k) (λ u U. truncate_rest u U k) (resize_called before x) (resize_called other x) (resize_called_rest x) m

    reserve_called_rest : (x : Result Reserving Refusal) → called (rested o (reserve_called before x).pool) (reserve_called before x).answer ≡ reserve_called other x
    reserve_called_rest (Ok x) = go x x.clears
      where
        go : (x : Reserving) (b : Bool)
            → called (rested o (pick b (without_entries (with_numbers before x.numbers)) (with_numbers before x.numbers))) (Ok (Reserved x.place x.changes))
            ≡ called (pick b (without_entries (with_numbers other x.numbers)) (with_numbers other x.numbers)) (Ok (Reserved x.place x.changes))
        go x true = refl
        go x false = refl
    reserve_called_rest (Err why) = refl

    pub reserve_every : (len : ℕ) (l : Memories) (x : Result Reserving Refusal) → outcome (reserve_called before x) l [] ≡ reserve n.slots before m len
        → outcome (reserve_called other x) l [] ≡ reserve n.slots other m len
    reserve_every len l x =
        every (λ u. reserve n.slots u m len) (λ u U. reserve_rest u U len) (reserve_called before x) (reserve_called other x) (reserve_called_rest x) l

    pub frame_every : (v : View) → v ≡ frame_view n.slots before m → v ≡ frame_view n.slots other m
    frame_every v h = h ∙ frame_view_rest a A ∙ sym (frame_view_rest o O)

    pub reservation_every : (v : View) → v ≡ reservation_view n.slots before m → v ≡ reservation_view n.slots other m
    reservation_every v h = h ∙ reservation_view_rest a A ∙ sym (reservation_view_rest o O)

  -- ---- A release and a slice's view read no caller's count of serials

  module _ (serials callers : List ℕ) (h : Handle) where
    abbrev counted : List ℕ → Rest
    counted g = record { serials = serials; callers = callers; given = g }

    abbrev with_counts : List ℕ → BufferPool
    with_counts g = filled n S L (counted g)

    module _ (g : List ℕ) (G : RestWhole (counted g)) (i : List ℕ) (I : RestWhole (counted i)) where
      same_sound : sound n.slots (with_counts i) ≡ sound n.slots (with_counts g)
      same_sound = sound_rest n.slots n S L (counted i) I ∙ sym (sound_rest n.slots n S L (counted g) G)

      pub slice_every : (v : View) → v ≡ slice_view n.slots (with_counts g) m h → v ≡ slice_view n.slots (with_counts i) m h
      unfolding slice_view misfit names
      slice_every v e = e ∙ rw same_sound refl

      release_rest : release n.slots (with_counts i) m h ≡ rested_outcome (counted i) (release n.slots (with_counts g) m h)
      unfolding release release_step names misfit
      release_rest =
          rw (same_sound, go (names n.slots (with_counts g) h))
          (pick_rest (counted i) (not (sound n.slots (with_counts g))) (misfit r m) (outcome (refused (with_counts g) Unsound) m [])
          (outcome (refused (with_counts g) WrongLength) m []) (outcome (release_step n.slots (with_counts g) h) m []))
        where
          left : Bool → BufferPool → Outcome
          left b p = outcome (pick b (called (freed n.slots p h.slot) (Ok Done)) (refused p NotLive)) m []

          go : (b : Bool) → left b (with_counts i) ≡ rested_outcome (counted i) (left b (with_counts g))
          go true = refl
          go false = refl

      pub release_every : (x : Result ℕ Refusal) → outcome (release_called (with_counts g) x) m [] ≡ release n.slots (with_counts g) m h
          → outcome (release_called (with_counts i) x) m [] ≡ release n.slots (with_counts i) m h
      release_every x e = go x ∙ ap (rested_outcome (counted i)) e ∙ sym release_rest
        where
          go : (x : Result ℕ Refusal) → outcome (release_called (with_counts i) x) m [] ≡ rested_outcome (counted i) (outcome (release_called (with_counts g) x) m [])
          go (Ok x) = refl
          go (Err why) = refl

-- The exported calls, from what their code has where it returns: what the pool's method says of what it gave (crate buffer_pool,
-- specs/Lent.antt), and the record as it was stored. Assumes nothing.
use mathlib.Core.Path.{◌≡◌, refl, sym, ap, ◌∙◌}
use mathlib.Core.Bool.{Bool, true, false}
use mathlib.Core.List.{List, []}
use Prim.Native.Nat.{ℕ}
use Rattle.std.specs.Prelude.{Result, Ok, Err}
use Rattle.laws.specs.Tests.{pick}
use Rattle.laws.proofs.Tests.{both_true, no_true}
use Rattle.buffer_pool.specs.declared.slice.Handle as pool
use Rattle.buffer_pool.specs.declared.buffer_pool.BufferPool.{BufferPool}
use Rattle.buffer_pool.specs.declared.buffer_pool.Entries.{Entries}
use Rattle.buffer_pool.specs.declared.buffer_pool.Called.{Called}
use Rattle.buffer_pool.specs.declared.buffer_pool.Answer.{Answer}
use Rattle.buffer_pool.specs.declared.buffer_pool.Answer.TheVariants.{Done, Reserved, Taken, Copied}
use Rattle.buffer_pool.specs.declared.numbers.Numbers.{Numbers}
use Rattle.buffer_pool.specs.declared.lent.Reserving.{Reserving}
use Rattle.buffer_pool.specs.declared.lent.Resizing.{Resizing}
use Rattle.buffer_pool.specs.declared.lent.Taking.{Taking}
use Rattle.buffer_pool.specs.declared.lent.Taking.TheVariants as lent
use Rattle.buffer_pool.specs.declared.refusals.Refusal.{Refusal}
use Rattle.buffer_pool.specs.declared.refusals.Refusal.TheVariants.{Unsound}
use Rattle.buffer_pool.specs.Record.{with_live, without_entries}
use Rattle.buffer_pool.specs.Numbers.{with_numbers, with_entries, entered, cleared}
use Rattle.buffer_pool.specs.Lent.{reserved_on, resized_on, reserve_called, resize_called, take_called, release_called}
use Rattle.buffer_pool.specs.Moves.{Memories}
use Rattle.buffer_pool.specs.Values.{Response, View, refusal_number, values}
use Rattle.buffer_pool.specs.Soundness.{is_slot_count, sound}
use Rattle.buffer_pool.specs.Steps.{called, refused}
use Rattle.buffer_pool.specs.Calls as calls
use Rattle.buffer_pool.specs.Calls.{Outcome, outcome, guarded, guarded_call, copied_out, hidden}
use Rattle.buffer_pool.proofs.Soundness.{sound_use}
use Rattle.buffer_pool_c.specs.declared.record.Record.{Record}
use Rattle.buffer_pool_c.specs.declared.results.Handle.{Handle}
use Rattle.buffer_pool_c.specs.declared.results.ReserveResult.{ReserveResult}
use Rattle.buffer_pool_c.specs.declared.results.PlaceResult.{PlaceResult}
use Rattle.buffer_pool_c.specs.declared.results.TakeResult.{TakeResult}
use Rattle.buffer_pool_c.specs.Record.{is_mode, is_live_word, known, no_front, pool_of, record_of, record_after, numbers_of, stored, resized}
use Rattle.buffer_pool_c.specs.Results.{reserve_result, place_result, take_result, refusal_result, view_result, resize_result, unknown_view, named, in_bytes}
use Rattle.buffer_pool_c.specs.Exports.{left, seen, exported, reserve, commit, truncate, take, release, newly, new, exported_view, frame, reservation, slice}
use Rattle.buffer_pool_c.proofs.RecordLaws.{record_held, mode_stored, slots_none, entries_known}
use Rattle.buffer_pool_c.proofs.ResultLaws.{released_in_bytes, viewed_in_bytes}

-- ---- A slot count of 0 is no pool's: refused with 1

unsound : (p : BufferPool) → sound 0 p ≡ false
unfolding is_slot_count
unsound p = go (sound 0 p) refl
  where
    go : (s : Bool) → sound 0 p ≡ s → s ≡ false
    go true e = sym (sound_use 0 p e).orderly.ready.is_count
    go false e = refl

pub uncounted : {A : Type 0} (p : BufferPool) (m : Memories) (refuse : Refusal → A) (done : A) → guarded 0 p m refuse done ≡ refuse Unsound
uncounted p m refuse done = rw (unsound p) refl

pub guarded_off : (p : BufferPool) (m : Memories) (d : List ℕ) (o : Outcome) → guarded_call 0 p m d o ≡ outcome (refused p Unsound) m d
guarded_off p m d o = uncounted p m (λ why. outcome (refused p why) m d) o

-- ---- A call f of the pool's, with this result for C

-- the record with its starts and lengths 0, where a reserve clears them
abbrev pub reset : Record → Bool → Record
reset h clears = pick clears (record h { entries = cleared h.entries }) h

abbrev is_refused : Response → Bool
is_refused (Ok answer) = false
is_refused (Err why) = true

abbrev why_refused : Response → Refusal
why_refused (Ok answer) = Unsound
why_refused (Err why) = why

module _ {A : Type 0} (result : Response → A) (m : Memories) (d : List ℕ) (f : ℕ → BufferPool → Outcome) (off : (p : BufferPool) → f 0 p ≡ outcome (refused p Unsound) m d)
    (h : Record) (n : Numbers) (i : n ≡ numbers_of h) (after : Memories) (ended : List ℕ) where
  abbrev p : BufferPool
  p = with_entries n h.entries

  is_pool : known h ≡ true → p ≡ pool_of h
  is_pool k = ap (λ (x : Numbers). with_entries x h.entries) i ∙ entries_known h k

  of_known : known h ≡ true → f n.slots p ≡ f h.slots (pool_of h)
  of_known k = ap (λ (q : BufferPool). f q.slots q) (is_pool k)

  of_other : known h ≡ false → f n.slots p ≡ outcome (refused p Unsound) m d
  of_other k = ap (λ (w : ℕ). f w p) (ap (λ (x : Numbers). x.slots) i ∙ slots_none h k) ∙ off p

  refused_as : (why : Refusal) → outcome (refused p why) after ended ≡ f n.slots p → left (result (Err why)) h after ended ≡ exported result h m d (f h.slots (pool_of h))
  refused_as why e = go (known h) refl
    where
      go : (b : Bool) → known h ≡ b → left (result (Err why)) h after ended ≡ pick b (seen result h (f h.slots (pool_of h))) (left (result (Err Unsound)) h m d)
      go true k =
          ap (λ (r : Record). left (result (Err why)) r after ended) (sym (record_held h k) ∙ ap (record_after h) (sym (is_pool k)))
          ∙ ap (seen result h) (e ∙ of_known k)
      go false k =
          let x = e ∙ of_other k in
          ap (λ (y : Refusal). left (result (Err y)) h after ended) (ap (λ (y : Outcome). why_refused y.call.answer) x)
          ∙ ap (λ (y : Outcome). left (result (Err Unsound)) h y.memory y.destination) x

  done_as : (answer : Answer) (q : BufferPool) → outcome (called q (Ok answer)) after ended ≡ f n.slots p → (s : Record) → (known h ≡ true → s ≡ record_after h q)
      → left (result (Ok answer)) s after ended ≡ exported result h m d (f h.slots (pool_of h))
  done_as answer q e s g = go (known h) refl
    where
      go : (b : Bool) → known h ≡ b → left (result (Ok answer)) s after ended ≡ pick b (seen result h (f h.slots (pool_of h))) (left (result (Err Unsound)) h m d)
      go true k = ap (λ (x : Record). left (result (Ok answer)) x after ended) (g k) ∙ ap (seen result h) (e ∙ of_known k)
      go false k = absurd (no_true (ap (λ (y : Outcome). is_refused y.call.answer) (e ∙ of_other k)))

module _ (h : Record) (n : Numbers) (i : n ≡ numbers_of h) (m after : Memories) where
  abbrev q : BufferPool
  q = with_entries n h.entries

  -- the record with the numbers that a commit, a truncate or a release stores
  resized_stored : (x : Resizing) → known h ≡ true → record h { raw_len = x.raw_len; cursor = x.cursor; reserved = 0 } ≡ record_after h (resized_on q x)
  resized_stored x k = rw (i, k, (both_true (is_live_word h.live) (is_mode h.mode) k).0, (mode_stored h k).0, (mode_stored h k).1) refl

  live_stored : (live : ℕ) → known h ≡ true → record h { live = live } ≡ record_after h (with_live q live)
  live_stored live k = rw (i, k, (mode_stored h k).0, (mode_stored h k).1) refl

  -- ---- Reserve

  module _ (len : ℕ) where
    pub reserve_refused : (why : Refusal) → outcome (refused q why) after [] ≡ calls.reserve n.slots q m len → (r : ReserveResult) → r ≡ reserve_result (Err why)
        → left r h after [] ≡ reserve h m len
    unfolding reserve calls.reserve
    reserve_refused why e r g = rw g (refused_as reserve_result m [] (λ w p. calls.reserve w p m len) (λ p. guarded_off p m [] _) h n i after [] why e)

    pub reserve_done : (x : Reserving) → outcome (called (reserved_on q x) (Ok (Reserved x.place x.changes))) after [] ≡ calls.reserve n.slots q m len
        → (b : Record) → b ≡ reset h x.clears → (s : Record) → s ≡ stored b x.numbers → (r : ReserveResult) → r ≡ reserve_result (Ok (Reserved x.place x.changes))
        → left r s after [] ≡ reserve h m len
    unfolding reserve calls.reserve
    reserve_done x e b f s g r j =
        rw j (done_as reserve_result m [] (λ w p. calls.reserve w p m len) (λ p. guarded_off p m [] _) h n i after [] _ (reserved_on q x) e s
        (λ k. g ∙ rw f (go x.clears)))
      where
        go : (clears : Bool) → stored (reset h clears) x.numbers ≡ record_after h (pick clears (without_entries (with_numbers q x.numbers)) (with_numbers q x.numbers))
        go true = refl
        go false = refl

    abbrev pub reserve_stored : Result Reserving Refusal → Record
    reserve_stored (Ok x) = stored (reset h x.clears) x.numbers
    reserve_stored (Err why) = h

    pub reserve_as : (y : Result Reserving Refusal) → outcome (reserve_called q y) after [] ≡ calls.reserve n.slots q m len
        → left (reserve_result (reserve_called q y).answer) (reserve_stored y) after [] ≡ reserve h m len
    reserve_as (Ok x) e = reserve_done x e (reset h x.clears) refl _ refl _ refl
    reserve_as (Err why) e = reserve_refused why e _ refl

  -- ---- Commit and truncate

  module _ (f : ℕ → BufferPool → Outcome) (off : (p : BufferPool) → f 0 p ≡ outcome (refused p Unsound) m []) where
    resized_as : (y : Result Resizing Refusal) → outcome (resize_called q y) after [] ≡ f n.slots q → (s : Record) → s ≡ resized h y → (r : PlaceResult) → r ≡ resize_result y
        → left r s after [] ≡ exported place_result h m [] (f h.slots (pool_of h))
    resized_as (Ok x) e s g r j = rw (g, j) (done_as place_result m [] f off h n i after [] _ (resized_on q x) e _ (resized_stored x))
    resized_as (Err why) e s g r j = rw (g, j) (refused_as place_result m [] f off h n i after [] why e)

  module _ (k : ℕ) where
    pub commit_as : (y : Result Resizing Refusal) → outcome (resize_called q y) after [] ≡ calls.commit n.slots q m k → (s : Record) → s ≡ resized h y → (r : PlaceResult) → r ≡ resize_result y
        → left r s after [] ≡ commit h m k
    unfolding commit calls.commit
    commit_as = resized_as (λ w p. calls.commit w p m k) (λ p. guarded_off p m [] _)

    pub truncate_as : (y : Result Resizing Refusal) → outcome (resize_called q y) after [] ≡ calls.truncate n.slots q m k → (s : Record) → s ≡ resized h y → (r : PlaceResult) → r ≡ resize_result y
        → left r s after [] ≡ truncate h m k
    unfolding truncate calls.truncate
    truncate_as = resized_as (λ w p. calls.truncate w p m k) (λ p. guarded_off p m [] _)

  -- ---- Take

  module _ (caller : ℕ) (d ended : List ℕ) where
    pub take_refused : (why : Refusal) → outcome (refused q why) after ended ≡ calls.take n.slots q m caller d → (r : TakeResult) → r ≡ take_result (Err why)
        → left r h after ended ≡ take h m caller d
    unfolding take calls.take copied_out
    take_refused why e r g = rw g (refused_as take_result m d (λ w p. calls.take w p m caller d) (λ p. guarded_off p m d _) h n i after ended why e)

    module _ (y : Result Taking Refusal) (e : outcome (take_called q y) after ended ≡ calls.take n.slots q m caller d) (t : Taking) (g : y ≡ Ok t) where
      given : (v : Taking) → t ≡ v → outcome (take_called q (Ok v)) after ended ≡ calls.take n.slots q m caller d
      given v f = ap (λ (z : Result Taking Refusal). outcome (take_called q z) after ended) (sym (g ∙ ap (λ (z : Taking). Ok z) f)) ∙ e

      pub take_copied : (len : ℕ) (x : Numbers) → t ≡ lent.Copied len x → (s : Record) → s ≡ stored h x → (r : TakeResult) → r ≡ take_result (Ok (Copied len))
          → left r s after ended ≡ take h m caller d
      unfolding take calls.take copied_out
      take_copied len x f s k r j =
          rw j (done_as take_result m d (λ w p. calls.take w p m caller d) (λ p. guarded_off p m d _) h n i after ended _ (with_numbers q x) (given (lent.Copied len x) f) s (λ z. k))

      pub take_pooled : (a : pool.Handle) (x : Numbers) → t ≡ lent.Pooled a x → (entries : Entries) → entries ≡ entered h.entries a
          → (s : Record) → s ≡ stored (record h { entries = entries }) x → (r : TakeResult) → r ≡ take_result (Ok (Taken a))
          → left r s after ended ≡ take h m caller d
      unfolding take calls.take copied_out
      take_pooled a x f entries l s k r j =
          rw j (done_as take_result m d (λ w p. calls.take w p m caller d) (λ p. guarded_off p m d _) h n i after ended _ (with_entries x (entered h.entries a)) (given (lent.Pooled a x) f) s (λ z. k ∙ rw l refl))

    abbrev pub take_stored : Result Taking Refusal → Record
    take_stored (Ok (lent.Copied len x)) = stored h x
    take_stored (Ok (lent.Pooled a x)) = stored (record h { entries = entered h.entries a }) x
    take_stored (Err why) = h

    pub take_as : (y : Result Taking Refusal) → outcome (take_called q y) after ended ≡ calls.take n.slots q m caller d
        → left (take_result (take_called q y).answer) (take_stored y) after ended ≡ take h m caller d
    take_as (Ok (lent.Copied len x)) e = take_copied _ e _ refl len x refl _ refl _ refl
    take_as (Ok (lent.Pooled a x)) e = take_pooled _ e _ refl a x refl _ refl _ refl _ refl
    take_as (Err why) e = take_refused why e _ refl

  -- ---- Release and the view of a slice

  module _ (a : Handle) (b : pool.Handle) (j : b ≡ named (in_bytes a)) where
    same_release : (p : BufferPool) → calls.release p.slots p m b ≡ calls.release p.slots p m (named a)
    same_release p = ap (calls.release p.slots p m) j ∙ released_in_bytes p.slots p m a

    pub release_refused : (why : Refusal) → outcome (refused q why) after [] ≡ calls.release n.slots q m b → (r : ℕ) → r ≡ refusal_number why
        → left r h after [] ≡ release h m a
    unfolding release calls.release
    release_refused why e r g =
        rw g (refused_as refusal_result m [] (λ w p. calls.release w p m (named a)) (λ p. guarded_off p m [] _) h n i after [] why (e ∙ same_release q))

    pub release_done : (live : ℕ) → outcome (called (with_live q live) (Ok Done)) after [] ≡ calls.release n.slots q m b
        → left 0 (record h { live = live }) after [] ≡ release h m a
    unfolding release calls.release
    release_done live e =
        done_as refusal_result m [] (λ w p. calls.release w p m (named a)) (λ p. guarded_off p m [] _) h n i after [] Done (with_live q live) (e ∙ same_release q) _ (live_stored live)

    abbrev pub release_stored : Result ℕ Refusal → Record
    release_stored (Ok live) = record h { live = live }
    release_stored (Err why) = h

    pub release_as : (y : Result ℕ Refusal) → outcome (release_called q y) after [] ≡ calls.release n.slots q m b
        → left (refusal_result (release_called q y).answer) (release_stored y) after [] ≡ release h m a
    release_as (Ok live) e = release_done live e
    release_as (Err why) e = release_refused why e _ refl

-- ---- Views

viewed_as : (f : ℕ → BufferPool → View) → ((p : BufferPool) → f 0 p ≡ hidden Unsound) → (h : Record) (n : Numbers) → n ≡ numbers_of h → (v : View)
    → v ≡ f n.slots (with_entries n h.entries) → view_result v ≡ exported_view h (f h.slots (pool_of h))
viewed_as f off h n i v e = go (known h) refl
  where
    at_numbers : v ≡ f (numbers_of h).slots (with_entries (numbers_of h) h.entries)
    at_numbers = e ∙ ap (λ (x : Numbers). f x.slots (with_entries x h.entries)) i

    go : (b : Bool) → known h ≡ b → view_result v ≡ pick b (view_result (f h.slots (pool_of h))) unknown_view
    go true k = ap view_result (at_numbers ∙ ap (λ (q : BufferPool). f q.slots q) (entries_known h k))
    go false k = ap view_result (at_numbers ∙ ap (λ (w : ℕ). f w (with_entries (numbers_of h) h.entries)) (slots_none h k) ∙ off _)

module _ (h : Record) (n : Numbers) (i : n ≡ numbers_of h) (m : Memories) (v : View) (r : PlaceResult) (j : r ≡ view_result v) where
  pub frame_as : v ≡ calls.frame_view n.slots (with_entries n h.entries) m → r ≡ frame h m
  unfolding frame calls.frame_view
  frame_as e = j ∙ viewed_as (λ w p. calls.frame_view w p m) (λ p. uncounted p m hidden _) h n i v e

  pub reservation_as : v ≡ calls.reservation_view n.slots (with_entries n h.entries) m → r ≡ reservation h m
  unfolding reservation calls.reservation_view
  reservation_as e = j ∙ viewed_as (λ w p. calls.reservation_view w p m) (λ p. uncounted p m hidden _) h n i v e

  pub slice_as : (a : Handle) (b : pool.Handle) → b ≡ named (in_bytes a) → v ≡ calls.slice_view n.slots (with_entries n h.entries) m b → r ≡ slice h m a
  unfolding slice calls.slice_view
  slice_as a b k e =
      j ∙ viewed_as (λ w p. calls.slice_view w p m (named a)) (λ p. uncounted p m hidden _) h n i v
      (e ∙ ap (calls.slice_view n.slots (with_entries n h.entries) m) k ∙ viewed_in_bytes n.slots (with_entries n h.entries) m a)

-- ---- New

pub new_as : (w : ℕ) (c : Called) (m after : Memories) → outcome c after [] ≡ calls.new w m → (number : ℕ) → number ≡ (values c.answer).number
    → (h : Record) → h ≡ record_of no_front c.pool → left number h after [] ≡ new w m
unfolding new
new_as w c m after g number f h i = rw (f, i) (ap newly g)

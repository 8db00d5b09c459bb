-- A caller's count of serials in the record is the count of its pooled takes, over every list; so its serials are 1, 2, 3, .. in
-- the order of its own pooled takes, and caller and serial together name one slice of the book. Assumes nothing.
use mathlib.Core.Path.{◌≡◌, refl, sym, ap, ◌∙◌}
use mathlib.Core.Bool.{Bool, true, false, not, ◌||◌}
use mathlib.Core.List.{List, [], ◌∷◌}
use mathlib.Core.Logic.{inl, inr}
use Prim.Native.Nat.{ℕ, zero, suc, ◌+◌, ◌≤◌, ◌<◌, min}
use native.Mathlib.Decide.{dec_lt}
use native.Mathlib.Omega.{arith}
use borrow.Author.Tests.{leb-false, eqb-true, eqb-false, eq-eqb}
use lib.Dec.{leb, ltb, eqb}
use lib.ListN.{length, replicate, length-set, get_or-replicate}
use lib.Seq.{get_or-set_same, get_or-set_other}
use Rattle.std.specs.Prelude.{Ok, Err}
use Rattle.laws.specs.Tests.{pick}
use Rattle.laws.proofs.Tests.{pick_cases}
use Rattle.buffer_pool.specs.declared.slice.Handle.{Handle}
use Rattle.buffer_pool.specs.declared.buffer_pool.BufferPool.{BufferPool}
use Rattle.buffer_pool.specs.declared.buffer_pool.PoolMode.{PoolMode}
use Rattle.buffer_pool.specs.declared.buffer_pool.PoolMode.TheVariants.{Back, Front, Alloc}
use Rattle.buffer_pool.specs.declared.buffer_pool.Answer.TheVariants.{Taken}
use Rattle.buffer_pool.specs.declared.buffer_pool.Called.{Called}
use Rattle.buffer_pool.specs.Record.{byte_limit, caller_count}
use Rattle.buffer_pool.specs.Moves.{Memories}
use Rattle.buffer_pool.specs.Placing.{place, is_too_long}
use Rattle.buffer_pool.specs.Soundness.{is_slot_count, sound}
use Rattle.buffer_pool.specs.Values.{no_place, Values, valued, values, View}
use Rattle.buffer_pool.specs.Steps.{called, frame_of, frame, reserve_on, reserve_step, resized, commit_step, truncate_step, most_serials, given_to, next_handle, handed_out, take_on, take_step, names, release_step}
use Rattle.buffer_pool.specs.Calls.{Outcome, misfit, guarded_call, bytes_at, new_on, new, reserve, commit, truncate, copied_out, take, release}
use Rattle.buffer_pool.specs.Vocabulary.{TheFrame, TheReservation, TheSlice, Call, Reserve, Commit, Truncate, Take, Release, Look, view_answer, call}
use Rattle.buffer_pool.proofs.Unchanged.{place_given}
use Rattle.book.specs.Entries.{Entry, Own, Other, Write, State, opened, lent_other, happens, next}
use Rattle.book.specs.Book.{Pair, pair, Book, empty_book, rewritten, entered_in, entered, note_call, noted, said_at}
use Rattle.book.specs.Demand3.{Member}
use Rattle.book.specs.Serials.{pooled_call, pooled_take, pooled_takes, after_all, book_after, with_serial, serials_of, numbers_after}
use Rattle.book.proofs.Pairs.{member_map, without_member, rewritten_handle}

-- ---- One call

-- the callers' counts in q are those of r and so many more
record Grown (r : BufferPool) (more : ℕ → ℕ) (q : BufferPool) : Type 0 where
  places : caller_count ≤ length q.given
  grows : (caller : ℕ) → caller < caller_count → given_to q caller ≡ given_to r caller + more caller

-- what is said of a caller's pooled take: it is one, and has the caller's next serial
record Numbered (r : BufferPool) (caller : ℕ) (v : Values) (n : ℕ) : Type 0 where
  one : n ≡ 0
  a_caller : caller < caller_count
  caller_is : v.handle.caller ≡ caller
  serial_is : v.handle.serial ≡ suc (given_to r caller)

-- a call or an entry that says v and leaves q, with so many pooled takes of each caller
record Counted (r : BufferPool) (taken : ℕ → ℕ) (v : Values) (q : BufferPool) : Type 0 where
  grown : Grown r taken q
  numbered : (caller n : ℕ) → taken caller ≡ suc n → Numbered r caller v n

module _ {r : BufferPool} (h : caller_count ≤ length r.given) where
  same_grown : {more : ℕ → ℕ} {q : BufferPool} → q.given ≡ r.given → ((caller : ℕ) → more caller ≡ 0) → Grown r more q
  same_grown e none =
      record {
        places = rw e h;
        grows = λ caller b. rw (e, none caller) (omega arith);
      }

  -- no pooled take, and no count changes
  uncounted : {taken : ℕ → ℕ} {v : Values} {q : BufferPool} → q.given ≡ r.given → ((caller : ℕ) → taken caller ≡ 0)
      → Counted r taken v q
  uncounted e none =
      record { grown = same_grown e none; numbered = λ caller n f. absurd (omega (arith, none caller)) }

module _ (w : ℕ) (r : BufferPool) (h : caller_count ≤ length r.given) where
  abbrev CallCounted : Call → Called → Type 0
  CallCounted c x = Counted r (λ caller. pooled_call caller c (values x.answer)) (values x.answer) x.pool

  -- an answer without a handle is none of a pooled take
  no_handle_lem : (c : Call) (v : Values) → v.handle.slot ≡ 0 → (caller : ℕ) → pooled_call caller c v ≡ 0
  no_handle_lem (Reserve len) v e caller = refl
  no_handle_lem (Commit n) v e caller = refl
  no_handle_lem (Truncate n) v e caller = refl
  no_handle_lem (Take by destination) v e caller = rw e (pick_cases (λ (n : ℕ). n ≡ 0) (eqb by caller) (λ f. refl) (λ f. refl))
  no_handle_lem (Release h) v e caller = refl
  no_handle_lem (Look part) v e caller = refl

  plain_counted : (c : Call) {v : Values} {q : BufferPool} → q.given ≡ r.given → v.handle.slot ≡ 0
      → Counted r (λ caller. pooled_call caller c v) v q
  plain_counted c {v} e f = uncounted h e (no_handle_lem c v f)

  guarded_counted : (m : Memories) (c : Call) (destination : List ℕ) (o : Outcome) → CallCounted c o.call
      → CallCounted c (guarded_call w r m destination o).call
  guarded_counted m c destination o own =
      pick_cases (λ (x : Outcome). CallCounted c x.call) (not (sound w r)) (λ e. plain_counted c refl refl)
      (λ e.
      pick_cases (λ (x : Outcome). CallCounted c x.call) (misfit r m) (λ f. plain_counted c refl refl) (λ f. own))

  resized_given : (mode : PoolMode) (len : ℕ) → (resized mode r len).given ≡ r.given
  resized_given Back len = refl
  resized_given (Front f) len = refl
  resized_given Alloc len = refl

  reserve_counted : (len : ℕ) → CallCounted (Reserve len) (reserve_step w r len)
  unfolding reserve_step reserve_on
  reserve_counted len = go (is_too_long (place w r len) len)
    where
      go : (t : Bool) → CallCounted (Reserve len) (reserve_on t r (place w r len))
      go true = plain_counted (Reserve len) refl refl
      go false = plain_counted (Reserve len) (place_given w r len) refl

  commit_counted : (n : ℕ) → CallCounted (Commit n) (commit_step r n)
  unfolding commit_step
  commit_counted n =
      pick_cases (CallCounted (Commit n)) (ltb r.reserved n) (λ e. plain_counted (Commit n) refl refl)
      (λ e. plain_counted (Commit n) (resized_given r.mode ((frame r).length + n)) refl)

  truncate_counted : (n : ℕ) → CallCounted (Truncate n) (truncate_step r n)
  unfolding truncate_step
  truncate_counted n = plain_counted (Truncate n) (resized_given r.mode (min (frame r).length n)) refl

  release_counted : (k : Handle) → CallCounted (Release k) (release_step w r k)
  unfolding release_step
  release_counted k =
      pick_cases (CallCounted (Release k)) (names w r k) (λ e. plain_counted (Release k) refl refl)
      (λ e. plain_counted (Release k) refl refl)

  module _ (by : ℕ) (destination : List ℕ) where
    -- a take that gives a slice: the caller's count, and no other, is one more
    handed_counted : leb caller_count by ≡ false → (mode : PoolMode) (n : ℕ)
        → CallCounted (Take by destination) (called (handed_out w by r mode n) (Ok (Taken (next_handle r by))))
    handed_counted a mode n =
        record {
          grown = record { places = rw length-set h; grows = λ caller b. grows caller (eqb by caller) refl };
          numbered = λ caller k. numbered caller k (eqb by caller) refl;
        }
      where
        below : by < caller_count
        below = leb-false caller_count by a

        grows : (caller : ℕ) (t : Bool) → eqb by caller ≡ t
            → given_to (handed_out w by r mode n) caller ≡ given_to r caller + pick t (min (suc r.used) 1) 0
        grows caller true e =
            rw (← eqb-true by caller e) (get_or-set_same r.given by (suc (given_to r by)) 0 (omega (arith, below)) ∙ omega arith)
        grows caller false e =
            get_or-set_other r.given by caller (suc (given_to r by)) 0 (λ d. eqb-false by caller e (sym d)) ∙ omega arith

        numbered : (caller k : ℕ) (t : Bool) → eqb by caller ≡ t → pick t (min (suc r.used) 1) 0 ≡ suc k
            → Numbered r caller (values (Ok (Taken (next_handle r by)))) k
        numbered caller k true e f =
            let same = eqb-true by caller e in
            record { one = omega arith; a_caller = rw (← same) below; caller_is = same; serial_is = rw (← same) refl }
        numbered caller k false e f = absurd (omega arith)

    take_counted : CallCounted (Take by destination) (take_step w r by (length destination))
    unfolding take_step take_on
    take_counted =
        go (leb caller_count by) refl (eqb (frame r).length 0) (ltb (length destination) (frame r).length)
        (leb most_serials (given_to r by)) r.mode
      where
        none : {v : Values} {q : BufferPool} → q.given ≡ r.given → v.handle.slot ≡ 0
            → Counted r (λ caller. pooled_call caller (Take by destination) v) v q
        none = plain_counted (Take by destination)

        go : (none : Bool) → leb caller_count by ≡ none → (z long spent : Bool) (mode : PoolMode)
            → CallCounted (Take by destination) (take_on none z long spent mode w by r)
        go true a z long spent mode = none refl refl
        go false a true long spent mode = none (resized_given mode (frame_of mode r).length) refl
        go false a false long true Back = none refl refl
        go false a false long false Back = handed_counted a Back _
        go false a false long true (Front f) = none refl refl
        go false a false long false (Front f) = handed_counted a _ _
        go false a false true spent Alloc = none refl refl
        go false a false false spent Alloc = none refl refl

  look_handle : (v : View) → (values (view_answer v)).handle.slot ≡ 0
  unfolding view_answer
  look_handle (Ok place) = refl
  look_handle (Err why) = refl

  call_counted : (m : Memories) (c : Call) → CallCounted c (call w r m c).call
  unfolding call reserve commit truncate take copied_out release
  call_counted m (Reserve len) = guarded_counted m (Reserve len) [] _ (reserve_counted len)
  call_counted m (Commit n) = guarded_counted m (Commit n) [] _ (commit_counted n)
  call_counted m (Truncate n) = guarded_counted m (Truncate n) [] _ (truncate_counted n)
  call_counted m (Take by destination) = guarded_counted m (Take by destination) destination _ (take_counted by destination)
  call_counted m (Release k) = guarded_counted m (Release k) [] _ (release_counted k)
  call_counted m (Look part) = plain_counted (Look part) refl (look_handle _)

-- ---- Every list

module _ (w : ℕ) where
  entry_counted : (s : State) (e : Entry) → caller_count ≤ length s.pool.given
      → Counted s.pool (λ caller. pooled_take caller e (said_at w s e)) (said_at w s e) (next w s e).pool
  entry_counted s (Own c) h = call_counted w s.pool h s.lent c
  entry_counted s (Other m c) h = go (misfit s.pool m)
    where
      go : (t : Bool) → CallCounted w s.pool h c (lent_other t s (call w s.pool m c)).call
      go true = call_counted w s.pool h m c
      go false = plain_counted w s.pool h c refl refl
  entry_counted s (Write part i byte) h = uncounted h refl (λ caller. refl)

  list_grown : (s : State) (es : List Entry) → caller_count ≤ length s.pool.given
      → Grown s.pool (pooled_takes w s es) (after_all w s es).pool
  unfolding pooled_takes after_all
  list_grown s [] h = same_grown h refl (λ caller. refl)
  list_grown s (e ∷ es) h =
      let one = (entry_counted s e h).grown in
      let rest = list_grown (next w s e) es one.places in
      record { places = rest.places; grows = λ caller b. omega (arith, rest.grows caller b, one.grows caller b) }

  -- the serials go on from the caller's count
  list_serials : (s : State) (es : List Entry) → caller_count ≤ length s.pool.given → (caller : ℕ) → caller < caller_count
      → serials_of w s es caller ≡ numbers_after (given_to s.pool caller) (pooled_takes w s es caller)
  unfolding serials_of pooled_takes numbers_after
  list_serials s [] h caller b = refl
  list_serials s (e ∷ es) h caller b =
      go (pooled_take caller e (said_at w s e)) refl (C.grown.grows caller b)
      (list_serials (next w s e) es C.grown.places caller b)
    where
      C : Counted s.pool (λ caller. pooled_take caller e (said_at w s e)) (said_at w s e) (next w s e).pool
      C = entry_counted s e h

      rest : List ℕ
      rest = serials_of w (next w s e) es caller

      go : (n : ℕ) → pooled_take caller e (said_at w s e) ≡ n → given_to (next w s e).pool caller ≡ given_to s.pool caller + n
          → rest ≡ numbers_after (given_to (next w s e).pool caller) (pooled_takes w (next w s e) es caller)
          → with_serial n (said_at w s e).handle.serial rest
          ≡ numbers_after (given_to s.pool caller) (n + pooled_takes w (next w s e) es caller)
      go zero p g t =
          let same : given_to (next w s e).pool caller ≡ given_to s.pool caller = omega arith in
          let all : 0 + pooled_takes w (next w s e) es caller ≡ pooled_takes w (next w s e) es caller = omega arith in
          rw (t, same, all)
      go (suc n) p g t =
          let N = C.numbered caller n p in
          let count : given_to (next w s e).pool caller ≡ suc (given_to s.pool caller) = omega (arith, N.one) in
          let all : suc n + pooled_takes w (next w s e) es caller ≡ suc (pooled_takes w (next w s e) es caller) =
          omega (arith, N.one) in
          rw (t, count, all, N.serial_is) refl

  -- a number that is no caller has no pooled take
  stranger_serials : (s : State) (es : List Entry) → caller_count ≤ length s.pool.given → (caller : ℕ) → (caller < caller_count → ⊥)
      → (k : ℕ) → serials_of w s es caller ≡ numbers_after k (pooled_takes w s es caller)
  unfolding serials_of pooled_takes numbers_after
  stranger_serials s [] h caller n k = refl
  stranger_serials s (e ∷ es) h caller n k =
      go (pooled_take caller e (said_at w s e)) refl (stranger_serials (next w s e) es C.grown.places caller n k)
    where
      C : Counted s.pool (λ caller. pooled_take caller e (said_at w s e)) (said_at w s e) (next w s e).pool
      C = entry_counted s e h

      go : (t : ℕ) → pooled_take caller e (said_at w s e) ≡ t
          → serials_of w (next w s e) es caller ≡ numbers_after k (pooled_takes w (next w s e) es caller)
          → with_serial t (said_at w s e).handle.serial (serials_of w (next w s e) es caller)
          ≡ numbers_after k (t + pooled_takes w (next w s e) es caller)
      go zero p rest =
          let all : 0 + pooled_takes w (next w s e) es caller ≡ pooled_takes w (next w s e) es caller = omega arith in rw (rest, all)
      go (suc t) p rest = absurd (n (C.numbered caller t p).a_caller)

-- ---- The handles in the book

-- each has a caller, and a serial that this caller was given; two of one caller and one serial are one
record Numbers (r : BufferPool) (pairs : List Pair) : Type 0 where
  given : (x : Pair) → Member x pairs → x.handle.serial ≤ given_to r x.handle.caller
  a_caller : (x : Pair) → Member x pairs → x.handle.caller < caller_count
  one : (x y : Pair) → Member x pairs → Member y pairs → x.handle.caller ≡ y.handle.caller
      → x.handle.serial ≡ y.handle.serial → x.handle ≡ y.handle

-- pairs whose handles are all among these
module _ {r q : BufferPool} {pairs new : List Pair} (N : Numbers r pairs)
    (grows : (caller : ℕ) → caller < caller_count → given_to r caller ≤ given_to q caller)
    (among : (x : Pair) → Member x new → (y : Pair) × Member y pairs × (x.handle ≡ y.handle)) where
  among_numbers : Numbers q new
  among_numbers =
      record {
        given = λ x i.
            let y = among x i in
            rw y.2 (omega (arith, N.given y.0 y.1, grows y.0.handle.caller (N.a_caller y.0 y.1)));
        a_caller = λ x i. let y = among x i in rw y.2 (N.a_caller y.0 y.1);
        one = λ x z i j c s.
            let y = among x i in
            let u = among z j in
            y.2
            ∙ N.one y.0 u.0 y.1 u.1
            (ap (λ (h : Handle). h.caller) (sym y.2) ∙ c ∙ ap (λ (h : Handle). h.caller) u.2)
            (ap (λ (h : Handle). h.serial) (sym y.2) ∙ s ∙ ap (λ (h : Handle). h.serial) u.2)
            ∙ sym u.2;
      }

-- a pair more, with the next serial of its caller
entered_numbers : {r q : BufferPool} {pairs : List Pair} (h : Handle) (F : List ℕ) → Numbers r pairs
    → ((caller : ℕ) → caller < caller_count → given_to r caller ≤ given_to q caller) → h.caller < caller_count
    → h.serial ≡ suc (given_to r h.caller) → h.serial ≤ given_to q h.caller → Numbers q (pair h F ∷ pairs)
entered_numbers {r} {q} {pairs} h F N grows a next most =
    record { given = given; a_caller = a_caller; one = one }
  where
    old : Numbers q pairs
    old = among_numbers N grows (λ x i. (x, i, refl))

    -- a handle that was there has another serial, or another caller
    fresh : (x : Pair) → Member x pairs → h.caller ≡ x.handle.caller → h.serial ≡ x.handle.serial → ⊥
    fresh x i c s = let k = N.given x i in omega (arith, rw (← c) at k, s, next)

    given : (x : Pair) → Member x (pair h F ∷ pairs) → x.handle.serial ≤ given_to q x.handle.caller
    given x (inl e) = rw e most
    given x (inr i) = old.given x i

    a_caller : (x : Pair) → Member x (pair h F ∷ pairs) → x.handle.caller < caller_count
    a_caller x (inl e) = rw e a
    a_caller x (inr i) = old.a_caller x i

    one : (x y : Pair) → Member x (pair h F ∷ pairs) → Member y (pair h F ∷ pairs) → x.handle.caller ≡ y.handle.caller
        → x.handle.serial ≡ y.handle.serial → x.handle ≡ y.handle
    one x y (inl e) (inl f) c s = ap (λ (z : Pair). z.handle) (e ∙ sym f)
    one x y (inl e) (inr j) c s =
        absurd (fresh y j (ap (λ (z : Pair). z.handle.caller) (sym e) ∙ c) (ap (λ (z : Pair). z.handle.serial) (sym e) ∙ s))
    one x y (inr i) (inl f) c s =
        absurd
        (fresh x i (ap (λ (z : Pair). z.handle.caller) (sym f) ∙ sym c) (ap (λ (z : Pair). z.handle.serial) (sym f) ∙ sym s))
    one x y (inr i) (inr j) c s = old.one x y i j c s

module _ (w : ℕ) where
  -- one entry
  module _ (s : State) (h : caller_count ≤ length s.pool.given) {pairs : List Pair} (N : Numbers s.pool pairs) where
    grows : (e : Entry) (caller : ℕ) → caller < caller_count → given_to s.pool caller ≤ given_to (next w s e).pool caller
    grows e caller b = omega (arith, (entry_counted w s e h).grown.grows caller b)

    -- the pairs as they are
    stays : (e : Entry) → Numbers (next w s e).pool pairs
    stays e = among_numbers N (grows e) (λ x i. (x, i, refl))

    -- a take, by the slot of the handle that it gave
    take_numbers : (by : ℕ) (destination F : List ℕ) → let e = Own (Take by destination) in
        Numbers (next w s e).pool (entered (said_at w s e) F pairs)
    take_numbers by destination F = go said.handle.slot refl
      where
        e : Entry
        e = Own (Take by destination)

        said : Values
        said = said_at w s e

        go : (slot : ℕ) → said.handle.slot ≡ slot → Numbers (next w s e).pool (entered_in slot said.handle F pairs)
        go zero p = stays e
        go (suc k) p =
            let C = entry_counted w s e h in
            let pooled : pooled_take by e said ≡ 1 = rw (eq-eqb by by refl, p) (omega arith) in
            let M = C.numbered by 0 pooled in
            let count = C.grown.grows by M.a_caller in
            entered_numbers said.handle F N (grows e) (rw M.caller_is M.a_caller) (rw M.caller_is M.serial_is)
            (rw (M.caller_is, M.serial_is) (omega (arith, count, pooled)))

  entry_numbers : (s : State) (b : Book) (e : Entry) → caller_count ≤ length s.pool.given → Numbers s.pool b.pairs
      → Numbers (next w s e).pool (noted w s b e).pairs
  entry_numbers s b (Own c) h N =
      pick_cases (λ (x : Book). Numbers (next w s (Own c)).pool x.pairs) (eqb (said_at w s (Own c)).number 0) (λ t. done c)
      (λ t. stays s h N (Own c))
    where
      done : (c : Call) → let e = Own c in
          Numbers (next w s e).pool (note_call b c (said_at w s e) (bytes_at (happens w s e).memory (said_at w s e).place)).pairs
      done (Reserve len) = stays s h N (Own (Reserve len))
      done (Commit n) = stays s h N (Own (Commit n))
      done (Truncate n) = stays s h N (Own (Truncate n))
      done (Take by destination) = take_numbers s h N by destination b.F
      done (Release k) =
          among_numbers N (grows s h N (Own (Release k))) (λ x i. (x, (without_member k b.pairs x i).0, refl))
      done (Look part) = stays s h N (Own (Look part))
  entry_numbers s b (Other m c) h N = stays s h N (Other m c)
  entry_numbers s b (Write TheFrame i byte) h N = stays s h N (Write TheFrame i byte)
  entry_numbers s b (Write TheReservation i byte) h N = stays s h N (Write TheReservation i byte)
  entry_numbers s b (Write (TheSlice k) i byte) h N =
      among_numbers N (grows s h N (Write (TheSlice k) i byte))
      (λ x j.
      let y = member_map (rewritten k i byte) b.pairs x j in
      (y.0, y.1, ap (λ (z : Pair). z.handle) y.2 ∙ rewritten_handle k i byte y.0))

  list_numbers : (s : State) (b : Book) (es : List Entry) → caller_count ≤ length s.pool.given → Numbers s.pool b.pairs
      → Numbers (after_all w s es).pool (book_after w s b es).pairs
  unfolding after_all book_after
  list_numbers s b [] h N = N
  list_numbers s b (e ∷ es) h N =
      list_numbers (next w s e) (noted w s b e) es (entry_counted w s e h).grown.places (entry_numbers s b e h N)

-- ---- From a new pool

module _ (w : ℕ) (m : Memories) where
  -- refused or not, it has given no serial
  opened_given : (opened w m).pool.given ≡ replicate caller_count 0
  unfolding new
  opened_given = go (is_slot_count w) (ltb byte_limit (length m.pool) || ltb byte_limit (length m.overflow))
    where
      go : (i t : Bool) → (new_on i t w m).call.pool.given ≡ replicate caller_count 0
      go false t = refl
      go true true = refl
      go true false = refl

  opened_places : caller_count ≤ length (opened w m).pool.given
  opened_places = rw opened_given (omega arith)

  opened_none : (caller : ℕ) → caller < caller_count → given_to (opened w m).pool caller ≡ 0
  opened_none caller b = rw opened_given (get_or-replicate caller_count caller 0 0 b)

  pub own_serial : (es : List Entry) (caller : ℕ) (destination : List ℕ) (h : Handle) → 0 < h.slot
      → said_at w (after_all w (opened w m) es) (Own (Take caller destination)) ≡ valued 0 no_place h 0 0
      → (h.caller ≡ caller) × (h.serial ≡ suc (pooled_takes w (opened w m) es caller))
  own_serial es caller destination h l e =
      let s = after_all w (opened w m) es in
      let G = list_grown w (opened w m) es opened_places in
      let N = (entry_counted w s (Own (Take caller destination)) G.places).numbered caller 0
      (rw (e, eq-eqb caller caller refl) (omega arith)) in
      let b = N.a_caller in (
        sym (ap (λ (v : Values). v.handle.caller) e) ∙ N.caller_is,
        sym (ap (λ (v : Values). v.handle.serial) e) ∙ N.serial_is
            ∙ ap suc (omega (arith, G.grows caller b, opened_none caller b)),
      )

  pub own_serials : (es : List Entry) (caller : ℕ)
      → serials_of w (opened w m) es caller ≡ numbers_after 0 (pooled_takes w (opened w m) es caller)
  own_serials es caller = go (dec_lt caller caller_count)
    where
      go : Dec (caller < caller_count) → serials_of w (opened w m) es caller ≡ numbers_after 0 (pooled_takes w (opened w m) es caller)
      go (yes b) =
          list_serials w (opened w m) es opened_places caller b
          ∙ ap (λ (k : ℕ). numbers_after k (pooled_takes w (opened w m) es caller)) (opened_none caller b)
      go (no n) = stranger_serials w (opened w m) es opened_places caller n 0

  pub one_of_serial : (es : List Entry) (x y : Pair) → let pairs = (book_after w (opened w m) empty_book es).pairs in
      Member x pairs → Member y pairs → x.handle.caller ≡ y.handle.caller → x.handle.serial ≡ y.handle.serial
      → x.handle ≡ y.handle
  one_of_serial es =
      (list_numbers w (opened w m) empty_book es opened_places
      (record { given = λ x i. absurd i; a_caller = λ x i. absurd i; one = λ x y i. absurd i })).one

-- A call that is not refused answers with a result of its own: past 1 and 2 its answer is its step's, and of each step's answers
-- all but the refusals are such results. Assumes nothing.
use mathlib.Core.Path.{◌≡◌, refl, sym, ap, ◌∙◌}
use mathlib.Core.Bool.{Bool, true, false, not}
use mathlib.Core.List.{List, []}
use mathlib.Core.Logic.{inl, inr}
use Prim.Native.Nat.{ℕ}
use native.Mathlib.Omega.{arith}
use lib.Dec.{leb, ltb, eqb}
use lib.ListN.{length}
use Rattle.laws.specs.Tests.{pick}
use Rattle.laws.proofs.Tests.{pick_cases}
use Rattle.buffer_pool.specs.declared.slice.Handle.{Handle}
use Rattle.buffer_pool.specs.declared.buffer_pool.BufferPool.{BufferPool}
use Rattle.buffer_pool.specs.declared.buffer_pool.PoolMode.{PoolMode}
use Rattle.buffer_pool.specs.declared.buffer_pool.PoolMode.TheVariants.{Back, Front, Alloc}
use Rattle.buffer_pool.specs.Values.{View, refusal, values, view_refusal}
use Rattle.buffer_pool.specs.declared.buffer_pool.Called.{Called}
use Rattle.std.specs.Prelude.{Ok, Err}
use Rattle.buffer_pool.specs.declared.refusals.Refusal.{Refusal}
use Rattle.buffer_pool.specs.declared.refusals.Refusal.TheVariants.{Unsound, WrongLength}
use Rattle.buffer_pool.specs.Moves.{Memories}
use Rattle.buffer_pool.specs.Placing.{place, is_too_long}
use Rattle.buffer_pool.specs.Soundness.{sound}
use Rattle.buffer_pool.specs.Record.{caller_count}
use Rattle.buffer_pool.specs.Steps.{refused, frame, reserve_on, reserve_step, commit_step, truncate_step, most_serials, given_to, next_handle, take_on, take_step, names, release_step}
use Rattle.buffer_pool.specs.Calls.{Outcome, outcome, misfit, guarded, guarded_call, reserve, commit, truncate, copied_out, take, release, shown, hidden, frame_view, reservation_view, slice_view}
use Rattle.buffer_pool.specs.Vocabulary.{Part, TheFrame, TheReservation, TheSlice, Call, Reserve, Commit, Truncate, Take, Release, Look, view_of, view_answer, call, number_of, done_unless, part_of, Result}

abbrev Answers : Call → Called → Type 0
Answers c called = refusal called.answer ≡ 0 → Result c called

-- a view's answer tells its number
pub view_number : (v : View) → refusal (view_answer v) ≡ view_refusal v
unfolding view_answer refusal
view_number (Ok place) = refl
view_number (Err why) = refl

-- and so does a write's
pub write_number : (v : View) → refusal (done_unless v) ≡ view_refusal v
unfolding refusal
write_number (Ok place) = refl
write_number (Err why) = refl

module _ (w : ℕ) (r : BufferPool) where
  reserve_answers : (len : ℕ) → Answers (Reserve len) (reserve_step w r len)
  unfolding reserve_step reserve_on refusal Result
  reserve_answers len = go (is_too_long (place w r len) len)
    where
      go : (t : Bool) → Answers (Reserve len) (reserve_on t r (place w r len))
      go true u = absurd (omega (arith, u))
      go false u = ((place w r len).changes, refl)

  commit_answers : (n : ℕ) → Answers (Commit n) (commit_step r n)
  unfolding commit_step refusal Result
  commit_answers n = pick_cases (Answers (Commit n)) (ltb r.reserved n) (λ e u. absurd (omega (arith, u))) (λ e u. refl)

  truncate_answers : (n : ℕ) → Answers (Truncate n) (truncate_step r n)
  unfolding truncate_step Result
  truncate_answers n u = refl

  take_answers : (caller : ℕ) (destination : List ℕ)
      → Answers (Take caller destination) (take_step w r caller (length destination))
  unfolding take_step take_on refusal Result
  take_answers caller destination =
      go (leb caller_count caller) (eqb (frame r).length 0) (ltb (length destination) (frame r).length)
      (leb most_serials (given_to r caller)) r.mode
    where
      go : (none z long spent : Bool) (mode : PoolMode)
          → Answers (Take caller destination) (take_on none z long spent mode w caller r)
      go true z long spent mode u = absurd (omega (arith, u))
      go false true long spent mode u = inr (0, refl)
      go false false long true Back u = absurd (omega (arith, u))
      go false false long false Back u = inl (next_handle r caller, omega arith, refl)
      go false false long true (Front f) u = absurd (omega (arith, u))
      go false false long false (Front f) u = inl (next_handle r caller, omega arith, refl)
      go false false true spent Alloc u = absurd (omega (arith, u))
      go false false false spent Alloc u = inr (_, refl)

  release_answers : (h : Handle) → Answers (Release h) (release_step w r h)
  unfolding release_step refusal Result
  release_answers h = pick_cases (Answers (Release h)) (names w r h) (λ e u. refl) (λ e u. absurd (omega (arith, u)))

  module _ (m : Memories) where
    guarded_answers : (c : Call) (destination : List ℕ) (o : Outcome) → Answers c o.call
        → Answers c (guarded_call w r m destination o).call
    unfolding refusal
    guarded_answers c destination o k = go (sound w r) (misfit r m)
      where
        refuse : Refusal → Outcome
        refuse why = outcome (refused r why) m destination

        go : (a b : Bool) → Answers c (pick (not a) (refuse Unsound) (pick b (refuse WrongLength) o)).call
        go false b u = absurd (omega (arith, u))
        go true true u = absurd (omega (arith, u))
        go true false u = k u

    -- a view that is not refused shows its part
    abbrev Shows : Part → View → Type 0
    Shows part v = view_refusal v ≡ 0 → v ≡ shown (part_of part r)

    guarded_shows : (part : Part) (v : View) → Shows part v → Shows part (guarded w r m hidden v)
    guarded_shows part v k = go (sound w r) (misfit r m)
      where
        go : (a b : Bool) → Shows part (pick (not a) (hidden Unsound) (pick b (hidden WrongLength) v))
        go false b u = absurd (omega (arith, u))
        go true true u = absurd (omega (arith, u))
        go true false u = k u

    view_shows : (part : Part) → Shows part (view_of w r m part)
    unfolding view_of frame_view reservation_view slice_view
    view_shows TheFrame = guarded_shows TheFrame _ (λ u. refl)
    view_shows TheReservation = guarded_shows TheReservation _ (λ u. refl)
    view_shows (TheSlice h) =
        guarded_shows (TheSlice h) _ (pick_cases (Shows (TheSlice h)) (names w r h) (λ e u. refl) (λ e u. absurd (omega (arith, u))))

    pub call_answers : (c : Call) → number_of w r m c ≡ 0 → Result c (call w r m c).call
    unfolding number_of call reserve commit truncate take copied_out release view_answer Result
    call_answers (Reserve len) = guarded_answers (Reserve len) [] _ (reserve_answers len)
    call_answers (Commit n) = guarded_answers (Commit n) [] _ (commit_answers n)
    call_answers (Truncate n) = guarded_answers (Truncate n) [] _ (truncate_answers n)
    call_answers (Take caller destination) =
        guarded_answers (Take caller destination) destination _ (take_answers caller destination)
    call_answers (Release h) = guarded_answers (Release h) [] _ (release_answers h)
    call_answers (Look part) = λ u.
        ap (λ (v : View). values (view_answer v))
        (view_shows part (sym (view_number (view_of w r m part)) ∙ u))

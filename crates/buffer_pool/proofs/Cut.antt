-- Entries above the slot count never matter: the first w entries of the arrays, with the other numbers, decide what the soundness test,
-- the steps and the calls do, and are what a call leaves of them. So a pool of w slots stands for the Rust's pool whose arrays are those
-- w entries. Assumes nothing.
use mathlib.Core.Path.{◌≡◌, refl, ap, ap₂, ◌∙◌}
use mathlib.Core.Bool.{Bool, true, false, not, ◌&&◌}
use mathlib.Core.List.{List, [], ◌∷◌}
use Prim.Native.Nat.{ℕ, zero, suc, ◌+◌, ◌-◌, ◌≤◌, ◌<◌, min}
use native.Mathlib.Omega.{arith}
use lib.Dec.{leb, ltb, eqb}
use lib.ListN.{length, get_or, set, take, replicate, length-take}
use lib.Seq.{length-take-le, get_or-take}
use borrow.Author.Tests.{le-leb, lt-leb, ltb-true, leb-true, leb-false}
use Rattle.std.specs.Prelude.{Ok}
use Rattle.laws.specs.Tests.{pick, implies}
use Rattle.laws.specs.Live.{live_at, last_live, lives}
use Rattle.laws.proofs.Tests.{leb_and, ltb_and, every_same}
use Rattle.buffer_pool.specs.declared.slice.Handle.{Handle}
use Rattle.buffer_pool.specs.declared.buffer_pool.BufferPool.{BufferPool}
use Rattle.buffer_pool.specs.declared.buffer_pool.PoolFront.{PoolFront}
use Rattle.buffer_pool.specs.declared.buffer_pool.PoolMode.{PoolMode}
use Rattle.buffer_pool.specs.declared.buffer_pool.PoolMode.TheVariants.{Back, Front, Alloc}
use Rattle.buffer_pool.specs.declared.buffer_pool.Answer.TheVariants.{Done, Taken}
use Rattle.buffer_pool.specs.declared.buffer_pool.Called.{Called}
use Rattle.buffer_pool.specs.declared.refusals.Refusal.TheVariants.{Unsound, WrongLength, CommitTooLong, NotLive}
use Rattle.buffer_pool.specs.Record.{caller_count, start_at, after, cut}
use Rattle.buffer_pool.specs.Soundness.{shaped, limited, counted, rising, framed_within, back_numbers, back_sound, front_numbers, besides, front_sound, alloc_sound, mode_sound, orderly, sound}
use Rattle.buffer_pool.specs.Sound.{Orderly}
use Rattle.buffer_pool.specs.Moves.{Memories, Move}
use Rattle.buffer_pool.specs.Placing.{Decision, Layer, drops, clearable, tail_start, tail_fits, tail_cleared, front_slots, head_fits, back_fits, front_fits, back_on, leave_on, front_on, front_start, front_cleared, stays, alloc_on, back_layer, front_layer, alloc_layer, layer, finish, first, changed, resolve_on, most_changes, is_too_long, place_of, resets, reset_on, reset_moves, reset, place}
use Rattle.buffer_pool.specs.Deciding.{front_len_of, Placeable}
use Rattle.buffer_pool.specs.Values.{values}
use Rattle.buffer_pool.specs.Steps.{called, refused, frame_of, reserve_on, reserve_step, resized, reframed, commit_step, truncate_step, given_to, next_handle, handed_out, longer, take_on, take_step, take_moves, most_serials, names, freed, release_step}
use Rattle.buffer_pool.specs.Calls.{Outcome, outcome, misfit, guarded_call, reserve, commit, truncate, copied_out, release, frame_view, reservation_view, slice_view}
use Rattle.buffer_pool.specs.Calls as calls
use Rattle.buffer_pool.specs.AsRust.{Exact}
use Rattle.buffer_pool.specs.Vocabulary.{Part, TheFrame, TheReservation, TheSlice, Call, Reserve, Commit, Truncate, Take, Release, Look, view_of, call}
use Rattle.buffer_pool.proofs.Order.{last_held}
use Rattle.buffer_pool.proofs.Soundness.{orderly_use, orderly_make, sound_use}
use Rattle.buffer_pool.proofs.DecidingLaws.{layer_placeable, fit_placeable}
use Rattle.buffer_pool.proofs.ReserveKept.{reset_fit}

-- ---- Lists

-- an entry set, whether it is one of the first w or not
set_cut : (w i v : ℕ) (l : List ℕ) → set (take w l) i v ≡ take w (set l i v)
set_cut zero i v [] = refl
set_cut zero zero v (x ∷ l) = refl
set_cut zero (suc i) v (x ∷ l) = refl
set_cut (suc w) i v [] = refl
set_cut (suc w) zero v (x ∷ l) = refl
set_cut (suc w) (suc i) v (x ∷ l) = ap (λ (m : List ℕ). x ∷ m) (set_cut w i v l)

pub zeros_cut : (w n : ℕ) → w ≤ n → take {A = ℕ} w (replicate n 0) ≡ replicate w 0
zeros_cut zero n h = refl
zeros_cut (suc w) zero h = absurd (omega arith)
zeros_cut (suc w) (suc n) h = ap (λ (m : List ℕ). 0 ∷ m) (zeros_cut w n (omega arith))

long_cut : (w : ℕ) (l : List ℕ) → leb w (length (take w l)) ≡ leb w (length l)
long_cut w l = go (leb w (length l)) refl
  where
    go : (b : Bool) → leb w (length l) ≡ b → leb w (length (take w l)) ≡ b
    go true e = le-leb w (length (take w l)) (omega (arith, length-take w l, leb-true w (length l) e))
    go false e = rw (length-take w l) (lt-leb w (min w (length l)) (omega (arith, leb-false w (length l) e)))

after_cut : (w p : ℕ) (starts lengths : List ℕ) → p ≤ w → after (take w starts) (take w lengths) p ≡ after starts lengths p
unfolding after
after_cut w zero starts lengths h = refl
after_cut w (suc i) starts lengths h = ap₂ (λ (a b : ℕ). a + b) (get_or-take w starts i 0 h) (get_or-take w lengths i 0 h)

-- ---- The soundness test

module _ (w : ℕ) (r : BufferPool) where
  start_cut : (p : ℕ) → 1 ≤ p → p ≤ w → start_at (take w r.starts) p ≡ start_at r.starts p
  start_cut p one most = get_or-take w r.starts (p - 1) 0 (omega arith)

  end_cut : (p : ℕ) → p ≤ w → after (take w r.starts) (take w r.lengths) p ≡ after r.starts r.lengths p
  end_cut p most = after_cut w p r.starts r.lengths most

  shaped_cut : shaped w (cut w r) ≡ shaped w r
  unfolding shaped
  shaped_cut = rw (long_cut w r.starts, long_cut w r.lengths, long_cut w r.serials, long_cut w r.callers) refl

  rising_cut : (most n p end : ℕ) → 1 ≤ p → p + n ≤ suc w → rising w (cut w r) most n p end ≡ rising w r most n p end
  unfolding rising
  rising_cut most zero p end one h = refl
  rising_cut most (suc n) p end one h =
      rw (
        start_cut p one (omega arith),
        end_cut p (omega arith),
        rising_cut most n (suc p) (after r.starts r.lengths p) (omega arith) (omega arith),
        rising_cut most n (suc p) end (omega arith) (omega arith),
      ) refl

  lives_cut : (f g : ℕ → Bool) → ((p : ℕ) → 1 ≤ p → p ≤ w → f p ≡ g p) → lives w r.live f ≡ lives w r.live g
  unfolding lives
  lives_cut f g same =
      every_same (λ p. implies (live_at w r.live p) (f p)) (λ p. implies (live_at w r.live p) (g p)) 1 w
      (λ p one most. ap (implies (live_at w r.live p)) (same p one (omega arith)))

  mode_cut : (mode : PoolMode) → mode_sound w mode (cut w r) ≡ mode_sound w mode r
  unfolding mode_sound back_sound back_numbers framed_within front_sound front_numbers alloc_sound besides
  mode_cut Back =
      ap (λ (b : Bool). back_numbers w r && b)
      (lives_cut _ _ (λ p one most. ap (λ (end : ℕ). leb end r.raw_offset) (end_cut p most)))
  mode_cut (Front f) =
      ap (λ (b : Bool). front_numbers w r f && b)
      (lives_cut (besides (cut w r) f) (besides r f) (λ p one most. rw (start_cut p one most, end_cut p most) refl))
  mode_cut Alloc = refl

  tested_cut : orderly w (cut w r) ≡ orderly w r
  unfolding orderly counted
  tested_cut = rw (shaped_cut, rising_cut (r.back_start + r.back_len) w 1 0 (omega arith) (omega arith), mode_cut r.mode) refl

  pub sound_cut : sound w (cut w r) ≡ sound w r
  unfolding sound limited
  sound_cut = rw tested_cut refl

  pub orderly_cut : Orderly w r → Orderly w (cut w r)
  orderly_cut O = orderly_use w (cut w r) (tested_cut ∙ orderly_make w r O)

-- ---- Layers

abbrev cut_layer : ℕ → Layer → Layer
cut_layer w l = record { again = l.again; entered = l.entered; mode = l.mode; pool = cut w l.pool; moves = l.moves }

module _ (w : ℕ) (r : BufferPool) (B : r.back_start + r.back_len ≤ w) where
  tail_start_lem : tail_start w (cut w r) ≡ tail_start w r
  unfolding tail_start
  tail_start_lem =
      rw (
        after_cut w (last_live w r.live r.back_start) r.starts r.lengths
            (omega (arith, (last_held w r.live r.back_start (omega arith)).within)),
        after_cut w (r.back_start + r.back_len - drops w r.live r.back_start) r.starts r.lengths (omega arith),
      ) refl

  tail_fits_lem : (len : ℕ) → tail_fits w (cut w r) len ≡ tail_fits w r len
  unfolding tail_fits
  tail_fits_lem len = rw tail_start_lem refl

  clears : clearable w (cut w r) ≡ clearable w r
  unfolding clearable
  clears = refl

  head_fits_lem : head_fits w (cut w r) ≡ head_fits w r
  unfolding head_fits
  head_fits_lem = go (ltb (front_slots w r) w) refl
    where
      go : (b : Bool) → ltb (front_slots w r) w ≡ b
          → (leb 1 (front_slots w r) && (b && ltb r.raw_len (get_or (take w r.starts) (front_slots w r) 0)))
          ≡ (leb 1 (front_slots w r) && (b && ltb r.raw_len (get_or r.starts (front_slots w r) 0)))
      go true e = rw (get_or-take w r.starts (front_slots w r) 0 (ltb-true (front_slots w r) w e)) refl
      go false e = refl

  head_below : head_fits w r ≡ true → front_slots w r < w
  unfolding head_fits
  head_below e = (ltb_and (front_slots w r) w (leb_and 1 (front_slots w r) e).1).0

  tail_cleared_lem : tail_cleared w (cut w r) ≡ cut w (tail_cleared w r)
  tail_cleared_lem = rw tail_start_lem refl

  back_on_lem : (a c t h : Bool) → head_fits w r ≡ h → back_on a c t h w (cut w r) ≡ cut_layer w (back_on a c t h w r)
  unfolding back_on
  back_on_lem true c t h e = refl
  back_on_lem false false t h e = refl
  back_on_lem false true true h e = rw tail_start_lem refl
  back_on_lem false true false true e = rw (get_or-take w r.starts (front_slots w r) 0 (head_below e)) refl
  back_on_lem false true false false e = refl

  alloc_on_lem : (a t h : Bool) → head_fits w r ≡ h → alloc_on a t h w (cut w r) ≡ cut_layer w (alloc_on a t h w r)
  unfolding alloc_on
  alloc_on_lem true t h e = refl
  alloc_on_lem false true h e = rw tail_start_lem refl
  alloc_on_lem false false true e = rw (get_or-take w r.starts (front_slots w r) 0 (head_below e)) refl
  alloc_on_lem false false false e = refl

  leave_on_lem : (c t : Bool) (moves : List Move) → leave_on c t w (cut w r) moves ≡ cut_layer w (leave_on c t w r moves)
  unfolding leave_on
  leave_on_lem true true moves = rw tail_start_lem refl
  leave_on_lem true false moves = refl
  leave_on_lem false t moves = refl

  back_layer_lem : (len : ℕ) → back_layer w (cut w r) len ≡ cut_layer w (back_layer w r len)
  unfolding back_layer back_fits
  back_layer_lem len = rw (clears, tail_fits_lem len, head_fits_lem) (back_on_lem _ (clearable w r) (tail_fits w r len) (head_fits w r) refl)

  alloc_layer_lem : (entered : Bool) (len : ℕ) → alloc_layer w entered (cut w r) len ≡ cut_layer w (alloc_layer w entered r len)
  unfolding alloc_layer stays
  alloc_layer_lem entered len = rw (clears, tail_fits_lem len, head_fits_lem) (alloc_on_lem _ (tail_fits w r len) (head_fits w r) refl)

module _ (w : ℕ) (r : BufferPool) (B : r.back_start + r.back_len ≤ w) (f : PoolFront) (F : f.len ≤ w) where
  front_start_lem : front_start w (cut w r) f ≡ front_start w r f
  front_start_lem =
      after_cut w (last_live w r.live f.len) r.starts r.lengths (omega (arith, (last_held w r.live f.len F).within))

  front_cleared_lem : front_cleared w (cut w r) f ≡ cut w (front_cleared w r f)
  front_cleared_lem = rw front_start_lem refl

  front_on_lem : (a d g : Bool) (len : ℕ) → front_on a d g w (cut w r) f len ≡ cut_layer w (front_on a d g w r f len)
  unfolding front_on
  front_on_lem true d g len = refl
  front_on_lem false true true len = rw front_start_lem refl
  front_on_lem false true false len =
      rw (front_start_lem, clears w (front_cleared w r f) B, tail_fits_lem w (front_cleared w r f) B len)
      (leave_on_lem w (front_cleared w r f) B (clearable w (front_cleared w r f)) (tail_fits w (front_cleared w r f) len) _)
  front_on_lem false false g len = rw (clears w r B, tail_fits_lem w r B len) (leave_on_lem w r B (clearable w r) (tail_fits w r len) [])

  front_layer_lem : (len : ℕ) → front_layer w f (cut w r) len ≡ cut_layer w (front_layer w f r len)
  unfolding front_layer front_fits
  front_layer_lem len = rw front_start_lem (front_on_lem _ _ _ len)

layer_cut : (w : ℕ) (entered : Bool) (mode : PoolMode) (r : BufferPool) (len : ℕ) → r.back_start + r.back_len ≤ w
    → front_len_of mode ≤ w → layer w entered mode (cut w r) len ≡ cut_layer w (layer w entered mode r len)
unfolding layer
layer_cut w entered Back r len B F = back_layer_lem w r B len
layer_cut w entered (Front f) r len B F = front_layer_lem w r B f F len
layer_cut w entered Alloc r len B F = alloc_layer_lem w r B entered len

-- ---- The reset

reset_cut : (w : ℕ) (r : BufferPool) → w ≤ length r.starts → w ≤ length r.lengths → reset (cut w r) ≡ cut w (reset r)
unfolding reset reset_on resets
reset_cut w r s l = go (resets r) (ltb r.cursor r.capacity) (eqb r.cursor 0) r.mode
  where
    go : (a t z : Bool) (mode : PoolMode) → reset_on a t z mode (cut w r) ≡ cut w (reset_on a t z mode r)
    go false t z mode = refl
    go true t z Back = refl
    go true t z (Front f) = refl
    go true true true Alloc =
        rw (
          length-take-le w r.starts s,
          length-take-le w r.lengths l,
          zeros_cut w (length r.starts) s,
          zeros_cut w (length r.lengths) l,
        ) refl
    go true true false Alloc = refl
    go true false z Alloc = refl

-- ---- The decision

abbrev pub cut_decision : ℕ → Decision → Decision
cut_decision w d = record { next = cut w d.next; changes = d.changes; moves = d.moves; heap = d.heap }

long_decision : (w : ℕ) (d : Decision) (len : ℕ) → is_too_long (cut_decision w d) len ≡ is_too_long d len
unfolding is_too_long
long_decision w d len = refl

finish_cut : (w : ℕ) (mode : PoolMode) (r : BufferPool) (moves : List Move) (len : ℕ)
    → finish mode (cut w r) moves len ≡ cut_decision w (finish mode r moves len)
finish_cut w Back r moves len = refl
finish_cut w (Front f) r moves len = refl
finish_cut w Alloc r moves len = refl

place_of_cut : (w k : ℕ) (entered : Bool) (r : BufferPool) (len : ℕ) → Placeable w r
    → place_of w k entered r.mode (cut w r) len ≡ cut_decision w (place_of w k entered r.mode r len)
unfolding place_of
place_of_cut w zero entered r len P = finish_cut w r.mode r [] len
place_of_cut w (suc k) entered r len P =
    rw (layer_cut w entered r.mode r len P.back_within P.front_within)
    (go (layer w entered r.mode r len)
    (place_of_cut w k (layer w entered r.mode r len).entered (layer w entered r.mode r len).pool len
    (layer_placeable w r P entered len r.mode refl))
    (layer w entered r.mode r len).again)
  where
    go : (l : Layer)
        → place_of w k l.entered l.pool.mode (cut w l.pool) len
        ≡ cut_decision w (place_of w k l.entered l.pool.mode l.pool len)
        → (again : Bool)
        → resolve_on (λ e q. place_of w k e q.mode q len) again (cut_layer w l) len
        ≡ cut_decision w (resolve_on (λ e q. place_of w k e q.mode q len) again l len)
    go l Q true = ap (changed l.moves) Q
    go l Q false = finish_cut w l.mode l.pool l.moves len

reset_moves_cut : (w : ℕ) (r : BufferPool) (a t z : Bool) (mode : PoolMode) → reset_moves a t z mode (cut w r) ≡ reset_moves a t z mode r
unfolding reset_moves
reset_moves_cut w r false t z mode = refl
reset_moves_cut w r true t z Back = refl
reset_moves_cut w r true t z (Front f) = refl
reset_moves_cut w r true true true Alloc = refl
reset_moves_cut w r true true false Alloc = refl
reset_moves_cut w r true false z Alloc = refl

-- the reset record is placeable again (P), so cutting commutes with the whole decision
place_cut : (w : ℕ) (r : BufferPool) (len : ℕ) → w ≤ length r.starts → w ≤ length r.lengths → Placeable w (reset r)
    → place w (cut w r) len ≡ cut_decision w (place w r len)
unfolding place resets
place_cut w r len s l P =
    rw (reset_cut w r s l, reset_moves_cut w r (resets r) (ltb r.cursor r.capacity) (eqb r.cursor 0) r.mode)
    (ap (first (reset_moves (resets r) (ltb r.cursor r.capacity) (eqb r.cursor 0) r.mode r))
    (place_of_cut w most_changes false (reset r) len P))

pub placed_cut : (w : ℕ) (r : BufferPool) (len : ℕ) → Orderly w r → place w (cut w r) len ≡ cut_decision w (place w r len)
placed_cut w r len O =
    place_cut w r len O.ready.slots.starts_w O.ready.slots.lengths_w (fit_placeable w (reset r) (reset_fit w r O))

-- w entries each
pub exact_cut : (w : ℕ) (r : BufferPool) → Orderly w (cut w r) → Exact w (cut w r)
exact_cut w r O = (
  omega (arith, length-take w r.starts, O.ready.slots.starts_w),
  omega (arith, length-take w r.lengths, O.ready.slots.lengths_w),
)

-- ---- The steps

abbrev cut_called : ℕ → Called → Called
cut_called w c = called (cut w c.pool) c.answer

commit_cut : (w : ℕ) (r : BufferPool) (n : ℕ) → commit_step (cut w r) n ≡ cut_called w (commit_step r n)
unfolding commit_step
commit_cut w r n = go (ltb r.reserved n) r.mode
  where
    go : (b : Bool) (mode : PoolMode)
        → pick b (refused (cut w r) CommitTooLong) (reframed (resized mode (cut w r) ((frame_of mode (cut w r)).length + n)))
        ≡ cut_called w (pick b (refused r CommitTooLong) (reframed (resized mode r ((frame_of mode r).length + n))))
    go true mode = refl
    go false Back = refl
    go false (Front f) = refl
    go false Alloc = refl

truncate_cut : (w : ℕ) (r : BufferPool) (n : ℕ) → truncate_step (cut w r) n ≡ cut_called w (truncate_step r n)
unfolding truncate_step
truncate_cut w r n = go r.mode
  where
    go : (mode : PoolMode) → reframed (resized mode (cut w r) (min (frame_of mode (cut w r)).length n))
        ≡ cut_called w (reframed (resized mode r (min (frame_of mode r).length n)))
    go Back = refl
    go (Front f) = refl
    go Alloc = refl

handed_cut : (w caller : ℕ) (r : BufferPool) (mode : PoolMode) (n : ℕ)
    → handed_out w caller (cut w r) mode n ≡ cut w (handed_out w caller r mode n)
handed_cut w caller r mode n =
    rw (
      set_cut w r.used r.raw_offset r.starts,
      set_cut w r.used r.raw_len r.lengths,
      set_cut w r.used (suc (given_to r caller)) r.serials,
      set_cut w r.used caller r.callers,
    ) refl

take_cut : (w : ℕ) (r : BufferPool) (caller d : ℕ) → take_step w (cut w r) caller d ≡ cut_called w (take_step w r caller d)
unfolding take_step take_on
take_cut w r caller d = go r.mode (leb caller_count caller) (leb most_serials (given_to r caller))
  where
    pooled_cut : (mode : PoolMode) (n : ℕ) → called (handed_out w caller (cut w r) mode n) (Ok (Taken (next_handle r caller)))
        ≡ cut_called w (called (handed_out w caller r mode n) (Ok (Taken (next_handle r caller))))
    pooled_cut mode n = ap (λ (q : BufferPool). called q (Ok (Taken (next_handle r caller)))) (handed_cut w caller r mode n)

    on : (none empty long spent : Bool) (mode : PoolMode)
        → take_on none empty long spent mode w caller (cut w r) ≡ cut_called w (take_on none empty long spent mode w caller r)
    on true empty long spent mode = refl
    on false true long spent Back = refl
    on false true long spent (Front f) = refl
    on false true long spent Alloc = refl
    on false false long true Back = refl
    on false false long false Back = pooled_cut Back (suc r.used - r.back_start)
    on false false long true (Front f) = refl
    on false false long false (Front f) = pooled_cut (Front (longer f (suc r.used))) r.back_len
    on false false true spent Alloc = refl
    on false false false spent Alloc = refl

    go : (mode : PoolMode) (none spent : Bool)
        → take_on none (eqb (frame_of mode (cut w r)).length 0) (ltb d (frame_of mode (cut w r)).length) spent mode w caller (cut w r)
        ≡ cut_called w (take_on none (eqb (frame_of mode r).length 0) (ltb d (frame_of mode r).length) spent mode w caller r)
    go Back none spent = on none (eqb r.raw_len 0) (ltb d r.raw_len) spent Back
    go (Front f) none spent = on none (eqb r.raw_len 0) (ltb d r.raw_len) spent (Front f)
    go Alloc none spent = on none (eqb r.cursor 0) (ltb d r.cursor) spent Alloc

names_cut : (w : ℕ) (r : BufferPool) (h : Handle) → names w (cut w r) h ≡ names w r h
unfolding names
names_cut w r h = go (leb 1 h.slot) refl (leb h.slot w) refl
  where
    rest : List ℕ → List ℕ → List ℕ → List ℕ → Bool
    rest starts lengths serials callers =
        live_at w r.live h.slot && (eqb h.start (start_at starts h.slot) && (eqb h.length (start_at lengths h.slot)
        && (eqb h.serial (start_at serials h.slot) && (eqb h.caller (start_at callers h.slot) && ltb h.caller caller_count))))

    go : (x : Bool) → leb 1 h.slot ≡ x → (y : Bool) → leb h.slot w ≡ y
        → (x && (y && rest (take w r.starts) (take w r.lengths) (take w r.serials) (take w r.callers)))
        ≡ (x && (y && rest r.starts r.lengths r.serials r.callers))
    go true a true b =
        let i : h.slot - 1 < w = omega (arith, leb-true 1 h.slot a, leb-true h.slot w b) in
        rw (
          get_or-take w r.starts (h.slot - 1) 0 i,
          get_or-take w r.lengths (h.slot - 1) 0 i,
          get_or-take w r.serials (h.slot - 1) 0 i,
          get_or-take w r.callers (h.slot - 1) 0 i,
        ) refl
    go true a false b = refl
    go false a y b = refl

release_cut : (w : ℕ) (r : BufferPool) (h : Handle) → release_step w (cut w r) h ≡ cut_called w (release_step w r h)
unfolding release_step
release_cut w r h = rw (names_cut w r h) (go (names w r h))
  where
    go : (b : Bool) → pick b (called (freed w (cut w r) h.slot) (Ok Done)) (refused (cut w r) NotLive)
        ≡ cut_called w (pick b (called (freed w r h.slot) (Ok Done)) (refused r NotLive))
    go true = refl
    go false = refl

pub frame_cut : (w : ℕ) (mode : PoolMode) (r : BufferPool) → frame_of mode (cut w r) ≡ frame_of mode r
frame_cut w Back r = refl
frame_cut w (Front f) r = refl
frame_cut w Alloc r = refl

reserve_cut : (w : ℕ) (r : BufferPool) (len : ℕ) → Orderly w r → reserve_step w (cut w r) len ≡ cut_called w (reserve_step w r len)
unfolding reserve_step reserve_on
reserve_cut w r len O = rw (placed_cut w r len O, long_decision w (place w r len) len) (go (place w r len) (is_too_long (place w r len) len))
  where
    go : (d : Decision) (t : Bool) → reserve_on t (cut w r) (cut_decision w d) ≡ cut_called w (reserve_on t r d)
    go d true = refl
    go d false = rw (frame_cut w d.next.mode d.next) refl

-- ---- The calls

abbrev pub cut_outcome : ℕ → Outcome → Outcome
cut_outcome w o = outcome (cut_called w o.call) o.memory o.destination

module _ (w : ℕ) (r : BufferPool) (m : Memories) where
  guarded_cut : (destination : List ℕ) (o' o : Outcome) → (sound w r ≡ true → o' ≡ cut_outcome w o)
      → guarded_call w (cut w r) m destination o' ≡ cut_outcome w (guarded_call w r m destination o)
  unfolding misfit
  guarded_cut destination o' o e = rw (sound_cut w r) (go (sound w r) refl (misfit r m))
    where
      go : (s : Bool) → sound w r ≡ s → (f : Bool)
          → pick (not s) (outcome (refused (cut w r) Unsound) m destination) (pick f (outcome (refused (cut w r) WrongLength) m destination) o')
          ≡ cut_outcome w (pick (not s) (outcome (refused r Unsound) m destination) (pick f (outcome (refused r WrongLength) m destination) o))
      go false t f = refl
      go true t true = refl
      go true t false = e t

  moves_cut : (n : ℕ) → take_moves (cut w r) n ≡ take_moves r n
  unfolding take_moves
  moves_cut zero = refl
  moves_cut (suc n) = refl

  pub view_cut : (part : Part) → view_of w (cut w r) m part ≡ view_of w r m part
  unfolding view_of frame_view reservation_view slice_view misfit
  view_cut TheFrame = rw (sound_cut w r, frame_cut w r.mode r) refl
  view_cut TheReservation = rw (sound_cut w r, frame_cut w r.mode r) refl
  view_cut (TheSlice h) = rw (sound_cut w r, names_cut w r h) refl

  -- every call: the cut record decides it, and is cut as it is left
  pub call_cut : (c : Call) → call w (cut w r) m c ≡ cut_outcome w (call w r m c)
  unfolding call reserve commit truncate calls.take copied_out release
  call_cut (Reserve len) =
      guarded_cut [] _ _ (λ s. let O = (sound_use w r s).orderly in
      rw (reserve_cut w r len O, placed_cut w r len O, long_decision w (place w r len) len) refl)
  call_cut (Commit n) = guarded_cut [] _ _ (λ s. rw (commit_cut w r n) refl)
  call_cut (Truncate n) = guarded_cut [] _ _ (λ s. rw (truncate_cut w r n) refl)
  call_cut (Take caller destination) =
      guarded_cut destination _ _ (λ s. rw (
        take_cut w r caller (length destination),
        moves_cut (values (take_step w r caller (length destination)).answer).length,
      ) refl)
  call_cut (Release h) = guarded_cut [] _ _ (λ s. rw (release_cut w r h) refl)
  call_cut (Look part) = rw (view_cut part) refl

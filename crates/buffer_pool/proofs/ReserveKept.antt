-- A reserve keeps a record orderly. The frame is followed through the placing: after the reset and after each mode change
-- the record is ready, with nothing reserved yet; the mode that keeps the frame gives it its reservation. B that fits and A
-- just entered settle at once, so F needs one more change at most, and B and A two. Assumes nothing.
use mathlib.Core.Path.{◌≡◌, refl}
use mathlib.Core.Bool.{Bool, true, false, ◌&&◌}
use mathlib.Core.List.{List, []}
use Prim.Native.Nat.{ℕ, zero, suc, ◌+◌, ◌≤◌, ◌<◌}
use native.Mathlib.Omega.{arith}
use borrow.Author.Tests.{ltb-true, ltb-false, leb-true, eqb-true, lt-ltb, le-leb}
use lib.Dec.{ltb, eqb}
use lib.ListN.{length}
use Rattle.laws.proofs.Tests.{either_false, not_false, leb_and, ltb_and, eqb_and}
use Rattle.buffer_pool.specs.declared.buffer_pool.BufferPool.{BufferPool}
use Rattle.buffer_pool.specs.declared.buffer_pool.PoolFront.{PoolFront}
use Rattle.buffer_pool.specs.declared.buffer_pool.PoolMode.{PoolMode}
use Rattle.buffer_pool.specs.declared.buffer_pool.PoolMode.TheVariants.{Back, Front, Alloc}
use Rattle.buffer_pool.specs.Record.{placed, marked}
use Rattle.buffer_pool.specs.Moves.{Move, within}
use Rattle.buffer_pool.specs.Placing.{Decision, Layer, clearable, tail_fits, tail_cleared, head_fits, head_cleared, to_alloc, finish, back_fits, back_on, front_fits, front_last, front_start, shorter, front_cleared, leave_on, leave, front_on, stays, alloc_on, layer, back_layer, front_layer, alloc_layer, resolve, place_of, most_changes, resets, reset_on, reset, place, is_too_long}
use Rattle.buffer_pool.specs.Sound.{Ready, InBack, InFront, InAlloc, InMode, Orderly}
use Rattle.buffer_pool.specs.Steps.{reserve_on, reserve_step}
use Rattle.buffer_pool.proofs.Order.{none_held}
use Rattle.buffer_pool.proofs.Parts.{ready_marked, ready_placed, ready_framed, framed_orderly, back_kept, front_kept, alloc_kept, weaken, zeros_long, no_slots, no_slots_back}
use Rattle.buffer_pool.proofs.Rules.{out_ready, out_in, tail_room, tail_ready, tail_in, head_ready, head_in, front_ready, front_in}

-- what a decision leaves is orderly, if the overflow is long enough where it is used
abbrev pub After : ℕ → ℕ → Decision → Type 0
After w len d = (d.heap ≡ true → d.next.cursor + len ≤ d.next.overflow) → Orderly w d.next

-- the next placing, after a change, and a layer with so many changes allowed after it
abbrev again : ℕ → ℕ → ℕ → Bool → BufferPool → Decision
again w k len entered q = place_of w k entered q.mode q len

abbrev AfterLayer : ℕ → ℕ → ℕ → Layer → Type 0
AfterLayer w len k l = After w len (resolve (again w k len) l len)

module _ (w len : ℕ) (r : BufferPool) (R : Ready w r) where
  -- ---- A mode that keeps the frame

  finish_back : InBack w r len → After w len (finish Back r [] len)
  finish_back I h = framed_orderly R (omega (arith, R.kept_in, I.no_cursor)) (back_kept I I.past I.fits I.slot)

  finish_front : (f : PoolFront) → InFront w r f len → After w len (finish (Front f) r [] len)
  finish_front f I h = framed_orderly R (omega (arith, R.kept_in, I.no_cursor)) (front_kept I I.side I.fits I.slot)

  finish_alloc : InAlloc r 0 → After w len (finish Alloc r [] len)
  finish_alloc I h = framed_orderly R (omega (arith, R.kept_in, h refl)) (alloc_kept I (omega arith))

  -- ---- Where no more change is made, with any number allowed

  pub back_fits_lem : InBack w r len → r.back_start + r.back_len < w → back_fits w r len ≡ true
  unfolding back_fits
  back_fits_lem I l =
      rw (le-leb (r.raw_offset + r.raw_len + len) r.capacity I.fits, lt-ltb (r.back_start + r.back_len) w l)

  settle_back : (k : ℕ) (entered : Bool) → InBack w r len → r.back_start + r.back_len < w
      → After w len (place_of w k entered Back r len)
  unfolding place_of layer back_layer front_layer alloc_layer back_on
  settle_back zero entered I l = finish_back I
  settle_back (suc k) entered I l = rw (back_fits_lem I l) (finish_back I)

  settle_alloc : (k : ℕ) → InAlloc r 0 → After w len (place_of w k true Alloc r len)
  unfolding place_of layer back_layer front_layer alloc_layer stays alloc_on
  settle_alloc zero I = finish_alloc I
  settle_alloc (suc k) I = finish_alloc I

module _ (w len : ℕ) (k : ℕ) (r : BufferPool) (R : Ready w r) where
  -- ---- To A, and to B by a tail clear

  to_alloc_lem : After w len (again w k len true (to_alloc r))
  to_alloc_lem = settle_alloc w len (to_alloc r) (out_ready w r R) k (out_in w r R)

  to_back : r.cursor ≡ 0 → clearable w r ≡ true → tail_fits w r len ≡ true → After w len (again w k len false (tail_cleared w r))
  to_back z c t =
      settle_back w len (tail_cleared w r) (tail_ready w r R c len t) k false (tail_in w r R c len t z) (tail_room w r R c len t)

  leave_after : r.cursor ≡ 0 → (moves : List Move) → AfterLayer w len k (leave w r moves len)
  unfolding leave_on
  leave_after z moves = go (clearable w r) refl (tail_fits w r len) refl
    where
      go : (c : Bool) → clearable w r ≡ c → (t : Bool) → tail_fits w r len ≡ t → AfterLayer w len k (leave_on c t w r moves)
      go true c true t = to_back z c t
      go true c false t = to_alloc_lem
      go false c t u = to_alloc_lem

-- ---- F, with one change allowed

front_after : (w len k : ℕ) (entered : Bool) (f : PoolFront) (r : BufferPool) → Ready w r → InFront w r f 0
    → After w len (place_of w (suc k) entered (Front f) r len)
unfolding place_of layer back_layer front_layer alloc_layer front_on front_fits
front_after w len k entered f r R I =
    go (ltb f.len f.back_start && front_fits r f.byte_capacity len) refl (ltb (front_last w r f) f.len) refl
    (front_fits (front_cleared w r f) f.byte_capacity len) refl
  where
    go : (a : Bool) → (ltb f.len f.back_start && front_fits r f.byte_capacity len) ≡ a
        → (d : Bool) → ltb (front_last w r f) f.len ≡ d → (g : Bool) → front_fits (front_cleared w r f) f.byte_capacity len ≡ g
        → AfterLayer w len k (front_on a d g w r f len)
    go true p d q g s =
        let t = ltb_and f.len f.back_start p in
        finish_front w len r R f
        (front_kept I I.side (leb-true (r.raw_offset + r.raw_len + len) f.byte_capacity t.1) (λ l. t.0))
    go false p true q true s =
        finish_front w len (front_cleared w r f) (front_ready w r R f I) (shorter w r f)
        (front_in w r R f I (ltb-true (front_last w r f) f.len q) len
        (leb-true (front_start w r f + r.raw_len + len) f.byte_capacity s))
    go false p true q false s =
        leave_after w len k (front_cleared w r f) (front_ready w r R f I) I.no_cursor
        (within r.raw_offset r.raw_len (front_start w r f))
    go false p false q g s = leave_after w len k r R I.no_cursor []

-- ---- B and A, with two changes allowed

-- where A gives way, its frame is empty and the tail is clearable
pub stays_not : (w : ℕ) (r : BufferPool) (entered : Bool) → stays w entered r ≡ false → (r.cursor ≡ 0) × (clearable w r ≡ true)
unfolding stays
stays_not w r entered p =
    let a = either_false (ltb 0 r.cursor) _ (either_false entered _ p).1 in
    (omega (arith, ltb-false 0 r.cursor a.0), not_false (clearable w r) (either_false (eqb r.back_len 0) _ a.1).1)

module _ (w len : ℕ) (k : ℕ) (r : BufferPool) (R : Ready w r) where
  to_front : r.cursor ≡ 0 → clearable w r ≡ true → head_fits w r ≡ true → After w len (again w (suc k) len false (head_cleared w r))
  to_front z c h = front_after w len k false _ (head_cleared w r) (head_ready w r R c h) (head_in w r R c h z)

  back_after : (entered : Bool) → InBack w r 0 → After w len (place_of w (suc (suc k)) entered Back r len)
  unfolding place_of layer back_layer front_layer alloc_layer back_on back_fits
  back_after entered I = go (back_fits w r len) refl (clearable w r) refl (tail_fits w r len) refl (head_fits w r) refl
    where
      go : (a : Bool) → back_fits w r len ≡ a → (c : Bool) → clearable w r ≡ c → (t : Bool) → tail_fits w r len ≡ t
          → (h : Bool) → head_fits w r ≡ h → AfterLayer w len (suc k) (back_on a c t h w r)
      go true p c q t u h v =
          let x = leb_and (r.raw_offset + r.raw_len + len) r.capacity p in
          finish_back w len r R (back_kept I I.past x.0 (λ l. ltb-true (r.back_start + r.back_len) w x.1))
      go false p false q t u h v = to_alloc_lem w len (suc k) r R
      go false p true q true u h v =
          finish_back w len (tail_cleared w r) (tail_ready w r R q len u) (tail_in w r R q len u I.no_cursor)
      go false p true q false u true v = to_front I.no_cursor q v
      go false p true q false u false v = to_alloc_lem w len (suc k) r R

  alloc_after : (entered : Bool) → InAlloc r 0 → After w len (place_of w (suc (suc k)) entered Alloc r len)
  unfolding place_of layer back_layer front_layer alloc_layer alloc_on
  alloc_after entered I = go (stays w entered r) refl (tail_fits w r len) refl (head_fits w r) refl
    where
      go : (a : Bool) → stays w entered r ≡ a → (t : Bool) → tail_fits w r len ≡ t → (h : Bool) → head_fits w r ≡ h
          → AfterLayer w len (suc k) (alloc_on a t h w r)
      go true p t u h v = finish_alloc w len r R I
      go false p true u h v = let z = stays_not w r entered p in to_back w len (suc k) r R z.0 z.1 u
      go false p false u true v = let z = stays_not w r entered p in to_front z.0 z.1 v
      go false p false u false v = finish_alloc w len r R I

-- ---- The reset

-- ready, and in its mode with nothing reserved
abbrev pub Fit : ℕ → BufferPool → Type 0
Fit w r = Ready w r × InMode w r.mode r 0

pub none_live : (r : BufferPool) → resets r ≡ true → r.live ≡ 0
unfolding resets
none_live r e = (eqb_and r.live 0 e).0

module _ (w : ℕ) (r : BufferPool) (S : Orderly w r) where
  abbrev R : Ready w r
  R = S.ready

  pub kept_fit : Fit w r
  kept_fit = (R, weaken w r.mode r (omega arith) S.in_mode)

  -- no live slot, no slot in the back, and these entries
  emptied : {starts lengths : List ℕ} → r.live ≡ 0 → w ≤ length starts → w ≤ length lengths
      → Ready w (placed (marked r r.live starts lengths r.serials r.callers r.given) Back 0 0 0 0)
  emptied z starts lengths =
      ready_marked R (no_slots z R.slots.live_fits starts lengths) R.serials_fit (omega (arith, R.start_below)) (omega arith)
      (λ e. refl) (λ p t. absurd (none_held w z t))

  emptied_kept : r.live ≡ 0 → Ready w (placed r Back 0 0 0 0)
  emptied_kept z = emptied z R.slots.starts_w R.slots.lengths_w

  pub reset_fit : Fit w (reset r)
  unfolding reset reset_on
  reset_fit = go (resets r) refl (ltb r.cursor r.capacity) refl (eqb r.cursor 0) refl r.mode kept_fit.1
    where
      some : 0 + 0 < w
      some = omega (arith, R.start_below)

      go : (a : Bool) → resets r ≡ a → (t : Bool) → ltb r.cursor r.capacity ≡ t → (z : Bool) → eqb r.cursor 0 ≡ z
          → (mode : PoolMode) → InMode w mode r 0 → Fit w (reset_on a t z mode r)
      go false p t q z s mode I = kept_fit
      go true p t q z s Back I =
          let e = none_live r p in
          (emptied_kept e, no_slots_back e refl I.no_cursor (omega (arith, I.fits)) some)
      go true p t q z s (Front f) I =
          let e = none_live r p in
          (emptied_kept e, no_slots_back e refl I.no_cursor (omega (arith, I.fits, I.bytes_within)) some)
      go true p true q true s Alloc I =
          let e = none_live r p in
          (emptied e (zeros_long w _ R.slots.starts_w) (zeros_long w _ R.slots.lengths_w), no_slots_back e refl (eqb-true r.cursor 0 s) (omega (arith, I.no_len)) some)
      go true p true q false s Alloc I =
          let e = none_live r p in
          let h = ltb-true r.cursor r.capacity q in
          (ready_framed (emptied_kept e) (omega (arith, S.kept_within)), no_slots_back e refl refl (omega arith) some)
      go true p false q z s Alloc I = (ready_placed R R.start_below R.back_within R.none R.low, alloc_kept I I.fits)

-- ---- The reserve

place_after : (w len : ℕ) (mode : PoolMode) (r : BufferPool) → Ready w r → InMode w mode r 0
    → After w len (place_of w most_changes false mode r len)
place_after w len Back r R I = back_after w len 0 r R false I
place_after w len (Front f) r R I = front_after w len 1 false f r R I
place_after w len Alloc r R I = alloc_after w len 0 r R false I

pub place_orderly : (w : ℕ) (r : BufferPool) (len : ℕ) → Orderly w r → is_too_long (place w r len) len ≡ false
    → Orderly w (place w r len).next
unfolding place is_too_long
place_orderly w r len S e =
    let f = reset_fit w r S in
    place_after w len (reset r).mode (reset r) f.0 f.1 (λ h. ltb-false _ _ (rw h at e))

-- every reserve of every length, refused (4) or not
pub reserve_kept : (w : ℕ) (r : BufferPool) (len : ℕ) → Orderly w r → Orderly w (reserve_step w r len).pool
unfolding reserve_step reserve_on
reserve_kept w r len S = go (is_too_long (place w r len) len) refl
  where
    go : (t : Bool) → is_too_long (place w r len) len ≡ t → Orderly w (reserve_on t r (place w r len)).pool
    go true e = S
    go false e = place_orderly w r len S e

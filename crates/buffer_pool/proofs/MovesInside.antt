-- The moves of a reserve that is not refused lie inside the two memories: a frame moves from where it lies to where the next record has
-- it, and both are inside. The same tree as ReserveKept.antt. Assumes nothing.
use mathlib.Core.Path.{◌≡◌, refl, sym, subst}
use mathlib.Core.Bool.{Bool, true, false, ◌&&◌, ◌||◌}
use mathlib.Core.List.{List, [], ◌∷◌, ◌++◌}
use Prim.Native.Nat.{ℕ, zero, suc, ◌+◌, ◌-◌, ◌≤◌, ◌<◌}
use native.Mathlib.Omega.{arith}
use lib.Dec.{ltb, eqb}
use borrow.Author.Tests.{ltb-true, ltb-false, le-leb}
use Rattle.laws.specs.Tests.{pick}
use Rattle.laws.proofs.Tests.{both, both_true}
use Rattle.buffer_pool.specs.declared.buffer_pool.BufferPool.{BufferPool}
use Rattle.buffer_pool.specs.declared.buffer_pool.PoolFront.{PoolFront}
use Rattle.buffer_pool.specs.declared.buffer_pool.PoolMode.{PoolMode}
use Rattle.buffer_pool.specs.declared.buffer_pool.PoolMode.TheVariants.{Back, Front, Alloc}
use Rattle.buffer_pool.specs.Moves.{Move, Within, Out, within, inside, all_inside}
use Rattle.buffer_pool.specs.Placing.{Decision, Layer, to_alloc, grows, finish, changed, change, go_out, resolve, clearable, tail_start, tail_fits, tail_cleared, head_fits, head_cleared, back_fits, back_on, front_fits, front_last, front_start, front_cleared, leave_on, leave, front_on, stays, alloc_on, layer, back_layer, front_layer, alloc_layer, place_of, most_changes, resets, reset_on, reset_moves, reset, place, is_too_long}
use Rattle.buffer_pool.specs.Sound.{Ready, InBack, InFront, InAlloc, InMode, Orderly}
use Rattle.buffer_pool.proofs.Rules.{out_ready, tail_fits_lem, tail_ready, tail_in, tail_room, head_ready, head_in, front_ready, front_start_lem}
use Rattle.buffer_pool.proofs.ReserveKept.{back_fits_lem, stays_not, kept_fit, reset_fit}

pub inside_append : (c o : ℕ) (a b : List Move) → all_inside c o a ≡ true → all_inside c o b ≡ true → all_inside c o (a ++ b) ≡ true
unfolding all_inside
inside_append c o [] b e f = f
inside_append c o (x ∷ a) b e f = let t = both_true (inside c o x) _ e in both t.0 (inside_append c o a b t.1 f)

-- the frame within the pool
within_inside : (c o s l t : ℕ) → s + l ≤ c → t + l ≤ c → all_inside c o (within s l t) ≡ true
unfolding all_inside inside
within_inside c o s l t h k = go (eqb l 0 || eqb s t)
  where
    go : (unmoved : Bool) → all_inside c o (pick unmoved [] (Within s l t ∷ [])) ≡ true
    go true = refl
    go false = rw (le-leb (s + l) c h, le-leb (t + l) c k)

-- the frame out to the overflow, after moves inside
out_inside : (c o s l : ℕ) (moves : List Move) → s + l ≤ c → l ≤ o → all_inside c o moves ≡ true → all_inside c o (moves ++ (Out s l ∷ [])) ≡ true
unfolding all_inside inside
out_inside c o s l moves h k e = inside_append c o moves (Out s l ∷ []) e (rw (le-leb (s + l) c h, le-leb l o k))

-- zeros up to an end within the overflow
grow_inside : (c o : ℕ) (b : Bool) (s e : ℕ) → (b ≡ true → s ≤ e) → e ≤ o → all_inside c o (grows b s e) ≡ true
unfolding all_inside inside
grow_inside c o true s e h k = rw (le-leb s e (h refl), le-leb e o k)
grow_inside c o false s e h k = refl

-- what a decision from r moves lies inside, if the overflow is long enough where it is used
abbrev Inside : ℕ → BufferPool → Decision → Type 0
Inside len r d = (d.heap ≡ true → d.next.cursor + len ≤ d.next.overflow) → all_inside r.capacity r.overflow d.moves ≡ true

abbrev again : ℕ → ℕ → ℕ → Bool → BufferPool → Decision
again w k len entered q = place_of w k entered q.mode q len

abbrev InsideLayer : ℕ → ℕ → ℕ → BufferPool → Layer → Type 0
InsideLayer w len k r l = Inside len r (resolve (again w k len) l len)

module _ (w len : ℕ) (r : BufferPool) (R : Ready w r) where
  finish_alloc : Inside len r (finish Alloc r [] len)
  finish_alloc h =
      grow_inside r.capacity r.overflow (ltb r.kept (r.cursor + len)) r.kept (r.cursor + len)
      (λ e. omega (arith, ltb-true r.kept (r.cursor + len) e)) (h refl)

  settle_back : (k : ℕ) (entered : Bool) → InBack w r len → r.back_start + r.back_len < w → Inside len r (place_of w k entered Back r len)
  unfolding place_of layer back_layer back_on all_inside
  settle_back zero entered I l = λ h. refl
  settle_back (suc k) entered I l = rw (back_fits_lem w len r R I l) (λ h. refl)

  settled_alloc : (k : ℕ) → place_of w k true Alloc r len ≡ finish Alloc r [] len
  unfolding place_of layer alloc_layer stays alloc_on
  settled_alloc zero = refl
  settled_alloc (suc k) = refl

module _ (w len : ℕ) (k : ℕ) (r : BufferPool) (R : Ready w r) (z : r.cursor ≡ 0) (room : r.raw_offset + r.raw_len ≤ r.capacity) where
  -- ---- To A, and to B by a tail clear, after moves inside

  to_alloc_lem : (moves : List Move) → all_inside r.capacity r.overflow moves ≡ true → InsideLayer w len k r (go_out r moves)
  to_alloc_lem moves e =
      subst (λ (d : Decision). Inside len r (changed (moves ++ (Out r.raw_offset r.raw_len ∷ [])) d)) (sym (settled_alloc w len (to_alloc r) (out_ready w r R) k))
      (λ h. inside_append r.capacity r.overflow (moves ++ (Out r.raw_offset r.raw_len ∷ [])) _
      (out_inside r.capacity r.overflow r.raw_offset r.raw_len moves room (omega (arith, h refl)) e)
      (finish_alloc w len (to_alloc r) (out_ready w r R) h))

  to_back : clearable w r ≡ true → tail_fits w r len ≡ true → (moves : List Move) → all_inside r.capacity r.overflow moves ≡ true
      → InsideLayer w len k r (change false (tail_cleared w r) moves)
  to_back c t moves e h =
      inside_append r.capacity r.overflow moves _ e
      (settle_back w len (tail_cleared w r) (tail_ready w r R c len t) k false (tail_in w r R c len t z) (tail_room w r R c len t) h)

  tail_inside : clearable w r ≡ true → tail_fits w r len ≡ true → all_inside r.capacity r.overflow (within r.raw_offset r.raw_len (tail_start w r)) ≡ true
  tail_inside c t = within_inside r.capacity r.overflow r.raw_offset r.raw_len (tail_start w r) room (omega (arith, tail_fits_lem w r R c len t))

  leave_inside : (moves : List Move) → all_inside r.capacity r.overflow moves ≡ true → InsideLayer w len k r (leave w r moves len)
  unfolding leave_on
  leave_inside moves e = go (clearable w r) refl (tail_fits w r len) refl
    where
      go : (c : Bool) → clearable w r ≡ c → (t : Bool) → tail_fits w r len ≡ t → InsideLayer w len k r (leave_on c t w r moves)
      go true c true t = to_back c t (moves ++ within r.raw_offset r.raw_len (tail_start w r)) (inside_append r.capacity r.overflow moves _ e (tail_inside c t))
      go true c false t = to_alloc_lem moves e
      go false c t u = to_alloc_lem moves e

-- ---- F, with one change allowed

front_inside : (w len k : ℕ) (entered : Bool) (f : PoolFront) (r : BufferPool) → Ready w r → InFront w r f 0
    → Inside len r (place_of w (suc k) entered (Front f) r len)
unfolding place_of layer front_layer front_on front_fits all_inside
front_inside w len k entered f r R I =
    go (ltb f.len f.back_start && front_fits r f.byte_capacity len) (ltb (front_last w r f) f.len) (front_fits (front_cleared w r f) f.byte_capacity len)
  where
    room : r.raw_offset + r.raw_len ≤ r.capacity
    room = omega (arith, I.fits, I.bytes_within)

    down : front_start w r f + r.raw_len ≤ r.capacity
    down = omega (arith, room, front_start_lem w r R f I)

    dropped : all_inside r.capacity r.overflow (within r.raw_offset r.raw_len (front_start w r f)) ≡ true
    dropped = within_inside r.capacity r.overflow r.raw_offset r.raw_len (front_start w r f) room down

    go : (a d g : Bool) → InsideLayer w len k r (front_on a d g w r f len)
    go true d g = λ h. refl
    go false true true = λ h. dropped
    go false true false = leave_inside w len k (front_cleared w r f) (front_ready w r R f I) I.no_cursor down _ dropped
    go false false g = leave_inside w len k r R I.no_cursor room [] refl

-- ---- B and A, with two changes allowed

module _ (w len : ℕ) (k : ℕ) (r : BufferPool) (R : Ready w r) where
  to_front : r.cursor ≡ 0 → clearable w r ≡ true → head_fits w r ≡ true → (moves : List Move) → all_inside r.capacity r.overflow moves ≡ true
      → InsideLayer w len (suc k) r (change false (head_cleared w r) moves)
  to_front z c h moves e t =
      inside_append r.capacity r.overflow moves _ e
      (front_inside w len k false _ (head_cleared w r) (head_ready w r R c h) (head_in w r R c h z) t)

  back_inside : (entered : Bool) → InBack w r 0 → Inside len r (place_of w (suc (suc k)) entered Back r len)
  unfolding place_of layer back_layer back_on all_inside
  back_inside entered I = go (back_fits w r len) (clearable w r) refl (tail_fits w r len) refl (head_fits w r) refl
    where
      room : r.raw_offset + r.raw_len ≤ r.capacity
      room = omega (arith, I.fits)

      go : (a : Bool) (c : Bool) → clearable w r ≡ c → (t : Bool) → tail_fits w r len ≡ t → (h : Bool) → head_fits w r ≡ h
          → InsideLayer w len (suc k) r (back_on a c t h w r)
      go true c q t u h v = λ x. refl
      go false false q t u h v = to_alloc_lem w len (suc k) r R I.no_cursor room [] refl
      go false true q true u h v = λ x. tail_inside w len (suc k) r R I.no_cursor room q u
      go false true q false u true v =
          to_front I.no_cursor q v (within r.raw_offset r.raw_len 0) (within_inside r.capacity r.overflow r.raw_offset r.raw_len 0 room (omega arith))
      go false true q false u false v = to_alloc_lem w len (suc k) r R I.no_cursor room [] refl

  alloc_inside : (entered : Bool) → InAlloc r 0 → Inside len r (place_of w (suc (suc k)) entered Alloc r len)
  unfolding place_of layer alloc_layer alloc_on all_inside
  alloc_inside entered I = go (stays w entered r) refl (tail_fits w r len) refl (head_fits w r) refl
    where
      room : r.raw_offset + r.raw_len ≤ r.capacity
      room = omega (arith, I.no_offset, I.no_len)

      go : (a : Bool) → stays w entered r ≡ a → (t : Bool) → tail_fits w r len ≡ t → (h : Bool) → head_fits w r ≡ h
          → InsideLayer w len (suc k) r (alloc_on a t h w r)
      go true p t u h v = finish_alloc w len r R
      go false p true u h v = let z = stays_not w r entered p in to_back w len (suc k) r R z.0 room z.1 u [] refl
      go false p false u true v = let z = stays_not w r entered p in to_front z.0 z.1 v [] refl
      go false p false u false v = finish_alloc w len r R

placed_inside : (w len : ℕ) (mode : PoolMode) (r : BufferPool) → Ready w r → InMode w mode r 0 → Inside len r (place_of w most_changes false mode r len)
placed_inside w len Back r R I = back_inside w len 0 r R false I
placed_inside w len (Front f) r R I = front_inside w len 1 false f r R I
placed_inside w len Alloc r R I = alloc_inside w len 0 r R false I

-- ---- The reset

module _ (w : ℕ) (r : BufferPool) (S : Orderly w r) where
  reset_inside : all_inside r.capacity r.overflow (reset_moves (resets r) (ltb r.cursor r.capacity) (eqb r.cursor 0) r.mode r) ≡ true
  unfolding reset_moves all_inside inside
  reset_inside = go (resets r) (ltb r.cursor r.capacity) refl (eqb r.cursor 0) r.mode (kept_fit w r S).1
    where
      start : r.raw_offset + r.raw_len ≤ r.capacity → all_inside r.capacity r.overflow (within r.raw_offset r.raw_len 0) ≡ true
      start h = within_inside r.capacity r.overflow r.raw_offset r.raw_len 0 h (omega arith)

      go : (a t : Bool) → ltb r.cursor r.capacity ≡ t → (z : Bool) (mode : PoolMode) → InMode w mode r 0
          → all_inside r.capacity r.overflow (reset_moves a t z mode r) ≡ true
      go false t q z mode I = refl
      go true t q z Back I = start (omega (arith, I.fits))
      go true t q z (Front f) I = start (omega (arith, I.fits, I.bytes_within))
      go true true q true Alloc I = refl
      go true true q false Alloc I =
          let h = ltb-true r.cursor r.capacity q in
          rw (
            le-leb r.cursor r.overflow (omega (arith, I.fits, S.kept_within)),
            le-leb r.cursor r.capacity (omega arith),
            le-leb (r.cursor + (r.kept - r.cursor)) r.overflow (omega (arith, I.fits, S.kept_within)),
          )
      go true false q z Alloc I = refl

  -- the reset leaves the sizes
  reset_sizes : ((reset r).capacity ≡ r.capacity) × ((reset r).overflow ≡ r.overflow)
  unfolding reset reset_on
  reset_sizes = go (resets r) (ltb r.cursor r.capacity) (eqb r.cursor 0) r.mode
    where
      go : (a t z : Bool) (mode : PoolMode) → ((reset_on a t z mode r).capacity ≡ r.capacity) × ((reset_on a t z mode r).overflow ≡ r.overflow)
      go false t z mode = (refl, refl)
      go true t z Back = (refl, refl)
      go true t z (Front f) = (refl, refl)
      go true true true Alloc = (refl, refl)
      go true true false Alloc = (refl, refl)
      go true false z Alloc = (refl, refl)

  -- every move of a reserve that is not refused with 4
  pub moves_inside : (len : ℕ) → is_too_long (place w r len) len ≡ false → all_inside r.capacity r.overflow (place w r len).moves ≡ true
  unfolding place is_too_long
  moves_inside len e =
      let f = reset_fit w r S in
      let moves : List Move = (place_of w most_changes false (reset r).mode (reset r) len).moves in
      inside_append r.capacity r.overflow (reset_moves (resets r) (ltb r.cursor r.capacity) (eqb r.cursor 0) r.mode r) moves reset_inside
      (subst (λ (c : ℕ). all_inside c r.overflow moves ≡ true) reset_sizes.0
      (subst (λ (o : ℕ). all_inside (reset r).capacity o moves ≡ true) reset_sizes.1
      (placed_inside w len (reset r).mode (reset r) f.0 f.1 (λ h. ltb-false _ _ (rw h at e)))))

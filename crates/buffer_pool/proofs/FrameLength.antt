-- A reserve leaves the frame as long as it was, and uses the heap where it ends in A: the frame lies in one memory only, and
-- each layer moves it whole. Assumes nothing.
use mathlib.Core.Path.{◌≡◌, refl}
use mathlib.Core.Bool.{Bool, true, false}
use mathlib.Core.List.{List, []}
use Prim.Native.Nat.{ℕ, zero, suc}
use native.Mathlib.Omega.{arith}
use borrow.Author.Tests.{eqb-true}
use lib.Dec.{ltb, eqb}
use Rattle.buffer_pool.specs.declared.buffer_pool.BufferPool.{BufferPool}
use Rattle.buffer_pool.specs.declared.buffer_pool.PoolFront.{PoolFront}
use Rattle.buffer_pool.specs.declared.buffer_pool.PoolMode.{PoolMode}
use Rattle.buffer_pool.specs.declared.buffer_pool.PoolMode.TheVariants.{Back, Front, Alloc}
use Rattle.buffer_pool.specs.Moves.{Move}
use Rattle.buffer_pool.specs.Placing.{Decision, Layer, go_out, to_alloc, tail_cleared, head_cleared, finish, back_on, shorter, front_cleared, leave_on, front_on, alloc_on, stays, layer, back_layer, front_layer, alloc_layer, resolve, place_of, most_changes, is_alloc, resets, reset_on, reset, place}
use Rattle.buffer_pool.specs.Sound.{InMode, Orderly}
use Rattle.buffer_pool.specs.Steps.{frame, frame_of}
use Rattle.buffer_pool.proofs.ReserveKept.{stays_not}

-- a frame of n bytes, in the pool or in the overflow, and nothing in the other
abbrev Lies : ℕ → PoolMode → BufferPool → Type 0
Lies n Back r = (r.raw_len ≡ n) × (r.cursor ≡ 0)
Lies n (Front f) r = (r.raw_len ≡ n) × (r.cursor ≡ 0)
Lies n Alloc r = (r.cursor ≡ n) × (r.raw_len ≡ 0)

-- the decision leaves a frame of n bytes, and tells of the heap by its mode
abbrev Leaves : ℕ → Decision → Type 0
Leaves n d = ((frame d.next).length ≡ n) × (d.heap ≡ is_alloc d.next.mode)

module _ (w len n : ℕ) where
  stop : (mode : PoolMode) (r : BufferPool) (moves : List Move) → Lies n mode r → Leaves n (finish mode r moves len)
  stop Back r moves L = (L.0, refl)
  stop (Front f) r moves L = (L.0, refl)
  stop Alloc r moves L = (L.0, refl)

  module _ (next : Bool → BufferPool → Decision) (rest : (e : Bool) (q : BufferPool) → Lies n q.mode q → Leaves n (next e q)) where
    abbrev LeavesOn : Layer → Type 0
    LeavesOn l = Leaves n (resolve next l len)

    out : (r : BufferPool) (moves : List Move) → Lies n Back r → LeavesOn (go_out r moves)
    out r moves L = rest true (to_alloc r) (omega (arith, L.0, L.1), refl)

    back_leaves : (a c t h : Bool) (r : BufferPool) → Lies n Back r → LeavesOn (back_on a c t h w r)
    unfolding back_on
    back_leaves true c t h r L = stop Back r [] L
    back_leaves false false t h r L = out r [] L
    back_leaves false true true h r L = stop Back (tail_cleared w r) [] L
    back_leaves false true false true r L = rest false (head_cleared w r) L
    back_leaves false true false false r L = out r [] L

    leave_leaves : (c t : Bool) (r : BufferPool) (moves : List Move) → Lies n Back r → LeavesOn (leave_on c t w r moves)
    unfolding leave_on
    leave_leaves true true r moves L = rest false (tail_cleared w r) L
    leave_leaves true false r moves L = out r moves L
    leave_leaves false t r moves L = out r moves L

    front_leaves : (a d g : Bool) (r : BufferPool) (f : PoolFront) → Lies n (Front f) r → LeavesOn (front_on a d g w r f len)
    unfolding front_on
    front_leaves true d g r f L = stop (Front f) r [] L
    front_leaves false true true r f L = stop (Front (shorter w r f)) (front_cleared w r f) [] L
    front_leaves false true false r f L = leave_leaves _ _ (front_cleared w r f) _ L
    front_leaves false false g r f L = leave_leaves _ _ r _ L

    -- A gives way with an empty frame only
    alloc_leaves : (entered a t h : Bool) (r : BufferPool) → stays w entered r ≡ a → Lies n Alloc r → LeavesOn (alloc_on a t h w r)
    unfolding alloc_on
    alloc_leaves entered true t h r e L = stop Alloc r [] L
    alloc_leaves entered false true h r e L =
        let z = (stays_not w r entered e).0 in
        rest false (tail_cleared w r) (omega (arith, L.0, L.1), z)
    alloc_leaves entered false false true r e L =
        let z = (stays_not w r entered e).0 in
        rest false (head_cleared w r) (omega (arith, L.0, L.1), z)
    alloc_leaves entered false false false r e L = stop Alloc r [] L

  placed_leaves : (k : ℕ) (entered : Bool) (mode : PoolMode) (r : BufferPool) → Lies n mode r → Leaves n (place_of w k entered mode r len)
  unfolding place_of layer back_layer front_layer alloc_layer
  placed_leaves zero entered mode r L = stop mode r [] L
  placed_leaves (suc k) entered Back r L = back_leaves _ (λ e q M. placed_leaves k e q.mode q M) _ _ _ _ r L
  placed_leaves (suc k) entered (Front f) r L = front_leaves _ (λ e q M. placed_leaves k e q.mode q M) _ _ _ r f L
  placed_leaves (suc k) entered Alloc r L =
      alloc_leaves _ (λ e q M. placed_leaves k e q.mode q M) entered (stays w entered r) _ _ r refl L

  reset_lies : (r : BufferPool) → Lies n r.mode r → Lies n (reset r).mode (reset r)
  unfolding reset reset_on
  reset_lies r L = go (resets r) (ltb r.cursor r.capacity) (eqb r.cursor 0) refl r.mode L
    where
      go : (a t z : Bool) → eqb r.cursor 0 ≡ z → (mode : PoolMode) → Lies n mode r
          → Lies n (reset_on a t z mode r).mode (reset_on a t z mode r)
      go false t z e mode M = L
      go true t z e Back M = M
      go true t z e (Front f) M = M
      go true true true e Alloc M = let c = eqb-true r.cursor 0 e in (omega (arith, M.0, M.1), c)
      go true true false e Alloc M = (M.0, refl)
      go true false z e Alloc M = M

orderly_lies : (w : ℕ) (r : BufferPool) → Orderly w r → Lies (frame r).length r.mode r
orderly_lies w r O = go r.mode O.in_mode
  where
    go : (mode : PoolMode) → InMode w mode r r.reserved → Lies (frame_of mode r).length mode r
    go Back I = (refl, I.no_cursor)
    go (Front f) I = (refl, I.no_cursor)
    go Alloc I = (refl, I.no_len)

pub place_leaves : (w : ℕ) (r : BufferPool) (len : ℕ) → Orderly w r → Leaves (frame r).length (place w r len)
unfolding place
place_leaves w r len O =
    placed_leaves w len (frame r).length most_changes false (reset r).mode (reset r)
    (reset_lies w len (frame r).length r (orderly_lies w r O))

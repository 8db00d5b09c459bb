-- Where the slices, the frame and the reservation of an orderly record lie: inside their memories and apart from each other.
-- The order of the slots gives it for two slices, the mode's clauses for a slice and the frame. Assumes nothing.
use mathlib.Core.Path.{◌≡◌, refl, sym}
use mathlib.Core.Bool.{Bool, true, false}
use mathlib.Core.Logic.{◌≢◌}
use Prim.Native.Nat.{ℕ, suc, ◌+◌, ◌≤◌, ◌<◌}
use native.Mathlib.Decide.{dec_lt}
use native.Mathlib.Omega.{arith}
use Rattle.laws.specs.Live.{live_at}
use Rattle.laws.proofs.Tests.{no_true}
use Rattle.buffer_pool.specs.declared.buffer_pool.BufferPool.{BufferPool}
use Rattle.buffer_pool.specs.declared.buffer_pool.PoolFront.{PoolFront}
use Rattle.buffer_pool.specs.declared.buffer_pool.PoolMode.{PoolMode}
use Rattle.buffer_pool.specs.declared.buffer_pool.PoolMode.TheVariants.{Back, Front, Alloc}
use Rattle.buffer_pool.specs.Placing.{is_alloc}
use Rattle.buffer_pool.specs.Sound.{Held, own, above, InMode, Orderly}
use Rattle.buffer_pool.specs.Steps.{frame, frame_of}
use Rattle.buffer_pool.proofs.Order.{start_of, end_of, Beside}

-- one range ends before the other starts
pub data Apart (start end start' end' : ℕ) : Type 0 where
  before : end ≤ start' → Apart start end start' end'
  behind : end' ≤ start → Apart start end start' end'

-- how many bytes of its memory the frame may use with its reservation
abbrev pub bytes_for : PoolMode → BufferPool → ℕ
bytes_for Back r = r.capacity
bytes_for (Front f) r = r.capacity
bytes_for Alloc r = r.kept

-- every live slice lies in the pool; frame and reservation in the pool, or in the kept bytes of the overflow
pub record Inside (w : ℕ) (r : BufferPool) : Type 0 where
  pub slices : (p : ℕ) → Held w r.live p → end_of r p ≤ r.capacity
  pub gathered : (frame r).start + (frame r).length + r.reserved ≤ bytes_for r.mode r
  pub kept : r.kept ≤ r.overflow

-- no two live slices overlap, and none overlaps frame and reservation in the pool
pub record Separate (w : ℕ) (r : BufferPool) : Type 0 where
  pub slices : (p q : ℕ) → p ≢ q → Held w r.live p → Held w r.live q
      → Apart (start_of r p) (end_of r p) (start_of r q) (end_of r q)
  pub gathered : is_alloc r.mode ≡ false → (p : ℕ) → Held w r.live p
      → Apart (start_of r p) (end_of r p) r.raw_offset (r.raw_offset + r.raw_len + r.reserved)

-- the slot that a take of a frame in the pool claims is one of the slots, and not live
pub record Claimable (w : ℕ) (r : BufferPool) : Type 0 where
  pub within : suc r.used ≤ w
  pub free : live_at w r.live (suc r.used) ≡ false

module _ (w : ℕ) (r : BufferPool) (S : Orderly w r) where
  pub orderly_inside : Inside w r
  orderly_inside =
      record { slices = S.ready.slots.inside; gathered = go r.mode S.in_mode; kept = S.kept_within }
    where
      go : (mode : PoolMode) → InMode w mode r r.reserved
          → (frame_of mode r).start + (frame_of mode r).length + r.reserved ≤ bytes_for mode r
      go Back I = I.fits
      go (Front f) I = omega (arith, I.fits, I.bytes_within)
      go Alloc I = omega (arith, I.fits)

  pub orderly_apart : Separate w r
  orderly_apart =
      record { slices = λ p q n t u. slices p q n t u (dec_lt p q); gathered = λ a p t. gathered p t r.mode a S.in_mode }
    where
      slices : (p q : ℕ) → p ≢ q → Held w r.live p → Held w r.live q → Dec (p < q)
          → Apart (start_of r p) (end_of r p) (start_of r q) (end_of r q)
      slices p q n t u (yes l) = before (S.ready.slots.order p q l t u)
      slices p q n t u (no l) = behind (S.ready.slots.order q p (omega (arith, n)) u t)

      side : (p : ℕ) (f : PoolFront) (bytes : ℕ) → bytes ≤ f.byte_capacity → Beside r f p
          → Apart (start_of r p) (end_of r p) r.raw_offset bytes
      side p f bytes h (own a b) = before b
      side p f bytes h (above a b) = behind (omega arith)

      gathered : (p : ℕ) → Held w r.live p → (mode : PoolMode) → is_alloc mode ≡ false → InMode w mode r r.reserved
          → Apart (start_of r p) (end_of r p) r.raw_offset (r.raw_offset + r.raw_len + r.reserved)
      gathered p t Back e I = before (I.past p t)
      gathered p t (Front f) e I = side p f _ I.fits (I.side p t)
      gathered p t Alloc e I = absurd (no_true (sym e))

  pub orderly_claim : 0 < r.raw_len → Claimable w r
  orderly_claim l = go r.mode S.in_mode
    where
      not_live : (x : Bool) → (x ≡ true → ⊥) → x ≡ false
      not_live true f = absurd (f refl)
      not_live false f = refl

      free : r.used < w → (Held w r.live (suc r.used) → ⊥) → Claimable w r
      free h f =
          record {
            within = h;
            free = not_live (live_at w r.live (suc r.used)) (λ e. f (record { one = omega arith; most = h; here = e }));
          }

      go : (mode : PoolMode) → InMode w mode r r.reserved → Claimable w r
      go Back I =
          free (omega (arith, I.used_is, I.slot (omega arith))) (λ t. omega (arith, I.used_is, S.ready.low (suc r.used) t))
      go (Front f) I =
          free (omega (arith, I.used_is, I.slot (omega arith), I.front_within, S.ready.start_below))
          (λ t. side (I.side (suc r.used) t))
        where
          side : Beside r f (suc r.used) → ⊥
          side (own a b) = omega (arith, I.used_is)
          side (above a b) = omega (arith, I.used_is, I.slot (omega arith))
      go Alloc I = absurd (omega (arith, I.no_len))

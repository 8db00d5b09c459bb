-- The record as C holds it, from what the code of record.rt knows where it returns, and that nothing of a pool is lost in it.
-- Assumes nothing.
use mathlib.Core.Path.{◌≡◌, refl, ap}
use mathlib.Core.Bool.{true, false}
use Prim.Native.Nat.{ℕ, zero, suc, ◌^◌, ◌≤◌}
use native.Mathlib.Omega.{arith}
use borrow.Author.Tests.{leb-true, le-ltb}
use Rattle.laws.proofs.Tests.{both_true}
use Rattle.buffer_pool.specs.declared.buffer_pool.BufferPool.{BufferPool}
use Rattle.buffer_pool.specs.declared.buffer_pool.PoolFront.{PoolFront}
use Rattle.buffer_pool.specs.declared.buffer_pool.PoolMode.{PoolMode}
use Rattle.buffer_pool.specs.declared.buffer_pool.PoolMode.TheVariants.{Back, Front, Alloc}
use Rattle.buffer_pool.specs.Record.{most_slots}
use Rattle.buffer_pool.specs.Numbers.{with_entries}
use Rattle.buffer_pool_c.specs.declared.record.Record.{Record}
use Rattle.buffer_pool_c.specs.Record.{is_mode, is_live_word, known, mode_of, mode_number, front_of, front_held, pool_in, pool_of, record_of, record_after, slots_of, numbers_of}

-- ---- Nothing is lost between the two records

mode_held : (before : PoolFront) (m : PoolMode) → mode_of (mode_number m) (front_of m before) ≡ m
mode_held before Back = refl
mode_held before (Front f) = refl
mode_held before Alloc = refl

-- C's record of a pool holds all of the pool's record
pub pool_held : (before : PoolFront) (p : BufferPool) → pool_of (record_of before p) ≡ p
pool_held before p = ap (λ (x : PoolMode). pool_in x (record_of before p)) (mode_held before p.mode)

number_held : (n : ℕ) (f : PoolFront) → is_mode n ≡ true → (mode_number (mode_of n f) ≡ n) × (front_of (mode_of n f) f ≡ f)
number_held zero f k = (refl, refl)
number_held (suc zero) f k = (refl, refl)
number_held (suc (suc zero)) f k = (refl, refl)
number_held (suc (suc (suc n))) f k = absurd (omega (arith, leb-true (suc (suc (suc n))) 2 k))

-- and the pool's record of a record that is known holds all of it
pub record_held : (r : Record) → known r ≡ true → record_after r (pool_of r) ≡ r
record_held r k =
    let h = number_held r.mode (front_held r) (both_true (is_live_word r.live) (is_mode r.mode) k).1 in
    rw (h.0, h.1) refl

-- ---- The numbers and the entries of a record

pub unknown_live : (r : Record) → 2 ^ most_slots ≤ r.live → false ≡ known r
unknown_live r h = rw (le-ltb r.live (2 ^ most_slots) h) refl

pub slots_none : (r : Record) → known r ≡ false → slots_of r ≡ 0
slots_none r k = rw k refl

-- they make the pool's record, if the record is a pool's
pub entries_known : (r : Record) → known r ≡ true → with_entries (numbers_of r) r.entries ≡ pool_of r
entries_known r k = rw (k, (both_true (is_live_word r.live) (is_mode r.mode) k).0) refl

-- and its mode and its front are those that the pool's record gives back
pub mode_stored : (r : Record) → known r ≡ true → (mode_number (mode_of r.mode (front_held r)) ≡ r.mode) × (front_of (mode_of r.mode (front_held r)) (front_held r) ≡ front_held r)
mode_stored r k = number_held r.mode (front_held r) (both_true (is_live_word r.live) (is_mode r.mode) k).1

-- of every record, known or not, it gives back the front
pub front_stored : (n : ℕ) (f : PoolFront) → front_of (mode_of n f) f ≡ f
front_stored zero f = refl
front_stored (suc zero) f = refl
front_stored (suc (suc n)) f = refl

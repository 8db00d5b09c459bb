-- A byte written at one place: there it is set, and a place off it shows what it showed. Assumes nothing.
use mathlib.Core.Path.{◌≡◌, refl, sym, ◌∙◌}
use mathlib.Core.Bool.{Bool, true, false}
use mathlib.Core.Logic.{◌≢◌}
use mathlib.Core.List.{List}
use Prim.Native.Nat.{ℕ, ◌+◌, ◌≤◌, ◌<◌}
use native.Mathlib.Omega.{arith}
use borrow.Author.Tests.{ltb-true, ltb-false}
use lib.Dec.{ltb}
use lib.ListN.{set, length-set, length-take}
use lib.Seq.{set_out}
use Rattle.laws.specs.Tests.{pick}
use Rattle.laws.specs.Lists.{part}
use Rattle.laws.proofs.Lists.{part_set_before, part_set_after, part_set_in}
use Rattle.buffer_pool.specs.declared.buffer_pool.Memory.{Memory}
use Rattle.buffer_pool.specs.declared.buffer_pool.Memory.TheVariants.{Pool, Overflow}
use Rattle.buffer_pool.specs.declared.buffer_pool.Place.{Place}
use Rattle.buffer_pool.specs.Moves.{Memories}
use Rattle.buffer_pool.specs.Calls.{memory_at, bytes_at, written_in, written}
use Rattle.buffer_pool.proofs.Unchanged.{Fixed}
use Rattle.book.specs.Demand3.{Apart}
use Rattle.book.proofs.Carried.{Sized}

-- p and q have no byte in common
pub data Off (p q : Place) : Type 0 where
  elsewhere : p.memory ≢ q.memory → Off p q
  below : p.start + p.length ≤ q.start → Off p q
  above : q.start + q.length ≤ p.start → Off p q

pub off_sym : {p q : Place} → Off p q → Off q p
off_sym (elsewhere n) = elsewhere (λ e. n (sym e))
off_sym (below h) = above h
off_sym (above h) = below h

pub off_apart : {p q : Place} → Off p q → Apart p q
off_apart (elsewhere n) i c d = n (c.0 ∙ sym d.0)
off_apart (below h) i c d = omega (arith, c.1, c.2, d.1, d.2)
off_apart (above h) i c d = omega (arith, c.1, c.2, d.1, d.2)

past_part : (m : List ℕ) (s l i v : ℕ) → l ≤ i → part m s l ≡ set (part m s l) i v
unfolding part
past_part m s l i v h = sym (set_out (part m s l) i v (simp length-take (omega arith)))

module _ (m : Memories) (i byte : ℕ) where
  pub written_same : (p : Place) → bytes_at (written m p i byte) p ≡ set (bytes_at m p) i byte
  unfolding bytes_at written
  written_same p = go (ltb i p.length) refl p.memory
    where
      go : (t : Bool) → ltb i p.length ≡ t → (k : Memory)
          → part (memory_at k (pick t (written_in k m (p.start + i) byte) m)) p.start p.length
          ≡ set (part (memory_at k m) p.start p.length) i byte
      go true e Pool = part_set_in m.pool p.start p.length i byte (ltb-true i p.length e)
      go true e Overflow = part_set_in m.overflow p.start p.length i byte (ltb-true i p.length e)
      go false e k = past_part _ p.start p.length i byte (ltb-false i p.length e)

  beside : (x : List ℕ) (p q : Place) → i < p.length → p.memory ≡ q.memory → Off q p
      → part (set x (p.start + i) byte) q.start q.length ≡ part x q.start q.length
  beside x p q h e (elsewhere n) = absurd (n (sym e))
  beside x p q h e (below k) = part_set_after x q.start q.length (p.start + i) byte (omega arith)
  beside x p q h e (above k) = part_set_before x q.start q.length (p.start + i) byte (omega arith)

  pub written_off : (p q : Place) → Off q p → bytes_at (written m p i byte) q ≡ bytes_at m q
  unfolding bytes_at written
  written_off p q o = go (ltb i p.length) refl p.memory refl q.memory refl
    where
      go : (t : Bool) → ltb i p.length ≡ t → (k : Memory) → p.memory ≡ k → (j : Memory) → q.memory ≡ j
          → part (memory_at j (pick t (written_in k m (p.start + i) byte) m)) q.start q.length
          ≡ part (memory_at j m) q.start q.length
      go true e Pool a Pool b = beside m.pool p q (ltb-true i p.length e) (a ∙ sym b) o
      go true e Pool a Overflow b = refl
      go true e Overflow a Pool b = refl
      go true e Overflow a Overflow b = beside m.overflow p q (ltb-true i p.length e) (a ∙ sym b) o
      go false e k a j b = refl

  pub written_sized : {x : Fixed} (p : Place) → Sized x m → Sized x (written m p i byte)
  unfolding written
  written_sized {x} p Z = go (ltb i p.length) p.memory
    where
      go : (t : Bool) (k : Memory) → Sized x (pick t (written_in k m (p.start + i) byte) m)
      go true Pool =
          record { pool_is = length-set m.pool (p.start + i) byte ∙ Z.pool_is; overflow_is = Z.overflow_is }
      go true Overflow =
          record { pool_is = Z.pool_is; overflow_is = length-set m.overflow (p.start + i) byte ∙ Z.overflow_is }
      go false k = Z

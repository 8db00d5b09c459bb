-- The highest end of a record's live slices: going up the slots, it is the higher of what was highest before and the next live slot's
-- end, and no two numbers are the highest end. It stays where another slice than the highest is released, and of slices in the order of
-- their slots the last has it. Assumes nothing.
use mathlib.Core.Path.{◌≡◌, refl, ap, ◌∙◌}
use mathlib.Core.Bool.{Bool, true, false}
use mathlib.Core.Logic.{◌⊎◌, inl, inr}
use Prim.Native.Nat.{ℕ, zero, suc, ◌≤◌, ◌<◌}
use native.Mathlib.Nat.{eq-or-lt_of_le, le_refl, eq-zero-or-pos}
use native.Mathlib.Decide.{dec_lt, ℕ_discrete}
use native.Mathlib.Omega.{arith}
use Rattle.laws.specs.Live.{live_at, released, last_live}
use Rattle.laws.proofs.Slots.{released_other}
use Rattle.buffer_pool.specs.declared.buffer_pool.BufferPool.{BufferPool}
use Rattle.buffer_pool.specs.Record.{after}
use Rattle.buffer_pool.specs.Sound.{Held, Slots}
use Rattle.buffer_pool.specs.Steps.{freed}
use Rattle.buffer_pool.proofs.Order.{LastHeld, last_held, ends_rise}
use Rattle.buffer_pool.proofs.StepsKept.{released_held}
use Rattle.replay.specs.HeldBytes.{live_end, highest_end, held, IsHighestEnd}
use Rattle.replay.proofs.SlotLaws.{end_live, end_free}

module _ (r : BufferPool) where
  -- ---- Slots 1 to b

  -- no live slot of 1 to b ends above n, and one ends at n, unless n is 0
  record HighestTo (b n : ℕ) : Type 0 where
    above : (p : ℕ) → p ≤ b → Held r.slots r.live p → after r.starts r.lengths p ≤ n
    there : 0 < n → (p : ℕ) × Held r.slots r.live p × (after r.starts r.lengths p ≡ n)

  module _ (b : ℕ) (h : suc b ≤ r.slots) (H : HighestTo b (highest_end r b)) where
    next_above : (p : ℕ) → Held r.slots r.live p → (p ≡ suc b) ⊎ (p < suc b) → after r.starts r.lengths p ≤ highest_end r (suc b)
    unfolding highest_end
    next_above p t (inl d) = omega (arith, end_live r p _ refl t.here, ap (live_end r) d)
    next_above p t (inr d) = omega (arith, H.above p (omega arith) t)

    next_there : 0 < highest_end r (suc b) → (x : Bool) → live_at r.slots r.live (suc b) ≡ x → Dec (live_end r (suc b) < highest_end r b)
        → (p : ℕ) × Held r.slots r.live p × (after r.starts r.lengths p ≡ highest_end r (suc b))
    unfolding highest_end
    next_there l x e (yes d) = let y = H.there (omega arith) in (y.0, y.1, omega (arith, y.2))
    next_there l true e (no d) = (suc b, record { one = omega arith; most = h; here = e }, omega (arith, d, end_live r (suc b) _ refl e))
    next_there l false e (no d) = absurd (omega (arith, d, l, end_free r (suc b) _ refl e))

  highest_to : (b : ℕ) → b ≤ r.slots → HighestTo b (highest_end r b)
  unfolding highest_end
  highest_to zero h = record { above = λ p k t. absurd (omega (arith, k, t.one)); there = λ l. absurd (omega arith) }
  highest_to (suc b) h =
      let H = highest_to b (omega arith) in
      record {
        above = λ p k t. next_above b h H p t (eq-or-lt_of_le k);
        there = λ l. next_there b h H l (live_at r.slots r.live (suc b)) refl (dec_lt _ _);
      }

  -- ---- All slots

  pub highest_is : IsHighestEnd r (held r)
  unfolding held
  highest_is =
      let H = highest_to r.slots (le_refl r.slots) in
      record {
        none_above = λ p t. omega (arith, H.above p t.most t);
        one_there = λ l. let x = H.there l in (x.0, x.1, omega (arith, x.2));
      }

  -- a bound of all ends is a bound of the highest
  pub highest_most : (n b : ℕ) → IsHighestEnd r n → ((p : ℕ) → Held r.slots r.live p → after r.starts r.lengths p ≤ b) → n ≤ b
  highest_most n b N f = go (eq-zero-or-pos n)
    where
      go : (n ≡ 0) ⊎ (0 < n) → n ≤ b
      go (inl z) = omega arith
      go (inr l) = let x = N.one_there l in omega (arith, x.2, f x.0 x.1)

  pub one_highest : (m n : ℕ) → IsHighestEnd r m → IsHighestEnd r n → m ≡ n
  one_highest m n M N =
      omega (arith, highest_most m n M (λ p t. omega (arith, N.none_above p t)), highest_most n m N (λ p t. omega (arith, M.none_above p t)))

  -- slot p is freed, and the live slot q ends as high
  module _ (p q : ℕ) (P : Held r.slots r.live p) (Q : Held r.slots r.live q) (d : p ≡ q → ⊥)
      (l : after r.starts r.lengths p ≤ after r.starts r.lengths q) where
    before : (k : ℕ) → Held r.slots (released r.slots r.live p) k → Held r.slots r.live k
    before k t = released_held r.slots r.live p k P.one P.most t

    still : (k : ℕ) → Held r.slots r.live k → (p ≡ k → ⊥) → Held r.slots (released r.slots r.live p) k
    still k t e =
        record { one = t.one; most = t.most; here = released_other r.slots r.live p k P.most t.most e P.one t.one ∙ t.here }

    pub freed_highest : (n : ℕ) → IsHighestEnd (freed r.slots r p) n → IsHighestEnd r n
    freed_highest n N =
        record {
          none_above = λ k t. above k t (ℕ_discrete p k);
          one_there = λ a. let x = N.one_there a in (x.0, before x.0 x.1, x.2);
        }
      where
        above : (k : ℕ) → Held r.slots r.live k → Dec (p ≡ k) → after r.starts r.lengths k ≤ n
        above k t (yes e) = rw (← e) (omega (arith, l, N.none_above q (still q Q d)))
        above k t (no e) = N.none_above k (still k t e)

  pub last_highest : Slots r.slots r.live r.starts r.lengths r.capacity
      → IsHighestEnd r (after r.starts r.lengths (last_live r.slots r.live r.slots))
  unfolding after
  last_highest S = go (last_live r.slots r.live r.slots) (last_held r.slots r.live r.slots (le_refl r.slots))
    where
      go : (k : ℕ) → LastHeld r.slots r.live r.slots k → IsHighestEnd r (after r.starts r.lengths k)
      go zero L =
          record { none_above = λ p t. absurd (omega (arith, L.top p t.most t, t.one)); one_there = λ l. absurd (omega arith) }
      go (suc k) L =
          let t = L.held (omega arith) in
          record { none_above = λ p u. ends_rise S p (suc k) (L.top p u.most u) u t; one_there = λ l. (suc k, t, refl) }

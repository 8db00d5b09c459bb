-- The first and the last live slot, on slices that stand in the order of their slots: a live slot's end is at most the end
-- of the last live slot, and its start at least the start of the first. Assumes nothing.
use mathlib.Core.Path.{◌≡◌, refl, sym, ap, ◌∙◌}
use mathlib.Core.Bool.{Bool, true, false}
use mathlib.Core.List.{List}
use mathlib.Core.Logic.{◌⊎◌, inl, inr}
use Prim.Native.Nat.{ℕ, zero, suc, ◌+◌, ◌-◌, ◌≤◌, ◌<◌}
use native.Mathlib.Nat.{eq-or-lt_of_le, le_refl, eq-zero-or-pos, lt_of_not-le}
use native.Mathlib.Omega.{arith}
use lib.Pow.{pow_pos}
use lib.Count.{count_leading_zeros, count_trailing_zeros, leading_of_zero, trailing_le}
use Rattle.laws.specs.Tests.{pick}
use Rattle.laws.specs.Live.{bit, live_at, last_live}
use Rattle.laws.proofs.Tests.{no_true}
use Rattle.laws.proofs.Bits.{bit_past}
use Rattle.laws.proofs.Slots.{is_free, last_zeros_all, first}
use Rattle.buffer_pool.specs.declared.buffer_pool.BufferPool.{BufferPool}
use Rattle.buffer_pool.specs.declared.buffer_pool.PoolFront.{PoolFront}
use Rattle.buffer_pool.specs.Record.{start_at, after}
use Rattle.buffer_pool.specs.Sound.{Held, Slots, Side}

-- slot p's slice in a record, and where it stands beside a front
abbrev pub start_of : BufferPool → ℕ → ℕ
start_of r p = start_at r.starts p

abbrev pub end_of : BufferPool → ℕ → ℕ
end_of r p = after r.starts r.lengths p

abbrev pub Beside : BufferPool → PoolFront → ℕ → Type 0
Beside r f p = Side p f (start_of r p) (end_of r p) r.raw_offset

-- a word of no live slot
pub none_held : (w : ℕ) {live p : ℕ} → live ≡ 0 → Held w live p → ⊥
none_held w {live} {p} e t =
    no_true (sym (is_free w live p (ap (λ (x : ℕ). bit x (w - p)) e ∙ bit_past 0 (w - p) (pow_pos (w - p)))) ∙ t.here)

-- ---- The last live slot up to b

-- k is 0, or a live slot; no live slot of those up to b is above it
pub record LastHeld (w live b k : ℕ) : Type 0 where
  pub within : k ≤ b
  pub held : 0 < k → Held w live k
  pub top : (p : ℕ) → p ≤ b → Held w live p → p ≤ k

pub last_held : (w live b : ℕ) → b ≤ w → LastHeld w live b (last_live w live b)
unfolding last_live
last_held w live zero h =
    record { within = omega arith; held = λ l. absurd (omega arith); top = λ p k t. k }
last_held w live (suc b) h = go (live_at w live (suc b)) refl (last_held w live b (omega arith))
  where
    go : (x : Bool) → live_at w live (suc b) ≡ x → LastHeld w live b (last_live w live b)
        → LastHeld w live (suc b) (pick x (suc b) (last_live w live b))
    go true e L =
        record { within = le_refl (suc b); held = λ l. record { one = l; most = h; here = e }; top = λ p k t. k }
    go false e L =
        record { within = omega (arith, L.within); held = L.held; top = λ p k t. L.top p (below p t (eq-or-lt_of_le k)) t }
      where
        below : (p : ℕ) → Held w live p → (p ≡ suc b) ⊎ (p < suc b) → p ≤ b
        below p t (inl d) = absurd (no_true (sym e ∙ ap (live_at w live) (sym d) ∙ t.here))
        below p t (inr d) = omega arith

-- ---- Slices in the order of their slots

module _ {w live : ℕ} {starts lengths : List ℕ} {capacity : ℕ} (S : Slots w live starts lengths capacity) where
  pub ends_rise : (p q : ℕ) → p ≤ q → Held w live p → Held w live q → after starts lengths p ≤ after starts lengths q
  ends_rise p q h t u = go (eq-or-lt_of_le h)
    where
      go : (p ≡ q) ⊎ (p < q) → after starts lengths p ≤ after starts lengths q
      go (inl e) = rw e (le_refl (after starts lengths q))
      go (inr l) = omega (arith, S.order p q l t u, S.some q u)

  pub starts_rise : (p q : ℕ) → p ≤ q → Held w live p → Held w live q → start_at starts p ≤ start_at starts q
  starts_rise p q h t u = go (eq-or-lt_of_le h)
    where
      go : (p ≡ q) ⊎ (p < q) → start_at starts p ≤ start_at starts q
      go (inl e) = rw e (le_refl (start_at starts q))
      go (inr l) = omega (arith, S.order p q l t u, S.some p t)

  -- no live slot up to b ends after the last one, and a bound of their ends is a bound of its end
  pub after_last : (b p : ℕ) → b ≤ w → p ≤ b → Held w live p → after starts lengths p ≤ after starts lengths (last_live w live b)
  after_last b p h k t =
      let L = last_held w live b h in
      let l = L.top p k t in
      ends_rise p (last_live w live b) l t (L.held (omega (arith, t.one)))

  pub after_last_le : (b x : ℕ) → b ≤ w → ((p : ℕ) → p ≤ b → Held w live p → after starts lengths p ≤ x)
      → after starts lengths (last_live w live b) ≤ x
  unfolding after
  after_last_le b x h f = go (last_live w live b) (last_held w live b h)
    where
      go : (k : ℕ) → LastHeld w live b k → after starts lengths k ≤ x
      go zero L = omega arith
      go (suc k) L = f (suc k) L.within (L.held (omega arith))

  -- every live slot lies between the zero bits at the two ends of the word
  pub below_trail : (p : ℕ) → Held w live p → p + count_trailing_zeros w live ≤ w
  below_trail p t =
      let l = (last_held w live w (le_refl w)).top p t.most t in
      omega (arith, l, last_zeros_all w live S.live_fits, trailing_le w live, t.one)

  pub past_lead : (p : ℕ) → Held w live p → count_leading_zeros w live < p
  past_lead p t = go (eq-zero-or-pos live)
    where
      go : (live ≡ 0) ⊎ (0 < live) → count_leading_zeros w live < p
      go (inl e) = absurd (none_held w e t)
      go (inr l) =
          lt_of_not-le (λ h. no_true (sym ((first w live l S.live_fits).none p t.one (omega arith)) ∙ t.here))

  -- the slot after the leading zero bits
  pub lead_held : count_leading_zeros w live < w → Held w live (count_leading_zeros w live + 1)
  lead_held h = go (eq-zero-or-pos live)
    where
      go : (live ≡ 0) ⊎ (0 < live) → Held w live (count_leading_zeros w live + 1)
      go (inl e) = absurd (omega (arith, ap (count_leading_zeros w) e ∙ leading_of_zero w))
      go (inr l) = record { one = omega arith; most = omega arith; here = (first w live l S.live_fits).here }

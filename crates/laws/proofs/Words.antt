-- A word of w bits in one of k bits, w ≤ k: mask, leading and trailing zeros and release, as code with words of k bits computes them.
-- Assumes nothing.
use mathlib.Core.Path.{◌≡◌, sym, ap, ◌∙◌}
use Prim.Native.Nat.{ℕ, zero, suc, ◌+◌, ◌-◌, ◌*◌, ◌/◌, ◌%◌, ◌^◌, ◌≤◌, ◌<◌, min}
use native.Mathlib.Omega.{arith}
use native.Mathlib.Nat.{one-mul, lt_of_lt_of_le, lt_of_le_of_lt}
use lib.Dec.{lit<}
use lib.Pow.{pow_mono, shl_exact}
use lib.Bits.{bit_and, and_le_l}
use lib.Count.{count_leading_zeros, count_trailing_zeros, under, leading_le, leading_length, leading_unique}
use Rattle.laws.specs.Live.{bit, slot_mask, released}
use Rattle.laws.proofs.Bits.{bit_ext, bit_and_lem, bit_not}
use Rattle.laws.proofs.Slots.{mask_fits}

-- the bottom bit shifted up in a wider word
pub mask_wide : (k w p : ℕ) → 1 ≤ p → p ≤ w → w ≤ k → (1 * 2 ^ (w - p)) % 2 ^ k ≡ slot_mask w p
mask_wide k w p l h m = shl_exact 1 (w - p) k (lit< tt) (omega arith) ∙ one-mul (2 ^ (w - p))

-- the zeros at the top are k - w more
leading_more : (k w n : ℕ) → w ≤ k → n < 2 ^ w → count_leading_zeros k n ≡ count_leading_zeros w n + (k - w)
leading_more k w n h f =
    let s = leading_length w n f in
    let u = leading_unique k n (k - s.0) s.0 (omega (arith, s.1)) s.2 s.3 in
    omega (arith, s.1, u)

pub leading_wide : (k w n : ℕ) → w ≤ k → n < 2 ^ w → count_leading_zeros k n - (k - w) ≡ count_leading_zeros w n
leading_wide k w n h f = omega (arith, leading_more k w n h f)

pub leading_past : (k w n : ℕ) → w ≤ k → n < 2 ^ w → k - w ≤ count_leading_zeros k n
leading_past k w n h f = omega (arith, leading_more k w n h f)

pub leading_most : (k w n : ℕ) → w ≤ k → n < 2 ^ w → count_leading_zeros k n - (k - w) ≤ w
leading_most k w n h f = omega (arith, leading_wide k w n h f, leading_le w n)

-- the zeros at the bottom are the same, but no more than w
pub trailing_wide : (k w n : ℕ) → w ≤ k → count_trailing_zeros w n ≡ min w (count_trailing_zeros k n)
unfolding count_trailing_zeros
trailing_wide k zero n h = omega arith
trailing_wide zero (suc w) n h = absurd (omega arith)
trailing_wide (suc k) (suc w) n h = go (n % 2) (trailing_wide k w (n / 2) (omega arith))
  where
    go : (d : ℕ) → count_trailing_zeros w (n / 2) ≡ min w (count_trailing_zeros k (n / 2))
        → under d (count_trailing_zeros w (n / 2)) ≡ min (suc w) (under d (count_trailing_zeros k (n / 2)))
    go zero e = omega (arith, e)
    go (suc d) e = omega arith

-- a slot released in a wider word
pub released_wide : (k w live p : ℕ) → 1 ≤ p → p ≤ w → w ≤ k → live < 2 ^ w
    → bit_and live ((2 ^ k - 1) - slot_mask w p) ≡ released w live p
unfolding released
released_wide k w live p l h m f =
    bit_ext w _ _ (lt_of_le_of_lt (and_le_l live _) f) (lt_of_le_of_lt (and_le_l live _) f)
    (λ j a. bit_and_lem live _ j
    ∙ ap (min (bit live j))
    (bit_not k (slot_mask w p) j (lt_of_lt_of_le (mask_fits w p l h) (pow_mono m)) (omega arith)
    ∙ sym (bit_not w (slot_mask w p) j (mask_fits w p l h) a))
    ∙ sym (bit_and_lem live _ j))

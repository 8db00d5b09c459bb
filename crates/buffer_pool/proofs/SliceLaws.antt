-- The last live front slot, from what the code of slice.rt knows where it returns. Assumes nothing.
use mathlib.Core.Path.{◌≡◌, refl, sym, ap, subst, ◌∙◌}
use Prim.Native.Nat.{ℕ, ◌+◌, ◌-◌, ◌/◌, ◌^◌, ◌≤◌, ◌<◌, min}
use native.Mathlib.Omega.{arith}
use lib.Pow.{shr_lt}
use lib.Count.{count_trailing_zeros, trailing_of_zero}
use Rattle.laws.specs.Live.{last_live}
use Rattle.laws.proofs.Slots.{last_zeros, zeros_below}
use Rattle.laws.proofs.Words.{trailing_wide}

module _ (w : ℕ) where
  pub no_front : (live back : ℕ) → back ≡ 0 → 0 ≡ last_live w live back
  unfolding last_live
  no_front live back z = rw z refl

  module _ (live back : ℕ) (h : back ≤ w) (f : live < 2 ^ w) where
    pub bits_below : live / 2 ^ (w - back) < 2 ^ back
    bits_below = shr_lt back (w - back) (subst (λ (x : ℕ). live < 2 ^ x) {y = back + (w - back)} (omega arith) f)

    module _ (front : ℕ) (g : front ≡ live / 2 ^ (w - back)) where
      pub front_free : front ≡ 0 → 0 ≡ last_live w live back
      front_free z =
          omega (arith, last_zeros w live back h f, ap (count_trailing_zeros w) (sym g ∙ z) ∙ trailing_of_zero w)

      module _ (some : front ≡ 0 → ⊥) (t : ℕ) (e : t ≡ count_trailing_zeros w front) where
        pub zeros_within : t ≤ back
        zeros_within = omega (arith, zeros_below w live back h f (omega (arith, some, g)), e ∙ ap (count_trailing_zeros w) g)

        pub front_last_lem : back - t ≡ last_live w live back
        front_last_lem = omega (arith, last_zeros w live back h f, e ∙ ap (count_trailing_zeros w) g)

  -- the zeros at the bottom of a word of 16 bits, cut at w
  module _ (live : ℕ) (m : w ≤ 16) where
    pub zeros_least : (z : ℕ) → z ≡ count_trailing_zeros 16 live → (min w z ≡ count_trailing_zeros w live) × (min w z ≤ w)
    zeros_least z e = (omega (arith, trailing_wide 16 w live m), omega arith)

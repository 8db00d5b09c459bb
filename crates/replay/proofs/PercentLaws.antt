-- The percentage, from what the code of percent.rt knows where it returns. Assumes nothing.
use mathlib.Core.Path.{◌≡◌, refl, ◌∙◌}
use Prim.Native.Nat.{ℕ, ◌+◌, ◌*◌, ◌/◌, ◌%◌, ◌≤◌, ◌<◌}
use borrow.Author.Tests.{lt-ltb, le-ltb, eq-eqb, ne_eqb}
use Rattle.replay.specs.Percentage.{even_neighbour, nearest, percent}

module _ (q : ℕ) where
  pub even : q % 2 ≡ 0 → q ≡ even_neighbour q
  unfolding even_neighbour
  even e = rw (eq-eqb (q % 2) 0 e) refl

  pub odd : (q % 2 ≡ 0 → ⊥) → q + 1 ≡ even_neighbour q
  unfolding even_neighbour
  odd o = rw (ne_eqb (q % 2) 0 o) refl

module _ (n d : ℕ) where
  pub below_half : 2 * (n % d) < d → n / d ≡ nearest n d
  unfolding nearest
  below_half l = rw (lt-ltb (2 * (n % d)) d l) refl

  module _ (h : d ≤ 2 * (n % d)) where
    pub above_half : d < 2 * (n % d) → n / d + 1 ≡ nearest n d
    unfolding nearest
    above_half l = rw (le-ltb (2 * (n % d)) d h, lt-ltb d (2 * (n % d)) l) refl

    pub at_half : 2 * (n % d) ≤ d → (k : ℕ) → k ≡ even_neighbour (n / d) → k ≡ nearest n d
    unfolding nearest
    at_half l k is = is ∙ rw (le-ltb (2 * (n % d)) d h, le-ltb d (2 * (n % d)) l) refl

module _ (part all : ℕ) where
  pub no_takes : all ≡ 0 → 0 ≡ percent part all
  unfolding percent
  no_takes z = rw (eq-eqb all 0 z) refl

  pub of_takes : (all ≡ 0 → ⊥) → (k : ℕ) → k ≡ nearest (part * 100) all → k ≡ percent part all
  unfolding percent
  of_takes o k is = is ∙ rw (ne_eqb all 0 o) refl

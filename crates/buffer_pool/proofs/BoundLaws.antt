-- The end of a slot's slice. Assumes nothing.
use mathlib.Core.Path.{◌≡◌, refl, ap, ap₂, ◌∙◌}
use mathlib.Core.List.{List}
use Prim.Native.Nat.{ℕ, zero, suc, ◌+◌, ◌-◌}
use native.Mathlib.Omega.{arith}
use lib.ListN.{get_or}
use Rattle.buffer_pool.specs.Record.{after}

module _ (starts lengths : List ℕ) (len : ℕ) where
  pub end_none : len ≡ 0 → 0 ≡ after starts lengths len
  unfolding after
  end_none z = rw z refl

  pub end_some : (len ≡ 0 → ⊥) → (a b : ℕ) → a ≡ get_or starts (len - 1) 0 → b ≡ get_or lengths (len - 1) 0 → a + b ≡ after starts lengths len
  unfolding after
  end_some n a b e f = go len refl
    where
      go : (k : ℕ) → len ≡ k → a + b ≡ after starts lengths k
      go zero z = absurd (n z)
      go (suc k) z =
          ap₂ (λ (x y : ℕ). x + y) (e ∙ ap (λ (i : ℕ). get_or starts i 0) (omega arith)) (f ∙ ap (λ (i : ℕ). get_or lengths i 0) (omega arith))

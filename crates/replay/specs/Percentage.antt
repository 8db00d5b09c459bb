-- The overflow percentage of line T, SPECIFICATION 10.10 (W-204): `percent` is what the listing shows; `IsNearest` says what it
-- means, and proofs/Percentage.antt has that the one is the other.
use Rattle.std.specs.Prelude.{◌≡◌, ℕ, ◌+◌, ◌-◌, ◌*◌, ◌/◌, ◌%◌, ◌≤◌, ltb, eqb}
use Rattle.laws.specs.Tests.{pick}

-- ---- The percentage

-- of q and q + 1 the even one
unfoldable pub even_neighbour : ℕ → ℕ
even_neighbour q = pick (eqb (q % 2) 0) q (q + 1)

-- n / d, "rounded to the nearest whole number, and an exact half goes to the even neighbour", by twice the remainder: less than d is
-- below the half, more is above it, and d itself is the exact half
unfoldable pub nearest : ℕ → ℕ → ℕ
nearest n d = pick (ltb (2 * (n % d)) d) (n / d) (pick (ltb d (2 * (n % d))) (n / d + 1) (even_neighbour (n / d)))

-- so many takes of all, in percent; "0 if there were none"
unfoldable pub percent : ℕ → ℕ → ℕ
percent part all = pick (eqb all 0) 0 (nearest (part * 100) all)

-- ---- What it means

-- how far k is from n / d, times d: the difference of k * d and n, whichever is the greater
unfoldable pub distance : ℕ → ℕ → ℕ → ℕ
distance n d k = (k * d - n) + (n - k * d)

-- of all whole numbers none is nearer to n / d than k, and if another is as near, k is the even one
pub record IsNearest (n d k : ℕ) : Type 0 where
  pub none_nearer : (j : ℕ) → distance n d k ≤ distance n d j
  pub even_of_two : (j : ℕ) → (j ≡ k → ⊥) → distance n d j ≡ distance n d k → k % 2 ≡ 0

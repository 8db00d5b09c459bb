-- What the overflow percentage of line T is (W-204): the whole number nearest to part * 100 / all and, where two are as near, the even
-- one; and no other number is that. Stated of every part and every count of takes above 0; without takes it is 0. Assumes nothing.
use mathlib.Core.Path.{◌≡◌, refl}
use mathlib.Core.Logic.{◌⊎◌}
use Prim.Native.Nat.{ℕ, ◌+◌, ◌*◌, ◌%◌, ◌≤◌, ◌<◌}
use native.Mathlib.Decide.{dec_lt}
use native.Mathlib.Omega.{arith}
use borrow.Author.Tests.{ne_eqb}
use Rattle.replay.specs.Percentage.{even_neighbour, percent, IsNearest}
use Rattle.replay.proofs.Nearest.{even_neighbour_lem, nearest_is, half_is, one_nearest, nearest_most}

-- no whole number is nearer, and of two that are as near it is the even one
pub percent_is_nearest : (part all : ℕ) → 0 < all → IsNearest (part * 100) all (percent part all)
unfolding percent
percent_is_nearest part all p = rw (ne_eqb all 0 (λ z. omega (arith, z))) (nearest_is (part * 100) all p)

-- and no other number is that
pub nothing_else_is_nearest : (part all k : ℕ) → 0 < all → IsNearest (part * 100) all k → k ≡ percent part all
nothing_else_is_nearest part all k p K = one_nearest (part * 100) all k (percent part all) p K (percent_is_nearest part all p)

-- an exact half, q and a half, goes to that one of q and q + 1 which is even
pub half_to_even : (part all q : ℕ) → 0 < all → 2 * (part * 100) ≡ (2 * q + 1) * all
    → ((percent part all ≡ q) ⊎ (percent part all ≡ q + 1)) × (percent part all % 2 ≡ 0)
half_to_even part all q p h =
    rw (← nothing_else_is_nearest part all (even_neighbour q) p (half_is (part * 100) all q p h)) (even_neighbour_lem q)

-- without takes it is 0
pub percent_without_takes : (part : ℕ) → percent part 0 ≡ 0
unfolding percent
percent_without_takes part = refl

-- where the takes from the overflow are some of all takes, it is 100 at most
pub percent_most : (part all : ℕ) → part ≤ all → percent part all ≤ 100
percent_most part all h = go (dec_lt 0 all)
  where
    go : Dec (0 < all) → percent part all ≤ 100
    go (no z) = let e : all ≡ 0 = omega (arith, z) in rw (e, percent_without_takes) (omega arith)
    go (yes p) = nearest_most (part * 100) all (percent part all) 100 p (omega arith) (percent_is_nearest part all p)

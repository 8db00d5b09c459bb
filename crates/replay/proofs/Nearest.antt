-- A quotient rounded to the nearest whole number, an exact half to the even one: it is nearest, and nothing else is. With n = q * d + r
-- the nearest number is q or q + 1, as every other is more than r away; and of two even numbers that are as near, a number between them
-- would be nearer. Assumes nothing.
use mathlib.Core.Path.{◌≡◌, refl, sym, ap, ◌∙◌}
use mathlib.Core.Bool.{Bool, true, false}
use mathlib.Core.Logic.{◌⊎◌, inl, inr}
use Prim.Native.Nat.{ℕ, suc, ◌+◌, ◌-◌, ◌*◌, ◌/◌, ◌%◌, ◌≤◌, ◌<◌}
use native.Mathlib.Nat.{mod-lt, div-add-mod', mul-le-mul_right, suc-mul, add-mul, mul_assoc}
use native.Mathlib.Decide.{dec_lt, ℕ_discrete}
use native.Mathlib.Omega.{arith}
use borrow.Author.Tests.{ltb-true, ltb-false, eqb-true, eqb-false}
use lib.Dec.{ltb, eqb}
use Rattle.laws.specs.Tests.{pick}
use Rattle.replay.specs.Percentage.{even_neighbour, nearest, distance, IsNearest}

-- ---- Distances

-- the multiples of two numbers are d or more apart
apart : (d j k : ℕ) → j < k → j * d + d ≤ k * d
apart d j k l = omega (arith, suc-mul j d, mul-le-mul_right d l)

-- the even one of q and q + 1 is one of the two, and even
pub even_neighbour_lem : (q : ℕ) → ((even_neighbour q ≡ q) ⊎ (even_neighbour q ≡ q + 1)) × (even_neighbour q % 2 ≡ 0)
unfolding even_neighbour
even_neighbour_lem q = go (eqb (q % 2) 0) refl
  where
    go : (t : Bool) → eqb (q % 2) 0 ≡ t → ((pick t q (q + 1) ≡ q) ⊎ (pick t q (q + 1) ≡ q + 1)) × (pick t q (q + 1) % 2 ≡ 0)
    go true e = (inl refl, eqb-true (q % 2) 0 e)
    go false e = (inr refl, omega (arith, eqb-false (q % 2) 0 e))

-- n is q * d + r: the distance of q is r, that of q + 1 is d - r, and that of every other number is more than r
module _ (n d q r : ℕ) (is : q * d + r ≡ n) (l : r < d) where
  below : distance n d q ≡ r
  unfolding distance
  below = omega arith

  beyond : distance n d (q + 1) ≡ d - r
  unfolding distance
  beyond = omega (arith, suc-mul q d)

  others : (j : ℕ) → (j ≡ q → ⊥) → (j ≡ q + 1 → ⊥) → r < distance n d j
  unfolding distance
  others j o p = go (dec_lt j q)
    where
      go : Dec (j < q) → r < (j * d - n) + (n - j * d)
      go (yes a) = omega (arith, apart d j q a)
      go (no a) = omega (arith, suc-mul q d, apart d (q + 1) j (omega (arith, a, o, p)))

  -- so that one of the two is nearest whose distance is no more than the other's, and which is even if they are the same
  nearer : (k : ℕ) → (k ≡ q) ⊎ (k ≡ q + 1) → distance n d k ≤ r → distance n d k ≤ d - r → (r ≡ d - r → k % 2 ≡ 0) → IsNearest n d k
  nearer k w a b even = record { none_nearer = none; even_of_two = two }
    where
      none : (j : ℕ) → distance n d k ≤ distance n d j
      none j = go (ℕ_discrete j q) (ℕ_discrete j (q + 1))
        where
          go : Dec (j ≡ q) → Dec (j ≡ q + 1) → distance n d k ≤ distance n d j
          go (yes e) f = rw (e, below) a
          go (no e) (yes f) = rw (f, beyond) b
          go (no e) (no f) = omega (arith, others j e f, a)

      two : (j : ℕ) → (j ≡ k → ⊥) → distance n d j ≡ distance n d k → k % 2 ≡ 0
      two j o e = go (ℕ_discrete j q) (ℕ_discrete j (q + 1)) w
        where
          go : Dec (j ≡ q) → Dec (j ≡ q + 1) → (k ≡ q) ⊎ (k ≡ q + 1) → k % 2 ≡ 0
          go (yes f) g (inl h) = absurd (o (f ∙ sym h))
          go (yes f) g (inr h) = even (sym below ∙ ap (distance n d) (sym f) ∙ e ∙ ap (distance n d) h ∙ beyond)
          go (no f) (yes g) (inl h) = even (sym below ∙ ap (distance n d) (sym h) ∙ sym e ∙ ap (distance n d) g ∙ beyond)
          go (no f) (yes g) (inr h) = absurd (o (g ∙ sym h))
          go (no f) (no g) h = absurd (omega (arith, others j f g, a, e))

  halfway : (k : ℕ) → (k ≡ q) ⊎ (k ≡ q + 1) → 2 * r ≡ d → k % 2 ≡ 0 → IsNearest n d k
  halfway k (inl w) h e = nearer k (inl w) (rw w (omega (arith, below))) (rw w (omega (arith, below, h))) (λ s. e)
  halfway k (inr w) h e = nearer k (inr w) (rw w (omega (arith, beyond, h))) (rw w (omega (arith, beyond))) (λ s. e)

  -- n / d below the half, above it and at it
  is_nearest : IsNearest n d (pick (ltb (2 * r) d) q (pick (ltb d (2 * r)) (q + 1) (even_neighbour q)))
  is_nearest = go (ltb (2 * r) d) refl (ltb d (2 * r)) refl
    where
      go : (a : Bool) → ltb (2 * r) d ≡ a → (b : Bool) → ltb d (2 * r) ≡ b → IsNearest n d (pick a q (pick b (q + 1) (even_neighbour q)))
      go true a b e =
          let h = ltb-true (2 * r) d a in
          nearer q (inl refl) (omega (arith, below)) (omega (arith, below, h)) (λ s. absurd (omega (arith, h, s)))
      go false a true e =
          let h = ltb-true d (2 * r) e in
          nearer (q + 1) (inr refl) (omega (arith, beyond, h)) (omega (arith, beyond)) (λ s. absurd (omega (arith, h, s)))
      go false a false e =
          halfway (even_neighbour q) (even_neighbour_lem q).0 (omega (arith, ltb-false (2 * r) d a, ltb-false d (2 * r) e)) (even_neighbour_lem q).1

pub nearest_is : (n d : ℕ) → 0 < d → IsNearest n d (nearest n d)
unfolding nearest
nearest_is n d p = is_nearest n d (n / d) (n % d) (div-add-mod' n d) (mod-lt n p)

-- q and a half
pub half_is : (n d q : ℕ) → 0 < d → 2 * n ≡ (2 * q + 1) * d → IsNearest n d (even_neighbour q)
half_is n d q p h = go (omega (arith, h, add-mul (2 * q) 1 d, mul_assoc 2 q d))
  where
    go : 2 * n ≡ 2 * (q * d) + d → IsNearest n d (even_neighbour q)
    go e = halfway n d q (n - q * d) (omega arith) (omega arith) (even_neighbour q) (even_neighbour_lem q).0 (omega arith) (even_neighbour_lem q).1

-- ---- Two numbers that are nearest are one

-- of two numbers with a third between them one is further away than the third
between : (n d j k : ℕ) → 0 < d → suc j < k → distance n d j ≤ distance n d (suc j) → distance n d k ≤ distance n d (suc j) → ⊥
unfolding distance
between n d j k p m a b = omega (arith, suc-mul j d, apart d (suc j) k m, a, b)

not_two : (n d j k : ℕ) → 0 < d → IsNearest n d j → IsNearest n d k → j < k → ⊥
not_two n d j k p J K l =
    let same : distance n d j ≡ distance n d k = omega (arith, J.none_nearer k, K.none_nearer j) in
    let even : j % 2 ≡ 0 = J.even_of_two k (λ e. omega (arith, e)) (sym same) in
    let even-too : k % 2 ≡ 0 = K.even_of_two j (λ e. omega (arith, e)) same in
    between n d j k p (omega (arith, even, even-too)) (J.none_nearer (suc j)) (K.none_nearer (suc j))

-- the distances of two numbers that are nearest are the same, so they are even if they are two; then a number between them is nearer
pub one_nearest : (n d j k : ℕ) → 0 < d → IsNearest n d j → IsNearest n d k → j ≡ k
one_nearest n d j k p J K = go (dec_lt j k) (dec_lt k j)
  where
    go : Dec (j < k) → Dec (k < j) → j ≡ k
    go (yes a) b = absurd (not_two n d j k p J K a)
    go (no a) (yes b) = absurd (not_two n d k j p K J b)
    go (no a) (no b) = omega (arith, a, b)

-- ---- A bound

-- where n / d is m at most, so is a nearest number: one above m would be further away than m
pub nearest_most : (n d k m : ℕ) → 0 < d → n ≤ m * d → IsNearest n d k → k ≤ m
unfolding distance
nearest_most n d k m p h K = go (dec_lt m k)
  where
    go : Dec (m < k) → k ≤ m
    go (no a) = omega (arith, a)
    go (yes a) = absurd (omega (arith, apart d m k a, K.none_nearer m))

-- The decimal digits that io::decimal gives are those of the definition: their fewest count is `places`; and a number below 10 ^ k
-- has at most k. Assumes nothing.
use mathlib.Core.Path.{◌≡◌, refl, sym, ap, ◌∙◌}
use mathlib.Core.Bool.{Bool, true, false}
use Prim.Native.Nat.{ℕ, zero, suc, ◌-◌, ◌/◌, ◌^◌, ◌≤◌, ◌<◌}
use native.Mathlib.Nat.{pow-le-pow_right, le_of_suc-le-suc, lt_of_not-le}
use native.Mathlib.Omega.{arith}
use borrow.Author.Tests.{ltb-true, ltb-false}
use lib.Dec.{ltb}
use lib.ListN.{length, length-append}
use Rattle.laws.specs.Tests.{pick}
use Rattle.laws.proofs.Tests.{pick_cases}
use Rattle.io.specs.Digits.{last_digits, IsDigitCount}
use Rattle.replay.specs.Text.{places, decimal}

not_more : (b least n k most : ℕ) → 0 < b → IsDigitCount b least n k → least ≤ most → n < b ^ most → most < k → ⊥
not_more b least n k most h fewest within holds over =
    let p : b ^ (k - 1) ≤ n = fewest.2 (omega arith) in
    let q : b ^ most ≤ b ^ (k - 1) = pow-le-pow_right h (omega arith) in
    omega arith

-- where `most` digits hold n, the fewest are no more
at_most : (b least n k most : ℕ) → 0 < b → IsDigitCount b least n k → least ≤ most → n < b ^ most → k ≤ most
at_most b least n k most h fewest within holds = le_of_suc-le-suc (lt_of_not-le (not_more b least n k most h fewest within holds))

-- the digits of n but the last are the fewest of n / 10
shorter : (n k : ℕ) → 10 ≤ n → IsDigitCount 10 1 n (suc k) → IsDigitCount 10 1 (n / 10) k
shorter n zero h f = absurd (omega (arith, f.1))
shorter n (suc zero) h f = (omega arith, omega (arith, f.1), λ l. absurd (omega arith))
shorter n (suc (suc j)) h f =
    let y : suc (suc j) - 1 ≡ suc j = omega arith in
    let z : suc (suc (suc j)) - 1 ≡ suc (suc j) = omega arith in
    (omega arith, omega (arith, f.1), λ l. rw y (omega (arith, rw z at (f.2 (omega arith)))))

places_few : (more n k : ℕ) → n < 10 ^ suc more → IsDigitCount 10 1 n k → places more n ≡ k
unfolding places
places_few zero n k h f = omega (arith, f.0, at_most 10 1 n k 1 (omega arith) f (omega arith) (omega arith))
places_few (suc more) n zero h f = absurd (omega (arith, f.0))
places_few (suc more) n (suc k) h f = go (ltb n 10) refl (λ l g. places_few more (n / 10) k l g)
  where
    go : (t : Bool) → ltb n 10 ≡ t → (n / 10 < 10 ^ suc more → IsDigitCount 10 1 (n / 10) k → places more (n / 10) ≡ k)
        → pick t 1 (suc (places more (n / 10))) ≡ suc k
    go true p rest = omega (arith, f.0, at_most 10 1 n (suc k) 1 (omega arith) f (omega arith) (omega (arith, ltb-true n 10 p)))
    go false p rest = ap suc (rest (omega arith) (shorter n k (ltb-false n 10 p) f))

module _ (n k : ℕ) (h : n < 18446744073709551616) (f : IsDigitCount 10 1 n k) where
  pub digits_are : last_digits 10 k n ≡ decimal n
  unfolding decimal
  digits_are = ap (λ (j : ℕ). last_digits 10 j n) (sym (places_few 19 n k (omega arith) f))

-- ---- How many there are

length_digits : (b k n : ℕ) → length (last_digits b k n) ≡ k
length_digits b zero n = refl
length_digits b (suc k) n = length-append (last_digits b k (n / b)) _ ∙ omega (arith, length_digits b k (n / b))

places_most : (more k n : ℕ) → n < 10 ^ suc k → places more n ≤ suc k
unfolding places
places_most zero k n h = omega arith
places_most (suc more) k n h = go (ltb n 10) refl k h (λ j l. places_most more j (n / 10) l)
  where
    go : (t : Bool) → ltb n 10 ≡ t → (k : ℕ) → n < 10 ^ suc k → ((j : ℕ) → n / 10 < 10 ^ suc j → places more (n / 10) ≤ suc j)
        → pick t 1 (suc (places more (n / 10))) ≤ suc k
    go true p k l rest = omega arith
    go false p zero l rest = absurd (omega (arith, ltb-false n 10 p))
    go false p (suc j) l rest = omega (arith, rest j (omega arith))

pub decimal_most : (k n : ℕ) → n < 10 ^ suc k → length (decimal n) ≤ suc k
unfolding decimal
decimal_most k n h = omega (arith, length_digits 10 (places 19 n) n, places_most 19 k n h)

places_any : (more n : ℕ) → places more n ≤ suc more
unfolding places
places_any zero n = omega arith
places_any (suc more) n =
    pick_cases (λ (k : ℕ). k ≤ suc (suc more)) (ltb n 10) (λ t. omega arith) (λ t. omega (arith, places_any more (n / 10)))

pub decimal_any : (n : ℕ) → length (decimal n) ≤ 20
unfolding decimal
decimal_any n = omega (arith, length_digits 10 (places 19 n) n, places_any 19 n)

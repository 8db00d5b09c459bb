-- The binary digits of a number, at any width: of `|`, `&`, `!`, a power, a shift; of the zeros at either end.
-- Assumes nothing.
use mathlib.Core.Path.{◌≡◌, refl, sym, ap, ◌∙◌}
use Prim.Native.Nat.{ℕ, zero, suc, ◌+◌, ◌-◌, ◌*◌, ◌/◌, ◌%◌, ◌^◌, ◌≤◌, ◌<◌, min, max, suc-le-suc}
use native.Mathlib.Nat.{mod-lt, div-eq_of_lt, div-eq_of_lt-le, pow-suc, one-mul, mul_assoc, le_of_suc-le-suc, not-suc-le-zero, lt_of_lt_of_le, zero-lt-suc}
use native.Mathlib.Decide.{dec_lt}
use native.Mathlib.Numerals.{one-add}
use native.Mathlib.Omega.{arith}
use lib.Arith.{digits_mod}
use lib.Pow.{field, mod-mod-pow, pow_pos, pow-lt, pow_mono, pow-add, shl-shr, shr-shr}
use lib.Bits.{bit_and, bit_or, and_step, or_step, and_shr, or_shr, shifted_even}
use lib.Count.{count_leading_zeros, leading_top, count_trailing_zeros, under}
use Rattle.laws.specs.Live.{bit}

two_pos : zero < 2
two_pos = zero-lt-suc 1

-- ---- one digit

pub bit_two : (n k : ℕ) → bit n k < 2
unfolding bit
bit_two n k = mod-lt (n / 2 ^ k) two_pos

pub bit_zero : (n : ℕ) → bit n zero ≡ n % 2
unfolding bit
bit_zero n = omega arith

pub bit_suc : (n k : ℕ) → bit n (suc k) ≡ bit (n / 2) k
unfolding bit
bit_suc n k = ap (λ (x : ℕ). n / 2 ^ x % 2) (sym (one-add k)) ∙ ap (λ (x : ℕ). x % 2) (sym (shr-shr n 1 k))

-- a shift down by s
pub bit_shr : (n s k : ℕ) → bit (n / 2 ^ s) k ≡ bit n (s + k)
unfolding bit
bit_shr n s k = ap (λ (x : ℕ). x % 2) (shr-shr n s k)

-- no digit past the end
pub bit_past : (n k : ℕ) → n < 2 ^ k → bit n k ≡ 0
unfolding bit
bit_past n k h = ap (λ (x : ℕ). x % 2) (div-eq_of_lt h)

-- ---- the operations

pub bit_or_lem : (a b k : ℕ) → bit (bit_or a b) k ≡ max (bit a k) (bit b k)
unfolding bit
bit_or_lem a b k =
    ap (λ (x : ℕ). x % 2) (or_shr a b k ∙ or_step (a / 2 ^ k) (b / 2 ^ k))
    ∙ digits_mod (bit_or (a / 2 ^ k / 2) (b / 2 ^ k / 2)) (omega arith)

pub bit_and_lem : (a b k : ℕ) → bit (bit_and a b) k ≡ min (bit a k) (bit b k)
unfolding bit
bit_and_lem a b k =
    ap (λ (x : ℕ). x % 2) (and_shr a b k ∙ and_step (a / 2 ^ k) (b / 2 ^ k))
    ∙ digits_mod (bit_and (a / 2 ^ k / 2) (b / 2 ^ k / 2)) (omega arith)

pub bit_not : (w a k : ℕ) → a < 2 ^ w → k < w → bit ((2 ^ w - 1) - a) k ≡ 1 - bit a k
bit_not zero a k h l = absurd (not-suc-le-zero l)
bit_not (suc w) a zero h l = bit_zero (2 ^ suc w - 1 - a) ∙ omega (arith, pow-suc 2 w, pow_pos w, bit_zero a)
bit_not (suc w) a (suc k) h l =
    bit_suc (2 ^ suc w - 1 - a) k ∙ ap (λ (x : ℕ). bit x k) (omega (arith, pow-suc 2 w))
    ∙ bit_not w (a / 2) k (omega (arith, pow-suc 2 w)) (le_of_suc-le-suc l) ∙ ap (λ (x : ℕ). 1 - x) (sym (bit_suc a k))

-- ---- a power

pow_div : (i j : ℕ) → i ≤ j → 2 ^ j / 2 ^ i ≡ 2 ^ (j - i)
pow_div i j h = ap (λ (x : ℕ). 2 ^ x / 2 ^ i) (omega arith) ∙ ap (λ (x : ℕ). x / 2 ^ i) (pow-add 2 (j - i) i) ∙ shl-shr (2 ^ (j - i)) i

pub bit_pow : (k : ℕ) → bit (2 ^ k) k ≡ 1
unfolding bit
bit_pow k = ap (λ (x : ℕ). x / 2 ^ k % 2) (sym (one-mul (2 ^ k))) ∙ ap (λ (x : ℕ). x % 2) (shl-shr 1 k)

pub bit_pow_other : (j k : ℕ) → (j ≡ k → ⊥) → bit (2 ^ j) k ≡ 0
unfolding bit
bit_pow_other j k ne = go (dec_lt j k)
  where
    go : Dec (j < k) → bit (2 ^ j) k ≡ 0
    go (yes l) = bit_past (2 ^ j) k (pow-lt l)
    go (no f) =
        let e : 2 ^ (j - k) ≡ 1 * 2 ^ suc (j - k - 1) = ap (λ (x : ℕ). 2 ^ x) (omega arith) ∙ sym (one-mul (2 ^ suc (j - k - 1))) in
        ap (λ (x : ℕ). x % 2) (pow_div k j (omega arith) ∙ e) ∙ shifted_even 1 (j - k - 1)

-- a number cut to w digits keeps those; a shift up by s, cut to w digits, moves each digit up and has zeros below
pub bit_cut : (w n k : ℕ) → k < w → bit (n % 2 ^ w) k ≡ bit n k
unfolding bit
bit_cut w n k l =
    ap (λ (x : ℕ). n % 2 ^ x / 2 ^ k % 2) {y = w - k - 1 + 1 + k} (omega arith) ∙ ap (λ (x : ℕ). x % 2) (field n (w - k - 1 + 1) k)
    ∙ mod-mod-pow (n / 2 ^ k) (w - k - 1) 1

pub bit_shl : (w n s k : ℕ) → s ≤ k → k < w → bit ((n * 2 ^ s) % 2 ^ w) k ≡ bit n (k - s)
unfolding bit
bit_shl w n s k h l =
    bit_cut w (n * 2 ^ s) k l ∙ ap (λ (x : ℕ). n * 2 ^ s / 2 ^ x % 2) {y = s + (k - s)} (omega arith)
    ∙ ap (λ (x : ℕ). x % 2) (sym (shr-shr (n * 2 ^ s) s (k - s)) ∙ ap (λ (x : ℕ). x / 2 ^ (k - s)) (shl-shr n s))

pub bit_shl_low : (w n s k : ℕ) → k < s → k < w → bit ((n * 2 ^ s) % 2 ^ w) k ≡ 0
unfolding bit
bit_shl_low w n s k h l =
    bit_cut w (n * 2 ^ s) k l ∙ ap (λ (x : ℕ). n * 2 ^ x / 2 ^ k % 2) {y = suc (s - k - 1) + k} (omega arith)
    ∙ ap (λ (x : ℕ). x / 2 ^ k % 2) (ap (λ (x : ℕ). n * x) (pow-add 2 (suc (s - k - 1)) k) ∙ sym (mul_assoc n (2 ^ suc (s - k - 1)) (2 ^ k)))
    ∙ ap (λ (x : ℕ). x % 2) (shl-shr (n * 2 ^ suc (s - k - 1)) k) ∙ shifted_even n (s - k - 1)

-- two numbers of w digits with the same digits are equal
pub bit_ext : (w a b : ℕ) → a < 2 ^ w → b < 2 ^ w → ((k : ℕ) → k < w → bit a k ≡ bit b k) → a ≡ b
bit_ext zero a b ha hb f = omega arith
bit_ext (suc w) a b ha hb f =
    let rest : a / 2 ≡ b / 2 =
    bit_ext w (a / 2) (b / 2) (omega (arith, pow-suc 2 w)) (omega (arith, pow-suc 2 w))
    (λ k l. sym (bit_suc a k) ∙ f (suc k) (suc-le-suc l) ∙ bit_suc b k) in
    omega (arith, sym (bit_zero a) ∙ f zero (zero-lt-suc w) ∙ bit_zero b)

-- ---- the zeros at the top: the digit below them is set, and none above it is

pub record Top (w n z : ℕ) : Type 0 where
  pub within : z < w
  pub set : bit n (w - suc z) ≡ 1
  pub clear : (k : ℕ) → w ≤ k + z → bit n k ≡ 0

pub leading : (w n : ℕ) → zero < n → n < 2 ^ w → Top w n (count_leading_zeros w n)
unfolding bit
leading w n p h =
    let t = leading_top w n p h in
    let one : n / 2 ^ t.0 ≡ 1 =
    div-eq_of_lt-le (2 ^ t.0) (omega (arith, t.2)) (omega (arith, t.3, pow-suc 2 t.0)) in
    record {
      within = omega (arith, t.1);
      set = ap (λ (x : ℕ). bit n x) (omega (arith, t.1)) ∙ ap (λ (x : ℕ). x % 2) one;
      clear = λ k l. bit_past n k (lt_of_lt_of_le t.3 (pow_mono (omega (arith, t.1))));
    }

-- ---- the zeros at the bottom: the digit above them is set, and none below it is

pub record Bottom (w n z : ℕ) : Type 0 where
  pub within : z < w
  pub set : bit n z ≡ 1
  pub clear : (k : ℕ) → k < z → bit n k ≡ 0

above_digit : (d w n z : ℕ) → n % 2 ≡ d → d < 2 → zero < n → (zero < n / 2 → Bottom w (n / 2) z) → Bottom (suc w) n (under d z)
above_digit zero w n z e l p rest =
    let r = rest (omega arith) in
    record { within = suc-le-suc r.within; set = bit_suc n z ∙ r.set; clear = low r }
  where
    low : Bottom w (n / 2) z → (k : ℕ) → k < suc z → bit n k ≡ 0
    low r zero h = bit_zero n ∙ e
    low r (suc k) h = bit_suc n k ∙ r.clear k (le_of_suc-le-suc h)
above_digit (suc zero) w n z e l p rest =
    record { within = zero-lt-suc w; set = bit_zero n ∙ e; clear = λ k h. absurd (not-suc-le-zero h) }
above_digit (suc (suc d)) w n z e l p rest = absurd (omega arith)

pub trailing : (w n : ℕ) → zero < n → n < 2 ^ w → Bottom w n (count_trailing_zeros w n)
unfolding count_trailing_zeros
trailing zero n p h = absurd (omega arith)
trailing (suc w) n p h =
    above_digit (n % 2) w n (count_trailing_zeros w (n / 2)) refl (mod-lt n two_pos) p
    (λ q. trailing w (n / 2) q (omega (arith, pow-suc 2 w)))

-- A number's bytes, lowest first, written and read: each undoes the other. Assumes nothing.
use mathlib.Core.Path.{◌≡◌, refl, ap}
use mathlib.Core.List.{List, [], ◌∷◌, ◌++◌}
use Prim.Native.Nat.{ℕ, zero, suc, ◌+◌, ◌*◌, ◌/◌, ◌%◌, ◌^◌, ◌≤◌, ◌<◌}
use native.Mathlib.Nat.{pow-suc}
use native.Mathlib.Omega.{arith}
use lib.ListN.{length, get_or, take, drop, length-take}
use lib.Seq.{drop-cons, get_or-drop, take_at}
use Rattle.laws.specs.Lists.{part}
use Rattle.laws.proofs.Lists.{length_part, part_append_right}
use Rattle.trace.specs.Trace.{little, number_at}
use Rattle.trace.specs.Content.{Bytes, low_bytes}

pub length_low : (n v : ℕ) → length (low_bytes n v) ≡ n
unfolding low_bytes
length_low zero v = refl
length_low (suc n) v = ap suc (length_low n (v / 256))

pub low_little : (l : List ℕ) → Bytes l → low_bytes (length l) (little l) ≡ l
unfolding low_bytes little
low_little [] h = refl
low_little (b ∷ l) h =
    let b-small : b < 256 = h 0 in
    let low : (b + 256 * little l) % 256 ≡ b = omega arith in
    let high : (b + 256 * little l) / 256 ≡ little l = omega arith in
    rw (low, high) (ap (λ (r : List ℕ). b ∷ r) (low_little l (λ i. h (suc i))))

pub little_low : (n v : ℕ) → v < 256 ^ n → little (low_bytes n v) ≡ v
unfolding low_bytes little
little_low zero v h = omega arith
little_low (suc n) v h =
    let k : v / 256 < 256 ^ n = omega (arith, pow-suc 256 n) in
    rw (little_low n (v / 256) k) (omega arith)

bytes_take : (n : ℕ) (l : List ℕ) → Bytes l → Bytes (take n l)
bytes_take zero l h i = omega arith
bytes_take (suc n) [] h i = omega arith
bytes_take (suc n) (b ∷ l) h zero = h 0
bytes_take (suc n) (b ∷ l) h (suc i) = bytes_take n l (λ j. h (suc j)) i

bytes_drop : (n : ℕ) (l : List ℕ) → Bytes l → Bytes (drop n l)
bytes_drop n l h i = rw (get_or-drop n l i 0) (h (n + i))

-- the number at a place of a file of bytes, written, is the file's part there
pub number_written : (file : List ℕ) (at : ℕ) → Bytes file → at + 4 ≤ length file → low_bytes 4 (number_at file at) ≡ part file at 4
unfolding number_at part
number_written file at h k =
    rw (length_part file at 4 k) at (low_little (part file at 4) (bytes_take 4 (drop at file) (bytes_drop at file h)))

-- a number that is written is read where it stands
pub number_head : (v : ℕ) (rest : List ℕ) → v < 256 ^ 4 → number_at (low_bytes 4 v ++ rest) 0 ≡ v
unfolding number_at part
number_head v rest h = rw (take_at (low_bytes 4 v) rest 4 (length_low 4 v)) (little_low 4 v h)

pub number_skip : (xs ys : List ℕ) (n at : ℕ) → length xs ≡ n → number_at (xs ++ ys) (n + at) ≡ number_at ys at
unfolding number_at
number_skip xs ys n at e = ap little (part_append_right xs ys n at 4 e)

-- the number of bytes is below the power of 256 that their count gives
pub little_below : (l : List ℕ) (n : ℕ) → Bytes l → length l ≤ n → little l < 256 ^ n
unfolding little
little_below [] zero b h = omega arith
little_below [] (suc n) b h = omega (arith, pow-suc 256 n, little_below [] n b (omega arith))
little_below (x ∷ l) zero b h = absurd (omega arith)
little_below (x ∷ l) (suc n) b h =
    let small : x < 256 = b 0 in
    omega (arith, pow-suc 256 n, little_below l n (λ i. b (suc i)) (omega arith))

pub number_below : (file : List ℕ) (at : ℕ) → Bytes file → number_at file at < 256 ^ 4
unfolding number_at part
number_below file at h =
    little_below (part file at 4) 4 (bytes_take 4 (drop at file) (bytes_drop at file h)) (rw (length-take 4 (drop at file)) (omega arith))

-- the first element of a part, and the rest
pub part_cons : (file : List ℕ) (at n : ℕ) → at < length file → part file at (suc n) ≡ get_or file at 0 ∷ part file (suc at) n
unfolding part
part_cons file at n h = rw (drop-cons file at 0 h) refl

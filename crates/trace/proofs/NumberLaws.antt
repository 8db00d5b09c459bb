-- The number at a place of a file, by its bytes. Assumes nothing.
use mathlib.Core.Path.{◌≡◌, refl}
use mathlib.Core.List.{List, [], ◌∷◌}
use Prim.Native.Nat.{ℕ, zero, suc, ◌+◌, ◌*◌}
use native.Mathlib.Numerals.{towards_suc}
use native.Mathlib.Omega.{arith}
use lib.ListN.{get_or}
use lib.Seq.{take-nil}
use Rattle.std.specs.Int.{w32, from_le_bytes}
use Rattle.laws.specs.Lists.{part}
use Rattle.trace.specs.Trace.{little, number_at}

-- the first byte, and the number of the rest
pub little_part : (file : List ℕ) (at n : ℕ) → little (part file at (suc n)) ≡ get_or file at 0 + 256 * little (part file (suc at) n)
unfolding part little
little_part [] zero n = rw (take-nil {A = ℕ} n) refl
little_part [] (suc at) n = rw (take-nil {A = ℕ} n) refl
little_part (b ∷ file) zero n = refl
little_part (b ∷ file) (suc at) n = little_part file at n

-- no byte
little_none : (file : List ℕ) (at : ℕ) → little (part file at 0) ≡ 0
unfolding part little
little_none file at = refl

-- four bytes, as `number` adds them
pub four : (file : List ℕ) (at a b c d : ℕ)
    → a ≡ get_or file at 0 → b ≡ get_or file (at + 1) 0 → c ≡ get_or file (at + 2) 0 → d ≡ get_or file (at + 3) 0
    → (n : ℕ) → n ≡ from_le_bytes w32 (a ∷ b ∷ c ∷ d ∷ []) → n ≡ number_at file at
unfolding number_at
four file at a b c d p q r s n e =
    let second = simp towards_suc at q in
    let third = simp towards_suc at r in
    let fourth = simp towards_suc at s in
    omega (
      arith,
      little_part file at 3,
      little_part file (suc at) 2,
      little_part file (suc (suc at)) 1,
      little_part file (suc (suc (suc at))) 0,
      little_none file (suc (suc (suc (suc at)))),
    )

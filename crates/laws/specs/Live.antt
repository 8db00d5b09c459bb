-- The slots of a word of w bits. Slot p, counted from 1 at the top, is the bit w - p: at w = 8, 0x80 shifted right by p - 1.
use Rattle.std.specs.Prelude.{ℕ, zero, suc, ◌-◌, ◌/◌, ◌%◌, ◌^◌, Bool, eqb}
use Rattle.std.specs.Int.Bits.{bit_and, bit_or}
use Rattle.laws.specs.Tests.{pick, implies, every}

-- the binary digit k of n, from 0 at the bottom: 0 or 1
unfoldable pub bit : ℕ → ℕ → ℕ
bit n k = n / 2 ^ k % 2

-- the word with slot p alone: the Rust's `mask`
abbrev pub slot_mask : ℕ → ℕ → ℕ
slot_mask w p = 2 ^ (w - p)

-- is slot p live?
abbrev pub live_at : ℕ → ℕ → ℕ → Bool
live_at w live p = eqb (bit live (w - p)) 1

-- the word with slot p made live, and made free: the Rust's `claim` and `release`
unfoldable pub claimed : ℕ → ℕ → ℕ → ℕ
claimed w live p = bit_or live (slot_mask w p)

unfoldable pub released : ℕ → ℕ → ℕ → ℕ
released w live p = bit_and live ((2 ^ w - 1) - slot_mask w p)

-- the highest live slot of those up to b, and 0 where none of them is live
unfoldable pub last_live : ℕ → ℕ → ℕ → ℕ
last_live w live zero = zero
last_live w live (suc b) = pick (live_at w live (suc b)) (suc b) (last_live w live b)

-- the lowest live slot of the n from a on, and a + n where none of them is live
unfoldable pub first_live : ℕ → ℕ → ℕ → ℕ → ℕ
first_live w live a zero = a
first_live w live a (suc n) = pick (live_at w live a) a (first_live w live (suc a) n)

-- f is true at every live slot
unfoldable pub lives : ℕ → ℕ → (ℕ → Bool) → Bool
lives w live f = every (λ p. implies (live_at w live p) (f p)) 1 w

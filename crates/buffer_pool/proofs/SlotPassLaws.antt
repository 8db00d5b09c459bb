-- The pass over the slots, from what the code of sound.rt knows where it turns and returns: what is left to pass decides. Assumes nothing.
use mathlib.Core.Path.{◌≡◌, refl, sym, ap, ◌∙◌}
use mathlib.Core.Bool.{Bool, true, false}
use mathlib.Core.List.{List}
use Prim.Native.Nat.{ℕ, suc, ◌+◌, ◌-◌, ◌≤◌, ◌<◌}
use native.Mathlib.Numerals.{add-one}
use native.Mathlib.Omega.{arith}
use lib.Dec.{leb}
use lib.ListN.{get_or}
use borrow.Author.Tests.{lt-ltb, lt-leb, le-leb}
use Rattle.laws.specs.Live.{live_at}
use Rattle.buffer_pool.specs.SlotPass.{ordered}

module _ (w : ℕ) (starts lengths : List ℕ) (live first last from to i end : ℕ) (h : i < last)
    (p : ordered w starts lengths live (last - first) first from to ≡ ordered w starts lengths live (last - i) i end to) where
  turn : ordered w starts lengths live (last - first) first from to ≡ ordered w starts lengths live (suc (last - (i + 1))) i end to
  turn = p ∙ ap (λ (k : ℕ). ordered w starts lengths live k i end to) (omega (arith, h))

  module _ (b : Bool) (e : b ≡ live_at w live (i + 1)) where
    pub free_passed : b ≡ false → ordered w starts lengths live (last - first) first from to ≡ ordered w starts lengths live (last - (i + 1)) (i + 1) end to
    unfolding ordered
    free_passed f = turn ∙ rw (← add-one i, ← e, f) refl

    module _ (t : b ≡ true) where
      pub empty_fails : get_or lengths i 0 ≡ 0 → false ≡ ordered w starts lengths live (last - first) first from to
      unfolding ordered
      empty_fails z = sym (turn ∙ rw (← add-one i, ← e, t, z) refl)

      module _ (z : get_or lengths i 0 ≡ 0 → ⊥) where
        some_length : 0 < get_or lengths i 0
        some_length = omega (arith, z)

        pub early_fails : get_or starts i 0 < end → false ≡ ordered w starts lengths live (last - first) first from to
        unfolding ordered
        early_fails k = sym (turn ∙ rw (← add-one i, ← e, t, lt-ltb 0 (get_or lengths i 0) some_length, lt-leb end (get_or starts i 0) k) refl)

        pub live_passed : end ≤ get_or starts i 0
            → ordered w starts lengths live (last - first) first from to
            ≡ ordered w starts lengths live (last - (i + 1)) (i + 1) (get_or starts i 0 + get_or lengths i 0) to
        unfolding ordered
        live_passed k = turn ∙ rw (← add-one i, ← e, t, lt-ltb 0 (get_or lengths i 0) some_length, le-leb end (get_or starts i 0) k) refl

pub all_passed : (w : ℕ) (starts lengths : List ℕ) (live first last from to i end : ℕ) → last ≤ i
    → ordered w starts lengths live (last - first) first from to ≡ ordered w starts lengths live (last - i) i end to
    → leb end to ≡ ordered w starts lengths live (last - first) first from to
unfolding ordered
all_passed w starts lengths live first last from to i end h p =
    sym (p ∙ ap (λ (k : ℕ). ordered w starts lengths live k i end to) {x = last - i} {y = 0} (omega (arith, h)))

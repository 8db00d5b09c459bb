-- The tests and numbers of the back, from what the code of pool_back.rt knows where it returns. Assumes nothing.
use mathlib.Core.Path.{◌≡◌, ap, ◌∙◌}
use Rattle.std.specs.Prelude.{Option, Some, None}
use mathlib.Core.Bool.{Bool, true, false, not}
use mathlib.Core.List.{List, []}
use mathlib.Core.Logic.{◌⊎◌, inl, inr}
use Prim.Native.Nat.{ℕ, ◌+◌, ◌-◌, ◌≤◌, ◌<◌}
use native.Mathlib.Omega.{arith}
use borrow.Author.Tests.{lt-ltb, le-ltb, lt-leb, le-leb, eq-eqb, ne_eqb, leb-true, eqb-true}
use lib.Dec.{leb}
use lib.Count.{count_leading_zeros, count_trailing_zeros}
use lib.ListN.{get_or}
use Rattle.laws.specs.Live.{last_live}
use Rattle.laws.proofs.Tests.{both_true, not_true, not_false}
use Rattle.buffer_pool.specs.declared.numbers.Numbers.{Numbers}
use Rattle.buffer_pool.specs.declared.buffer_pool.PoolMode.TheVariants.{Back}
use Rattle.buffer_pool.specs.Record.{after, placed, front}
use Rattle.buffer_pool.specs.Numbers.{numbers_of, plain, bare}
use Rattle.buffer_pool.specs.Placing.{drops, clearable, tail_start, tail_fits, tail_cleared, head_fits, head_cleared_to, head_cleared}
use Rattle.buffer_pool.specs.Deciding.{cleared_on}

module _ (n : Numbers) (d : ℕ) (e : d ≡ drops n.slots n.live n.back_start) (S L : List ℕ) (start : ℕ) where
  pub after_front : d ≡ n.back_len → (last : ℕ) → last ≡ last_live n.slots n.live n.back_start → start ≡ after S L last
      → start ≡ tail_start n.slots (plain n S L)
  unfolding tail_start
  after_front h last l s = rw (← e, eq-eqb d n.back_len h, ← l) s

  pub after_back : (d ≡ n.back_len → ⊥) → start ≡ after S L (n.back_start + n.back_len - d)
      → start ≡ tail_start n.slots (plain n S L)
  unfolding tail_start
  after_back h s = rw (← e, ne_eqb d n.back_len h) s

-- a clearable tail has no more slots to drop than the back has
pub clearable_drops : (n : Numbers) (d : ℕ) → d ≡ drops n.slots n.live n.back_start → clearable n.slots (bare n) ≡ true
    → d ≤ n.back_len
unfolding clearable
clearable_drops n d e c = rw e (leb-true (drops n.slots n.live n.back_start) n.back_len (both_true _ _ c).0)

pub clearable_is_full : (n : Numbers) → clearable n.slots (bare n) ≡ true → n.back_start + n.back_len ≡ n.slots
unfolding clearable
clearable_is_full n c =
    eqb-true (n.back_start + n.back_len) n.slots
    (both_true (leb (drops n.slots n.live n.back_start) n.back_len) _ c).1

module _ (n : Numbers) (S L : List ℕ) (len : ℕ) where
  abbrev tail : Option Numbers
  tail = cleared_on (tail_fits n.slots (plain n S L) len) (numbers_of (tail_cleared n.slots (plain n S L)))

  pub no_tail : (t : ℕ) → t ≡ count_trailing_zeros n.slots n.live → t ≡ 0 → None ≡ tail
  unfolding tail_fits cleared_on
  no_tail t e z = rw (le-ltb 0 (count_trailing_zeros n.slots n.live) (omega arith))

  module _ (t : ℕ) (e : t ≡ count_trailing_zeros n.slots n.live) (z : t ≡ 0 → ⊥) (start : ℕ) (s : start ≡ tail_start n.slots (plain n S L))
      (b : Bool) (f : b ≡ leb (start + n.raw_len + len) n.capacity) where
    pub tail_short : not b ≡ true → None ≡ tail
    unfolding tail_fits cleared_on
    tail_short h = rw (lt-ltb 0 (count_trailing_zeros n.slots n.live) (omega (arith, z)), ← s, ← f, not_true b h)

    pub tail_cleared_lem : not b ≡ false → (d : ℕ) → d ≡ drops n.slots n.live n.back_start → (q : Numbers)
        → q ≡ numbers_of (placed (bare n) Back n.back_start (n.back_len - d) (n.back_start + (n.back_len - d)) start)
        → Some q ≡ tail
    unfolding tail_fits cleared_on
    tail_cleared_lem h d i q g =
        rw (lt-ltb 0 (count_trailing_zeros n.slots n.live) (omega (arith, z)), ← s, ← f, not_false b h, g, i)

-- ---- The head

module _ (n : Numbers) (f bytes : ℕ) (q : Numbers) where
  pub boundary_moves : n.back_start < f
      → q ≡ numbers_of (placed (bare n) (front f bytes 0) f (n.back_len - (f - n.back_start)) 0 0)
      → q ≡ numbers_of (head_cleared_to (bare n) f bytes)
  boundary_moves h e =
      e ∙ ap (λ (s : ℕ). numbers_of (placed (bare n) (front f bytes 0) s (n.back_len - (f - n.back_start)) 0 0)) (omega arith)

module _ (n : Numbers) (S : List ℕ) (f : ℕ) (e : f ≡ count_leading_zeros n.slots n.live) where
  abbrev head : Option Numbers
  head = cleared_on (head_fits n.slots (plain n S [])) (numbers_of (head_cleared n.slots (plain n S [])))

  pub no_head : (f < 1) ⊎ ((1 ≤ f) × (n.slots ≤ f)) → None ≡ head
  unfolding head_fits cleared_on
  no_head (inl h) = rw (← e, lt-leb 1 f h)
  no_head (inr (h, k)) = rw (← e, le-leb 1 f h, le-ltb f n.slots k)

  module _ (h : 1 ≤ f) (k : f < n.slots) (start : ℕ) (s : start ≡ get_or S f 0) where
    pub head_short : start ≤ n.raw_len → None ≡ head
    unfolding head_fits cleared_on
    head_short l = rw (← e, le-leb 1 f h, lt-ltb f n.slots k, ← s, le-ltb n.raw_len start l)

    pub head_cleared_lem : n.raw_len < start → (q : Numbers) → q ≡ numbers_of (head_cleared_to (bare n) f start)
        → Some q ≡ head
    unfolding head_fits cleared_on
    head_cleared_lem l q g = rw (g, ← e, le-leb 1 f h, lt-ltb f n.slots k, ← s, lt-ltb n.raw_len start l)

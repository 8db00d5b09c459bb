-- The parts of the soundness test, from what the code of sound.rt knows where it returns. Assumes nothing.
use mathlib.Core.Path.{◌≡◌, refl, sym, ap, ◌∙◌}
use mathlib.Core.Bool.{Bool, true, false, not, ◌&&◌}
use mathlib.Core.List.{List}
use mathlib.Core.Logic.{◌⊎◌, inl, inr}
use Prim.Native.Nat.{ℕ, ◌^◌, ◌+◌, ◌-◌, ◌≤◌, ◌<◌}
use native.Mathlib.Nat.{add-zero}
use native.Mathlib.Omega.{arith}
use lib.Count.{count_trailing_zeros}
use lib.Dec.{leb, ltb}
use borrow.Author.Tests.{eq-eqb, ltb-true, leb-true}
use Rattle.laws.specs.Live.{last_live}
use Rattle.laws.proofs.Tests.{both_true, leb_and, eqb_and, not_true, not_false}
use Rattle.laws.proofs.Slots.{last_zeros_all}
use Rattle.buffer_pool.specs.declared.buffer_pool.PoolFront.{PoolFront}
use Rattle.buffer_pool.specs.declared.buffer_pool.PoolMode.{PoolMode}
use Rattle.buffer_pool.specs.declared.buffer_pool.PoolMode.TheVariants.{Back, Front, Alloc}
use Rattle.buffer_pool.specs.declared.numbers.Numbers.{Numbers}
use Rattle.buffer_pool.specs.declared.sound.Span.{Span}
use Rattle.buffer_pool.specs.Record.{most_slots}
use Rattle.buffer_pool.specs.Numbers.{bare}
use Rattle.buffer_pool.specs.Soundness.{is_slot_count, back_numbers, alloc_sound}
use Rattle.buffer_pool.specs.SlotPass.{ordered, word_fits, is_back_within, front_counts, mode_numbers, numbers_sound, front_own, own_sound, front_sound, span_of, ordered_in, slots_sound, parts_sound}
use Rattle.buffer_pool.proofs.Parts.{count_bounds}

-- ---- The slot count and the live word

-- a word that fits, and its count of slots
pub word_most : (w live : ℕ) → word_fits w live ≡ true → w ≤ most_slots
unfolding word_fits
word_most w live e = (count_bounds w (both_true (is_slot_count w) _ e).0).1

pub word_below : (w live : ℕ) → word_fits w live ≡ true → live < 2 ^ w
unfolding word_fits
word_below w live e = ltb-true live (2 ^ w) (both_true (is_slot_count w) _ e).1

-- ---- The back's numbers

pub back_begins : (n : Numbers) → is_back_within n ≡ true → n.back_start < n.slots
unfolding is_back_within
back_begins n e = ltb-true n.back_start n.slots (both_true (ltb n.back_start n.slots) _ e).0

pub back_ends : (n : Numbers) → is_back_within n ≡ true → n.back_start + n.back_len ≤ n.slots
unfolding is_back_within
back_ends n e = leb-true (n.back_start + n.back_len) n.slots (both_true (ltb n.back_start n.slots) _ e).1

-- ---- The overflow's numbers

pub overflow_within : (n : Numbers) (b : Bool) → b ≡ leb (n.cursor + n.reserved + 0) n.kept → n.raw_offset ≡ 0
    → n.raw_len ≡ 0 → b ≡ alloc_sound (bare n)
unfolding alloc_sound
overflow_within n b e z y = e ∙ rw (add-zero, eq-eqb n.raw_offset 0 z, eq-eqb n.raw_len 0 y)

-- ---- The numbers by the mode

module _ (n : Numbers) (t : Bool) where
  pub numbers_back : n.mode ≡ Back → t ≡ back_numbers n.slots (bare n) → t ≡ mode_numbers n.mode n
  unfolding mode_numbers
  numbers_back m e = e ∙ ap (λ (x : PoolMode). mode_numbers x n) (sym m)

  pub numbers_front : (f : PoolFront) → n.mode ≡ Front f → t ≡ front_counts n f → t ≡ mode_numbers n.mode n
  unfolding mode_numbers
  numbers_front f m e = e ∙ ap (λ (x : PoolMode). mode_numbers x n) (sym m)

  pub numbers_alloc : n.mode ≡ Alloc → t ≡ alloc_sound (bare n) → t ≡ mode_numbers n.mode n
  unfolding mode_numbers
  numbers_alloc m e = e ∙ ap (λ (x : PoolMode). mode_numbers x n) (sym m)

-- ---- The first part

-- what the other parts need of it
module _ (n : Numbers) (s : Bool) (e : s ≡ numbers_sound n) (h : not s ≡ false) where
  first_parts : (word_fits n.slots n.live ≡ true) × ((is_back_within n && mode_numbers n.mode n) ≡ true)
  unfolding numbers_sound
  first_parts = both_true (word_fits n.slots n.live) _ (sym e ∙ not_false s h)

  pub numbers_most : n.slots ≤ most_slots
  numbers_most = word_most n.slots n.live first_parts.0

  pub numbers_word : n.live < 2 ^ n.slots
  numbers_word = word_below n.slots n.live first_parts.0

  pub numbers_ends : n.back_start + n.back_len ≤ n.slots
  numbers_ends = back_ends n (both_true (is_back_within n) _ first_parts.1).0

  numbers_begins : n.back_start < n.slots
  numbers_begins = back_begins n (both_true (is_back_within n) _ first_parts.1).0

  -- a front has no more slots than lie before the back
  front_slots_lem : (f : PoolFront) → n.mode ≡ Front f → f.back_start ≤ n.back_start
  unfolding mode_numbers front_counts
  front_slots_lem f m =
      let c = ap (λ (x : PoolMode). mode_numbers x n) (sym m) ∙ (both_true (is_back_within n) _ first_parts.1).1 in
      let one = leb_and 1 f.back_start (eqb_and (n.back_start + n.back_len) n.slots c).1 in
      (leb_and f.back_start n.back_start one.1).0

  pub numbers_fronts : (f : PoolFront) → n.mode ≡ Front f → f.back_start ≤ n.slots
  numbers_fronts f m = omega (arith, front_slots_lem f m, numbers_begins)

-- ---- A front

pub own_order : (n : Numbers) (starts lengths : List ℕ) (f : PoolFront) (own : ℕ) → own ≡ last_live n.slots n.live f.back_start → (u : Bool)
    → u ≡ ordered n.slots starts lengths n.live (own - 0) 0 0 n.raw_offset → u ≡ ordered n.slots starts lengths n.live (last_live n.slots n.live f.back_start) 0 0 n.raw_offset
own_order n starts lengths f own d u q = q ∙ ap (λ (k : ℕ). ordered n.slots starts lengths n.live k 0 0 n.raw_offset) (omega (arith, d))

-- ---- The second part

module _ (n : Numbers) (starts lengths : List ℕ) (s : Bool) (e : s ≡ numbers_sound n) where
  pub numbers_fail : not s ≡ true → false ≡ front_sound n starts lengths
  unfolding front_sound
  numbers_fail h = rw (← e, not_true s h)

  module _ (h : not s ≡ false) where
    own_is : front_sound n starts lengths ≡ own_sound n.mode n starts lengths
    unfolding front_sound
    own_is = rw (← e, not_false s h)

    pub own_other : (n.mode ≡ Back) ⊎ (n.mode ≡ Alloc) → true ≡ front_sound n starts lengths
    unfolding own_sound
    own_other (inl m) = sym (own_is ∙ ap (λ (x : PoolMode). own_sound x n starts lengths) m)
    own_other (inr m) = sym (own_is ∙ ap (λ (x : PoolMode). own_sound x n starts lengths) m)

    pub own_front : (f : PoolFront) → n.mode ≡ Front f → (t : Bool) → t ≡ front_own n starts lengths f → t ≡ front_sound n starts lengths
    unfolding own_sound
    own_front f m t q = q ∙ sym (own_is ∙ ap (λ (x : PoolMode). own_sound x n starts lengths) m)

-- what the third part needs of it
module _ (n : Numbers) (starts lengths : List ℕ) (s : Bool) (e : s ≡ front_sound n starts lengths) (h : s ≡ true) where
  held_numbers : true ≡ numbers_sound n
  unfolding front_sound
  held_numbers = sym (both_true (numbers_sound n) _ (sym e ∙ h)).0

  pub front_most : n.slots ≤ most_slots
  front_most = numbers_most n true held_numbers refl

  pub front_word : n.live < 2 ^ n.slots
  front_word = numbers_word n true held_numbers refl

  pub front_ends : n.back_start + n.back_len ≤ n.slots
  front_ends = numbers_ends n true held_numbers refl

-- ---- The third part

module _ (n : Numbers) where
  pub span_back : n.mode ≡ Back → record { first = 0; from = 0; to = n.raw_offset } ≡ span_of n.mode n
  unfolding span_of
  span_back m = ap (λ (x : PoolMode). span_of x n) (sym m)

  pub span_front : (f : PoolFront) → n.mode ≡ Front f
      → record { first = f.back_start; from = f.byte_capacity; to = n.capacity } ≡ span_of n.mode n
  unfolding span_of
  span_front f m = ap (λ (x : PoolMode). span_of x n) (sym m)

  pub span_alloc : n.mode ≡ Alloc → record { first = 0; from = 0; to = n.capacity } ≡ span_of n.mode n
  unfolding span_of
  span_alloc m = ap (λ (x : PoolMode). span_of x n) (sym m)

module _ (n : Numbers) (l : n.live < 2 ^ n.slots) (z : ℕ) (d : z ≡ count_trailing_zeros n.slots n.live) where
  pub last_is : n.slots - z ≡ last_live n.slots n.live n.slots
  last_is = sym (last_zeros_all n.slots n.live l ∙ ap (λ (x : ℕ). n.slots - x) (sym d))

  pub slots_order : (starts lengths : List ℕ) (r : Span) → r ≡ span_of n.mode n → (t : Bool)
      → t ≡ ordered n.slots starts lengths n.live (n.slots - z - r.first) r.first r.from r.to → t ≡ ordered_in (span_of n.mode n) n starts lengths
  unfolding ordered_in
  slots_order starts lengths r i t q = q ∙ rw (last_is, i) refl

-- ---- The three together

module _ (n : Numbers) (starts lengths : List ℕ) (s : Bool) (e : s ≡ front_sound n starts lengths) where
  pub front_fails : not s ≡ true → false ≡ parts_sound n starts lengths
  unfolding parts_sound
  front_fails h = rw (← e, not_true s h)

  pub slots_last : not s ≡ false → (t : Bool) → t ≡ slots_sound n starts lengths → t ≡ parts_sound n starts lengths
  unfolding parts_sound
  slots_last h t q = q ∙ rw (← e, not_false s h)

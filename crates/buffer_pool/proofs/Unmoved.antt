-- Decisions that move no byte: a frame that fits where it is, and a reset with an empty frame. Assumes nothing.
use mathlib.Core.Path.{◌≡◌, refl, sym, ap, ◌∙◌}
use mathlib.Core.Bool.{Bool, true, false, not, ◌&&◌, ◌||◌}
use mathlib.Core.List.{[], ◌∷◌}
use Prim.Native.Nat.{ℕ, ◌+◌, ◌≤◌, ◌<◌, max}
use native.Mathlib.Omega.{arith}
use lib.Dec.{leb, ltb, eqb}
use lib.Count.{count_leading_zeros, count_trailing_zeros}
use borrow.Author.Tests.{lt-ltb, le-ltb, le-leb, leb-true, leb-false, eqb-true}
use Rattle.laws.proofs.Tests.{both_true, no_true, not_true, not_false}
use Rattle.buffer_pool.specs.declared.buffer_pool.BufferPool.{BufferPool}
use Rattle.buffer_pool.specs.declared.buffer_pool.PoolFront.{PoolFront}
use Rattle.buffer_pool.specs.declared.buffer_pool.PoolMode.{PoolMode}
use Rattle.buffer_pool.specs.declared.buffer_pool.PoolMode.TheVariants.{Back, Front, Alloc}
use Rattle.buffer_pool.specs.declared.numbers.Numbers.{Numbers}
use Rattle.buffer_pool.specs.declared.placing.FastPath.{FastPath}
use Rattle.buffer_pool.specs.declared.placing.FastPath.TheVariants.{Settled, StartsOver, Growing, Moving}
use Rattle.buffer_pool.specs.Record.{placed}
use Rattle.buffer_pool.specs.Numbers.{bare}
use Rattle.buffer_pool.specs.Moves.{Grow, within}
use Rattle.buffer_pool.specs.Placing.{Decision, stay, first, tail_fits, head_fits, back_fits, back_on, back_layer, front_fits, front_on, front_layer, stays, alloc_on, alloc_layer, layer, place_of, is_alloc, resets, reset_on, reset_moves, reset, place}
use Rattle.buffer_pool.specs.Deciding.{keeps_in, fits_in, settled, starts_over_in, is_starting_over, growing_here, growing, path, fast_path, kept_to, offered}

-- ---- What the code tests

-- the path of a frame in A
module _ (n : Numbers) (len : ℕ) (s : Bool) (e : s ≡ keeps_in n.slots (bare n)) (p : FastPath) where
  abbrev in_alloc : FastPath
  in_alloc = path (fits_in Alloc n.slots (bare n) len) false (growing_here n.slots (bare n) len)

  pub path_gone : not s ≡ true → p ≡ Moving → p ≡ in_alloc
  unfolding fits_in growing_here path
  path_gone t f = f ∙ rw (← e, not_true s t)

  module _ (t : not s ≡ false) (k : Bool) (g : k ≡ leb (n.cursor + len + 0) n.kept) where
    pub path_kept : k ≡ true → p ≡ Settled → p ≡ in_alloc
    unfolding fits_in path
    path_kept h f = f ∙ rw (← e, not_false s t, ← g, h)

    module _ (h : k ≡ false) (o : Bool) (i : o ≡ leb (n.cursor + len + 0) n.overflow) where
      pub path_grows : o ≡ true → p ≡ Growing → p ≡ in_alloc
      unfolding fits_in growing_here path
      path_grows y f = f ∙ rw (← e, not_false s t, ← g, h, ← i, y)

      pub path_short : o ≡ false → p ≡ Moving → p ≡ in_alloc
      unfolding fits_in growing_here path
      path_short y f = f ∙ rw (← e, not_false s t, ← g, h, ← i, y)

-- the path of any reserve
module _ (n : Numbers) (len : ℕ) (r : Bool) (e : r ≡ resets (bare n)) (p : FastPath) where
  module _ (t : r ≡ true) (b : Bool) (i : b ≡ starts_over_in (bare n) len) where
    pub path_over : b ≡ true → p ≡ StartsOver → p ≡ fast_path n.slots (bare n) len
    unfolding settled is_starting_over growing path
    path_over y f = f ∙ rw (← e, t, ← i, y)

    pub path_reset : b ≡ false → p ≡ Moving → p ≡ fast_path n.slots (bare n) len
    unfolding settled is_starting_over growing path
    path_reset y f = f ∙ rw (← e, t, ← i, y)

  module _ (t : r ≡ false) where
    module _ (m : n.mode ≡ Back) (b : Bool) (i : b ≡ back_fits n.slots (bare n) len) where
      pub path_back : b ≡ true → p ≡ Settled → p ≡ fast_path n.slots (bare n) len
      unfolding settled fits_in path back_fits
      path_back y f = f ∙ rw (← e, t, m, ← i, y)

      pub path_back_full : b ≡ false → p ≡ Moving → p ≡ fast_path n.slots (bare n) len
      unfolding settled is_starting_over growing fits_in path back_fits
      path_back_full y f = f ∙ rw (← e, t, m, ← i, y)

    module _ (g : PoolFront) (m : n.mode ≡ Front g) (b : Bool) (i : b ≡ (ltb g.len g.back_start && front_fits (bare n) g.byte_capacity len)) where
      pub path_front : b ≡ true → p ≡ Settled → p ≡ fast_path n.slots (bare n) len
      unfolding settled fits_in path front_fits is_starting_over growing
      path_front y f = f ∙ rw (← e, t, m, ← i, y)

      pub path_front_full : b ≡ false → p ≡ Moving → p ≡ fast_path n.slots (bare n) len
      unfolding settled is_starting_over growing fits_in path front_fits
      path_front_full y f = f ∙ rw (← e, t, m, ← i, y)

    pub path_alloc : n.mode ≡ Alloc → p ≡ path (fits_in Alloc n.slots (bare n) len) false (growing_here n.slots (bare n) len)
        → p ≡ fast_path n.slots (bare n) len
    unfolding settled is_starting_over growing
    path_alloc m f = f ∙ rw (← e, t, m)

-- what each path says of its test
pub path_settled : (a b c : Bool) → path a b c ≡ Settled → a ≡ true
unfolding path
path_settled true b c e = refl
path_settled false true c e = absurd (cc)
path_settled false false true e = absurd (cc)
path_settled false false false e = absurd (cc)

pub path_starts_over : (a b c : Bool) → path a b c ≡ StartsOver → b ≡ true
unfolding path
path_starts_over true b c e = absurd (cc)
path_starts_over false true c e = refl
path_starts_over false false true e = absurd (cc)
path_starts_over false false false e = absurd (cc)

pub path_growing : (a b c : Bool) → path a b c ≡ Growing → c ≡ true
unfolding path
path_growing true b c e = absurd (cc)
path_growing false true c e = absurd (cc)
path_growing false false true e = refl
path_growing false false false e = absurd (cc)

-- ---- What they decide

-- the decision that moves no byte: a reservation in this record
abbrev pub unmoved : BufferPool → ℕ → Decision
unmoved q len = record { next = offered q len; changes = 0; moves = []; heap = is_alloc q.mode }

-- A keeps a frame that it keeps
keeps_layer : (r : BufferPool) (len : ℕ) → keeps_in r.slots r ≡ true → alloc_layer r.slots false r len ≡ stay Alloc r []
unfolding keeps_in alloc_layer alloc_on tail_fits head_fits
keeps_layer r len = go (stays r.slots false r) refl
  where
    go : (s : Bool) → stays r.slots false r ≡ s → (s || (eqb (count_leading_zeros r.slots r.live) 0 && eqb (count_trailing_zeros r.slots r.live) 0)) ≡ true → alloc_on (stays r.slots false r) (tail_fits r.slots r len) (head_fits r.slots r) r.slots r ≡ stay Alloc r []
    go true e k = rw e
    go false e k =
        let z = both_true (eqb (count_leading_zeros r.slots r.live) 0) _ k in
        rw (e, eqb-true (count_leading_zeros r.slots r.live) 0 z.0, eqb-true (count_trailing_zeros r.slots r.live) 0 z.1)

-- a mode that keeps the frame, with no move
stayed : (mode : PoolMode) (r : BufferPool) (len : ℕ) → fits_in mode r.slots r len ≡ true → r.mode ≡ mode → place_of r.slots 2 false mode r len ≡ unmoved r len
unfolding place_of layer fits_in back_layer back_on front_layer front_on
stayed Back r len e m = rw (e, m)
stayed (Front f) r len e m = rw (e, m)
stayed Alloc r len e m =
    let s = both_true (keeps_in r.slots r) (leb (r.cursor + len + 0) r.kept) e in
    let k : r.cursor + len ≤ r.kept = omega (arith, leb-true (r.cursor + len + 0) r.kept s.1) in
    let x : max r.kept (r.cursor + len) ≡ r.kept = omega (arith, k) in
    rw (keeps_layer r len s.0, m, le-ltb r.kept (r.cursor + len) k, x)

pub settled_place : (r : BufferPool) (len : ℕ) → settled r.slots r len ≡ true → place r.slots r len ≡ unmoved r len
unfolding settled place reset reset_on reset_moves
settled_place r len e =
    let s = both_true (not (resets r)) (fits_in r.mode r.slots r len) e in
    rw (not_true (resets r) s.0) (stayed r.mode r len s.1 refl)

-- a reset puts an empty frame of the pool at its start
pub over_place : (r : BufferPool) (len : ℕ) → 0 < r.slots → is_starting_over r len ≡ true → place r.slots r len ≡ unmoved (placed r Back 0 0 0 0) len
unfolding is_starting_over starts_over_in place reset reset_on reset_moves back_fits fits_in
over_place r len y e =
    let a = both_true (resets r) _ e in
    let b = both_true (not (is_alloc r.mode)) _ a.1 in
    let c = both_true (eqb r.raw_len 0) _ b.1 in
    let z = eqb-true r.raw_len 0 c.0 in
    let l = leb-true len r.capacity c.1 in
    let f : leb (0 + r.raw_len + len) r.capacity ≡ true = le-leb (0 + r.raw_len + len) r.capacity (omega (arith, z, l)) in
    rw a.0 (over r.mode (not_true (is_alloc r.mode) b.0) z (stayed Back (placed r Back 0 0 0 0) len (rw (f, lt-ltb 0 r.slots y) refl) refl))
  where
    -- an empty frame is not moved
    none : r.raw_len ≡ 0
        → first (within r.raw_offset r.raw_len 0) (place_of r.slots 2 false Back (placed r Back 0 0 0 0) len) ≡ place_of r.slots 2 false Back (placed r Back 0 0 0 0) len
    none z = ap (λ (n : ℕ). first (within r.raw_offset n 0) (place_of r.slots 2 false Back (placed r Back 0 0 0 0) len)) z

    over : (mode : PoolMode) → is_alloc mode ≡ false → r.raw_len ≡ 0 → place_of r.slots 2 false Back (placed r Back 0 0 0 0) len ≡ unmoved (placed r Back 0 0 0 0) len
        → first (reset_moves true (ltb r.cursor r.capacity) (eqb r.cursor 0) mode r)
        (place_of r.slots 2 false (reset_on true (ltb r.cursor r.capacity) (eqb r.cursor 0) mode r).mode (reset_on true (ltb r.cursor r.capacity) (eqb r.cursor 0) mode r) len)
        ≡ unmoved (placed r Back 0 0 0 0) len
    over Back n z h = none z ∙ h
    over (Front g) n z h = none z ∙ h
    over Alloc n z h = absurd (no_true (sym n))

-- the decision that clears bytes of the overflow after the kept ones
abbrev pub grown : BufferPool → ℕ → Decision
grown r len =
    record { next = offered (kept_to r (r.cursor + len)) len; changes = 0; moves = Grow r.kept (r.cursor + len) ∷ []; heap = true }

grown_in : (mode : PoolMode) (r : BufferPool) (len : ℕ) → is_alloc mode ≡ true → r.mode ≡ mode → keeps_in r.slots r ≡ true → r.kept < r.cursor + len → place_of r.slots 2 false mode r len ≡ grown r len
unfolding place_of layer
grown_in Back r len a m c k = absurd (no_true a)
grown_in (Front f) r len a m c k = absurd (no_true a)
grown_in Alloc r len a m c k =
    let x : max r.kept (r.cursor + len) ≡ r.cursor + len = omega (arith, k) in
    rw (keeps_layer r len c, m, lt-ltb r.kept (r.cursor + len) k, x)

pub growing_place : (r : BufferPool) (len : ℕ) → growing r.slots r len ≡ true
    → (place r.slots r len ≡ grown r len) × (r.cursor + len ≤ r.overflow) × (r.kept < r.cursor + len)
unfolding growing growing_here place reset reset_on reset_moves
growing_place r len e =
    let a = both_true (not (resets r)) _ e in
    let b = both_true (is_alloc r.mode) _ a.1 in
    let c = both_true (keeps_in r.slots r) _ b.1 in
    let d = both_true (leb (r.cursor + len + 0) r.overflow) _ c.1 in
    let k : r.kept < r.cursor + len = omega (arith, leb-false (r.cursor + len + 0) r.kept (not_true _ d.1)) in (
      rw (not_true (resets r) a.0) (grown_in r.mode r len b.0 refl c.0 k),
      omega (arith, leb-true (r.cursor + len + 0) r.overflow d.0),
      k,
    )

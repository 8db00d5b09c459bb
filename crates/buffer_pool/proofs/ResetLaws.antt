-- The reset and the whole decision of a reserve, from what the code of placing.rt knows where it returns. Assumes nothing.
use mathlib.Core.Path.{◌≡◌, refl, sym, ap, ◌∙◌, subst}
use Rattle.std.specs.Prelude.{Option, Some, None}
use mathlib.Core.Bool.{Bool, true, false}
use mathlib.Core.List.{List, ◌++◌}
use mathlib.Core.Logic.{◌⊎◌, inl, inr}
use Prim.Native.Nat.{ℕ, ◌-◌, ◌≤◌, ◌<◌}
use native.Mathlib.Nat.{zero-add}
use native.Mathlib.Omega.{arith}
use lib.Dec.{ltb, eqb}
use borrow.Author.Tests.{lt-ltb, le-ltb, eq-eqb, ne_eqb, eqb-true}
use Rattle.laws.proofs.Tests.{no_true}
use Rattle.buffer_pool.specs.declared.buffer_pool.Entries.{Entries}
use Rattle.buffer_pool.specs.Numbers.{cleared}
use Rattle.buffer_pool.specs.declared.buffer_pool.BufferPool.{BufferPool}
use Rattle.buffer_pool.specs.declared.buffer_pool.PoolFront.{PoolFront}
use Rattle.buffer_pool.specs.declared.buffer_pool.PoolMode.{PoolMode}
use Rattle.buffer_pool.specs.declared.buffer_pool.PoolMode.TheVariants.{Back, Front, Alloc}
use Rattle.buffer_pool.specs.declared.numbers.Numbers.{Numbers}
use Rattle.buffer_pool.specs.declared.route.Route.{Route}
use Rattle.buffer_pool.specs.declared.placing.ResetEffect.TheVariants.{Nothing, BringsFrame, ClearsEntries}
use Rattle.buffer_pool.specs.declared.placing.Start.{Start}
use Rattle.buffer_pool.specs.declared.placing.Decided.{Decided}
use Rattle.buffer_pool.specs.Record.{placed, framed}
use Rattle.buffer_pool.specs.Numbers.{numbers_of, plain, bare}
use Rattle.buffer_pool.specs.Placing.{Decision, is_alloc, resets, reset_on, reset_moves, reset, place_of, place, is_too_long}
use Rattle.buffer_pool.specs.Deciding.{Placeable, Decides, decision_of, route_moves, stayed_at, following, start, is_clearing, start_on, start_of, entries, start_moves, all_moves}
use Rattle.buffer_pool.proofs.LayerLaws.{within_same, within_empty}
use Rattle.buffer_pool.proofs.RouteLaws.{stayed_moves}
use Rattle.buffer_pool.proofs.DecidingLaws.{placeable_as, placeable_bare}

-- ---- The reset

module _ (n : Numbers) where
  abbrev at_start : Numbers
  at_start = numbers_of (placed (bare n) Back 0 0 0 0)

  pub reset_stays : n.capacity ≤ n.cursor → (q : Numbers) → q ≡ numbers_of (placed (bare n) Alloc n.back_start n.back_len 0 n.raw_offset)
      → start Nothing q ≡ start_on true (ltb n.cursor n.capacity) (eqb n.cursor 0) Alloc n
  unfolding start_on
  reset_stays h q e = rw (e, le-ltb n.cursor n.capacity h)

  module _ (h : n.cursor < n.capacity) (q : Numbers) (e : q ≡ at_start) where
    pub reset_empty : n.cursor ≡ 0 → start ClearsEntries q ≡ start_on true (ltb n.cursor n.capacity) (eqb n.cursor 0) Alloc n
    unfolding start_on
    reset_empty c = rw (e, lt-ltb n.cursor n.capacity h, eq-eqb n.cursor 0 c)

    pub reset_brings : (n.cursor ≡ 0 → ⊥) → (r : Numbers) → r ≡ numbers_of (framed (bare q) Back 0 n.cursor (n.kept - n.cursor) 0 n.reserved)
        → start BringsFrame r ≡ start_on true (ltb n.cursor n.capacity) (eqb n.cursor 0) Alloc n
    unfolding start_on
    reset_brings c r f = rw (f, e, lt-ltb n.cursor n.capacity h, ne_eqb n.cursor 0 c)

  -- by the mode
  module _ (s : Start) where
    abbrev by_mode : PoolMode → Type 0
    by_mode mode = s ≡ start_on true (ltb n.cursor n.capacity) (eqb n.cursor 0) mode n

    pub reset_pool : (n.mode ≡ Back) ⊎ ((f : PoolFront) × (n.mode ≡ Front f)) → (q : Numbers) → q ≡ at_start → s ≡ start Nothing q → by_mode n.mode
    unfolding start_on
    reset_pool (inl m) q e i = subst by_mode (sym m) (i ∙ ap (start Nothing) e)
    reset_pool (inr (f, m)) q e i = subst by_mode (sym m) (i ∙ ap (start Nothing) e)

    module _ (b : Bool) (e : b ≡ resets (bare n)) where
      pub begins_reset : b ≡ true → by_mode n.mode → s ≡ start_of n
      unfolding start_of
      begins_reset t f = f ∙ rw (← e, t)

  pub begins_here : (b : Bool) → b ≡ resets (bare n) → b ≡ false → start Nothing n ≡ start_of n
  unfolding start_of start_on
  begins_here b e t = rw (← e, t)

  pub alloc_kept : (is_alloc n.mode ≡ true → n.cursor ≤ n.kept) → n.mode ≡ Alloc → n.cursor ≤ n.kept
  alloc_kept k m = k (rw m)

-- ---- Where a reserve starts

module _ (n : Numbers) (S L : List ℕ) where
  -- the definition's record
  started_on : (a t z : Bool) (mode : PoolMode)
      → reset_on a t z mode (plain n S L) ≡ plain (start_on a t z mode n).numbers (entries (start_on a t z mode n) S) (entries (start_on a t z mode n) L)
  unfolding reset_on start_on entries
  started_on false t z mode = refl
  started_on true t z Back = refl
  started_on true t z (Front f) = refl
  started_on true true true Alloc = refl
  started_on true true false Alloc = refl
  started_on true false z Alloc = refl

  pub started : (s : Start) → s ≡ start_of n → reset (plain n S L) ≡ plain s.numbers (entries s S) (entries s L)
  unfolding reset start_of resets
  started s e =
      started_on (resets (plain n S L)) (ltb n.cursor n.capacity) (eqb n.cursor 0) n.mode
      ∙ ap (λ (x : Start). plain x.numbers (entries x S) (entries x L)) (sym e)

  -- and its moves: a frame of A is none of the pool's
  moves_on : (a t z : Bool) (mode : PoolMode) → (is_alloc mode ≡ true → n.raw_len ≡ 0)
      → reset_moves a t z mode (plain n S L) ≡ start_moves n (start_on a t z mode n)
  unfolding reset_moves start_on start_moves
  moves_on false t z mode k = sym (within_same n.raw_offset n.raw_len n.raw_offset refl)
  moves_on true t z Back k = refl
  moves_on true t z (Front f) k = refl
  moves_on true true true Alloc k = sym (within_empty n.raw_offset n.raw_len 0 (k refl))
  moves_on true true false Alloc k = refl
  moves_on true false z Alloc k = sym (within_same n.raw_offset n.raw_len n.raw_offset refl)

  pub start_moves_lem : (is_alloc n.mode ≡ true → n.raw_len ≡ 0) → (s : Start) → s ≡ start_of n
      → reset_moves (resets (plain n S L)) (ltb n.cursor n.capacity) (eqb n.cursor 0) n.mode (plain n S L) ≡ start_moves n s
  unfolding start_of resets
  start_moves_lem k s e =
      moves_on (resets (plain n S L)) (ltb n.cursor n.capacity) (eqb n.cursor 0) n.mode k ∙ ap (start_moves n) (sym e)

reset_placeable : (w : ℕ) (p : BufferPool) → Placeable w p → (a short empty : Bool) → eqb p.cursor 0 ≡ empty → (mode : PoolMode)
    → p.mode ≡ mode → Placeable w (reset_on a short empty mode p)
unfolding reset_on
reset_placeable w p P false short empty z mode m = P
reset_placeable w p P true short empty z Back m =
    placeable_as w p P _ refl refl (omega arith) (omega arith) (λ _. P.no_cursor (rw m)) (λ e. absurd (no_true e))
reset_placeable w p P true short empty z (Front f) m =
    placeable_as w p P _ refl refl (omega arith) (omega arith) (λ _. P.no_cursor (rw m)) (λ e. absurd (no_true e))
reset_placeable w p P true true true z Alloc m =
    placeable_as w p P _ refl refl (omega arith) (omega arith) (λ _. eqb-true p.cursor 0 z) (λ e. absurd (no_true e))
reset_placeable w p P true true false z Alloc m =
    placeable_as w p P _ refl refl (omega arith) (omega arith) (λ _. refl) (λ e. absurd (no_true e))
reset_placeable w p P true false empty z Alloc m =
    placeable_as w p P _ refl refl P.back_within (omega arith) (λ e. absurd (no_true (sym e))) (λ _. P.no_len (rw m))

-- ---- The whole decision

module _ (n : Numbers) (S L : List ℕ) (P : Placeable n.slots (plain n S L)) (s : Start) (e : s ≡ start_of n) where
  next : Placeable n.slots (plain s.numbers (entries s S) (entries s L))
  unfolding reset
  next = subst (Placeable n.slots) (started n S L s e) (reset_placeable n.slots (plain n S L) P (resets (plain n S L)) _ (eqb n.cursor 0) refl n.mode refl)

  pub start_placeable : Placeable s.numbers.slots (bare s.numbers)
  start_placeable =
      subst (λ (w : ℕ). Placeable w (bare s.numbers)) (sym next.count_is) (placeable_bare n.slots s.numbers (entries s S) (entries s L) next)

  -- what the code decides from the start, with the reset's moves before it, is the whole
  module _ (len : ℕ) (d : Option Decided)
      (D : Decides (entries s S) (entries s L) d (place_of s.numbers.slots 2 false s.numbers.mode (plain s.numbers (entries s S) (entries s L)) len) len) where
    abbrev rest : Decision
    rest = place_of n.slots 2 false s.numbers.mode (plain s.numbers (entries s S) (entries s L)) len

    from_start : Decides (entries s S) (entries s L) d rest len
    from_start =
        subst (λ (w : ℕ). Decides (entries s S) (entries s L) d (place_of w 2 false s.numbers.mode (plain s.numbers (entries s S) (entries s L)) len) len) next.count_is D

    whole : place n.slots (plain n S L) len ≡ record { next = rest.next; changes = rest.changes; moves = start_moves n s ++ rest.moves; heap = rest.heap }
    unfolding place
    whole = rw (started n S L s e, start_moves_lem n S L P.no_len s e)

    pub place_long : d ≡ None → is_too_long (place n.slots (plain n S L) len) len ≡ true
    unfolding is_too_long
    place_long t = ap (λ (x : Decision). is_too_long x len) whole ∙ from_start.too_long t

    module _ (x : Decided) (t : d ≡ Some x) where
      pub place_fits : is_too_long (place n.slots (plain n S L) len) len ≡ false
      unfolding is_too_long
      place_fits = ap (λ (x : Decision). is_too_long x len) whole ∙ from_start.fits x t

      pub place_is : place n.slots (plain n S L) len
          ≡ record { next = plain x.numbers (entries s S) (entries s L); changes = x.changes; moves = all_moves n s x; heap = is_alloc x.numbers.mode }
      unfolding all_moves decision_of
      place_is = let y = from_start.decision x t in whole ∙ rw (← y) refl

-- from where it starts, in arrays that are cleared or not
module _ (s : Start) (S L : List ℕ) (len : ℕ) (g : Route) (i : g ≡ stayed_at s.numbers.raw_offset s.numbers.raw_len) (c : Option Decided) where
  abbrev Placed : List ℕ → List ℕ → Type 0
  Placed S L = Decides S L c (place_of s.numbers.slots 2 false s.numbers.mode (plain s.numbers S L) len) len

  abbrev After : List ℕ → List ℕ → Type 0
  After S L = Decides S L c (following (route_moves g) 0 (place_of s.numbers.slots 2 false s.numbers.mode (plain s.numbers S L) len)) len

  after_none : (A B : List ℕ) → After A B → Placed A B
  unfolding following
  after_none A B D =
      subst (λ (x : Decision). Decides A B c x len) (rw (ap route_moves i ∙ stayed_moves s.numbers.raw_offset s.numbers.raw_len, zero-add) refl) D

  pub places_cleared : (b : Bool) → b ≡ is_clearing s.effect → b ≡ true → (E F : Entries) → E ≡ cleared F → F.starts ≡ S → F.lengths ≡ L → After E.starts E.lengths
      → Placed (entries s S) (entries s L)
  unfolding entries
  places_cleared x u t E F e a b D =
      rw (← u, t, ← a, ← b) (subst (λ (x : Entries). Placed x.starts x.lengths) e (after_none E.starts E.lengths D))

  pub places_kept : (b : Bool) → b ≡ is_clearing s.effect → b ≡ false → After S L → Placed (entries s S) (entries s L)
  unfolding entries
  places_kept x u t D = rw (← u, t) (after_none S L D)

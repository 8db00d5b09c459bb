-- A reserve on a record's numbers, from what the code of lent.rt knows where it returns: the moves of its decision made, and that what
-- it gives is the definition's outcome. Assumes nothing.
use mathlib.Core.Path.{◌≡◌, refl, sym, ap, ap₂, ◌∙◌, subst}
use mathlib.Core.Bool.{Bool, true, false, not, ◌&&◌}
use mathlib.Core.List.{List, [], ◌∷◌, ◌++◌}
use Prim.Native.Nat.{ℕ, ◌+◌, ◌-◌, ◌≤◌, ◌<◌}
use native.Mathlib.Omega.{arith}
use lib.Dec.{ltb, leb}
use lib.ListN.{length}
use borrow.Author.Tests.{lt-ltb, le-ltb, leb-true}
use Rattle.std.specs.Prelude.{Result, Ok, Err, Option, Some, None}
use Rattle.laws.specs.Tests.{pick}
use Rattle.laws.specs.Lists.{copied, moved, zeroed}
use Rattle.laws.proofs.Tests.{both_true, no_true}
use mathlib.Core.Logic.{◌⊎◌, inl, inr}
use Rattle.buffer_pool.specs.declared.placing.ResetEffect.TheVariants.{Nothing, BringsFrame, ClearsEntries}
use Rattle.buffer_pool.specs.declared.placing.FastPath.TheVariants.{Settled, StartsOver, Growing}
use Rattle.buffer_pool.specs.declared.buffer_pool.BufferPool.{BufferPool}
use Rattle.buffer_pool.specs.declared.buffer_pool.PoolMode.{PoolMode}
use Rattle.buffer_pool.specs.declared.buffer_pool.PoolMode.TheVariants.{Back, Front, Alloc}
use Rattle.buffer_pool.specs.declared.buffer_pool.Answer.TheVariants.{Reserved}
use Rattle.buffer_pool.specs.declared.buffer_pool.Entries.{Entries}
use Rattle.buffer_pool.specs.declared.buffer_pool.Place.{Place}
use Rattle.buffer_pool.specs.declared.refusals.Refusal.{Refusal}
use Rattle.buffer_pool.specs.declared.lent.Reserving.{Reserving}
use Rattle.buffer_pool.specs.Record.{placed}
use Rattle.buffer_pool.specs.Numbers.{Rest, Whole, numbers_of, rest_in, filled, plain, bare, zeros, with_entries}
use Rattle.buffer_pool.specs.Sound.{Orderly}
use Rattle.buffer_pool.specs.Steps.{called, refused, frame, reservation, reserve_on, reserve_step}
use Rattle.buffer_pool.specs.Steps as steps
use Rattle.buffer_pool.specs.Calls.{outcome, guard, reserve}
use Rattle.buffer_pool.specs.Lent.{reserved_on, reserve_called}
use Rattle.buffer_pool.specs.Lent as lent
use Rattle.buffer_pool.proofs.Soundness.{sound_use}
use Rattle.buffer_pool.proofs.MovesInside.{moves_inside}
use Rattle.buffer_pool.proofs.ReserveKept.{place_orderly}
use Rattle.buffer_pool.proofs.Unchanged.{place_capacity, place_overflow}
use Rattle.buffer_pool.proofs.RestLaws.{restored, guard_rest, place_rest, long_rest}
use Rattle.buffer_pool.proofs.LentLaws.{frame_filled, reservation_filled}
use Rattle.buffer_pool.proofs.Unmoved.{unmoved, settled_place, over_place, grown, growing_place, path_settled, path_starts_over, path_growing}
use Rattle.buffer_pool.proofs.ResetLaws.{start_placeable, place_long, place_is, place_fits}
use Rattle.buffer_pool.proofs.CallLaws.{turned_away, let_through, through_sound, through_orderly, through_worded, through_pool, through_overflow, frame_end_lem, orderly_placeable, orderly_cursor}
use Rattle.buffer_pool.specs.declared.numbers.Numbers.{Numbers}
use Rattle.buffer_pool.specs.declared.placing.FastPath.{FastPath}
use Rattle.buffer_pool.specs.declared.placing.Start.{Start}
use Rattle.buffer_pool.specs.declared.placing.Decided.{Decided}
use Rattle.buffer_pool.specs.declared.refusals.Refusal.TheVariants.{OverflowTooShort}
use Rattle.buffer_pool.specs.Moves.{Memories, memories, In, Down, act, perform, within, inside, all_inside}
use Rattle.buffer_pool.specs.Placing.{Decision, grows, back_fits, front_fits, stays, clearable, is_alloc, resets, place_of, place, is_too_long}
use Rattle.buffer_pool.specs.Deciding.{Worded, Placeable, Decides, route_moves, start_on, start_of, entries, start_moves, all_moves, keeps_in, fits_in, settled, is_starting_over, fast_path, growing_here, growing, kept_to, offered, is_bringing, is_clearing, starts_over_in}
use Rattle.buffer_pool.proofs.MovesMade.{perform_append, perform_within}
use Rattle.buffer_pool.proofs.RouteLaws.{inside_parts, within_pool}

-- ---- The moves of the reset

module _ (n : Numbers) (s : Start) (c o : ℕ) (h : all_inside c o (start_moves n s) ≡ true) where
  module _ (t : s.effect ≡ BringsFrame) where
    brings : all_inside c o (In n.cursor ∷ Down n.cursor (n.kept - n.cursor) ∷ []) ≡ true
    unfolding start_moves
    brings = rw t at h

    first : inside c o (In n.cursor) ≡ true
    unfolding all_inside
    first = (both_true (inside c o (In n.cursor)) _ brings).0

    second : inside c o (Down n.cursor (n.kept - n.cursor)) ≡ true
    unfolding all_inside
    second = (both_true (inside c o (Down n.cursor (n.kept - n.cursor))) _ (both_true (inside c o (In n.cursor)) _ brings).1).0

    pub brought_pool : n.cursor ≤ c
    unfolding inside
    brought_pool = leb-true n.cursor c (both_true (leb n.cursor o) _ first).1

    pub brought_kept : (is_bringing s.effect ≡ true → n.cursor ≤ n.kept) → n.cursor ≤ n.kept
    brought_kept k = k (ap is_bringing t)

    pub brought_overflow : (is_bringing s.effect ≡ true → n.cursor ≤ n.kept) → n.kept ≤ o
    unfolding inside
    brought_overflow k = omega (arith, k (ap is_bringing t), leb-true (n.cursor + (n.kept - n.cursor)) o second)

  pub reset_to_inside : (s.effect ≡ Nothing) ⊎ (s.effect ≡ ClearsEntries) → all_inside c 0 (within n.raw_offset n.raw_len s.numbers.raw_offset) ≡ true
  unfolding start_moves
  reset_to_inside (inl t) = within_pool c o n.raw_offset n.raw_len s.numbers.raw_offset (rw t at h)
  reset_to_inside (inr t) = within_pool c o n.raw_offset n.raw_len s.numbers.raw_offset (rw t at h)

module _ (n : Numbers) (s : Start) (pool overflow : List ℕ) where
  pub reset_brought : s.effect ≡ BringsFrame → (to left : List ℕ) → to ≡ copied overflow 0 n.cursor pool 0
      → left ≡ moved overflow n.cursor (n.kept - n.cursor) 0 → memories to left ≡ perform (start_moves n s) (memories pool overflow)
  unfolding start_moves perform act
  reset_brought t to left a b = rw (t, a, b) refl

  pub reset_moved : (s.effect ≡ Nothing) ⊎ (s.effect ≡ ClearsEntries) → (to : List ℕ) → to ≡ moved pool n.raw_offset n.raw_len s.numbers.raw_offset
      → memories to overflow ≡ perform (start_moves n s) (memories pool overflow)
  unfolding start_moves
  reset_moved (inl t) to a = rw (t, a) (sym (perform_within (memories pool overflow) n.raw_offset n.raw_len s.numbers.raw_offset))
  reset_moved (inr t) to a = rw (t, a) (sym (perform_within (memories pool overflow) n.raw_offset n.raw_len s.numbers.raw_offset))

-- ---- The growth

perform_grows : (pool overflow : List ℕ) (start end : ℕ)
    → perform (grows (ltb start end) start end) (memories pool overflow) ≡ memories pool (pick (ltb start end) (zeroed overflow start end) overflow)
unfolding perform act
perform_grows pool overflow start end = go (ltb start end)
  where
    go : (b : Bool) → perform (grows b start end) (memories pool overflow) ≡ memories pool (pick b (zeroed overflow start end) overflow)
    go true = refl
    go false = refl

-- ---- All moves

module _ (n : Numbers) (s : Start) (d : Decided) (c o : ℕ) (h : all_inside c o (all_moves n s d) ≡ true) where
  parts : (all_inside c o (start_moves n s) ≡ true) × (all_inside c o (route_moves d.route ++ grows (ltb d.kept d.numbers.kept) d.kept d.numbers.kept) ≡ true)
  unfolding all_moves
  parts = inside_parts c o (start_moves n s) _ h

  pub reset_inside : all_inside c o (start_moves n s) ≡ true
  reset_inside = parts.0

  rest : (all_inside c o (route_moves d.route) ≡ true) × (all_inside c o (grows (ltb d.kept d.numbers.kept) d.kept d.numbers.kept) ≡ true)
  rest = inside_parts c o (route_moves d.route) _ parts.1

  module _ (c' o' : ℕ) (e : c' ≡ c) (f : o' ≡ o) where
    pub route_inside : all_inside c' o' (route_moves d.route) ≡ true
    route_inside = rw (e, f) rest.0

  pub growth_inside : (o' : ℕ) → o' ≡ o → d.kept < d.numbers.kept → d.numbers.kept ≤ o'
  unfolding all_inside inside
  growth_inside o' f l =
      rw f (leb-true d.numbers.kept o (both_true (leb d.kept d.numbers.kept) _ (both_true (leb d.kept d.numbers.kept && leb d.numbers.kept o) true (rw (lt-ltb d.kept d.numbers.kept l) at rest.1)).0).1)

pub all_made : (n : Numbers) (s : Start) (d : Decided) (pool overflow p q p' q' left : List ℕ)
    → memories p q ≡ perform (start_moves n s) (memories pool overflow) → memories p' q' ≡ perform (route_moves d.route) (memories p q)
    → left ≡ pick (ltb d.kept d.numbers.kept) (zeroed q' d.kept d.numbers.kept) q'
    → memories p' left ≡ perform (all_moves n s d) (memories pool overflow)
unfolding all_moves
all_made n s d pool overflow p q p' q' left a b e =
    rw (
      perform_append (start_moves n s) _ (memories pool overflow),
      ← a,
      perform_append (route_moves d.route) _ (memories p q),
      ← b,
      perform_grows p' q' d.kept d.numbers.kept,
      e,
    ) refl

-- ---- Tests that read no array

module _ (n : Numbers) (S L : List ℕ) (o : Rest) (len : ℕ) where
  fits_filled : (mode : PoolMode) → fits_in mode n.slots (bare n) len ≡ fits_in mode n.slots (filled n S L o) len
  unfolding fits_in back_fits front_fits keeps_in stays clearable
  fits_filled Back = refl
  fits_filled (Front f) = refl
  fits_filled Alloc = refl

  settled_filled : settled n.slots (bare n) len ≡ settled n.slots (filled n S L o) len
  unfolding settled resets
  settled_filled = rw (fits_filled n.mode) refl

  over_filled : is_starting_over (bare n) len ≡ is_starting_over (filled n S L o) len
  unfolding is_starting_over starts_over_in resets
  over_filled = refl

  growing_filled : growing n.slots (bare n) len ≡ growing n.slots (filled n S L o) len
  unfolding growing growing_here keeps_in stays clearable resets
  growing_filled = refl

pub worded_bare : (n : Numbers) (S L : List ℕ) → Worded (plain n S L) → Worded (bare n)
worded_bare n S L W = record { most = W.most; word = W.word }

-- ---- A reserve that moves no byte

module _ (p : BufferPool) (m : Memories) (len : ℕ) (e : Ok tt ≡ guard p.slots p m) where
  unmoved_fits : (q : BufferPool) → (is_alloc q.mode ≡ true → q.cursor + len ≤ q.overflow) → is_too_long (unmoved q len) len ≡ false
  unfolding is_too_long
  unmoved_fits q h = go (is_alloc q.mode) h
    where
      go : (a : Bool) → (a ≡ true → q.cursor + len ≤ q.overflow) → (a && ltb q.overflow (q.cursor + len)) ≡ false
      go true h = le-ltb q.overflow (q.cursor + len) (h refl)
      go false h = refl

  -- the outcome, from the decision
  decided_outcome : (d : Decision) → place p.slots p len ≡ d → is_too_long d len ≡ false
      → reserve p.slots p m len ≡ outcome (steps.reserved d.next d.changes) (perform d.moves m) []
  unfolding reserve reserve_step reserve_on
  decided_outcome d i t = sym (let_through p m e [] _ _ (rw (i, t)))

  -- and where its frame ends
  decided_sum : (d : Decision) → place p.slots p len ≡ d → is_too_long d len ≡ false → (frame d.next).start + (frame d.next).length ≤ 18446744073709551615
  decided_sum d i t =
      let S = sound_use p.slots p (through_sound p m e) in
      subst (λ (x : Decision). (frame x.next).start + (frame x.next).length ≤ 18446744073709551615) i
      (frame_end_lem p.slots (place p.slots p len).next (place_orderly p.slots p len S.orderly (ap (λ (x : Decision). is_too_long x len) i ∙ t))
      (omega (arith, place_capacity p.slots p len, S.capacity_limit)) (omega (arith, place_overflow p.slots p len, S.overflow_limit)))

  settled_fits : settled p.slots p len ≡ true → is_too_long (unmoved p len) len ≡ false
  unfolding settled fits_in
  settled_fits t = unmoved_fits p (λ a. go p.mode a (both_true (not (resets p)) (fits_in p.mode p.slots p len) t).1)
    where
      go : (mode : PoolMode) → is_alloc mode ≡ true → fits_in mode p.slots p len ≡ true → p.cursor + len ≤ p.overflow
      go Back a h = absurd (no_true a)
      go (Front f) a h = absurd (no_true a)
      go Alloc a h =
          omega (arith, leb-true (p.cursor + len + 0) p.kept (both_true (keeps_in p.slots p) (leb (p.cursor + len + 0) p.kept) h).1, (through_orderly p m e).kept_within)

  over_is : is_starting_over p len ≡ true → place p.slots p len ≡ unmoved (placed p Back 0 0 0 0) len
  over_is t = over_place p len (omega (arith, (through_orderly p m e).ready.start_below)) t

  over_fits : is_too_long (unmoved (placed p Back 0 0 0 0) len) len ≡ false
  over_fits = unmoved_fits (placed p Back 0 0 0 0) (λ a. absurd (no_true a))

  grown_fits : growing p.slots p len ≡ true → is_too_long (grown p len) len ≡ false
  unfolding is_too_long
  grown_fits t = le-ltb p.overflow (p.cursor + len) (growing_place p len t).1

-- ---- What the code of a reserve knows once the guard let it through

module _ (n : Numbers) (E : Entries) (W : Whole E) (m : Memories) (g : Ok tt ≡ guard n.slots (with_entries n E) m) where
  abbrev S : List ℕ
  S = E.starts

  abbrev L : List ℕ
  L = E.lengths

  abbrev o : Rest
  o = rest_in E

  abbrev p : BufferPool
  p = with_entries n E

  e : Ok tt ≡ guard n.slots (plain n S L) m
  e = g ∙ guard_rest n.slots n S L o W.rest_all m

  orderly : Orderly n.slots (plain n S L)
  orderly = through_orderly (plain n S L) m e

  pub passed_worded : Worded (bare n)
  passed_worded = worded_bare n S L (through_worded (plain n S L) m e)

  pub passed_back : n.back_start + n.back_len ≤ n.slots
  passed_back = orderly.ready.back_within

  pub passed_cursor : is_alloc n.mode ≡ true → n.cursor ≤ n.kept
  passed_cursor = orderly_cursor (plain n S L) orderly

  pub passed_start : (s : Start) → s ≡ start_of n → Placeable s.numbers.slots (bare s.numbers)
  passed_start s f = start_placeable n S L (orderly_placeable (plain n S L) orderly) s f

  brought_alloc : (a t y : Bool) (mode : PoolMode) → is_bringing (start_on a t y mode n).effect ≡ true → is_alloc mode ≡ true
  unfolding start_on
  brought_alloc false t y mode q = absurd (no_true q)
  brought_alloc true t y Back q = absurd (no_true q)
  brought_alloc true t y (Front f) q = absurd (no_true q)
  brought_alloc true t y Alloc q = refl

  pub passed_brought : (s : Start) → s ≡ start_of n → is_bringing s.effect ≡ true → n.cursor ≤ n.kept
  unfolding start_of
  passed_brought s f t = passed_cursor (brought_alloc _ _ _ n.mode (ap (λ (x : Start). is_bringing x.effect) (sym f) ∙ t))

  module _ (len : ℕ) (u : FastPath) (i : u ≡ fast_path n.slots (bare n) len) (t : u ≡ Settled) (q : Numbers) (f : q ≡ numbers_of (offered (bare n) len)) where
    pub settled_sum : (frame (bare q)).start + (frame (bare q)).length ≤ 18446744073709551615
    settled_sum =
        let y = sym (settled_filled n S L zeros len) ∙ path_settled _ _ _ (sym i ∙ t) in
        rw (f, frame_filled (numbers_of (offered (bare n) len)) S L zeros n.mode)
        (decided_sum (plain n S L) m len e (unmoved (plain n S L) len) (settled_place (plain n S L) len y) (settled_fits (plain n S L) m len e y))

  module _ (len : ℕ) (u : FastPath) (i : u ≡ fast_path n.slots (bare n) len) (t : u ≡ Growing) where
    grows_is : growing n.slots (plain n S L) len ≡ true
    grows_is = sym (growing_filled n S L zeros len) ∙ path_growing _ _ _ (sym i ∙ t)

    pub grown_kept : n.kept ≤ n.cursor + len
    grown_kept = omega (arith, (growing_place (plain n S L) len grows_is).2)

    pub grown_overflow : (l : ℕ) → l ≡ length m.overflow → n.cursor + len ≤ l
    grown_overflow l y = omega (arith, y, (growing_place (plain n S L) len grows_is).1, through_overflow (plain n S L) m e)

    pub grown_sum : (q : Numbers) → q ≡ numbers_of (offered (kept_to (bare n) (n.cursor + len)) len) → (frame (bare q)).start + (frame (bare q)).length ≤ 18446744073709551615
    grown_sum q f =
        rw (f, frame_filled (numbers_of (offered (kept_to (bare n) (n.cursor + len)) len)) S L zeros n.mode)
        (decided_sum (plain n S L) m len e (grown (plain n S L) len) (growing_place (plain n S L) len grows_is).0 (grown_fits (plain n S L) m len e grows_is))

  module _ (len : ℕ) (s : Start) (f : s ≡ start_of n) (c : Option Decided)
      (D : Decides (entries s S) (entries s L) c (place_of s.numbers.slots 2 false s.numbers.mode (plain s.numbers (entries s S) (entries s L)) len) len)
      (d : Decided) (t : c ≡ Some d) where
    abbrev whole : Decision
    whole = record { next = plain d.numbers (entries s S) (entries s L); changes = d.changes; moves = all_moves n s d; heap = is_alloc d.numbers.mode }

    fits : is_too_long (place n.slots (plain n S L) len) len ≡ false
    fits = place_fits n S L (orderly_placeable (plain n S L) orderly) s f len c D d t

    is : place n.slots (plain n S L) len ≡ whole
    is = place_is n S L (orderly_placeable (plain n S L) orderly) s f len c D d t

    pub all_made_inside : all_inside (length m.pool) (length m.overflow) (all_moves n s d) ≡ true
    all_made_inside =
        rw (through_pool (plain n S L) m e, through_overflow (plain n S L) m e)
        (subst (λ (x : Decision). all_inside n.capacity n.overflow x.moves ≡ true) is (moves_inside n.slots (plain n S L) orderly len fits))

    pub placed_sum : (frame (bare d.numbers)).start + (frame (bare d.numbers)).length ≤ 18446744073709551615
    placed_sum =
        rw (frame_filled d.numbers (entries s S) (entries s L) zeros d.numbers.mode)
        (decided_sum (plain n S L) m len e whole is (ap (λ (x : Decision). is_too_long x len) (sym is) ∙ fits))

  -- ---- What it gives

  module _ (len : ℕ) where
    -- from the decision of the record
    given : (d : Decision) → place n.slots p len ≡ d → is_too_long d len ≡ false → (q : Numbers) (clears : Bool) (r : Reserving) → r ≡ lent.reserved q d.changes clears
        → reserved_on p (lent.reserved q d.changes clears) ≡ d.next → reservation (bare q) ≡ reservation d.next → (l : Memories) → l ≡ perform d.moves m
        → outcome (reserve_called p (Ok r)) l [] ≡ reserve n.slots p m len
    given d i t q clears r f a h l y =
        rw (f, y) (ap₂ (λ (x : BufferPool) (v : Place). outcome (called x (Ok (Reserved v d.changes))) (perform d.moves m) []) a h)
        ∙ sym (decided_outcome p m len g d i t)

    module _ (r : Reserving) where
      pub reserve_settled : (u : FastPath) → u ≡ fast_path n.slots (bare n) len → u ≡ Settled → (q : Numbers) → q ≡ numbers_of (offered (bare n) len)
          → r ≡ lent.reserved q 0 false → outcome (reserve_called p (Ok r)) m [] ≡ reserve n.slots p m len
      unfolding perform
      reserve_settled u i t q f a =
          let y = sym (settled_filled n S L o len) ∙ path_settled _ _ _ (sym i ∙ t) in
          given (unmoved p len) (settled_place p len y) (settled_fits p m len g y) q false r a (rw f refl)
          (rw f (reservation_filled (numbers_of (offered (bare n) len)) S L o)) m refl

      pub reserve_over : (u : FastPath) → u ≡ fast_path n.slots (bare n) len → u ≡ StartsOver → (v : Numbers) → v ≡ numbers_of (placed (bare n) Back 0 0 0 0)
          → (q : Numbers) → q ≡ numbers_of (offered (bare v) len) → r ≡ lent.reserved q 0 false → outcome (reserve_called p (Ok r)) m [] ≡ reserve n.slots p m len
      unfolding perform
      reserve_over u i t v j q f a =
          let y = sym (over_filled n S L o len) ∙ path_starts_over _ _ _ (sym i ∙ t) in
          given (unmoved (placed p Back 0 0 0 0) len) (over_is p m len g y) (over_fits p m len g) q false r a (rw (f, j) refl) (rw (f, j) refl) m refl

    module _ (s : Start) (f : s ≡ start_of n) (c : Option Decided)
        (D : Decides (entries s S) (entries s L) c (place_of s.numbers.slots 2 false s.numbers.mode (plain s.numbers (entries s S) (entries s L)) len) len) where
      pub reserve_short : c ≡ None → outcome (refused p OverflowTooShort) m [] ≡ reserve n.slots p m len
      unfolding reserve reserve_step reserve_on
      reserve_short t = let_through p m g [] _ (outcome (reserve_on (is_too_long (place n.slots p len) len) p (place n.slots p len)) (pick (is_too_long (place n.slots p len) len) m (perform (place n.slots p len).moves m)) []) (rw long)
        where
          long : is_too_long (place n.slots p len) len ≡ true
          long =
              ap (λ (x : Decision). is_too_long x len) (place_rest n.slots o len n S L) ∙ long_rest o (place n.slots (plain n S L) len) len
              ∙ place_long n S L (orderly_placeable (plain n S L) orderly) s f len c D t

      pub reserve_done : (d : Decided) → c ≡ Some d → (clears : Bool) → clears ≡ is_clearing s.effect → (r : Reserving) → r ≡ lent.reserved d.numbers d.changes clears → (l : Memories) → l ≡ perform (all_moves n s d) m
          → outcome (reserve_called p (Ok r)) l [] ≡ reserve n.slots p m len
      unfolding entries
      reserve_done d t clears v r a l y =
          let x = place_rest n.slots o len n S L ∙ ap (restored o) (is len s f c D d t) in
          given (restored o (whole len s f c D d t)) x (long_rest o (whole len s f c D d t) len ∙ ap (λ (x : Decision). is_too_long x len) (sym (is len s f c D d t)) ∙ fits len s f c D d t)
          d.numbers clears r a (rw v (entries_as (is_clearing s.effect) refl)) (reservation_filled d.numbers (entries s S) (entries s L) o) l y
        where
          entries_as : (b : Bool) → is_clearing s.effect ≡ b → reserved_on p (lent.reserved d.numbers d.changes (is_clearing s.effect)) ≡ filled d.numbers (entries s S) (entries s L) o
          entries_as true h = rw h refl
          entries_as false h = rw h refl

-- a reserve that is turned away
pub reserve_turned : (n : Numbers) (E : Entries) (m : Memories) (why : Refusal) → Err why ≡ guard n.slots (with_entries n E) m
    → (len : ℕ) (r : Result Reserving Refusal) → r ≡ Err why → outcome (reserve_called (with_entries n E) r) m [] ≡ reserve n.slots (with_entries n E) m len
unfolding reserve
reserve_turned n E m why e len r f = rw f (turned_away (with_entries n E) m why e [] _)

-- a reserve that clears bytes after the kept ones
pub reserve_grown : (n : Numbers) (E : Entries) (W : Whole E) (pool overflow : List ℕ) → Ok tt ≡ guard n.slots (with_entries n E) (memories pool overflow) → (len : ℕ) (r : Reserving)
    → (u : FastPath) → u ≡ fast_path n.slots (bare n) len → u ≡ Growing
    → (q : Numbers) → q ≡ numbers_of (offered (kept_to (bare n) (n.cursor + len)) len) → (after : List ℕ) → after ≡ zeroed overflow n.kept (n.cursor + len)
    → r ≡ lent.reserved q 0 false → outcome (reserve_called (with_entries n E) (Ok r)) (memories pool after) [] ≡ reserve n.slots (with_entries n E) (memories pool overflow) len
unfolding perform act
reserve_grown n E W pool overflow g len r u i t q f after a k =
    let y = sym (growing_filled n E.starts E.lengths (rest_in E) len) ∙ path_growing _ _ _ (sym i ∙ t) in
    given n E W (memories pool overflow) g len (grown (with_entries n E) len) (growing_place (with_entries n E) len y).0
    (grown_fits (with_entries n E) (memories pool overflow) len g y) q false r k (rw f refl)
    (rw f (reservation_filled (numbers_of (offered (kept_to (bare n) (n.cursor + len)) len)) E.starts E.lengths (rest_in E))) (memories pool after) (rw a refl)

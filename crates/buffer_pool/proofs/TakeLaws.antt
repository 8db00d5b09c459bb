-- The take, from what the code of lent.rt and calls.rt knows where it returns: of a record's numbers, and of a record by value. Assumes
-- nothing.
use mathlib.Core.Path.{◌≡◌, refl, sym, ap, ◌∙◌}
use mathlib.Core.Bool.{Bool, true, false}
use mathlib.Core.List.{List}
use Prim.Native.Nat.{ℕ, zero, suc, ◌+◌, ◌-◌, ◌≤◌, ◌<◌}
use native.Mathlib.Numerals.{add-one}
use native.Mathlib.Omega.{arith}
use lib.Dec.{leb, ltb, eqb, eqb-suc-zero}
use lib.ListN.{length, get_or}
use borrow.Author.Tests.{lt-ltb, le-ltb, lt-leb, le-leb, eq-eqb, ne_eqb}
use Rattle.std.specs.Prelude.{Result, Ok, Err}
use Rattle.laws.specs.Tests.{pick}
use Rattle.laws.specs.Lists.{copied, moved}
use Rattle.laws.proofs.Tests.{no_true}
use Rattle.buffer_pool.specs.declared.buffer_pool.BufferPool.{BufferPool}
use Rattle.buffer_pool.specs.declared.buffer_pool.Entries.{Entries}
use Rattle.buffer_pool.specs.declared.buffer_pool.PoolMode.{PoolMode}
use Rattle.buffer_pool.specs.declared.buffer_pool.PoolMode.TheVariants.{Back, Front, Alloc}
use Rattle.buffer_pool.specs.declared.buffer_pool.Place.{Place}
use Rattle.buffer_pool.specs.declared.buffer_pool.Answer.TheVariants.{Taken}
use Rattle.buffer_pool.specs.declared.buffer_pool.Answer.TheVariants as answers
use Rattle.buffer_pool.specs.declared.buffer_pool.Called.{Called}
use Rattle.buffer_pool.specs.declared.numbers.Numbers.{Numbers}
use Rattle.buffer_pool.specs.declared.lent.Taking.{Taking}
use Rattle.buffer_pool.specs.declared.lent.Taking.TheVariants.{Copied, Pooled}
use Rattle.buffer_pool.specs.declared.refusals.Refusal.{Refusal}
use Rattle.buffer_pool.specs.declared.slice.Handle.{Handle}
use Rattle.buffer_pool.specs.declared.refusals.Refusal.TheVariants.{DestinationTooShort, NoSerials, UnknownCaller}
use Rattle.buffer_pool.specs.Record.{caller_count, framed}
use Rattle.buffer_pool.specs.Numbers.{numbers_of, entries_of, rest_in, bare, with_numbers, with_entries, entered}
use Rattle.buffer_pool.specs.Moves.{Memories, memories, act, perform}
use Rattle.buffer_pool.specs.Placing.{is_alloc}
use Rattle.buffer_pool.specs.Deciding.{offered}
use Rattle.buffer_pool.specs.Sound.{Orderly, InMode}
use Rattle.buffer_pool.specs.Values.{values}
use Rattle.buffer_pool.specs.Steps.{called, refused, frame_of, resized, most_serials, next_handle, handed_out, take_on, take_step, take_moves, longer}
use Rattle.buffer_pool.specs.Calls.{outcome, guard, copied_out, take}
use Rattle.buffer_pool.specs.Lent as lent
use Rattle.buffer_pool.specs.Lent.{taken_mode, taken_len, take_called, copied_by}
use Rattle.buffer_pool.proofs.ByteLaws.{copied_none}
use Rattle.buffer_pool.proofs.MovesMade.{moved_self}
use Rattle.buffer_pool.proofs.CallLaws.{turned_away, let_through, through_orderly, through_capacity, through_overflow, orderly_cursor}
use Rattle.buffer_pool.proofs.LentLaws.{few_slots, frame_filled}

-- ---- A take of a frame of the pool

module _ (n : Numbers) (caller last : ℕ) where
  pub pooled_spent : 4294967295 ≤ last → Err NoSerials ≡ lent.pooled (leb 4294967295 last) n caller last
  unfolding lent.pooled
  pooled_spent h = rw (le-leb 4294967295 last h)

  pub pooled_done : last < 4294967295 → (q : Numbers) → q ≡ lent.handed_out (taken_mode n.mode n) (taken_len n.mode n) n
      → Ok (Pooled (record { slot = n.used + 1; start = n.raw_offset; length = n.raw_len; serial = last + 1; caller = caller }) q)
      ≡ lent.pooled (leb 4294967295 last) n caller last
  unfolding lent.pooled
  pooled_done h q f = rw (lt-leb 4294967295 last h, f)

-- ---- A take of a frame of the overflow

module _ (n : Numbers) (overflow destination : List ℕ) where
  pub short_take : length destination < n.cursor → Err DestinationTooShort ≡ lent.copied_out (ltb (length destination) n.cursor) n
  unfolding lent.copied_out
  short_take h = rw (lt-ltb (length destination) n.cursor h)

  pub short_destination : destination ≡ copied overflow 0 0 destination 0
  short_destination = copied_none overflow 0 destination 0

  pub long_take : n.cursor ≤ length destination → (q : Numbers) → q ≡ numbers_of (framed (bare n) Alloc n.raw_offset n.raw_len (n.kept - n.cursor) 0 0)
      → Ok (Copied n.cursor q) ≡ lent.copied_out (ltb (length destination) n.cursor) n
  unfolding lent.copied_out
  long_take h q g = rw (le-ltb (length destination) n.cursor h, g)

  pub long_overflow : (left : List ℕ) → left ≡ moved overflow n.cursor (n.kept - n.cursor) 0
      → left ≡ pick (eqb n.cursor 0) overflow (moved overflow n.cursor (n.kept - n.cursor) 0)
  long_overflow left g = g ∙ go n.cursor
    where
      go : (x : ℕ) → moved overflow x (n.kept - x) 0 ≡ pick (eqb x 0) overflow (moved overflow x (n.kept - x) 0)
      go zero = moved_self overflow 0 (n.kept - 0) 0 refl
      go (suc x) = rw (eqb-suc-zero x)

-- ---- A take, of numbers

one_back : (x : ℕ) → suc x - 1 ≡ x
one_back x = omega arith

alloc_mode : (mode : PoolMode) → is_alloc mode ≡ true → mode ≡ Alloc
alloc_mode Back e = absurd (no_true e)
alloc_mode (Front f) e = absurd (no_true e)
alloc_mode Alloc e = refl

abbrev in_back : PoolMode → Bool
in_back Back = true
in_back (Front f) = false
in_back Alloc = false

-- what a take copies
copied_as : (p : BufferPool) (pool overflow destination : List ℕ) (c : Called) (x : ℕ) (after left : List ℕ) → after ≡ copied overflow 0 x destination 0
    → left ≡ pick (eqb x 0) overflow (moved overflow x (p.kept - x) 0)
    → outcome c (memories pool left) after ≡ copied_out c p (memories pool overflow) destination x
unfolding copied_out take_moves perform act
copied_as p pool overflow destination c zero after left h i = rw (h, i) refl
copied_as p pool overflow destination c (suc x) after left h i = rw (h, i, eqb-suc-zero x) refl

module _ (n : Numbers) (E : Entries) (pool overflow : List ℕ) where
  abbrev p : BufferPool
  p = with_entries n E

  abbrev m : Memories
  m = memories pool overflow

  module _ (caller : ℕ) (destination : List ℕ) where
    pub take_turned : (why : Refusal) → Err why ≡ guard n.slots p m → (r : Result Taking Refusal) → r ≡ Err why
        → outcome (take_called p r) m destination ≡ take n.slots p m caller destination
    unfolding take
    take_turned why e r f = rw f (turned_away p m why e destination _)

  module _ (e : Ok tt ≡ guard n.slots p m) where
    orderly : Orderly n.slots p
    orderly = through_orderly p m e

    pub kept_inside : n.kept ≤ length overflow
    kept_inside = omega (arith, orderly.kept_within, through_overflow p m e)

    pub back_used : n.mode ≡ Back → n.back_start ≤ n.used + 1
    back_used b = go n.mode b orderly.in_mode
      where
        go : (mode : PoolMode) → mode ≡ Back → InMode n.slots mode p n.reserved → n.back_start ≤ n.used + 1
        go Back q I = omega (arith, I.used_is)
        go (Front f) q I = absurd (no_true (ap in_back q))
        go Alloc q I = absurd (no_true (ap in_back q))

    module _ (a : Bool) (j : a ≡ is_alloc n.mode) where
      pub cursor_kept : a ≡ true → n.cursor ≤ n.kept
      cursor_kept t = orderly_cursor p orderly (sym j ∙ t)

      module _ (t : a ≡ false) where
        pub bytes_below : n.raw_offset + n.raw_len ≤ 4294967295
        bytes_below = go n.mode orderly.in_mode
          where
            go : (mode : PoolMode) → InMode n.slots mode p n.reserved → n.raw_offset + n.raw_len ≤ 4294967295
            go Back I = omega (arith, I.fits, through_capacity p m e)
            go (Front f) I = omega (arith, I.fits, I.bytes_within, through_capacity p m e)
            go Alloc I = omega (arith, I.no_offset, I.no_len)

        -- a frame with bytes has a slot left
        pub used_below : (w : Place) → w ≡ frame_of n.mode (bare n) → (w.length ≡ 0 → ⊥) → n.used < n.slots
        used_below w i s = go n.mode (sym j ∙ t) orderly.in_mode (λ y. s (ap (λ (x : Place). x.length) i ∙ y))
          where
            go : (mode : PoolMode) → is_alloc mode ≡ false → InMode n.slots mode p n.reserved → ((frame_of mode (bare n)).length ≡ 0 → ⊥)
                → n.used < n.slots
            go Back q I s = omega (arith, I.used_is, I.slot (omega (arith, s)))
            go (Front f) q I s = omega (arith, I.used_is, I.slot (omega (arith, s)), I.front_within, orderly.ready.start_below)
            go Alloc q I s = absurd (no_true (sym q))

    module _ (caller : ℕ) (destination : List ℕ) where
      taken_by : (s : Called) → s ≡ take_step n.slots p caller (length destination)
          → copied_out s p m destination (values s.answer).length ≡ take n.slots p m caller destination
      unfolding take
      taken_by s i =
          let t = take_step n.slots p caller (length destination) in
          let_through p m e destination (copied_out s p m destination (values s.answer).length) (copied_out t p m destination (values t.answer).length)
          (ap (λ (x : Called). copied_out x p m destination (values x.answer).length) i)

      -- one that copies nothing
      quiet_by : (s : Called) → s ≡ take_step n.slots p caller (length destination) → (values s.answer).length ≡ 0
          → outcome s m destination ≡ take n.slots p m caller destination
      quiet_by s i y =
          copied_as p pool overflow destination s 0 destination overflow (copied_none overflow 0 destination 0) refl
          ∙ ap (copied_out s p m destination) (sym y) ∙ taken_by s i

      pub take_none : 4 ≤ caller → outcome (refused p UnknownCaller) m destination ≡ take n.slots p m caller destination
      unfolding take_step take_on
      take_none h = quiet_by (refused p UnknownCaller) (rw (le-leb caller_count caller h)) refl

      module _ (b : caller < 4) (w : Place) (i : w ≡ frame_of n.mode (bare n)) where
        frame_is : w ≡ frame_of n.mode p
        frame_is = i ∙ frame_filled n E.starts E.lengths (rest_in E) n.mode

        -- the step, by its tests
        step_as : (empty long spent : Bool) (mode : PoolMode) → eqb w.length 0 ≡ empty → ltb (length destination) w.length ≡ long
            → leb most_serials (get_or E.given caller 0) ≡ spent → n.mode ≡ mode
            → take_on false empty long spent mode n.slots caller p ≡ take_step n.slots p caller (length destination)
        unfolding take_step
        step_as empty long spent mode x y u k = rw (← k, ← x, ← y, ← u, lt-leb caller_count caller b, frame_is)

        pub take_empty : w.length ≡ 0 → (q : Numbers) → q ≡ numbers_of (offered (bare n) 0)
            → outcome (take_called p (Ok (Copied 0 q))) m destination ≡ take n.slots p m caller destination
        unfolding take_on
        take_empty y q h =
            ap (λ (x : Numbers). outcome (take_called p (Ok (Copied 0 x))) m destination) h
            ∙ ap (λ (x : BufferPool). outcome (called x (Ok (answers.Copied 0))) m destination) (go n.mode refl)
            ∙ quiet_by (called (resized n.mode p (frame_of n.mode p).length) (Ok (answers.Copied 0))) (step_as true _ _ n.mode (eq-eqb w.length 0 y) refl refl refl) refl
          where
            go : (mode : PoolMode) → n.mode ≡ mode → with_numbers p (numbers_of (offered (bare n) 0)) ≡ resized mode p (frame_of mode p).length
            go Back k = rw k refl
            go (Front x) k = rw k refl
            go Alloc k = rw k refl

        module _ (s : w.length ≡ 0 → ⊥) (al : Bool) (j : al ≡ is_alloc n.mode) where
          pub take_copies : al ≡ true → (r : Result Taking Refusal) (after left : List ℕ) → r ≡ lent.copied_out (ltb (length destination) n.cursor) n
              → after ≡ copied overflow 0 (copied_by r) destination 0
              → left ≡ pick (eqb (copied_by r) 0) overflow (moved overflow (copied_by r) (n.kept - copied_by r) 0)
              → outcome (take_called p r) (memories pool left) after ≡ take n.slots p m caller destination
          unfolding take_on lent.copied_out
          take_copies t r after left g u v =
              ap (λ (x : Result Taking Refusal). outcome (take_called p x) (memories pool left) after) g
              ∙ go (ltb (length destination) n.cursor) refl
              (u ∙ ap (λ (x : Result Taking Refusal). copied overflow 0 (copied_by x) destination 0) g)
              (v ∙ ap (λ (x : Result Taking Refusal). pick (eqb (copied_by x) 0) overflow (moved overflow (copied_by x) (n.kept - copied_by x) 0)) g)
            where
              alloc : n.mode ≡ Alloc
              alloc = alloc_mode n.mode (sym j ∙ t)

              cursor_is : w.length ≡ n.cursor
              cursor_is = ap (λ (x : Place). x.length) i ∙ ap (λ (x : PoolMode). (frame_of x (bare n)).length) alloc

              go : (long : Bool) → ltb (length destination) n.cursor ≡ long → after ≡ copied overflow 0 (copied_by (lent.copied_out long n)) destination 0
                  → left ≡ pick (eqb (copied_by (lent.copied_out long n)) 0) overflow (moved overflow (copied_by (lent.copied_out long n)) (n.kept - copied_by (lent.copied_out long n)) 0)
                  → outcome (take_called p (lent.copied_out long n)) (memories pool left) after ≡ take n.slots p m caller destination
              go true d u v =
                  copied_as p pool overflow destination (refused p DestinationTooShort) 0 after left u v
                  ∙ taken_by (refused p DestinationTooShort) (step_as false true _ Alloc (ne_eqb w.length 0 s) (ap (ltb (length destination)) cursor_is ∙ d) refl alloc)
              go false d u v =
                  copied_as p pool overflow destination (called (framed p Alloc n.raw_offset n.raw_len (n.kept - n.cursor) 0 0) (Ok (answers.Copied n.cursor))) n.cursor after left u v
                  ∙ taken_by (called (framed p Alloc n.raw_offset n.raw_len (n.kept - n.cursor) 0 0) (Ok (answers.Copied n.cursor)))
                  (step_as false false _ Alloc (ne_eqb w.length 0 s) (ap (ltb (length destination)) cursor_is ∙ d) refl alloc)

          pub no_slot_within : (r : Result Taking Refusal) → r ≡ lent.copied_out (ltb (length destination) n.cursor) n → lent.InArrays r
          unfolding lent.copied_out
          no_slot_within r g = rw g (go (ltb (length destination) n.cursor))
            where
              go : (long : Bool) → lent.InArrays (lent.copied_out long n)
              go true = tt
              go false = tt

          pub take_slot : al ≡ false → (r : Result Taking Refusal) → r ≡ lent.pooled (leb 4294967295 (get_or E.given caller 0)) n caller (get_or E.given caller 0)
              → outcome (take_called p r) m destination ≡ take n.slots p m caller destination
          unfolding take_on lent.pooled entered
          take_slot t r g =
              ap (λ (x : Result Taking Refusal). outcome (take_called p x) m destination) g
              ∙ go n.mode refl (sym j ∙ t) (leb 4294967295 (get_or E.given caller 0)) refl
            where
              used : n.used < 16
              used = omega (arith, used_below al j t w i s, few_slots n E m e)

              slotted : (mode : PoolMode) (len : ℕ) → taken_mode n.mode n ≡ mode → taken_len n.mode n ≡ len
                  → take_called p (lent.pooled false n caller (get_or E.given caller 0)) ≡ called (handed_out n.slots caller p mode len) (Ok (Taken (next_handle p caller)))
              slotted mode len x y = rw (x, y, add-one n.used, add-one (get_or E.given caller 0), le-leb 1 (suc n.used) (omega arith), le-leb (suc n.used) 16 (omega (arith, used)), lt-ltb caller 4 b, one_back n.used) refl

              slot_by : (mode : PoolMode) (len : ℕ) → taken_mode n.mode n ≡ mode → taken_len n.mode n ≡ len
                  → called (handed_out n.slots caller p mode len) (Ok (Taken (next_handle p caller))) ≡ take_step n.slots p caller (length destination)
                  → outcome (take_called p (lent.pooled false n caller (get_or E.given caller 0))) m destination ≡ take n.slots p m caller destination
              slot_by mode len x y d =
                  ap (λ (c : Called). outcome c m destination) (slotted mode len x y)
                  ∙ quiet_by (called (handed_out n.slots caller p mode len) (Ok (Taken (next_handle p caller)))) d refl

              go : (mode : PoolMode) → n.mode ≡ mode → is_alloc mode ≡ false → (spent : Bool) → leb 4294967295 (get_or E.given caller 0) ≡ spent
                  → outcome (take_called p (lent.pooled spent n caller (get_or E.given caller 0))) m destination ≡ take n.slots p m caller destination
              go Back k x true y = quiet_by (refused p NoSerials) (step_as false _ true Back (ne_eqb w.length 0 s) refl y k) refl
              go Back k x false y =
                  slot_by Back (suc n.used - n.back_start) (rw k refl) (rw (k, add-one n.used) refl)
                  (step_as false _ false Back (ne_eqb w.length 0 s) refl y k)
              go (Front h) k x true y = quiet_by (refused p NoSerials) (step_as false _ true (Front h) (ne_eqb w.length 0 s) refl y k) refl
              go (Front h) k x false y =
                  slot_by (Front (longer h (suc n.used))) n.back_len (rw (k, add-one n.used) refl) (rw k refl)
                  (step_as false _ false (Front h) (ne_eqb w.length 0 s) refl y k)
              go Alloc k x spent y = absurd (no_true (sym x))

          pub slot_within : al ≡ false → (r : Result Taking Refusal) → r ≡ lent.pooled (leb 4294967295 (get_or E.given caller 0)) n caller (get_or E.given caller 0)
              → lent.InArrays r
          unfolding lent.pooled
          slot_within t r g = rw g (go (leb 4294967295 (get_or E.given caller 0)))
            where
              go : (spent : Bool) → lent.InArrays (lent.pooled spent n caller (get_or E.given caller 0))
              go true = tt
              go false = (omega arith, omega (arith, used_below al j t w i s, few_slots n E m e), b)

-- ---- A take of a record by value that gives a slice

pub take_left : (p : BufferPool) (n : Numbers) → n ≡ numbers_of p → (E : Entries) → E ≡ entries_of p → (m l : Memories) (caller : ℕ) (destination after : List ℕ)
    → (y : Result Taking Refusal) (t : Taking) → y ≡ Ok t → (a : Handle) (x : Numbers) → t ≡ Pooled a x
    → outcome (take_called (with_entries n E) y) l after ≡ take n.slots (with_entries n E) m caller destination
    → (h : Handle) → h ≡ a → (q : Numbers) → q ≡ x → (F : Entries) → F ≡ entered E h
    → outcome (called (with_entries q F) (Ok (Taken h))) l after ≡ take p.slots p m caller destination
take_left p n i E j m l caller destination after y t f a x k e h u q v F g = rw (g, u, v, j) (rw (f, k, i, j) at e)

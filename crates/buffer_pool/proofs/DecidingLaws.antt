-- A frame in the overflow, one call of `reserve_`, the reservation at its end and the recursion, from what the code of placing.rt knows
-- where it returns. Assumes nothing.
use mathlib.Core.Path.{◌≡◌, refl, sym, ap, ◌∙◌, subst}
use Rattle.std.specs.Prelude.{Option, Some, None}
use mathlib.Core.Bool.{Bool, true, false, not}
use mathlib.Core.List.{List, [], ◌++◌, append_assoc, append-nil}
use mathlib.Core.Logic.{◌⊎◌, inl, inr}
use Prim.Native.Nat.{ℕ, zero, suc, ◌+◌, ◌-◌, ◌≤◌, ◌<◌, max}
use native.Mathlib.Nat.{add-zero, le_refl}
use native.Mathlib.Omega.{arith}
use lib.Dec.{leb, ltb}
use borrow.Author.Tests.{lt-ltb, le-ltb, leb-true, leb-false, ltb-true, ltb-false}
use lib.Count.{leading_le}
use Rattle.laws.specs.Tests.{pick}
use Rattle.laws.proofs.Tests.{no_true, not_true, not_false}
use Rattle.buffer_pool.specs.declared.buffer_pool.BufferPool.{BufferPool}
use Rattle.buffer_pool.specs.declared.buffer_pool.PoolFront.{PoolFront}
use Rattle.buffer_pool.specs.declared.buffer_pool.PoolMode.{PoolMode}
use Rattle.buffer_pool.specs.declared.buffer_pool.PoolMode.TheVariants.{Back, Front, Alloc}
use Rattle.buffer_pool.specs.declared.numbers.Numbers.{Numbers}
use Rattle.buffer_pool.specs.declared.route.Route.{Route}
use Rattle.buffer_pool.specs.declared.placing.ModeChange.{ModeChange}
use Rattle.buffer_pool.specs.declared.placing.ModeChange.TheVariants.{Stays, Changes, GoesOut}
use Rattle.buffer_pool.specs.declared.placing.ModeStep.{ModeStep}
use Rattle.buffer_pool.specs.declared.placing.Decided.{Decided}
use Rattle.buffer_pool.specs.Record.{framed}
use Rattle.buffer_pool.specs.Numbers.{numbers_of, plain, bare}
use Rattle.buffer_pool.specs.Moves.{Move}
use Rattle.buffer_pool.specs.Placing.{Decision, Layer, stay, change, finish, first, grows, resolve_on, to_alloc, clearable, tail_fits, tail_cleared, head_fits, head_cleared, stays, back_on, front_cleared, leave_on, front_on, alloc_on, place_of, back_layer, front_layer, alloc_layer, layer, is_alloc, is_too_long}
use Rattle.buffer_pool.specs.Deciding.{front_len_of, Placeable, Reaches, Decides, cleared_on, step, is_again, is_out, layer_of, step_moves, route_moves, onward, decided, decision_of, finished, finished_on, following}
use Rattle.buffer_pool.specs.Sound.{InMode}
use Rattle.buffer_pool.proofs.Order.{last_held}
use Rattle.buffer_pool.proofs.Parts.{ready_worded}
use Rattle.buffer_pool.proofs.BackLaws.{clearable_is_full}
use Rattle.buffer_pool.proofs.LayerLaws.{within_same, within_empty, clearable_plain, head_plain, layer_still, cleared_some, cleared_none}
use Rattle.buffer_pool.proofs.RouteLaws.{onward_moves, onward_reaches}
use Rattle.buffer_pool.proofs.ReserveKept.{Fit, stays_not}

-- ---- A frame in the overflow

module _ (n : Numbers) (b : Bool) (e : b ≡ stays n.slots false (bare n)) where
  pub gives_way_clearable : b ≡ false → clearable n.slots (bare n) ≡ true
  gives_way_clearable o = (stays_not n.slots (bare n) false (sym e ∙ o)).1

  pub gives_way_full : b ≡ false → n.back_start + n.back_len ≡ n.slots
  gives_way_full o = clearable_is_full n (gives_way_clearable o)

  module _ (S L : List ℕ) (len : ℕ) (m : ModeStep) where
    stays_is : b ≡ stays n.slots false (plain n S L)
    unfolding stays
    stays_is = e ∙ rw (clearable_plain n S L)

    -- the overflow's frame is none of the pool's
    module _ (z : n.raw_len ≡ 0) where
      changes_to : (q : Numbers) → m ≡ step Changes n.raw_offset q → layer_of S L n m ≡ change false (plain q S L) []
      changes_to q f = layer_still S L n m Changes refl q f (within_empty n.raw_offset n.raw_len q.raw_offset z)

    keeps_it : m ≡ step Stays n.raw_offset n → layer_of S L n m ≡ stay n.mode (plain n S L) []
    keeps_it f = layer_still S L n m Stays refl n f (within_same n.raw_offset n.raw_len n.raw_offset refl)

    pub alloc_keeps : n.mode ≡ Alloc → b ≡ true → m ≡ step Stays n.raw_offset n
        → layer_of S L n m ≡ alloc_layer n.slots false (plain n S L) len
    unfolding alloc_layer alloc_on
    alloc_keeps h t f = keeps_it f ∙ rw (← stays_is, t, h)

    module _ (o : b ≡ false) where
      pub alloc_clears_tail : n.raw_len ≡ 0 → (t : Numbers)
          → Some t ≡ cleared_on (tail_fits n.slots (plain n S L) len) (numbers_of (tail_cleared n.slots (plain n S L)))
          → m ≡ step Changes n.raw_offset t → layer_of S L n m ≡ alloc_layer n.slots false (plain n S L) len
      unfolding alloc_layer alloc_on
      alloc_clears_tail z t i f =
          let x = cleared_some (tail_fits n.slots (plain n S L) len) (numbers_of (tail_cleared n.slots (plain n S L))) t i in
          changes_to z t f ∙ rw (x.1, ← stays_is, o, x.0)

      module _ (i : None ≡ cleared_on (tail_fits n.slots (plain n S L) len) (numbers_of (tail_cleared n.slots (plain n S L)))) where
        no_tail : tail_fits n.slots (plain n S L) len ≡ false
        no_tail = cleared_none (tail_fits n.slots (plain n S L) len) (numbers_of (tail_cleared n.slots (plain n S L))) i

        pub alloc_clears_head : n.raw_len ≡ 0 → (u : Numbers)
            → Some u ≡ cleared_on (head_fits n.slots (plain n S [])) (numbers_of (head_cleared n.slots (plain n S [])))
            → m ≡ step Changes n.raw_offset u → layer_of S L n m ≡ alloc_layer n.slots false (plain n S L) len
        unfolding alloc_layer alloc_on
        alloc_clears_head z u v f =
            let x = cleared_some (head_fits n.slots (plain n S L)) (numbers_of (head_cleared n.slots (plain n S L))) u (v ∙ head_plain n S L) in
            changes_to z u f ∙ rw (x.1, ← stays_is, o, no_tail, x.0)

        pub alloc_stays : n.mode ≡ Alloc → None ≡ cleared_on (head_fits n.slots (plain n S [])) (numbers_of (head_cleared n.slots (plain n S [])))
            → m ≡ step Stays n.raw_offset n → layer_of S L n m ≡ alloc_layer n.slots false (plain n S L) len
        unfolding alloc_layer alloc_on
        alloc_stays h v f =
            let x = cleared_none (head_fits n.slots (plain n S L)) (numbers_of (head_cleared n.slots (plain n S L))) (v ∙ head_plain n S L) in
            keeps_it f ∙ rw (← stays_is, o, no_tail, x, h)

-- ---- One call of `reserve_`, by the mode

module _ (n : Numbers) (S L : List ℕ) (len : ℕ) (l : Layer) where
  pub layer_back : n.mode ≡ Back → l ≡ back_layer n.slots (plain n S L) len → l ≡ layer n.slots false n.mode (plain n S L) len
  unfolding layer
  layer_back h e = e ∙ ap (λ (mode : PoolMode). layer n.slots false mode (plain n S L) len) (sym h)

  pub layer_front : (f : PoolFront) → n.mode ≡ Front f → l ≡ front_layer n.slots f (plain n S L) len → l ≡ layer n.slots false n.mode (plain n S L) len
  unfolding layer
  layer_front f h e = e ∙ ap (λ (mode : PoolMode). layer n.slots false mode (plain n S L) len) (sym h)

  pub layer_alloc : n.mode ≡ Alloc → l ≡ alloc_layer n.slots false (plain n S L) len → l ≡ layer n.slots false n.mode (plain n S L) len
  unfolding layer
  layer_alloc h e = e ∙ ap (λ (mode : PoolMode). layer n.slots false mode (plain n S L) len) (sym h)

-- ---- The reservation

module _ (n : Numbers) (g : Route) (changes len : ℕ) where
  pub finished_in_pool : (q : Numbers) → q ≡ numbers_of (framed (bare n) n.mode n.raw_offset n.raw_len n.kept n.cursor len)
      → Some (decided q changes n.kept g) ≡ finished_on Back n g changes len
  unfolding finished_on
  finished_in_pool q e = rw e

  module _ (b : Bool) (e : b ≡ leb (n.cursor + len + 0) n.overflow) where
    pub overflow_short : not b ≡ true → None ≡ finished_on Alloc n g changes len
    unfolding finished_on
    overflow_short h = rw (← e, not_true b h)

    pub overflow_fits : not b ≡ false → (end : ℕ) → end ≡ max n.kept (n.cursor + len) → (q : Numbers)
        → q ≡ numbers_of (framed (bare n) Alloc n.raw_offset n.raw_len end n.cursor len)
        → Some (decided q changes n.kept g) ≡ finished_on Alloc n g changes len
    unfolding finished_on
    overflow_fits h end k q f = rw (f, k, ← e, not_false b h)

  module _ (c : Option Decided) where
    pub finish_pool : (n.mode ≡ Back) ⊎ ((f : PoolFront) × (n.mode ≡ Front f)) → c ≡ finished_on Back n g changes len → c ≡ finished_on n.mode n g changes len
    unfolding finished_on
    finish_pool (inl h) e = e ∙ ap (λ (x : PoolMode). finished_on x n g changes len) (sym h)
    finish_pool (inr (f, h)) e = e ∙ ap (λ (x : PoolMode). finished_on x n g changes len) (sym h)

    pub finish_alloc : n.mode ≡ Alloc → c ≡ finished_on Alloc n g changes len → c ≡ finished_on n.mode n g changes len
    finish_alloc h e = e ∙ ap (λ (x : PoolMode). finished_on x n g changes len) (sym h)

-- what the code finishes with is the reservation made where the frame lies
module _ (n : Numbers) (S L : List ℕ) (g : Route) (changes len : ℕ) where
  grown : (kept end : ℕ) → grows (ltb kept (max kept end)) kept (max kept end) ≡ grows (ltb kept end) kept end
  grown kept end = go (ltb kept end) refl
    where
      go : (b : Bool) → ltb kept end ≡ b → grows (ltb kept (max kept end)) kept (max kept end) ≡ grows b kept end
      go true e = let z : max kept end ≡ end = omega (arith, ltb-true kept end e) in rw (z, e) refl
      go false e = let z : max kept end ≡ kept = omega (arith, ltb-false kept end e) in rw (z, le-ltb kept kept (le_refl kept)) refl

  some_decides : (x : Decided) (d : Decision) → is_too_long d len ≡ false → decision_of S L x ≡ d → Decides S L (Some x) d len
  some_decides x d t e =
      record {
        too_long = λ q. absurd (cc);
        fits = λ y q. t;
        decision = λ y q. let z : y ≡ x = cc in ap (decision_of S L) z ∙ e;
      }

  none_decides : (d : Decision) → is_too_long d len ≡ true → Decides S L None d len
  none_decides d t = record { too_long = λ q. t; fits = λ y q. absurd (cc); decision = λ y q. absurd (cc) }

  overflow_decides : (b : Bool) → leb (n.cursor + len + 0) n.overflow ≡ b → n.mode ≡ Alloc
      → Decides S L
      (pick b (Some (decided (numbers_of (framed (bare n) Alloc n.raw_offset n.raw_len (max n.kept (n.cursor + len)) n.cursor len)) changes n.kept g)) None)
      (following (route_moves g) changes (finish Alloc (plain n S L) [] len)) len
  unfolding is_too_long following decision_of
  overflow_decides true e h =
      some_decides _ _
      (le-ltb n.overflow (n.cursor + len) (omega (arith, leb-true (n.cursor + len + 0) n.overflow e)))
      (rw (grown n.kept (n.cursor + len), add-zero changes))
  overflow_decides false e h =
      none_decides _ (lt-ltb n.overflow (n.cursor + len) (omega (arith, leb-false (n.cursor + len + 0) n.overflow e)))

  finishes : (mode : PoolMode) → n.mode ≡ mode → Decides S L (finished_on mode n g changes len) (following (route_moves g) changes (finish mode (plain n S L) [] len)) len
  unfolding is_too_long following decision_of finished_on
  finishes Back h =
      some_decides _ _ refl (rw (h, le-ltb n.kept n.kept (le_refl n.kept), append-nil (route_moves g), add-zero changes))
  finishes (Front f) h =
      some_decides _ _ refl (rw (h, le-ltb n.kept n.kept (le_refl n.kept), append-nil (route_moves g), add-zero changes))
  finishes Alloc h = overflow_decides (leb (n.cursor + len + 0) n.overflow) refl h

  pub finish_decides : (c : Option Decided) → c ≡ finished_on n.mode n g changes len → Decides S L c (following (route_moves g) changes (finished (plain n S L) len)) len
  unfolding finished
  finish_decides c e = rw e (finishes n.mode refl)

-- ---- The recursion

-- every record on the way is placeable again
module _ (w : ℕ) (p : BufferPool) (P : Placeable w p) where
  pub placeable_as : (q : BufferPool) → q.slots ≡ p.slots → q.live ≡ p.live → q.back_start + q.back_len ≤ w → front_len_of q.mode ≤ w
      → (is_alloc q.mode ≡ false → q.cursor ≡ 0) → (is_alloc q.mode ≡ true → q.raw_len ≡ 0) → Placeable w q
  placeable_as q s l b f c z =
      record {
        count_is = s ∙ P.count_is;
        worded = record { most = rw s P.worded.most; word = rw (s, l) P.worded.word };
        back_within = b;
        front_within = f;
        no_cursor = c;
        no_len = z;
      }

  out_placeable : Placeable w (to_alloc p)
  out_placeable = placeable_as (to_alloc p) refl refl P.back_within (omega arith) (λ e. absurd (no_true (sym e))) (λ _. refl)

  tail_placeable : p.cursor ≡ 0 → Placeable w (tail_cleared w p)
  tail_placeable z = placeable_as (tail_cleared w p) refl refl (omega (arith, P.back_within)) (omega arith) (λ _. z) (λ e. absurd (no_true e))

  head_placeable : p.cursor ≡ 0 → Placeable w (head_cleared w p)
  head_placeable z =
      placeable_as (head_cleared w p) refl refl (omega (arith, P.back_within, leading_le w p.live)) (omega arith) (λ _. z)
      (λ e. absurd (no_true e))

  leave_placeable : (c t : Bool) (moves : List Move) → p.cursor ≡ 0 → Placeable w (leave_on c t w p moves).pool
  unfolding leave_on
  leave_placeable true true moves z = tail_placeable z
  leave_placeable true false moves z = out_placeable
  leave_placeable false t moves z = out_placeable

  back_placeable : (a c t h : Bool) → p.cursor ≡ 0 → Placeable w (back_on a c t h w p).pool
  unfolding back_on
  back_placeable true c t h z = P
  back_placeable false false t h z = out_placeable
  back_placeable false true true h z = tail_placeable z
  back_placeable false true false true z = head_placeable z
  back_placeable false true false false z = out_placeable

  alloc_placeable : (entered a t h : Bool) → stays w entered p ≡ a → Placeable w (alloc_on a t h w p).pool
  unfolding alloc_on
  alloc_placeable entered true t h e = P
  alloc_placeable entered false true h e = tail_placeable (stays_not w p entered e).0
  alloc_placeable entered false false true e = head_placeable (stays_not w p entered e).0
  alloc_placeable entered false false false e = P

front_placeable : (w : ℕ) (p : BufferPool) → Placeable w p → (f : PoolFront) (len : ℕ) (a d g : Bool) → f.len ≤ w → p.cursor ≡ 0
    → Placeable w (front_on a d g w p f len).pool
unfolding front_on
front_placeable w p P f len a d g h z = go a d g
  where
    cleared : Placeable w (front_cleared w p f)
    cleared =
        placeable_as w p P (front_cleared w p f) refl refl P.back_within (omega (arith, (last_held w p.live f.len h).within)) (λ _. z)
        (λ e. absurd (no_true e))

    go : (a d g : Bool) → Placeable w (front_on a d g w p f len).pool
    go true d g = P
    go false true true = cleared
    go false true false =
        leave_placeable w (front_cleared w p f) cleared (clearable w (front_cleared w p f)) (tail_fits w (front_cleared w p f) len) _ z
    go false false g = leave_placeable w p P (clearable w p) (tail_fits w p len) [] z

pub layer_placeable : (w : ℕ) (p : BufferPool) → Placeable w p → (entered : Bool) (len : ℕ) (mode : PoolMode) → p.mode ≡ mode
    → Placeable w (layer w entered mode p len).pool
unfolding layer back_layer front_layer alloc_layer
layer_placeable w p P entered len Back h = back_placeable w p P _ _ _ _ (P.no_cursor (rw h))
layer_placeable w p P entered len (Front f) h = front_placeable w p P f len _ _ _ (rw h at P.front_within) (P.no_cursor (rw h))
layer_placeable w p P entered len Alloc h = alloc_placeable w p P entered (stays w entered p) _ _ refl

-- every record that fits is placeable
pub fit_placeable : (w : ℕ) (r : BufferPool) → Fit w r → Placeable w r
fit_placeable w r T =
    let R = T.0 in
    record {
      count_is = R.count_is;
      worded = ready_worded w r R;
      back_within = R.back_within;
      front_within = slots r.mode T.1;
      no_cursor = cursor r.mode T.1;
      no_len = empty r.mode T.1;
    }
  where
    slots : (mode : PoolMode) → InMode w mode r 0 → front_len_of mode ≤ w
    slots Back I = omega arith
    slots (Front f) I = omega (arith, I.len_within, I.front_within, T.0.start_below)
    slots Alloc I = omega arith

    cursor : (mode : PoolMode) → InMode w mode r 0 → is_alloc mode ≡ false → r.cursor ≡ 0
    cursor Back I e = I.no_cursor
    cursor (Front f) I e = I.no_cursor
    cursor Alloc I e = absurd (no_true (sym e))

    empty : (mode : PoolMode) → InMode w mode r 0 → is_alloc mode ≡ true → r.raw_len ≡ 0
    empty Back I e = absurd (no_true e)
    empty (Front f) I e = absurd (no_true e)
    empty Alloc I e = I.no_len

-- the reservation after moves
finish_moves : (mode : PoolMode) (r : BufferPool) (moves : List Move) (len : ℕ) → finish mode r moves len ≡ first moves (finish mode r [] len)
finish_moves Back r moves len = rw (append-nil moves)
finish_moves (Front f) r moves len = rw (append-nil moves)
finish_moves Alloc r moves len = refl

-- placing reads no array
pub placeable_bare : (w : ℕ) (n : Numbers) (S L : List ℕ) → Placeable w (plain n S L) → Placeable w (bare n)
placeable_bare w n S L P =
    record {
      count_is = P.count_is;
      worded = record { most = P.worded.most; word = P.worded.word };
      back_within = P.back_within;
      front_within = P.front_within;
      no_cursor = P.no_cursor;
      no_len = P.no_len;
    }

placeable_plain : (w : ℕ) (n : Numbers) (S L : List ℕ) → Placeable w (bare n) → Placeable w (plain n S L)
placeable_plain w n S L P =
    record {
      count_is = P.count_is;
      worded = record { most = P.worded.most; word = P.worded.word };
      back_within = P.back_within;
      front_within = P.front_within;
      no_cursor = P.no_cursor;
      no_len = P.no_len;
    }

-- a step that does not go out keeps the frame's length, and one that does is in A
pub record Goes (r : BufferPool) (l : Layer) : Type 0 where
  pub length_is : l.entered ≡ false → l.pool.raw_len ≡ r.raw_len
  pub mode_is : l.entered ≡ true → l.pool.mode ≡ Alloc

goes_out : (r : BufferPool) (q : BufferPool) (moves : List Move) → q.mode ≡ Alloc → Goes r (change true q moves)
goes_out r q moves m = record { length_is = λ e. absurd (no_true (sym e)); mode_is = λ _. m }

goes_on : (r : BufferPool) (again : Bool) (mode : PoolMode) (q : BufferPool) (moves : List Move) → q.raw_len ≡ r.raw_len
    → Goes r (record { again = again; entered = false; mode = mode; pool = q; moves = moves })
goes_on r again mode q moves l = record { length_is = λ _. l; mode_is = λ e. absurd (no_true e) }

module _ (w : ℕ) (r : BufferPool) where
  leave_goes : (q : BufferPool) (moves : List Move) (c t : Bool) → q.raw_len ≡ r.raw_len → Goes r (leave_on c t w q moves)
  unfolding leave_on
  leave_goes q moves true true l = goes_on r true _ (tail_cleared w q) _ l
  leave_goes q moves true false l = goes_out r (to_alloc q) _ refl
  leave_goes q moves false t l = goes_out r (to_alloc q) _ refl

  back_goes : (a c t h : Bool) → Goes r (back_on a c t h w r)
  unfolding back_on
  back_goes true c t h = goes_on r false Back r [] refl
  back_goes false false t h = goes_out r (to_alloc r) _ refl
  back_goes false true true h = goes_on r false Back (tail_cleared w r) _ refl
  back_goes false true false true = goes_on r true _ (head_cleared w r) _ refl
  back_goes false true false false = goes_out r (to_alloc r) _ refl

  front_goes : (f : PoolFront) (len : ℕ) (a d g : Bool) → Goes r (front_on a d g w r f len)
  unfolding front_on
  front_goes f len true d g = goes_on r false (Front f) r [] refl
  front_goes f len false true true = goes_on r false _ (front_cleared w r f) _ refl
  front_goes f len false true false =
      leave_goes (front_cleared w r f) _ (clearable w (front_cleared w r f)) (tail_fits w (front_cleared w r f) len) refl
  front_goes f len false false g = leave_goes r [] (clearable w r) (tail_fits w r len) refl

  alloc_goes : (a t h : Bool) → Goes r (alloc_on a t h w r)
  unfolding alloc_on
  alloc_goes true t h = goes_on r false Alloc r [] refl
  alloc_goes false true h = goes_on r true _ (tail_cleared w r) _ refl
  alloc_goes false false true = goes_on r true _ (head_cleared w r) _ refl
  alloc_goes false false false = goes_on r false Alloc r [] refl

  layer_goes : (len : ℕ) (mode : PoolMode) → Goes r (layer w false mode r len)
  unfolding layer back_layer front_layer alloc_layer
  layer_goes len Back = back_goes _ _ _ _
  layer_goes len (Front f) = front_goes f len _ _ _
  layer_goes len Alloc = alloc_goes _ _ _

following_first : (before moves : List Move) (changes : ℕ) (d : Decision) → following (before ++ moves) changes d ≡ following before changes (first moves d)
unfolding following
following_first before moves changes d = rw append_assoc

-- where the code says which way it goes
way_of : (g : Route) (changes : ℕ) (s : ModeStep) (x : ModeChange) → s.change ≡ x
    → onward g changes s.via (is_out x) (pick (is_out x) s.via s.numbers.raw_offset) ≡ onward g changes s.via (is_out s.change) (pick (is_out s.change) s.via s.numbers.raw_offset)
way_of g changes s x t = ap (λ (x : ModeChange). onward g changes s.via (is_out x) (pick (is_out x) s.via s.numbers.raw_offset)) (sym t)

-- the layer's parts, as the code's step has them
module _ (n : Numbers) (S L : List ℕ) (len : ℕ) (s : ModeStep) (e : layer_of S L n s ≡ layer n.slots false n.mode (plain n S L) len) where
  abbrev l : Layer
  l = layer n.slots false n.mode (plain n S L) len

  moves_is : step_moves n s ≡ l.moves
  unfolding layer_of
  moves_is = ap (λ (x : Layer). x.moves) e

  again_is : is_again s.change ≡ l.again
  unfolding layer_of
  again_is = ap (λ (x : Layer). x.again) e

  entered_is : is_out s.change ≡ l.entered
  unfolding layer_of
  entered_is = ap (λ (x : Layer). x.entered) e

  pool_is : plain s.numbers S L ≡ l.pool
  unfolding layer_of
  pool_is = ap (λ (x : Layer). x.pool) e

  mode_is : s.numbers.mode ≡ l.mode
  unfolding layer_of
  mode_is = ap (λ (x : Layer). x.mode) e

  module _ (P : Placeable n.slots (bare n)) where
    next : Placeable n.slots (plain s.numbers S L)
    next =
        subst (Placeable n.slots) (sym pool_is)
        (layer_placeable n.slots (plain n S L) (placeable_plain n.slots n S L P) false len n.mode refl)

    slots_is : s.numbers.slots ≡ n.slots
    slots_is = next.count_is

    pub step_placeable : Placeable s.numbers.slots (bare s.numbers)
    step_placeable = subst (λ (w : ℕ). Placeable w (bare s.numbers)) (sym slots_is) (placeable_bare n.slots s.numbers S L next)

  step_alloc : is_out s.change ≡ true → s.numbers.mode ≡ Alloc
  step_alloc t = ap (λ (r : BufferPool). r.mode) pool_is ∙ (layer_goes n.slots (plain n S L) len n.mode).mode_is (sym entered_is ∙ t)

  -- the way after the step
  module _ (g : Route) (changes : ℕ) (K : changes < 2 → Reaches g changes n) (k : changes < 2)
      (on : Route) (i : on ≡ onward g changes s.via (is_out s.change) (pick (is_out s.change) s.via s.numbers.raw_offset)) where
    on_moves : route_moves on ≡ route_moves g ++ l.moves
    on_moves = onward_moves g changes n (K k) s on i ∙ ap (λ (x : List Move). route_moves g ++ x) moves_is

    step_reaches : is_out s.change ≡ false → changes + 1 < 2 → Reaches on (changes + 1) s.numbers
    step_reaches t j =
        onward_reaches g changes n (K k) s (omega (arith, j)) t
        (ap (λ (r : BufferPool). r.raw_len) pool_is ∙ (layer_goes n.slots (plain n S L) len n.mode).length_is (sym entered_is ∙ t)) on i

  pub reaches_again : (g : Route) (changes : ℕ) → (changes < 2 → Reaches g changes n) → (on : Route) → s.change ≡ Changes
      → on ≡ onward g changes s.via false s.numbers.raw_offset → changes + 1 < 2 → Reaches on (changes + 1) s.numbers
  reaches_again g changes K on t i j =
      step_reaches g changes K (omega (arith, j)) on (i ∙ way_of g changes s Changes t) (ap is_out t) j

module _ (n : Numbers) (S L : List ℕ) (g : Route) (changes left len : ℕ) (c : Option Decided) where
  abbrev Whole : Bool → Type 0
  Whole entered = Decides S L c (following (route_moves g) changes (place_of n.slots left entered n.mode (plain n S L) len)) len

  pub no_change_left : left ≡ 0 → c ≡ finished_on n.mode n g changes len → Whole false
  unfolding place_of finished
  no_change_left z e = rw z (finish_decides n S L g changes len c e)

  -- A keeps a frame that entered it just now
  just_entered : n.mode ≡ Alloc → c ≡ finished_on n.mode n g changes len → Whole true
  unfolding place_of finished layer alloc_layer alloc_on stays
  just_entered h e =
      subst (λ (d : Decision). Decides S L c (following (route_moves g) changes d) len) (go left n.mode h) (finish_decides n S L g changes len c e)
    where
      go : (k : ℕ) (mode : PoolMode) → mode ≡ Alloc → finish mode (plain n S L) [] len ≡ place_of n.slots k true mode (plain n S L) len
      go zero mode a = refl
      go (suc k) mode a = rw a refl

module _ (n : Numbers) (S L : List ℕ) (g : Route) (changes left len : ℕ) (c : Option Decided)
    (o : left ≡ 0 → ⊥) (T : changes + left ≡ 2) (K : changes < 2 → Reaches g changes n)
    (s : ModeStep) (e : layer_of S L n s ≡ layer n.slots false n.mode (plain n S L) len) where
  abbrev m : Layer
  m = layer n.slots false n.mode (plain n S L) len

  -- one layer of the definition
  unfolds : (again : Bool) → m.again ≡ again → (k : ℕ) → left ≡ suc k
      → place_of n.slots left false n.mode (plain n S L) len ≡ resolve_on (λ e q. place_of n.slots k e q.mode q len) again m len
  unfolding place_of
  unfolds again t k z = rw (z, t)

  module _ (on : Route) (i : on ≡ onward g changes s.via (is_out s.change) (pick (is_out s.change) s.via s.numbers.raw_offset)) where
    way : route_moves on ≡ route_moves g ++ m.moves
    way = on_moves n S L len s e g changes K (omega (arith, T, o)) on i

    follows : (k : ℕ) → left ≡ suc k → is_again s.change ≡ true
        → following (route_moves on) (changes + 1) (place_of n.slots (left - 1) (is_out s.change) s.numbers.mode (plain s.numbers S L) len)
        ≡ following (route_moves g) changes (place_of n.slots left false n.mode (plain n S L) len)
    unfolding following
    follows k z t =
        let d : Decision = place_of n.slots k m.entered m.pool.mode m.pool len in
        let j : left - 1 ≡ k = omega arith in
        ap (λ (x : ℕ). following (route_moves on) (changes + 1) (place_of n.slots x (is_out s.change) s.numbers.mode (plain s.numbers S L) len)) j
        ∙ ap (λ (x : Bool). following (route_moves on) (changes + 1) (place_of n.slots k x s.numbers.mode (plain s.numbers S L) len)) (entered_is n S L len s e)
        ∙ ap (λ (r : BufferPool). following (route_moves on) (changes + 1) (place_of n.slots k m.entered r.mode r len)) (pool_is n S L len s e)
        ∙ ap (λ (x : List Move). following x (changes + 1) d) way
        ∙ one_more (route_moves g) m.moves d
        ∙ ap (following (route_moves g) changes) (sym (unfolds true (sym (again_is n S L len s e) ∙ t) k z))
      where
        one_more : (before moves : List Move) (d : Decision)
            → following (before ++ moves) (changes + 1) d
            ≡ following before changes (record { next = d.next; changes = suc d.changes; moves = moves ++ d.moves; heap = d.heap })
        one_more before moves d = let i : changes + 1 + d.changes ≡ changes + suc d.changes = omega arith in rw (i, append_assoc before moves d.moves)

    again : Placeable n.slots (bare n) → is_again s.change ≡ true
        → Decides S L c (following (route_moves on) (changes + 1) (place_of s.numbers.slots (left - 1) (is_out s.change) s.numbers.mode (plain s.numbers S L) len)) len
        → Whole n S L g changes left len c false
    again P t D = go left refl
      where
        go : (k : ℕ) → left ≡ k → Whole n S L g changes left len c false
        go zero z = absurd (o z)
        go (suc k) z =
            subst (λ (d : Decision). Decides S L c d len)
            (ap (λ (w : ℕ). following (route_moves on) (changes + 1) (place_of w (left - 1) (is_out s.change) s.numbers.mode (plain s.numbers S L) len)) (slots_is n S L len s e P)
            ∙ follows k z t)
            D

    stops : (k : ℕ) → left ≡ suc k → is_again s.change ≡ false
        → following (route_moves on) changes (finished (plain s.numbers S L) len)
        ≡ following (route_moves g) changes (place_of n.slots left false n.mode (plain n S L) len)
    unfolding finished
    stops k z t =
        ap (λ (x : List Move). following x changes (finish s.numbers.mode (plain s.numbers S L) [] len)) way
        ∙ ap (λ (x : BufferPool). following (route_moves g ++ m.moves) changes (finish s.numbers.mode x [] len)) (pool_is n S L len s e)
        ∙ ap (λ (x : PoolMode). following (route_moves g ++ m.moves) changes (finish x m.pool [] len)) (mode_is n S L len s e)
        ∙ following_first (route_moves g) m.moves changes (finish m.mode m.pool [] len)
        ∙ ap (following (route_moves g) changes) (sym (finish_moves m.mode m.pool m.moves len) ∙ sym (unfolds false (sym (again_is n S L len s e) ∙ t) k z))

  pub places_here : s.change ≡ Stays → (on : Route) → on ≡ onward g changes s.via false s.numbers.raw_offset
      → c ≡ finished_on s.numbers.mode s.numbers on changes len → Whole n S L g changes left len c false
  places_here t on i f = go left refl
    where
      go : (k : ℕ) → left ≡ k → Whole n S L g changes left len c false
      go zero z = absurd (o z)
      go (suc k) z =
          subst (λ (d : Decision). Decides S L c d len) (stops on (i ∙ way_of g changes s Stays t) k z (ap is_again t))
          (finish_decides s.numbers S L on changes len c f)

  module _ (P : Placeable n.slots (bare n)) where
    pub places_again : s.change ≡ Changes → (on : Route) → on ≡ onward g changes s.via false s.numbers.raw_offset
        → Decides S L c (following (route_moves on) (changes + 1) (place_of s.numbers.slots (left - 1) false s.numbers.mode (plain s.numbers S L) len)) len
        → Whole n S L g changes left len c false
    places_again t on i D =
        again on (i ∙ way_of g changes s Changes t) P (ap is_again t)
        (subst (λ (x : Bool). Decides S L c (following (route_moves on) (changes + 1) (place_of s.numbers.slots (left - 1) x s.numbers.mode (plain s.numbers S L) len)) len) (ap is_out (sym t)) D)

    pub places_out : s.change ≡ GoesOut → (on : Route) → on ≡ onward g changes s.via true s.via
        → c ≡ finished_on s.numbers.mode s.numbers on (changes + 1) len → Whole n S L g changes left len c false
    places_out t on i f =
        again on (i ∙ way_of g changes s GoesOut t) P (ap is_again t)
        (subst (λ (x : Bool). Decides S L c (following (route_moves on) (changes + 1) (place_of s.numbers.slots (left - 1) x s.numbers.mode (plain s.numbers S L) len)) len) (ap is_out (sym t))
        (just_entered s.numbers S L on (changes + 1) (left - 1) len c (step_alloc n S L len s e (ap is_out t)) f))

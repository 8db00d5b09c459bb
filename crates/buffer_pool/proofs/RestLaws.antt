-- The arrays that neither the soundness test nor a reserve reads, `Rest` of Numbers.antt: the test, the cause that turns every call away
-- and the decision of a reserve are the same whatever stands in them, and a decision leaves them as they are. Assumes nothing.
use mathlib.Core.Path.{◌≡◌, refl, ap}
use mathlib.Core.Bool.{Bool, true, false}
use mathlib.Core.List.{List, []}
use Prim.Native.Nat.{ℕ, zero, suc, ◌+◌}
use lib.Dec.{ltb, eqb}
use Rattle.buffer_pool.specs.declared.buffer_pool.BufferPool.{BufferPool}
use Rattle.buffer_pool.specs.declared.buffer_pool.PoolFront.{PoolFront}
use Rattle.buffer_pool.specs.declared.buffer_pool.PoolMode.{PoolMode}
use Rattle.buffer_pool.specs.declared.buffer_pool.PoolMode.TheVariants.{Back, Front, Alloc}
use Rattle.buffer_pool.specs.declared.numbers.Numbers.{Numbers}
use Rattle.buffer_pool.specs.Record.{after, marked}
use Rattle.buffer_pool.specs.Numbers.{Rest, RestWhole, filled, plain}
use Rattle.buffer_pool.specs.Moves.{Memories, Move}
use Rattle.buffer_pool.specs.Soundness.{shaped, limited, counted, rising, framed_within, back_numbers, back_sound, front_numbers, besides, front_sound, alloc_sound, mode_sound, orderly, sound}
use Rattle.buffer_pool.specs.Placing.{Decision, Layer, clearable, tail_start, tail_fits, head_fits, back_fits, front_fits, back_on, leave_on, front_on, front_cleared, stays, alloc_on, back_layer, front_layer, alloc_layer, layer, finish, changed, resolve_on, most_changes, is_too_long, place_of, resets, reset_on, reset_moves, reset, place}
use Rattle.buffer_pool.specs.Calls.{misfit, cause, guard}

-- r with other arrays of that kind
abbrev pub rested : Rest → BufferPool → BufferPool
rested o r = marked r r.live r.starts r.lengths o.serials o.callers o.given

-- a decision whose next record has them
abbrev pub restored : Rest → Decision → Decision
restored o d = record { next = rested o d.next; changes = d.changes; moves = d.moves; heap = d.heap }

-- ---- The soundness test

module _ (w : ℕ) (n : Numbers) (S L : List ℕ) (o : Rest) where
  abbrev r : BufferPool
  r = plain n S L

  abbrev q : BufferPool
  q = filled n S L o

  rising_rest : (most k p end : ℕ) → rising w q most k p end ≡ rising w r most k p end
  unfolding rising
  rising_rest most zero p end = refl
  rising_rest most (suc k) p end = rw (rising_rest most k (suc p) (after S L p), rising_rest most k (suc p) end) refl

  mode_rest : (mode : PoolMode) → mode_sound w mode q ≡ mode_sound w mode r
  unfolding mode_sound back_sound back_numbers framed_within front_sound front_numbers alloc_sound besides
  mode_rest Back = refl
  mode_rest (Front f) = refl
  mode_rest Alloc = refl

  module _ (W : RestWhole o) where
    shaped_rest : shaped w q ≡ shaped w r
    unfolding shaped
    shaped_rest = rw (W.serials_all, W.callers_all, W.given_all) refl

    pub sound_rest : sound w q ≡ sound w r
    unfolding sound limited orderly counted
    sound_rest = rw (shaped_rest, rising_rest (n.back_start + n.back_len) w 1 0, mode_rest n.mode) refl

    pub cause_rest : (m : Memories) → cause w q m ≡ cause w r m
    unfolding cause misfit
    cause_rest m = rw sound_rest refl

    pub guard_rest : (m : Memories) → guard w q m ≡ guard w r m
    unfolding guard misfit
    guard_rest m = rw sound_rest refl

-- ---- Layers

abbrev rested_layer : Rest → Layer → Layer
rested_layer o l = record { again = l.again; entered = l.entered; mode = l.mode; pool = rested o l.pool; moves = l.moves }

module _ (w : ℕ) (o : Rest) where
  back_on_lem : (a c t h : Bool) (r : BufferPool) → back_on a c t h w (rested o r) ≡ rested_layer o (back_on a c t h w r)
  unfolding back_on tail_start
  back_on_lem true c t h r = refl
  back_on_lem false false t h r = refl
  back_on_lem false true true h r = refl
  back_on_lem false true false true r = refl
  back_on_lem false true false false r = refl

  alloc_on_lem : (a t h : Bool) (r : BufferPool) → alloc_on a t h w (rested o r) ≡ rested_layer o (alloc_on a t h w r)
  unfolding alloc_on tail_start
  alloc_on_lem true t h r = refl
  alloc_on_lem false true h r = refl
  alloc_on_lem false false true r = refl
  alloc_on_lem false false false r = refl

  leave_on_lem : (c t : Bool) (r : BufferPool) (moves : List Move)
      → leave_on c t w (rested o r) moves ≡ rested_layer o (leave_on c t w r moves)
  unfolding leave_on tail_start
  leave_on_lem true true r moves = refl
  leave_on_lem true false r moves = refl
  leave_on_lem false t r moves = refl

  front_on_lem : (a d g : Bool) (r : BufferPool) (f : PoolFront) (len : ℕ)
      → front_on a d g w (rested o r) f len ≡ rested_layer o (front_on a d g w r f len)
  unfolding front_on clearable tail_fits tail_start
  front_on_lem true d g r f len = refl
  front_on_lem false true true r f len = refl
  front_on_lem false true false r f len =
      leave_on_lem (clearable w (front_cleared w r f)) (tail_fits w (front_cleared w r f) len) (front_cleared w r f) _
  front_on_lem false false g r f len = leave_on_lem (clearable w r) (tail_fits w r len) r []

  layer_rest : (entered : Bool) (mode : PoolMode) (r : BufferPool) (len : ℕ)
      → layer w entered mode (rested o r) len ≡ rested_layer o (layer w entered mode r len)
  unfolding layer back_layer front_layer alloc_layer back_fits front_fits clearable tail_fits tail_start head_fits stays
  layer_rest entered Back r len = back_on_lem (back_fits w r len) (clearable w r) (tail_fits w r len) (head_fits w r) r
  layer_rest entered (Front f) r len = front_on_lem _ _ _ r f len
  layer_rest entered Alloc r len = alloc_on_lem (stays w entered r) (tail_fits w r len) (head_fits w r) r

-- ---- The reset

module _ (o : Rest) (r : BufferPool) where
  reset_on_lem : (a t z : Bool) (mode : PoolMode) → reset_on a t z mode (rested o r) ≡ rested o (reset_on a t z mode r)
  unfolding reset_on
  reset_on_lem false t z mode = refl
  reset_on_lem true t z Back = refl
  reset_on_lem true t z (Front f) = refl
  reset_on_lem true true true Alloc = refl
  reset_on_lem true true false Alloc = refl
  reset_on_lem true false z Alloc = refl

  reset_moves_lem : (a t z : Bool) (mode : PoolMode) → reset_moves a t z mode (rested o r) ≡ reset_moves a t z mode r
  unfolding reset_moves
  reset_moves_lem false t z mode = refl
  reset_moves_lem true t z Back = refl
  reset_moves_lem true t z (Front f) = refl
  reset_moves_lem true true true Alloc = refl
  reset_moves_lem true true false Alloc = refl
  reset_moves_lem true false z Alloc = refl

  reset_rest : reset (rested o r) ≡ rested o (reset r)
  unfolding reset resets
  reset_rest = reset_on_lem (resets r) (ltb r.cursor r.capacity) (eqb r.cursor 0) r.mode

-- ---- The decision

module _ (w : ℕ) (o : Rest) (len : ℕ) where
  finish_rest : (mode : PoolMode) (r : BufferPool) (moves : List Move)
      → finish mode (rested o r) moves len ≡ restored o (finish mode r moves len)
  finish_rest Back r moves = refl
  finish_rest (Front f) r moves = refl
  finish_rest Alloc r moves = refl

  place_of_rest : (k : ℕ) (entered : Bool) (mode : PoolMode) (r : BufferPool)
      → place_of w k entered mode (rested o r) len ≡ restored o (place_of w k entered mode r len)
  unfolding place_of
  place_of_rest zero entered mode r = finish_rest mode r []
  place_of_rest (suc k) entered mode r =
      rw (layer_rest w o entered mode r len)
      (go (layer w entered mode r len) (λ e s. place_of_rest k e s.mode s) (layer w entered mode r len).again)
    where
      go : (l : Layer)
          → ((e : Bool) (s : BufferPool) → place_of w k e s.mode (rested o s) len ≡ restored o (place_of w k e s.mode s len))
          → (again : Bool)
          → resolve_on (λ e s. place_of w k e s.mode s len) again (rested_layer o l) len
          ≡ restored o (resolve_on (λ e s. place_of w k e s.mode s len) again l len)
      go l P true = ap (changed l.moves) (P l.entered l.pool)
      go l P false = finish_rest l.mode l.pool l.moves

  -- whatever the record
  pub placed_rest : (r : BufferPool) → place w (rested o r) len ≡ restored o (place w r len)
  unfolding place resets
  placed_rest r =
      rw (
        reset_rest o r,
        reset_moves_lem o r (resets r) (ltb r.cursor r.capacity) (eqb r.cursor 0) r.mode,
        place_of_rest most_changes false (reset r).mode (reset r),
      ) refl

  pub place_rest : (n : Numbers) (S L : List ℕ) → place w (filled n S L o) len ≡ restored o (place w (plain n S L) len)
  place_rest n S L = placed_rest (plain n S L)

pub long_rest : (o : Rest) (d : Decision) (len : ℕ) → is_too_long (restored o d) len ≡ is_too_long d len
unfolding is_too_long
long_rest o d len = refl

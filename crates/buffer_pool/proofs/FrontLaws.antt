-- One call of `reserve_` in the front, from what the code of pool_front.rt knows where it returns. Assumes nothing.
use mathlib.Core.Path.{◌≡◌, refl, sym, ap, ◌∙◌}
use Rattle.std.specs.Prelude.{Some, None}
use mathlib.Core.Bool.{Bool, true, false, not, ◌&&◌}
use mathlib.Core.List.{List, [], ◌++◌, append-nil}
use Prim.Native.Nat.{ℕ, ◌+◌, ◌≤◌, ◌<◌}
use lib.Dec.{leb, ltb}
use borrow.Author.Tests.{lt-ltb, le-ltb}
use Rattle.laws.specs.Live.{last_live}
use Rattle.laws.proofs.Tests.{not_true, not_false}
use Rattle.buffer_pool.specs.declared.buffer_pool.BufferPool.{BufferPool}
use Rattle.buffer_pool.specs.declared.buffer_pool.PoolFront.{PoolFront}
use Rattle.buffer_pool.specs.declared.buffer_pool.PoolMode.TheVariants.{Front}
use Rattle.buffer_pool.specs.declared.numbers.Numbers.{Numbers}
use Rattle.buffer_pool.specs.declared.placing.ModeChange.TheVariants.{Stays, Changes}
use Rattle.buffer_pool.specs.declared.placing.ModeStep.{ModeStep}
use Rattle.buffer_pool.specs.Numbers.{numbers_of, plain, bare}
use Rattle.buffer_pool.specs.Moves.{Move, within}
use Rattle.buffer_pool.specs.Placing.{Layer, stay, clearable, tail_fits, tail_cleared, front_fits, front_last, front_start, front_cleared, leave_on, leave, front_on, front_layer}
use Rattle.buffer_pool.specs.Deciding.{cleared_on, step, gone_out, step_moves, layer_of}
use Rattle.buffer_pool.proofs.LayerLaws.{within_same, clearable_plain, layer_out, layer_to, layer_still, cleared_some, cleared_none}

-- ---- The front gives way

module _ (n : Numbers) (S L : List ℕ) (len : ℕ) (m : ModeStep) where
  module _ (c : Bool) (g : c ≡ clearable n.slots (bare n)) where
    pub leave_not_clearable : not c ≡ true → m ≡ gone_out n → layer_of S L n m ≡ leave n.slots (plain n S L) [] len
    unfolding leave_on
    leave_not_clearable h f = layer_out S L n m f ∙ rw (← (g ∙ clearable_plain n S L), not_true c h)

    module _ (h : not c ≡ false) where
      pub leave_clears_tail : (t : Numbers) → Some t ≡ cleared_on (tail_fits n.slots (plain n S L) len) (numbers_of (tail_cleared n.slots (plain n S L)))
          → m ≡ step Changes n.raw_offset t → layer_of S L n m ≡ leave n.slots (plain n S L) [] len
      unfolding leave_on
      leave_clears_tail t i f =
          let x = cleared_some (tail_fits n.slots (plain n S L) len) (numbers_of (tail_cleared n.slots (plain n S L))) t i in
          layer_to S L n m Changes refl t f ∙ rw (x.1, ← (g ∙ clearable_plain n S L), not_false c h, x.0)

      pub leave_goes_out : None ≡ cleared_on (tail_fits n.slots (plain n S L) len) (numbers_of (tail_cleared n.slots (plain n S L)))
          → m ≡ gone_out n → layer_of S L n m ≡ leave n.slots (plain n S L) [] len
      unfolding leave_on
      leave_goes_out i f =
          layer_out S L n m f
          ∙ rw (← (g ∙ clearable_plain n S L), not_false c h, cleared_none (tail_fits n.slots (plain n S L) len) (numbers_of (tail_cleared n.slots (plain n S L))) i)

  pub left_by_out : m ≡ gone_out n → m.via ≡ n.raw_offset
  left_by_out f = rw f refl

  pub left_by : (q : Numbers) → m ≡ step Changes n.raw_offset q → m.via ≡ n.raw_offset
  left_by q f = rw f refl

-- moves made before are the first of those that it leaves with
abbrev before : List Move → Layer → Layer
before moves l = record { again = l.again; entered = l.entered; mode = l.mode; pool = l.pool; moves = moves ++ l.moves }

before_leave : (w : ℕ) (p : BufferPool) (moves : List Move) (c t : Bool) → before moves (leave_on c t w p []) ≡ leave_on c t w p moves
unfolding leave_on
before_leave w p moves true true = refl
before_leave w p moves true false = refl
before_leave w p moves false t = refl

-- a step from numbers whose frame was moved first
step_before : (S L : List ℕ) (n q : Numbers) (m : ModeStep) → m.via ≡ q.raw_offset → q.raw_len ≡ n.raw_len
    → layer_of S L n m ≡ before (within n.raw_offset n.raw_len q.raw_offset) (layer_of S L q m)
unfolding layer_of step_moves
step_before S L n q m v l = rw (v, l, within_same q.raw_offset n.raw_len q.raw_offset refl)

-- ---- The front

module _ (n : Numbers) (S L : List ℕ) (f : PoolFront) (len : ℕ) (m : ModeStep)
    (b : Bool) (e : b ≡ (ltb f.len f.back_start && front_fits (bare n) f.byte_capacity len)) where
  fits_is : b ≡ (ltb f.len f.back_start && front_fits (plain n S L) f.byte_capacity len)
  unfolding front_fits
  fits_is = e

  pub front_keeps : n.mode ≡ Front f → b ≡ true → m ≡ step Stays n.raw_offset n
      → layer_of S L n m ≡ front_layer n.slots f (plain n S L) len
  unfolding front_layer front_on
  front_keeps h t s =
      layer_still S L n m Stays refl n s (within_same n.raw_offset n.raw_len n.raw_offset refl) ∙ rw (← fits_is, t, h)

  module _ (o : b ≡ false) (last : ℕ) (l : last ≡ last_live n.slots n.live f.len) where
    pub front_leaves : f.len ≤ last → layer_of S L n m ≡ leave n.slots (plain n S L) [] len
        → layer_of S L n m ≡ front_layer n.slots f (plain n S L) len
    unfolding front_layer front_on
    front_leaves h s = s ∙ rw (← fits_is, o, ← l, le-ltb last f.len h)

    module _ (h : last < f.len) (q : Numbers) (c : q ≡ numbers_of (front_cleared n.slots (plain n S L) f))
        (g : Bool) (i : g ≡ leb (q.raw_offset + n.raw_len + len) f.byte_capacity) where
      one_dropped : ltb (front_last n.slots (plain n S L) f) f.len ≡ true
      one_dropped = rw (← l) (lt-ltb last f.len h)

      -- the test after the drop
      tests : {x : Bool} → g ≡ x → front_fits (front_cleared n.slots (plain n S L) f) f.byte_capacity len ≡ x
      unfolding front_fits
      tests t = sym (i ∙ ap (λ (r : Numbers). leb (r.raw_offset + n.raw_len + len) f.byte_capacity) c) ∙ t

      pub front_drops : g ≡ true → m ≡ step Stays q.raw_offset q → layer_of S L n m ≡ front_layer n.slots f (plain n S L) len
      unfolding front_layer front_on
      front_drops t s =
          step_before S L n q m (rw s refl) (rw c refl)
          ∙ ap (before (within n.raw_offset n.raw_len q.raw_offset))
          (layer_still S L q m Stays refl q s (within_same q.raw_offset q.raw_len q.raw_offset refl))
          ∙ rw (c, ← fits_is, o, one_dropped, tests t) (sym (nothing_more (within n.raw_offset n.raw_len (front_start n.slots (plain n S L) f))))
        where
          nothing_more : (moves : List Move)
              → stay (front_cleared n.slots (plain n S L) f).mode (front_cleared n.slots (plain n S L) f) moves
              ≡ before moves (stay (front_cleared n.slots (plain n S L) f).mode (front_cleared n.slots (plain n S L) f) [])
          nothing_more moves = rw (append-nil moves) refl

      pub front_drops_leaves : g ≡ false → layer_of S L q m ≡ leave q.slots (plain q S L) [] len → m.via ≡ q.raw_offset
          → layer_of S L n m ≡ front_layer n.slots f (plain n S L) len
      unfolding front_layer front_on
      front_drops_leaves t s v =
          step_before S L n q m v (rw c refl)
          ∙ ap (before (within n.raw_offset n.raw_len q.raw_offset)) s
          ∙ rw (c, ← fits_is, o, one_dropped, tests t)
          (before_leave n.slots (front_cleared n.slots (plain n S L) f) (within n.raw_offset n.raw_len (front_cleared n.slots (plain n S L) f).raw_offset)
          (clearable n.slots (front_cleared n.slots (plain n S L) f)) (tail_fits n.slots (front_cleared n.slots (plain n S L) f) len))

-- One call of `reserve_` in the back and what all modes share, from what the code of placing.rt and pool_back.rt knows where it returns.
-- Assumes nothing.
use mathlib.Core.Path.{◌≡◌, refl, sym, ap, ◌∙◌}
use Rattle.std.specs.Prelude.{Some, None}
use mathlib.Core.Bool.{Bool, true, false, not, ◌||◌}
use mathlib.Core.List.{List, [], ◌∷◌}
use Prim.Native.Nat.{ℕ, ◌+◌}
use lib.Dec.{eqb}
use borrow.Author.Tests.{eq-eqb}
use Rattle.laws.specs.Tests.{pick}
use Rattle.laws.proofs.Tests.{not_true, not_false}
use Rattle.buffer_pool.specs.declared.numbers.Numbers.{Numbers}
use Rattle.buffer_pool.specs.declared.buffer_pool.PoolMode.TheVariants.{Back}
use Rattle.buffer_pool.specs.declared.placing.ModeChange.{ModeChange}
use Rattle.buffer_pool.specs.declared.placing.ModeChange.TheVariants.{Stays, Changes}
use Rattle.buffer_pool.specs.declared.placing.ModeStep.{ModeStep}
use Rattle.buffer_pool.specs.Numbers.{numbers_of, plain, bare}
use Rattle.buffer_pool.specs.Moves.{Move, Within, within}
use Rattle.buffer_pool.specs.Placing.{go_out, clearable, tail_fits, tail_cleared, head_fits, head_cleared, back_fits, back_on, back_layer}
use Rattle.buffer_pool.specs.Deciding.{cleared_on, step, is_again, is_out, gone_out, step_moves, layer_of}
use Rattle.buffer_pool.proofs.BackLaws.{clearable_is_full}

-- ---- No move

pub within_same : (a l b : ℕ) → a ≡ b → within a l b ≡ []
within_same a l b e = rw (eq-eqb a b e) (go (eqb l 0))
  where
    go : (x : Bool) → pick (x || true) [] (Within a l b ∷ []) ≡ []
    go true = refl
    go false = refl

pub within_empty : (a l b : ℕ) → l ≡ 0 → within a l b ≡ []
within_empty a l b e = rw (eq-eqb l 0 e) refl

-- ---- Tests that read no array

pub clearable_plain : (n : Numbers) (S L : List ℕ) → clearable n.slots (bare n) ≡ clearable n.slots (plain n S L)
unfolding clearable
clearable_plain n S L = refl

pub back_fits_plain : (n : Numbers) (S L : List ℕ) (len : ℕ) → back_fits n.slots (bare n) len ≡ back_fits n.slots (plain n S L) len
unfolding back_fits
back_fits_plain n S L len = refl

pub head_plain : (n : Numbers) (S L : List ℕ)
    → cleared_on (head_fits n.slots (plain n S [])) (numbers_of (head_cleared n.slots (plain n S [])))
    ≡ cleared_on (head_fits n.slots (plain n S L)) (numbers_of (head_cleared n.slots (plain n S L)))
unfolding head_fits
head_plain n S L = refl

-- ---- A step, from numbers in the pool or the overflow: it stays by `via`, changes by it, or goes out

module _ (S L : List ℕ) (n : Numbers) (m : ModeStep) where
  pub layer_out : m ≡ gone_out n → layer_of S L n m ≡ go_out (plain n S L) []
  unfolding layer_of step_moves
  layer_out f = rw (f, within_same n.raw_offset n.raw_len n.raw_offset refl)

  module _ (change : ModeChange) (z : is_out change ≡ false) (q : Numbers) (f : m ≡ step change n.raw_offset q) where
    -- straight to its own place
    pub layer_to : layer_of S L n m
        ≡ record { again = is_again change; entered = false; mode = q.mode; pool = plain q S L; moves = within n.raw_offset n.raw_len q.raw_offset }
    unfolding layer_of step_moves
    layer_to = rw (f, z, within_same n.raw_offset n.raw_len n.raw_offset refl) refl

    -- with no move
    pub layer_still : within n.raw_offset n.raw_len q.raw_offset ≡ []
        → layer_of S L n m ≡ record { again = is_again change; entered = false; mode = q.mode; pool = plain q S L; moves = [] }
    layer_still e = layer_to ∙ ap (λ (x : List Move). record { again = is_again change; entered = false; mode = q.mode; pool = plain q S L; moves = x }) e

-- ---- B

-- what a clear that was tried tells of its test and of the numbers after it
pub cleared_some : (test : Bool) (q r : Numbers) → Some r ≡ cleared_on test q → (test ≡ true) × (r ≡ q)
unfolding cleared_on
cleared_some true q r e = (refl, cc)
cleared_some false q r e = absurd (cc)

pub cleared_none : (test : Bool) (q : Numbers) → None ≡ cleared_on test q → test ≡ false
unfolding cleared_on
cleared_none true q e = absurd (cc)
cleared_none false q e = refl

-- the tail is clearable where the code's test said so
module _ (n : Numbers) (c : Bool) (g : c ≡ clearable n.slots (bare n)) (h : not c ≡ false) where
  pub known_clearable : clearable n.slots (bare n) ≡ true
  known_clearable = sym g ∙ not_false c h

  pub known_full : n.back_start + n.back_len ≡ n.slots
  known_full = clearable_is_full n known_clearable

module _ (n : Numbers) (S L : List ℕ) (len : ℕ) (m : ModeStep) (b : Bool) (e : b ≡ back_fits n.slots (bare n) len) where
  pub back_keeps : n.mode ≡ Back → b ≡ true → m ≡ step Stays n.raw_offset n → layer_of S L n m ≡ back_layer n.slots (plain n S L) len
  unfolding back_layer back_on
  back_keeps h t f =
      layer_still S L n m Stays refl n f (within_same n.raw_offset n.raw_len n.raw_offset refl)
      ∙ rw (← (e ∙ back_fits_plain n S L len), t, h)

  module _ (o : b ≡ false) (c : Bool) (g : c ≡ clearable n.slots (bare n)) where
    pub back_not_clearable : not c ≡ true → m ≡ gone_out n → layer_of S L n m ≡ back_layer n.slots (plain n S L) len
    unfolding back_layer back_on
    back_not_clearable h f = layer_out S L n m f ∙ rw (← (e ∙ back_fits_plain n S L len), o, ← (g ∙ clearable_plain n S L), not_true c h)

    module _ (h : not c ≡ false) where
      pub back_clears_tail : (t : Numbers) → Some t ≡ cleared_on (tail_fits n.slots (plain n S L) len) (numbers_of (tail_cleared n.slots (plain n S L)))
          → m ≡ step Stays n.raw_offset t → layer_of S L n m ≡ back_layer n.slots (plain n S L) len
      unfolding back_layer back_on
      back_clears_tail t i f =
          let x = cleared_some (tail_fits n.slots (plain n S L) len) (numbers_of (tail_cleared n.slots (plain n S L))) t i in
          layer_to S L n m Stays refl t f
          ∙ rw (x.1, ← (e ∙ back_fits_plain n S L len), o, ← (g ∙ clearable_plain n S L), not_false c h, x.0)

      module _ (i : None ≡ cleared_on (tail_fits n.slots (plain n S L) len) (numbers_of (tail_cleared n.slots (plain n S L)))) where
        no_tail : tail_fits n.slots (plain n S L) len ≡ false
        no_tail = cleared_none (tail_fits n.slots (plain n S L) len) (numbers_of (tail_cleared n.slots (plain n S L))) i

        pub back_clears_head : (u : Numbers) → Some u ≡ cleared_on (head_fits n.slots (plain n S [])) (numbers_of (head_cleared n.slots (plain n S [])))
            → m ≡ step Changes n.raw_offset u → layer_of S L n m ≡ back_layer n.slots (plain n S L) len
        unfolding back_layer back_on
        back_clears_head u v f =
            let x = cleared_some (head_fits n.slots (plain n S L)) (numbers_of (head_cleared n.slots (plain n S L))) u (v ∙ head_plain n S L) in
            layer_to S L n m Changes refl u f
            ∙ rw (x.1, ← (e ∙ back_fits_plain n S L len), o, ← (g ∙ clearable_plain n S L), not_false c h, no_tail, x.0)

        pub back_goes_out : None ≡ cleared_on (head_fits n.slots (plain n S [])) (numbers_of (head_cleared n.slots (plain n S [])))
            → m ≡ gone_out n → layer_of S L n m ≡ back_layer n.slots (plain n S L) len
        unfolding back_layer back_on
        back_goes_out v f =
            let x = cleared_none (head_fits n.slots (plain n S L)) (numbers_of (head_cleared n.slots (plain n S L))) (v ∙ head_plain n S L) in
            layer_out S L n m f ∙ rw (← (e ∙ back_fits_plain n S L len), o, ← (g ∙ clearable_plain n S L), not_false c h, no_tail, x)

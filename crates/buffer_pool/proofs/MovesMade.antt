-- Lists of moves: made one after the other, and less the copies of a frame onto itself, which leave every byte. Assumes nothing.
use mathlib.Core.Path.{◌≡◌, refl, ap}
use mathlib.Core.Bool.{Bool, true, false}
use mathlib.Core.List.{List, [], ◌∷◌, ◌++◌}
use Prim.Native.Nat.{ℕ, zero, suc, ◌+◌}
use native.Mathlib.Omega.{arith}
use borrow.Author.Tests.{eqb-true, ne_eqb}
use lib.ListN.{take-append-drop}
use lib.Seq.{take-add}
use Rattle.laws.specs.Tests.{pick}
use Rattle.laws.specs.Lists.{part, copied, moved}
use Rattle.laws.proofs.Tests.{no_true}
use Rattle.buffer_pool.specs.Moves.{Memories, memories, Move, Within, In, Down, Out, Grow, act, perform, within}
use Rattle.buffer_pool.specs.RustMoves.{self_copy, less_self_copies, move_raw_on_moves}
use Rattle.buffer_pool.specs.AsRust.{heap_act, heap_perform}
use Rattle.buffer_pool.proofs.ByteLaws.{moved_none}

pub less_append : (a b : List Move) → less_self_copies (a ++ b) ≡ less_self_copies a ++ less_self_copies b
unfolding less_self_copies
less_append [] b = refl
less_append (x ∷ a) b = go (less_append a b) (self_copy x)
  where
    go : {l : List Move} → l ≡ less_self_copies a ++ less_self_copies b
        → (same : Bool) → pick same l (x ∷ l) ≡ pick same (less_self_copies a) (x ∷ less_self_copies a) ++ less_self_copies b
    go e true = e
    go e false = ap (λ (l : List Move). x ∷ l) e

-- moves made one after the other, each of which leaves what `one` says
module _ (run : List Move → Memories → Memories) (one : Memories → Move → Memories) (none : (m : Memories) → run [] m ≡ m)
    (more : (a : Move) (l : List Move) (m : Memories) → run (a ∷ l) m ≡ run l (one m a)) where
  run_append : (a b : List Move) (m : Memories) → run (a ++ b) m ≡ run b (run a m)
  run_append [] b m = rw (none m) refl
  run_append (x ∷ a) b m = rw (more x (a ++ b) m, more x a m) (run_append a b (one m x))

  -- where a self copy leaves every byte, the list less these leaves the same
  run_less : ((m : Memories) (a : Move) → self_copy a ≡ true → one m a ≡ m) → (l : List Move) (m : Memories) → run (less_self_copies l) m ≡ run l m
  unfolding less_self_copies
  run_less self [] m = refl
  run_less self (a ∷ l) m = rw (more a l m) (go (run_less self l) (self_copy a) refl)
    where
      go : ((n : Memories) → run (less_self_copies l) n ≡ run l n) → (same : Bool) → self_copy a ≡ same
          → run (pick same (less_self_copies l) (a ∷ less_self_copies l)) m ≡ run l (one m a)
      go rest true e = rw (self m a e) (rest m)
      go rest false e = rw (more a (less_self_copies l) m) (rest (one m a))

-- a move to where the bytes are
pub moved_self : (x : List ℕ) (s l t : ℕ) → s ≡ t → moved x s l t ≡ x
unfolding moved copied part
moved_self x s l t e = rw (← e, ← take-add s l x) (take-append-drop (s + l) x)

-- a self copy, in lent memories and in those with a `Vec`
self_act : (m : Memories) (a : Move) → self_copy a ≡ true → (act m a ≡ m) × (heap_act m a ≡ m)
unfolding self_copy act heap_act
self_act m (Within s l t) e =
    let here = ap (λ (p : List ℕ). memories p m.overflow) (moved_self m.pool s l t (eqb-true s t e)) in (here, here)
self_act m (In l) e = absurd (no_true e)
self_act m (Down s l) e = absurd (no_true e)
self_act m (Out s l) e = absurd (no_true e)
self_act m (Grow s l) e = absurd (no_true e)

pub perform_append : (a b : List Move) (m : Memories) → perform (a ++ b) m ≡ perform b (perform a m)
unfolding perform
perform_append = run_append perform act (λ m. refl) (λ a l m. refl)

pub heap_append : (a b : List Move) (m : Memories) → heap_perform (a ++ b) m ≡ heap_perform b (heap_perform a m)
unfolding heap_perform
heap_append = run_append heap_perform heap_act (λ m. refl) (λ a l m. refl)

pub less_performs : (l : List Move) (m : Memories) → perform (less_self_copies l) m ≡ perform l m
unfolding perform
less_performs = run_less perform act (λ m. refl) (λ a l m. refl) (λ m a e. (self_act m a e).0)

pub less_heap_performs : (l : List Move) (m : Memories) → heap_perform (less_self_copies l) m ≡ heap_perform l m
unfolding heap_perform
less_heap_performs = run_less heap_perform heap_act (λ m. refl) (λ a l m. refl) (λ m a e. (self_act m a e).1)

-- ---- The move of a frame within the pool

pub less_within : (s l t : ℕ) → within s l t ≡ less_self_copies (move_raw_on_moves s l t)
unfolding less_self_copies self_copy
less_within s zero t = refl
less_within s (suc l) t = rw (ne_eqb (suc l) 0 (λ e. omega arith)) refl

-- what is left by the move of a frame, noted or not
pub perform_within : (m : Memories) (s l t : ℕ) → perform (within s l t) m ≡ memories (moved m.pool s l t) m.overflow
unfolding perform act
perform_within m s zero t = rw (← moved_none m.pool s t) refl
perform_within m s (suc l) t = rw (less_within s (suc l) t, less_performs (Within s (suc l) t ∷ []) m) refl

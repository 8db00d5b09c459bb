-- The rounds, from what the code knows where it returns. Assumes nothing.
use mathlib.Core.Path.{◌≡◌, ap, ◌∙◌}
use mathlib.Core.List.{List, []}
use Prim.Native.Nat.{ℕ, suc, ◌+◌, ◌-◌, ◌≤◌, ◌<◌}
use native.Mathlib.Omega.{arith}
use lib.ListN.{get_or}
use Rattle.buffer_pool.specs.declared.slice.Handle.{Handle}
use Rattle.buffer_pool.specs.declared.buffer_pool.BufferPool.{BufferPool}
use Rattle.buffer_pool.specs.declared.buffer_pool.Called.{Called}
use Rattle.buffer_pool.specs.Record.{rust_slots}
use Rattle.buffer_pool.specs.Moves.{Memories}
use Rattle.buffer_pool.specs.Values.{values}
use Rattle.buffer_pool.specs.Steps.{given_to}
use Rattle.buffer_pool.specs.Calls.{Outcome, outcome, new, reserve, commit, take, release}
use Rattle.pool_bench.specs.Rounds.{State, state, gathered, finished, rounds, started}

pub gathered_as : (p : BufferPool) (m : Memories) (len : ℕ) (a : Called) (n : Memories) → outcome a n [] ≡ reserve p.slots p m len
    → (b : Called) → outcome b n [] ≡ commit a.pool.slots a.pool n len → state b.pool n [] ≡ gathered len (state p m [])
unfolding gathered
gathered_as p m len a n e b f =
    ap (λ (o : Outcome). state o.call.pool n []) f
    ∙ ap (λ (o : Outcome). state (commit o.call.pool.slots o.call.pool o.memory len).call.pool o.memory []) e

pub finished_as : (p : BufferPool) (m : Memories) (d : List ℕ) (a : Called) (n : Memories) (c : List ℕ) → outcome a n c ≡ take p.slots p m 0 d
    → (h : Handle) → h ≡ (values a.answer).handle → (b : Called) → outcome b n [] ≡ release a.pool.slots a.pool n h → state b.pool n c ≡ finished (state p m d)
unfolding finished
finished_as p m d a n c e h g b f =
    ap (λ (o : Outcome). state o.call.pool n c) (f ∙ ap (release a.pool.slots a.pool n) g)
    ∙ ap (λ (o : Outcome). state (release o.call.pool.slots o.call.pool o.memory (values o.call.answer).handle).call.pool o.memory o.destination) e

pub round_as : (p : BufferPool) (m : Memories) (d : List ℕ) (len : ℕ) (q : BufferPool) (n : Memories) → state q n [] ≡ gathered len (state p m [])
    → (s : State) → s ≡ finished (state q n d) → s ≡ finished (gathered len (state p m d))
unfolding gathered
round_as p m d len q n e s f = f ∙ ap (λ (x : State). finished (state x.held x.memory d)) e

-- ---- The loop: what is left to do decides

pub round_less : (len k i : ℕ) (s t total : State) → i < k → rounds len (k - i) s ≡ total → t ≡ finished (gathered len s) → rounds len (k - (i + 1)) t ≡ total
unfolding rounds
round_less len k i s t total h a e =
    let one : suc (k - (i + 1)) ≡ k - i = omega arith in
    ap (rounds len (k - (i + 1))) e ∙ ap (λ (j : ℕ). rounds len j s) one ∙ a

-- none is left: the pool is as after all rounds on a new pool
module _ (m n : Memories) (d : List ℕ) (len k i : ℕ) (a : Called) (e : outcome a n [] ≡ new rust_slots m) (p : BufferPool) (q : Memories) (c : List ℕ)
    (r : rounds len (k - i) (state p q c) ≡ rounds len k (state a.pool n d)) (z : k ≤ i) where
  ended : state p q c ≡ rounds len k (started m d)
  unfolding rounds started
  ended =
      let none : 0 ≡ k - i = omega arith in
      ap (λ (j : ℕ). rounds len j (state p q c)) none ∙ r
      ∙ ap (λ (o : Outcome). rounds len k (state o.call.pool o.memory d)) e

  pub serials_given : get_or p.given 0 0 ≡ given_to (rounds len k (started m d)).held 0
  serials_given = ap (λ (s : State). given_to s.held 0) ended

  pub memories_left : q ≡ (rounds len k (started m d)).memory
  memories_left = ap (λ (s : State). s.memory) ended

-- What the moves of a frame carry: one within the pool, to a place that no live slice meets, one out to the overflow, and
-- zeros behind a frame there, each leave the lengths of the memories, the live slices' bytes and the frame's. Assumes nothing.
use mathlib.Core.Path.{◌≡◌, refl, ap, ◌∙◌}
use mathlib.Core.Bool.{Bool, true, false}
use mathlib.Core.List.{List, [], ◌∷◌, ◌++◌}
use Prim.Native.Nat.{ℕ, zero, suc, ◌+◌, ◌-◌, ◌≤◌}
use native.Mathlib.Omega.{arith}
use lib.ListN.{length, get_or, take, drop, replicate, length-append, length-take, length-drop, length-replicate}
use lib.Seq.{length-take-le}
use Rattle.laws.specs.Lists.{part, copied, moved, zeroed}
use Rattle.laws.proofs.Lists.{part_take, part_append_left}
use Rattle.laws.proofs.Copies.{length_copied, part_copied_all, part_copied_before, part_copied_after}
use Rattle.buffer_pool.specs.declared.buffer_pool.BufferPool.{BufferPool}
use Rattle.buffer_pool.specs.declared.buffer_pool.PoolFront.{PoolFront}
use Rattle.buffer_pool.specs.declared.buffer_pool.PoolMode.{PoolMode}
use Rattle.buffer_pool.specs.declared.buffer_pool.PoolMode.TheVariants.{Back}
use Rattle.buffer_pool.specs.Record.{start_at, after}
use Rattle.buffer_pool.specs.Moves.{Memories, Move, Out, act, perform, within}
use Rattle.buffer_pool.specs.Placing.{clearable, tail_fits, tail_cleared, grows}
use Rattle.buffer_pool.specs.Sound.{Held, Ready, InBack, own, above, InFront}
use Rattle.buffer_pool.specs.Steps.{frame_of}
use Rattle.buffer_pool.specs.Calls.{bytes_at}
use Rattle.buffer_pool.proofs.Order.{start_of, end_of, Beside}
use Rattle.buffer_pool.proofs.Parts.{weaken}
use Rattle.buffer_pool.proofs.Rules.{tail_in}
use Rattle.buffer_pool.proofs.Unchanged.{Fixed, fixed}
use Rattle.buffer_pool.proofs.Ranges.{Apart, before, behind}
use Rattle.buffer_pool.proofs.MovesMade.{perform_append, perform_within}

-- ---- What a list of moves carries

-- the memories have the record's lengths
pub record Sized (x : Fixed) (m : Memories) : Type 0 where
  pub pool_is : length m.pool ≡ x.capacity
  pub overflow_is : length m.overflow ≡ x.overflow

-- from m to m' the lengths stay, the live slices' bytes stay, and the frame's bytes are the same
pub record Carried (w : ℕ) (x : Fixed) (m m' : Memories) (bytes bytes' : List ℕ) : Type 0 where
  pub pool_same : length m'.pool ≡ length m.pool
  pub overflow_same : length m'.overflow ≡ length m.overflow
  pub slices : (p : ℕ) → Held w x.live p
      → part m'.pool (start_at x.starts p) (start_at x.lengths p)
      ≡ part m.pool (start_at x.starts p) (start_at x.lengths p)
  pub frame : bytes' ≡ bytes

pub still : {w : ℕ} {x : Fixed} {m : Memories} {bytes bytes' : List ℕ} → bytes' ≡ bytes → Carried w x m m bytes bytes'
still e = record { pool_same = refl; overflow_same = refl; slices = λ p t. refl; frame = e }

joined : {w : ℕ} {x : Fixed} {m m₁ m₂ : Memories} {a b c : List ℕ} → Carried w x m m₁ a b → Carried w x m₁ m₂ b c
    → Carried w x m m₂ a c
joined C D =
    record {
      pool_same = D.pool_same ∙ C.pool_same;
      overflow_same = D.overflow_same ∙ C.overflow_same;
      slices = λ p t. D.slices p t ∙ C.slices p t;
      frame = D.frame ∙ C.frame;
    }

pub sized_after : {w : ℕ} {x : Fixed} {m m' : Memories} {a b : List ℕ} → Sized x m → Carried w x m m' a b → Sized x m'
sized_after Z C = record { pool_is = C.pool_same ∙ Z.pool_is; overflow_is = C.overflow_same ∙ Z.overflow_is }

-- moves after moves
pub appended : {w : ℕ} {x : Fixed} (moves rest : List Move) {m : Memories} {a b : List ℕ} (f : Memories → List ℕ)
    → Carried w x m (perform moves m) a b
    → Carried w x (perform moves m) (perform rest (perform moves m)) b (f (perform rest (perform moves m)))
    → Carried w x m (perform (moves ++ rest) m) a (f (perform (moves ++ rest) m))
appended moves rest {m} f C D = rw (perform_append moves rest m) (joined C D)

-- a live slice's end
pub end_is : (starts lengths : List ℕ) (p : ℕ) → 1 ≤ p → after starts lengths p ≡ start_at starts p + start_at lengths p
unfolding after
end_is starts lengths zero h = absurd (omega arith)
end_is starts lengths (suc i) h = ap (λ (j : ℕ). get_or starts j 0 + get_or lengths j 0) {y = suc i - 1} (omega arith)

-- ---- The moves

-- the bytes of a frame in the pool, and its moves: within the pool, and out to the overflow
abbrev pub pooled : BufferPool → Memories → List ℕ
pooled r m = part m.pool r.raw_offset r.raw_len

abbrev pub shift : BufferPool → ℕ → List Move
shift r to = within r.raw_offset r.raw_len to

abbrev pub outward : BufferPool → List Move
outward r = Out r.raw_offset r.raw_len ∷ []

-- the frame's bytes, in the mode
abbrev pub shown_in : PoolMode → BufferPool → Memories → List ℕ
shown_in mode r m = bytes_at m (frame_of mode r)

-- slot p's slice does not meet the record's frame in the pool
abbrev Clear : BufferPool → ℕ → Type 0
Clear r p = Apart (start_of r p) (end_of r p) r.raw_offset (r.raw_offset + r.raw_len)

module _ (w : ℕ) (q : BufferPool) (m : Memories) (Z : Sized (fixed q) m) where
  -- within the pool, to the frame's place in q, which no live slice meets
  module _ (start : ℕ) (h : start + q.raw_len ≤ q.capacity) (k : q.raw_offset + q.raw_len ≤ q.capacity)
      (clear : (p : ℕ) → Held w q.live p → Clear q p) where
    abbrev len : ℕ
    len = q.raw_len

    abbrev to : ℕ
    to = q.raw_offset

    pub moved_carries : Carried w (fixed q) m (perform (within start len to) m) (part m.pool start len)
        (pooled q (perform (within start len to) m))
    unfolding moved
    moved_carries =
        let hs : start + len ≤ length m.pool = omega (arith, Z.pool_is) in
        let ht : to + len ≤ length m.pool = omega (arith, Z.pool_is) in
        rw (perform_within m start len to)
        record {
          pool_same = length_copied m.pool start len m.pool to hs ht;
          overflow_same = refl;
          slices = λ p t. go p hs ht (end_is q.starts q.lengths p t.one) (clear p t);
          frame = part_copied_all m.pool start len m.pool to hs ht;
        }
      where
        go : (p : ℕ) → start + len ≤ length m.pool → to + len ≤ length m.pool
            → end_of q p ≡ start_of q p + start_at q.lengths p
            → Clear q p
            → part (copied m.pool start len m.pool to) (start_of q p) (start_at q.lengths p)
            ≡ part m.pool (start_of q p) (start_at q.lengths p)
        go p hs ht d (before x) =
            part_copied_before m.pool start len m.pool to hs ht (start_of q p) (start_at q.lengths p) (omega arith)
        go p hs ht d (behind x) =
            part_copied_after m.pool start len m.pool to hs ht (start_of q p) (start_at q.lengths p) (omega arith)

  -- out to the overflow's start
  pub moved_out : q.raw_offset + q.raw_len ≤ q.capacity → q.cursor ≡ 0 → q.cursor + q.raw_len ≤ q.overflow
      → Carried w (fixed q) m (perform (outward q) m) (pooled q m)
      (part (perform (outward q) m).overflow 0 (q.cursor + q.raw_len))
  unfolding perform act
  moved_out h z k =
      let hs : q.raw_offset + q.raw_len ≤ length m.pool = omega (arith, Z.pool_is) in
      let ht : 0 + q.raw_len ≤ length m.overflow = omega (arith, Z.overflow_is) in
      let e : q.cursor + q.raw_len ≡ q.raw_len = omega arith in
      record {
        pool_same = refl;
        overflow_same = length_copied m.pool q.raw_offset q.raw_len m.overflow 0 hs ht;
        slices = λ p t. refl;
        frame = rw e (part_copied_all m.pool q.raw_offset q.raw_len m.overflow 0 hs ht);
      }

  -- zeros after the frame in the overflow
  pub grown : (a : Bool) (start end : ℕ) → q.cursor ≤ start → (a ≡ true → start ≤ end) → end ≤ q.overflow
      → Carried w (fixed q) m (perform (grows a start end) m) (part m.overflow 0 q.cursor)
      (part (perform (grows a start end) m).overflow 0 q.cursor)
  unfolding perform act zeroed
  grown false start end h k l = still refl
  grown true start end h k l =
      let k = k refl in
      record {
        pool_same = refl;
        overflow_same = simp (length-append, length-take, length-drop, length-replicate) (omega (arith, Z.overflow_is));
        slices = λ p t. refl;
        frame =
            part_append_left (take start m.overflow ++ replicate (end - start) 0) (drop end m.overflow) 0 q.cursor
            (simp (length-append, length-take, length-replicate) (omega (arith, Z.overflow_is)))
            ∙ part_append_left (take start m.overflow) (replicate (end - start) 0) 0 q.cursor
            (rw (length-take-le start m.overflow (omega (arith, Z.overflow_is))) (omega arith))
            ∙ part_take start m.overflow 0 q.cursor (omega arith);
      }

-- no live slice meets the frame of a record in B or F
pub back_clear : {w : ℕ} {r : BufferPool} → InBack w r 0 → (p : ℕ) → Held w r.live p
    → Clear r p
back_clear I p t = before (I.past p t)

pub front_clear : {w : ℕ} {r : BufferPool} {f : PoolFront} → InFront w r f 0 → (p : ℕ) → Held w r.live p
    → Clear r p
front_clear {w} {r} {f} I p t = go (I.side p t)
  where
    go : Beside r f p → Clear r p
    go (own a b) = before b
    go (above a b) = behind (omega (arith, I.fits))

-- a tail clear leaves the frame there with nothing reserved
pub tail_empty : (w len : ℕ) (r : BufferPool) (R : Ready w r) → r.cursor ≡ 0 → clearable w r ≡ true → tail_fits w r len ≡ true
    → InBack w (tail_cleared w r) 0
tail_empty w len r R z c t = weaken w Back (tail_cleared w r) (omega arith) (tail_in w r R c len t z)

-- The moves on the Rust's `Vec` and on the lent overflow leave the same bytes, as long as the overflow begins with the bytes of
-- the `Vec` and is at least as long: each move keeps that, so a list of moves does. Assumes nothing.
use mathlib.Core.Path.{◌≡◌, refl, sym, ap, ap₂, ◌∙◌}
use mathlib.Core.Bool.{Bool, true, false}
use mathlib.Core.List.{List, [], ◌∷◌, ◌++◌}
use Prim.Native.Nat.{ℕ, zero, suc, ◌+◌, ◌-◌, ◌≤◌, ◌<◌, max}
use native.Mathlib.Nat.{zero-add, sub-zero, zero-sub, suc-sub-suc}
use native.Mathlib.Omega.{arith}
use borrow.Author.Tests.{ltb-true, ltb-false}
use lib.Dec.{ltb}
use lib.ListN.{length, take, drop, replicate, length-append, length-take, length-drop, length-replicate, drop_of_length-le}
use lib.Seq.{length-take-le, take-nil, take_at, take-append-add}
use Rattle.laws.specs.Tests.{pick}
use Rattle.laws.specs.Lists.{part, copied, moved, zeroed}
use Rattle.laws.proofs.Lists.{length_part, part_take}
use Rattle.laws.proofs.Copies.{length_copied}
use Rattle.buffer_pool.specs.declared.buffer_pool.BufferPool.{BufferPool}
use Rattle.buffer_pool.specs.Moves.{Memories, memories, Move, In, Down, Out, act, perform, within}
use Rattle.buffer_pool.specs.Placing.{grows}
use Rattle.buffer_pool.specs.Rust.{resized}
use Rattle.buffer_pool.specs.RustMoves.{self_copy, less_self_copies, move_raw_on_moves}
use Rattle.buffer_pool.specs.AsRust.{heap_act, heap_perform, heap_of}
use Rattle.buffer_pool.proofs.ByteLaws.{moved_none}
use Rattle.buffer_pool.proofs.MovesMade.{less_append, perform_append, heap_append, less_performs, less_heap_performs, less_within}

-- ---- Lists

-- a copy to the start, the rest of a front
at_start_lem : (x : List ℕ) (s l : ℕ) (d : List ℕ) → copied x s l d 0 ≡ part x s l ++ drop l d
unfolding copied
at_start_lem x s l d = rw (zero-add l) refl

pub length_moved : (x : List ℕ) (s l t : ℕ) → s + l ≤ length x → t + l ≤ length x → length (moved x s l t) ≡ length x
unfolding moved
length_moved x s l t h k = length_copied x s l x t h k

drop_front : (c k : ℕ) (l : List ℕ) → drop c (take k l) ≡ take (k - c) (drop c l)
drop_front zero k l = rw (sub-zero k) refl
drop_front (suc c) zero l = rw (zero-sub (suc c)) refl
drop_front (suc c) (suc k) [] = sym (take-nil (suc k - suc c))
drop_front (suc c) (suc k) (x ∷ l) = rw (suc-sub-suc k c) (drop_front c k l)

pub length_resized : (v : List ℕ) (end : ℕ) → length (resized v end) ≡ max (length v) end
unfolding resized
length_resized v end = go (ltb (length v) end) refl
  where
    go : (t : Bool) → ltb (length v) end ≡ t → length (pick t (v ++ replicate (end - length v) 0) v) ≡ max (length v) end
    go true p = simp (length-append, length-replicate) (omega (arith, ltb-true (length v) end p))
    go false p = omega (arith, ltb-false (length v) end p)

-- ---- An overflow o that begins with the bytes v of the `Vec`: so it does after each move

module _ (o v : List ℕ) (begins : take (length v) o ≡ v) (enough : length v ≤ length o) where
  out_begins : (x : List ℕ) (s l : ℕ) → s + l ≤ length x → take (max (length v) l) (copied x s l o 0) ≡ copied x s l (resized v l) 0
  unfolding resized
  out_begins x s l h =
      rw (at_start_lem x s l o, at_start_lem x s l (resized v l))
      (ap (λ (n : ℕ). take n (part x s l ++ drop l o)) {y = length (part x s l) + (length v - l)} longer
      ∙ take-append-add (part x s l) (drop l o) (length v - l) ∙ ap (λ (d : List ℕ). part x s l ++ d) (go (ltb (length v) l) refl))
    where
      longer : max (length v) l ≡ length (part x s l) + (length v - l)
      longer = omega (arith, length_part x s l h)

      shorter : length v < l → length (v ++ replicate (l - length v) 0) ≤ l
      shorter k = simp (length-append, length-replicate) (omega arith)

      go : (t : Bool) → ltb (length v) l ≡ t → take (length v - l) (drop l o) ≡ drop l (pick t (v ++ replicate (l - length v) 0) v)
      go true p =
          let k = ltb-true (length v) l p in
          ap (λ (n : ℕ). take n (drop l o)) {x = length v - l} {y = 0} (omega arith)
          ∙ sym (drop_of_length-le (v ++ replicate (l - length v) 0) (shorter k))
      go false p = sym (drop_front l (length v) o) ∙ ap (drop l) begins

  grow_begins : (end : ℕ) → length v ≤ end → end ≤ length o → take end (zeroed o (length v) end) ≡ v ++ replicate (end - length v) 0
  unfolding zeroed
  grow_begins end h k =
      rw begins (take_at (v ++ replicate (end - length v) 0) (drop end o) end (simp (length-append, length-replicate) (omega arith)))

  down_begins : (c : ℕ) → c ≤ length v → take (length v - c) (moved o c (length v - c) 0) ≡ drop c v
  unfolding moved part
  down_begins c h =
      rw (at_start_lem o c (length v - c) o)
      (take_at (part o c (length v - c)) (drop (length v - c) o) (length v - c) (length_part o c (length v - c) (omega arith))
      ∙ sym (drop_front c (length v) o) ∙ ap (drop c) begins)

  in_same : (c : ℕ) (d : List ℕ) → c ≤ length v → copied o 0 c d 0 ≡ copied v 0 c d 0
  unfolding copied
  in_same c d h =
      ap (λ (x : List ℕ). x ++ drop (0 + c) d)
      (sym (part_take (length v) o 0 c (omega arith)) ∙ ap (λ (x : List ℕ). part x 0 c) begins)

length_zeroed : (o : List ℕ) (start end : ℕ) → start ≤ end → end ≤ length o → length (zeroed o start end) ≡ length o
unfolding zeroed
length_zeroed o start end h k = simp (length-append, length-take, length-drop, length-replicate) (omega arith)

-- ---- Lists of moves

-- x has the pool bytes of m, and an overflow that begins with the `Vec` of m
pub record Covers (x m : Memories) : Type 0 where
  pub pool_same : x.pool ≡ m.pool
  pub enough : length m.overflow ≤ length x.overflow
  pub begins : take (length m.overflow) x.overflow ≡ m.overflow

-- the Rust's moves lead from m to n on a `Vec`, and so they do on memories that cover m, where the overflow is long enough for n;
-- ours are these less the self copies
pub record Leads (rusts moves : List Move) (m n : Memories) : Type 0 where
  pub less : moves ≡ less_self_copies rusts
  pub rust_heap : heap_perform rusts m ≡ n
  pub pool_size : length n.pool ≡ length m.pool
  pub rust_lent : (x : Memories) → Covers x m → length n.overflow ≤ length x.overflow
      → Covers (perform rusts x) n × (length (perform rusts x).overflow ≡ length x.overflow)

pub leads_none : (m : Memories) → Leads [] [] m m
unfolding less_self_copies heap_perform perform
leads_none m = record { less = refl; rust_heap = refl; pool_size = refl; rust_lent = λ x c h. (c, refl) }

pub leads_append : {c d a b : List Move} {m n q : Memories} → Leads c a m n → Leads d b n q
    → length n.overflow ≤ max (length m.overflow) (length q.overflow) → Leads (c ++ d) (a ++ b) m q
leads_append {c} {d} {a} {b} {m} {n} {q} A B h =
    record {
      less = ap₂ (λ (x y : List Move). x ++ y) A.less B.less ∙ sym (less_append c d);
      rust_heap = heap_append c d m ∙ ap (heap_perform d) A.rust_heap ∙ B.rust_heap;
      pool_size = B.pool_size ∙ A.pool_size;
      rust_lent = λ x e k.
          let s = A.rust_lent x e (omega (arith, e.enough)) in
          let t = B.rust_lent (perform c x) s.0 (omega (arith, s.1)) in
          rw (perform_append c d x) (t.0, t.1 ∙ s.1);
    }

-- ---- Each move

pub leads_within : (m : Memories) (s l t : ℕ) → s + l ≤ length m.pool → t + l ≤ length m.pool
    → Leads (move_raw_on_moves s l t) (within s l t) m (memories (moved m.pool s l t) m.overflow)
unfolding less_self_copies heap_perform heap_act perform act
leads_within m s zero t h k = rw (← moved_none m.pool s t) (leads_none m)
leads_within m s (suc l) t h k =
    record {
      less = less_within s (suc l) t;
      rust_heap = refl;
      pool_size = length_moved m.pool s (suc l) t h k;
      rust_lent = λ x c e.
          (record { pool_same = ap (λ (p : List ℕ). moved p s (suc l) t) c.pool_same; enough = c.enough; begins = c.begins }, refl);
    }

module _ (m : Memories) where
  abbrev v : List ℕ
  v = m.overflow

  -- the frame goes out, to a `Vec` that grows where it is too short
  module _ (s l : ℕ) (h : s + l ≤ length m.pool) where
    pub length_sent : length (copied m.pool s l (resized v l) 0) ≡ max (length v) l
    length_sent = length_copied m.pool s l (resized v l) 0 h (omega (arith, length_resized v l)) ∙ length_resized v l

    pub leads_out : Leads (Out s l ∷ []) (Out s l ∷ []) m (memories m.pool (copied m.pool s l (resized v l) 0))
    unfolding less_self_copies self_copy heap_perform heap_act perform act
    leads_out =
        record {
          less = refl;
          rust_heap = refl;
          pool_size = refl;
          rust_lent = λ x c e.
              let z : length (copied x.pool s l x.overflow 0) ≡ length x.overflow =
              length_copied x.pool s l x.overflow 0 (rw c.pool_same h) (omega (arith, length_sent, e)) in (
                record {
                  pool_same = c.pool_same;
                  enough = omega (arith, z, e);
                  begins = rw (length_sent, c.pool_same) (out_begins x.overflow v c.begins c.enough m.pool s l h);
                },
                z,
              );
        }

  -- the `Vec` grows where it is too short
  pub leads_grow : (end : ℕ)
      → Leads (grows (ltb (length v) end) (length v) end) (grows (ltb (length v) end) (length v) end) m (memories m.pool (resized v end))
  unfolding less_self_copies self_copy resized heap_perform heap_act perform act
  leads_grow end = go (ltb (length v) end) refl
    where
      longer : length v < end → length (v ++ replicate (end - length v) 0) ≡ end
      longer l = simp (length-append, length-replicate) (omega arith)

      go : (t : Bool) → ltb (length v) end ≡ t
          → Leads (grows t (length v) end) (grows t (length v) end) m (memories m.pool (pick t (v ++ replicate (end - length v) 0) v))
      go false p = leads_none m
      go true p =
          let l = ltb-true (length v) end p in
          record {
            less = refl;
            rust_heap = rw p refl;
            pool_size = refl;
            rust_lent = λ x c e.
                let z : length (zeroed x.overflow (length v) end) ≡ length x.overflow =
                length_zeroed x.overflow (length v) end (omega arith) (omega (arith, longer l, e)) in (
                  record {
                    pool_same = c.pool_same;
                    enough = omega (arith, z, e);
                    begins = rw (longer l) (grow_begins x.overflow v c.begins c.enough end (omega arith) (omega (arith, longer l, e)));
                  },
                  z,
                );
          }

  -- the bytes past the frame go down, after the frame has gone in or away
  module _ (c : ℕ) (h : c ≤ length v) where
    pub leads_down : Leads (Down c (length v - c) ∷ []) (Down c (length v - c) ∷ []) m (memories m.pool (drop c v))
    unfolding less_self_copies self_copy heap_perform heap_act perform act moved
    leads_down =
        record {
          less = refl;
          rust_heap = refl;
          pool_size = refl;
          rust_lent = λ x t e.
              let z : length (moved x.overflow c (length v - c) 0) ≡ length x.overflow =
              length_moved x.overflow c (length v - c) 0 (omega (arith, t.enough)) (omega (arith, t.enough)) in (
                record {
                  pool_same = t.pool_same;
                  enough = omega (arith, z, e);
                  begins = rw (length-drop c v) (down_begins x.overflow v t.begins t.enough c h);
                },
                z,
              );
        }

    pub leads_in : c ≤ length m.pool → Leads (In c ∷ []) (In c ∷ []) m (memories (copied v 0 c m.pool 0) v)
    unfolding less_self_copies self_copy heap_perform heap_act perform act
    leads_in k =
        record {
          less = refl;
          rust_heap = refl;
          pool_size = length_copied v 0 c m.pool 0 (omega arith) (omega arith);
          rust_lent = λ x t e. (
            record {
              pool_same = rw t.pool_same (in_same x.overflow v t.begins t.enough c m.pool h);
              enough = t.enough;
              begins = t.begins;
            },
            refl,
          );
        }

-- ours lead there too
pub leads_heap : {rusts moves : List Move} {m n : Memories} → Leads rusts moves m n → heap_perform moves m ≡ n
leads_heap {rusts} {moves} {m} L = rw L.less (less_heap_performs rusts m ∙ L.rust_heap)

-- ---- The kept bytes of a lent overflow, as a `Vec`

module _ (r q : BufferPool) (m : Memories) {n : Memories} {rusts moves : List Move} (L : Leads rusts moves (heap_of r m) n)
    (before : r.kept ≤ length m.overflow) (after : q.kept ≤ length m.overflow) (size : length n.overflow ≡ q.kept) where
  kept_size : length (take r.kept m.overflow) ≡ r.kept
  kept_size = length-take-le r.kept m.overflow before

  lent : Covers (perform moves m) n × (length (perform moves m).overflow ≡ length m.overflow)
  lent =
      rw (L.less, less_performs rusts m)
      (L.rust_lent m
      (record { pool_same = refl; enough = omega (arith, kept_size); begins = ap (λ (k : ℕ). take k m.overflow) kept_size })
      (omega (arith, size)))

  pub lent_bytes : heap_perform moves (heap_of r m) ≡ heap_of q (perform moves m)
  lent_bytes =
      leads_heap L ∙ ap₂ memories (sym lent.0.pool_same) (sym lent.0.begins ∙ ap (λ (k : ℕ). take k (perform moves m).overflow) size)

  pub lent_sizes : (length (perform moves m).pool ≡ length m.pool) × (length (perform moves m).overflow ≡ length m.overflow)
  lent_sizes = (ap length lent.0.pool_same ∙ L.pool_size, lent.1)

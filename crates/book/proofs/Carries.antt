-- A reserve carries the frame's bytes to the frame's new place, leaves those of every live slice, and changes no memory's
-- length. Each rule of the placing moves the frame to where the record after it has it; the induction over the changes still
-- allowed joins the moves. Assumes nothing.
use mathlib.Core.Path.{◌≡◌, refl, sym, ap, ◌∙◌, subst}
use mathlib.Core.Bool.{Bool, true, false, ◌&&◌}
use mathlib.Core.List.{List, [], ◌++◌}
use Prim.Native.Nat.{ℕ, zero, suc, ◌+◌, ◌-◌, ◌≤◌}
use native.Mathlib.Omega.{arith}
use borrow.Author.Tests.{ltb-true, eqb-true}
use lib.Dec.{ltb, eqb}
use lib.ListN.{length}
use Rattle.laws.specs.Lists.{part, moved}
use Rattle.laws.proofs.Lists.{part_none}
use Rattle.laws.proofs.Copies.{length_copied, part_copied_all}
use Rattle.buffer_pool.specs.declared.buffer_pool.BufferPool.{BufferPool}
use Rattle.buffer_pool.specs.declared.buffer_pool.PoolFront.{PoolFront}
use Rattle.buffer_pool.specs.declared.buffer_pool.PoolMode.{PoolMode}
use Rattle.buffer_pool.specs.declared.buffer_pool.PoolMode.TheVariants.{Back, Front, Alloc}
use Rattle.buffer_pool.specs.Record.{placed}
use Rattle.buffer_pool.specs.Moves.{Memories, Move, act, perform}
use Rattle.buffer_pool.specs.Placing.{Decision, clearable, tail_start, tail_fits, tail_cleared, head_fits, head_cleared, to_alloc, finish, changed, go_out, back_fits, back_on, front_fits, front_last, front_start, front_cleared, leave_on, leave, front_on, stays, alloc_on, layer, back_layer, front_layer, alloc_layer, resolve, place_of, most_changes, resets, reset_on, reset_moves, reset, place}
use Rattle.buffer_pool.specs.Sound.{Ready, InBack, InFront, InAlloc, InMode, Orderly}
use Rattle.buffer_pool.specs.Calls.{bytes_at}
use Rattle.buffer_pool.proofs.Order.{none_held}
use Rattle.buffer_pool.proofs.Rules.{out_ready, out_in, tail_ready, head_ready, head_in, front_ready, front_stays}
use Rattle.buffer_pool.proofs.ReserveKept.{stays_not, none_live, reset_fit}
use Rattle.buffer_pool.proofs.Unchanged.{fixed}
use Rattle.book.proofs.Carried.{Sized, Carried, still, sized_after, appended, pooled, shift, outward, shown_in, moved_carries, moved_out, grown, back_clear, front_clear, tail_empty}

-- ---- A decision

-- the overflow is long enough, where the decision uses it
abbrev pub Enough : ℕ → Decision → Type 0
Enough len d = d.heap ≡ true → d.next.cursor + len ≤ d.next.overflow

-- the decision's moves carry these bytes to the next record's frame
abbrev Carries : ℕ → ℕ → BufferPool → Memories → List ℕ → Decision → Type 0
Carries w len r m bytes d =
    Enough len d → Carried w (fixed r) m (perform d.moves m) bytes (shown_in d.next.mode d.next (perform d.moves m))

-- in all memories of the record's lengths they carry the frame's bytes
abbrev pub Brings : ℕ → ℕ → PoolMode → BufferPool → Decision → Type 0
Brings w len mode r d = (m : Memories) → Sized (fixed r) m → Carries w len r m (shown_in mode r m) d

module _ (w len : ℕ) where
  finish_brings : (mode : PoolMode) (r : BufferPool) → InMode w mode r 0 → Brings w len mode r (finish mode r [] len)
  unfolding perform bytes_at
  finish_brings Back r I m Z h = still refl
  finish_brings (Front f) r I m Z h = still refl
  finish_brings Alloc r I m Z h =
      grown w r m Z (ltb r.kept (r.cursor + len)) r.kept (r.cursor + len) (omega (arith, I.fits))
      (λ e. omega (arith, ltb-true r.kept (r.cursor + len) e)) (h refl)

  -- A just entered stays
  entered_stays : (k : ℕ) (q : BufferPool) → place_of w k true Alloc q len ≡ finish Alloc q [] len
  unfolding place_of layer alloc_layer stays alloc_on
  entered_stays zero q = refl
  entered_stays (suc k) q = refl

  -- one change fewer allowed
  module _ (k : ℕ)
      (rest : (e : Bool) (q : BufferPool) → Ready w q → InMode w q.mode q 0
      → Brings w len q.mode q (place_of w k e q.mode q len)) where
    abbrev next : Bool → BufferPool → Decision
    next e q = place_of w k e q.mode q len

    -- moves that bring these bytes to where q has its frame, and q placed again
    change_carries : (e : Bool) (q : BufferPool) → Ready w q → InMode w q.mode q 0
        → (moves : List Move) {m : Memories} {bytes : List ℕ} → Sized (fixed q) m
        → Carried w (fixed q) m (perform moves m) bytes (shown_in q.mode q (perform moves m))
        → Carries w len q m bytes (changed moves (next e q))
    change_carries e q R I moves {m} Z C h =
        appended moves (next e q).moves (shown_in (next e q).next.mode (next e q).next) C
        (rest e q R I (perform moves m) (sized_after Z C) h)

    -- F and B give way: r's frame lies in the pool, where moves have brought these bytes
    module _ (r : BufferPool) (R : Ready w r) (z : r.cursor ≡ 0) (room : r.raw_offset + r.raw_len ≤ r.capacity)
        (moves : List Move) (m : Memories) (bytes : List ℕ) (Z : Sized (fixed r) m)
        (C : Carried w (fixed r) m (perform moves m) bytes (pooled r (perform moves m))) where
      out_carries : Carries w len r m bytes (resolve next (go_out r moves) len)
      unfolding bytes_at
      out_carries h =
          let fit : r.cursor + r.raw_len + len ≤ r.overflow = subst (Enough len) (entered_stays k (to_alloc r)) h refl in
          change_carries true (to_alloc r) (out_ready w r R) (out_in w r R) (moves ++ outward r) Z
          (appended moves (outward r) (λ x. part x.overflow 0 (r.cursor + r.raw_len)) C
          (moved_out w r (perform moves m) (sized_after Z C) room z (omega arith)))
          h

      tail_carries : (c : clearable w r ≡ true) → tail_fits w r len ≡ true
          → Carries w len r m bytes (changed (moves ++ shift r (tail_start w r)) (next false (tail_cleared w r)))
      unfolding bytes_at
      tail_carries c t h =
          let I = tail_empty w len r R z c t in
          change_carries false (tail_cleared w r) (tail_ready w r R c len t) I (moves ++ shift r (tail_start w r)) Z
          (appended moves (shift r (tail_start w r)) (pooled (tail_cleared w r)) C
          (moved_carries w (tail_cleared w r) (perform moves m) (sized_after Z C) r.raw_offset room (omega (arith, I.fits))
          (back_clear I)))
          h

      leave_carries : Carries w len r m bytes (resolve next (leave w r moves len) len)
      unfolding leave_on
      leave_carries = go (clearable w r) refl (tail_fits w r len) refl
        where
          go : (c : Bool) → clearable w r ≡ c → (t : Bool) → tail_fits w r len ≡ t
              → Carries w len r m bytes (resolve next (leave_on c t w r moves) len)
          go true c true t = tail_carries c t
          go true c false t = out_carries
          go false c t u = out_carries

    -- ---- One call of `reserve_`

    front_carries : (f : PoolFront) (r : BufferPool) → Ready w r → InFront w r f 0
        → Brings w len (Front f) r (resolve next (front_layer w f r len) len)
    unfolding front_layer front_on perform bytes_at
    front_carries f r R I m Z =
        go (ltb f.len f.back_start && front_fits r f.byte_capacity len) (ltb (front_last w r f) f.len) refl
        (front_fits (front_cleared w r f) f.byte_capacity len)
      where
        room : r.raw_offset + r.raw_len ≤ r.capacity
        room = omega (arith, I.fits, I.bytes_within)

        dropped : ltb (front_last w r f) f.len ≡ true
            → Carried w (fixed r) m (perform (shift r (front_start w r f)) m) (pooled r m)
            (pooled (front_cleared w r f) (perform (shift r (front_start w r f)) m))
        dropped q =
            let D = front_stays w r R f I (ltb-true (front_last w r f) f.len q) in
            moved_carries w (front_cleared w r f) m Z r.raw_offset room (omega (arith, D.fits, D.bytes_within))
            (front_clear D)

        go : (a d : Bool) → ltb (front_last w r f) f.len ≡ d → (g : Bool)
            → Carries w len r m (pooled r m) (resolve next (front_on a d g w r f len) len)
        go true d q g h = still refl
        go false true q true h = dropped q
        go false true q false h =
            let D = front_stays w r R f I (ltb-true (front_last w r f) f.len q) in
            leave_carries (front_cleared w r f) (front_ready w r R f I) I.no_cursor (omega (arith, D.fits, D.bytes_within))
            (shift r (front_start w r f)) m _ Z (dropped q) h
        go false false q g h = leave_carries r R I.no_cursor room [] m _ Z (still refl) h

    back_carries : (r : BufferPool) → Ready w r → InBack w r 0 → Brings w len Back r (resolve next (back_layer w r len) len)
    unfolding back_layer back_on perform bytes_at
    back_carries r R I m Z = go (back_fits w r len) (clearable w r) refl (tail_fits w r len) refl (head_fits w r) refl
      where
        room : r.raw_offset + r.raw_len ≤ r.capacity
        room = omega (arith, I.fits)

        out : Carries w len r m (pooled r m) (resolve next (go_out r []) len)
        out = out_carries r R I.no_cursor room [] m _ Z (still refl)

        go : (a c : Bool) → clearable w r ≡ c → (t : Bool) → tail_fits w r len ≡ t → (h : Bool) → head_fits w r ≡ h
            → Carries w len r m (pooled r m) (resolve next (back_on a c t h w r) len)
        go true c q t u h v x = still refl
        go false false q t u h v x = out x
        go false true q true u h v x =
            let J = tail_empty w len r R I.no_cursor q u in
            moved_carries w (tail_cleared w r) m Z r.raw_offset room (omega (arith, J.fits)) (back_clear J)
        go false true q false u true v x =
            let J = head_in w r R q v I.no_cursor in
            change_carries false (head_cleared w r) (head_ready w r R q v) J (shift r 0) Z
            (moved_carries w (head_cleared w r) m Z r.raw_offset room (omega (arith, J.fits, J.bytes_within))
            (front_clear J))
            x
        go false true q false u false v x = out x

    -- an empty frame of the overflow is an empty frame anywhere in the pool
    alloc_carries : (entered : Bool) (r : BufferPool) → Ready w r → InAlloc r 0
        → Brings w len Alloc r (resolve next (alloc_layer w entered r len) len)
    unfolding alloc_layer alloc_on perform bytes_at
    alloc_carries entered r R I m Z = go (stays w entered r) refl (tail_fits w r len) refl (head_fits w r) refl
      where
        empty : stays w entered r ≡ false → (start : ℕ)
            → Carried w (fixed r) m (perform [] m) (part m.overflow 0 r.cursor)
            (part (perform [] m).pool start r.raw_len)
        empty p start =
            still
            (ap (part m.pool start) I.no_len ∙ part_none m.pool start
            ∙ sym (ap (part m.overflow 0) (stays_not w r entered p).0 ∙ part_none m.overflow 0))

        go : (a : Bool) → stays w entered r ≡ a → (t : Bool) → tail_fits w r len ≡ t → (h : Bool) → head_fits w r ≡ h
            → Carries w len r m (part m.overflow 0 r.cursor) (resolve next (alloc_on a t h w r) len)
        go true p t u h v x = finish_brings Alloc r I m Z x
        go false p true u h v x =
            let y = stays_not w r entered p in
            change_carries false (tail_cleared w r) (tail_ready w r R y.1 len u) (tail_empty w len r R y.0 y.1 u) [] Z
            (empty p (tail_start w r)) x
        go false p false u true v x =
            let y = stays_not w r entered p in
            change_carries false (head_cleared w r) (head_ready w r R y.1 v) (head_in w r R y.1 v y.0) [] Z
            (empty p 0) x
        go false p false u false v x = finish_brings Alloc r I m Z x

  -- any number of changes
  place_brings : (k : ℕ) (entered : Bool) (mode : PoolMode) (r : BufferPool) → Ready w r → InMode w mode r 0
      → Brings w len mode r (place_of w k entered mode r len)
  unfolding place_of layer
  place_brings zero entered mode r R I = finish_brings mode r I
  place_brings (suc k) entered Back r R I = back_carries k (λ e q. place_brings k e q.mode q) r R I
  place_brings (suc k) entered (Front f) r R I = front_carries k (λ e q. place_brings k e q.mode q) f r R I
  place_brings (suc k) entered Alloc r R I = alloc_carries k (λ e q. place_brings k e q.mode q) entered r R I

-- ---- The reset

module _ (w : ℕ) (r : BufferPool) (S : Orderly w r) where
  abbrev moves_of : List Move
  moves_of = reset_moves (resets r) (ltb r.cursor r.capacity) (eqb r.cursor 0) r.mode r

  -- what is carried past a reset: where there is one, no slot is live
  past_reset : {m m' : Memories} {a b : List ℕ} → Carried w (fixed (reset r)) m m' a b → Carried w (fixed r) m m' a b
  unfolding reset reset_on
  past_reset {m} {m'} {a} {b} = go (resets r) refl
    where
      go : (x : Bool) → resets r ≡ x
          → Carried w (fixed (reset_on x (ltb r.cursor r.capacity) (eqb r.cursor 0) r.mode r)) m m' a b
          → Carried w (fixed r) m m' a b
      go false p C = C
      go true p C =
          record {
            pool_same = C.pool_same;
            overflow_same = C.overflow_same;
            slices = λ q t. absurd (none_held w (none_live r p) t);
            frame = C.frame;
          }

  reset_sized : {m : Memories} → Sized (fixed r) m → Sized (fixed (reset r)) m
  unfolding reset reset_on
  reset_sized {m} Z = go (resets r) (ltb r.cursor r.capacity) (eqb r.cursor 0) r.mode
    where
      go : (x t z : Bool) (mode : PoolMode) → Sized (fixed (reset_on x t z mode r)) m
      go false t z mode = Z
      go true t z Back = Z
      go true t z (Front f) = Z
      go true true true Alloc = record { pool_is = Z.pool_is; overflow_is = Z.overflow_is }
      go true true false Alloc = Z
      go true false z Alloc = Z

  reset_carries : (m : Memories) → Sized (fixed r) m
      → Carried w (fixed r) m (perform moves_of m) (shown_in r.mode r m)
      (shown_in (reset r).mode (reset r) (perform moves_of m))
  unfolding reset reset_on reset_moves perform act moved bytes_at
  reset_carries m Z =
      go (resets r) refl (ltb r.cursor r.capacity) refl (eqb r.cursor 0) refl r.mode refl S.in_mode
    where
      home : resets r ≡ true → r.raw_offset + r.raw_len ≤ r.capacity
          → Carried w (fixed r) m (perform (shift r 0) m) (pooled r m) (part (perform (shift r 0) m).pool 0 r.raw_len)
      home p h =
          moved_carries w (placed r Back 0 0 0 0) m Z r.raw_offset h (omega arith)
          (λ x u. absurd (none_held w (none_live r p) u))

      go : (a : Bool) → resets r ≡ a → (t : Bool) → ltb r.cursor r.capacity ≡ t → (z : Bool) → eqb r.cursor 0 ≡ z
          → (mode : PoolMode) → r.mode ≡ mode → InMode w mode r r.reserved
          → Carried w (fixed r) m (perform (reset_moves a t z mode r) m) (shown_in mode r m)
          (shown_in (reset_on a t z mode r).mode (reset_on a t z mode r) (perform (reset_moves a t z mode r) m))
      go false p t q z s mode e I = rw e (still refl)
      go true p t q z s Back e I =
          home p (omega (arith, I.fits))
      go true p t q z s (Front f) e I =
          home p (omega (arith, I.fits, I.bytes_within))
      go true p true q true s Alloc e I =
          still
          (ap (part m.pool 0) I.no_len ∙ part_none m.pool 0
          ∙ sym (ap (part m.overflow 0) (eqb-true r.cursor 0 s) ∙ part_none m.overflow 0))
      go true p true q false s Alloc e I =
          let c = ltb-true r.cursor r.capacity q in
          let k = S.kept_within in
          let f = I.fits in
          let hs : 0 + r.cursor ≤ length m.overflow = omega (arith, Z.overflow_is) in
          let ht : 0 + r.cursor ≤ length m.pool = omega (arith, Z.pool_is) in
          record {
            pool_same = length_copied m.overflow 0 r.cursor m.pool 0 hs ht;
            overflow_same =
                length_copied m.overflow r.cursor (r.kept - r.cursor) m.overflow 0 (omega (arith, Z.overflow_is))
                (omega (arith, Z.overflow_is));
            slices = λ x u. absurd (none_held w (none_live r p) u);
            frame = part_copied_all m.overflow 0 r.cursor m.pool 0 hs ht;
          }
      go true p false q z s Alloc e I = still refl

-- ---- The whole decision of a reserve

pub place_carries : (w len : ℕ) (r : BufferPool) → Orderly w r → Brings w len r.mode r (place w r len)
unfolding place
place_carries w len r S m Z h =
    let f = reset_fit w r S in
    let C = reset_carries w r S m Z in
    appended (moves_of w r S) (place_of w most_changes false (reset r).mode (reset r) len).moves
    (shown_in (place w r len).next.mode (place w r len).next) C
    (past_reset w r S
    (place_brings w len most_changes false (reset r).mode (reset r) f.0 f.1 (perform (moves_of w r S) m)
    (reset_sized w r S (sized_after Z C)) h))

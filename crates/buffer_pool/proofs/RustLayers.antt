-- One call of the Rust's `reserve_` is one step of the placing, whatever comes after: `again` and `next`, which go on after a
-- mode change, are any two that agree. Assumes nothing.
use mathlib.Core.Path.{◌≡◌, refl, sym, ap, ap₂, ◌∙◌, subst}
use mathlib.Core.Bool.{Bool, true, false, not, ◌&&◌, ◌||◌}
use mathlib.Core.List.{List, [], ◌∷◌, ◌++◌, append-nil, append_assoc}
use Prim.Native.Nat.{ℕ, ◌+◌, ◌-◌, ◌≤◌, ◌<◌, max}
use native.Mathlib.Nat.{le_refl, add_comm, zero-add}
use native.Mathlib.Omega.{arith}
use borrow.Author.Tests.{ltb-false, le-leb}
use lib.Dec.{ltb, eqb}
use lib.ListN.{length, drop}
use Rattle.laws.specs.Tests.{pick}
use Rattle.laws.specs.Lists.{part, copied, moved}
use Rattle.laws.proofs.Tests.{no_true}
use Rattle.laws.proofs.Lists.{part_part}
use Rattle.buffer_pool.specs.declared.buffer_pool.BufferPool.{BufferPool}
use Rattle.buffer_pool.specs.declared.buffer_pool.PoolFront.{PoolFront}
use Rattle.buffer_pool.specs.declared.buffer_pool.PoolMode.{PoolMode}
use Rattle.buffer_pool.specs.declared.buffer_pool.PoolMode.TheVariants.{Back, Front, Alloc}
use Rattle.buffer_pool.specs.declared.buffer_pool.Memory.TheVariants.{Pool}
use Rattle.buffer_pool.specs.Moves.{Memories, memories, Move, Out, within}
use Rattle.buffer_pool.specs.Placing.{Layer, stay, change, go_out, Decision, drops, clearable, tail_start, tail_fits, tail_cleared, head_fits, head_cleared, to_alloc, grows, finish, changed, back_fits, back_on, front_fits, front_last, front_start, shorter, front_cleared, leave_on, leave, front_on, stays, alloc_on, back_layer, front_layer, alloc_layer, resolve, is_alloc}
use Rattle.buffer_pool.specs.Steps.{at}
use Rattle.buffer_pool.specs.Sound.{Ready, InBack, InFront, InAlloc}
use Rattle.buffer_pool.specs.Rust.{Run, done, then, with, ok, err, InnerMemory, PoolBack, RustPool, pool, system, raw, used_to, resized, raw_data, in_bounds, copy_into_buffer, system_reserve, system_commit, clear_unchecked, back_reserve, front_reserve, Reply, reply, after_change, rust_to_alloc, front_to_back, change_mode, changed_then, from_system, system_cleared, reserve_from_system_memory, offered}
use Rattle.buffer_pool.specs.RustMoves.{moves_after, move_raw_on_moves, move_raw_moves, try_clear_tail_moves, back_reserve_moves, front_reserve_moves, to_alloc_moves, front_to_back_moves, change_mode_moves, changed_then_moves, from_system_moves, system_cleared_moves, reserve_from_system_memory_moves, offered_moves}
use Rattle.buffer_pool.specs.AsRust.{back_of, inner_of, rust_at, rust_of, Mirrors, Leaves, decided}
use Rattle.buffer_pool.proofs.Rules.{clear_full, tail_fits_lem, front_start_lem, front_ready}
use Rattle.buffer_pool.proofs.HeapMoves.{length_resized, Leads, leads_none, leads_append, leads_within, length_sent, leads_out, leads_grow}
use Rattle.buffer_pool.proofs.RustFunctions.{move_raw_is, clearable_is, try_clear_tail_is, cleared, clear_unchecked_is, back_gives, back_reserve_is, back_moves, try_clear_tail_moves_is, back_reserve_moves_is, front_gives, front_reserve_is, front_moves, front_reserve_moves_is}

-- memories of the record's lengths, the second one a `Vec`
abbrev pub Sized : BufferPool → Memories → Type 0
Sized r m = (length m.pool ≡ r.capacity) × (length m.overflow ≡ r.kept)

-- the moves, those of the Rust less the self copies, lead from m to n and do not shorten the `Vec`
abbrev pub Extends : List Move → List Move → Memories → Memories → Type 0
Extends rusts moves m n = Leads rusts moves m n × (length m.overflow ≤ length n.overflow)

pub unmoved : (m : Memories) → Extends [] [] m m
unmoved m = (leads_none m, le_refl (length m.overflow))

extended : {c d a b : List Move} {m n q : Memories} → Extends c a m n → Extends d b n q → Extends (c ++ d) (a ++ b) m q
extended A B = (leads_append A.0 B.0 (omega (arith, B.1)), omega (arith, A.1, B.1))

-- the run, with these moves, makes those of the decision and leaves its record, with its range and count of changes
pub record Gives (run : Run Reply) (rusts : List Move) (d : Decision) (m : Memories) : Type 0 where
  pub bytes : Memories
  pub made : Extends rusts d.moves m bytes
  pub leaves : Leaves run (decided d) (Mirrors d.next bytes)

-- after the moves of the mode that gives way, and those of the change
changed_gives : {run : Run Reply} {rusts : List Move} {d : Decision} {c e a b : List Move} {m n q : Memories}
    → Extends c a m n → Extends e b n q → Gives run rusts d q → Gives (with run after_change) (c ++ (e ++ rusts)) (changed (a ++ b) d) m
changed_gives {run} {rusts} {d} {c} {e} {a} {b} {m} E F G =
    record {
      bytes = G.bytes;
      made = rw (← append_assoc c e rusts) (extended (extended E F) G.made);
      leaves =
          record {
            left = G.leaves.left;
            run_is = ap (λ (x : Run Reply). with x after_change) G.leaves.run_is;
            holds = G.leaves.holds;
          };
    }

-- ---- A mode that keeps the frame

mirrors : {q : BufferPool} {n : Memories} → Sized q n → (own : ℕ) → (is_alloc q.mode ≡ true → own ≡ q.reserved) → Mirrors q n (rust_of q n own)
mirrors S own f = record { own = own; is = refl; pool_size = S.0; heap_size = S.1; own_is = f }

module _ (len : ℕ) (r : BufferPool) where
  -- B and F
  pub settled : (mode : PoolMode) → is_alloc mode ≡ false → (n : Memories) → Sized r n → (own : ℕ)
      → {rusts moves : List Move} {m : Memories} → Extends rusts moves m n
      → Gives (done (reply (rust_at mode r n own len) (at Pool (r.raw_offset + r.raw_len) len) 0)) rusts (finish mode r moves len) m
  settled Back z n S own E =
      record {
        bytes = n;
        made = E;
        leaves = record { left = rust_at Back r n own len; run_is = refl; holds = mirrors S own (λ f. absurd (no_true f)) };
      }
  settled (Front f) z n S own E =
      record {
        bytes = n;
        made = E;
        leaves = record { left = rust_at (Front f) r n own len; run_is = refl; holds = mirrors S own (λ f. absurd (no_true f)) };
      }
  settled Alloc z n S own E = absurd (no_true (sym z))

  -- A
  module _ (m : Memories) (S : Sized r m) (own : ℕ) where
    abbrev end : ℕ
    end = r.cursor + len

    abbrev grown : ℕ → List Move
    grown kept = grows (ltb kept end) kept end

    pub system_gives : Gives (done (from_system (rust_at Alloc r m own len) len)) (grown (length m.overflow)) (finish Alloc r [] len) m
    unfolding from_system system_reserve
    system_gives =
        let e = length_resized m.overflow end in
        record {
          bytes = memories m.pool (resized m.overflow end);
          made = (
            subst (λ (k : ℕ). Leads (grown (length m.overflow)) (grown k) m (memories m.pool (resized m.overflow end))) S.1 (leads_grow m end),
            omega (arith, e),
          );
          leaves =
              record {
                left = (from_system (rust_at Alloc r m own len) len).left;
                run_is = rw (zero-add r.cursor) refl;
                holds = mirrors (S.0, e ∙ ap (λ (k : ℕ). max k end) S.1) len (λ f. refl);
              };
        }

-- ---- A frame that is moved

-- the bytes of a `Vec` with an empty frame, after `copy_into_buffer`
out_bytes : (x v : List ℕ) (s l c : ℕ) → c ≡ 0 → copied (part x s l) 0 l (resized v (c + l)) c ≡ copied x s l (resized v l) 0
unfolding copied
out_bytes x v s l c e =
    ap (λ (c : ℕ). copied (part x s l) 0 l (resized v (c + l)) c) e
    ∙ rw (zero-add l)
    (ap (λ (p : List ℕ). p ++ drop l (resized v l)) (part_part x s l 0 l (omega arith) ∙ ap (λ (i : ℕ). part x i l) {y = s} (omega arith)))

module _ (r : BufferPool) (m : Memories) (S : Sized r m) (room : r.raw_offset + r.raw_len ≤ r.capacity) where
  -- within the pool
  abbrev slid : ℕ → Memories
  slid to = memories (moved m.pool r.raw_offset r.raw_len to) m.overflow

  module _ (to : ℕ) (h : to + r.raw_len ≤ r.capacity) where
    slid_leads : Leads (move_raw_moves (inner_of r m.pool) to) (within r.raw_offset r.raw_len to) m (slid to)
    slid_leads = leads_within m r.raw_offset r.raw_len to (omega (arith, S.0)) (omega (arith, S.0))

    slides : Extends (move_raw_moves (inner_of r m.pool) to) (within r.raw_offset r.raw_len to) m (slid to)
    slides = (slid_leads, le_refl (length m.overflow))

    slid_sized : Sized r (slid to)
    slid_sized = (slid_leads.pool_size ∙ S.0, S.1)

  -- out to the `Vec`
  abbrev sent : Memories
  sent = memories m.pool (copied m.pool r.raw_offset r.raw_len (resized m.overflow r.raw_len) 0)

  in_pool : r.raw_offset + r.raw_len ≤ length m.pool
  in_pool = omega (arith, S.0)

  sent_length : length sent.overflow ≡ max (length m.overflow) r.raw_len
  sent_length = length_sent m r.raw_offset r.raw_len in_pool

  sends : Extends (to_alloc_moves (inner_of r m.pool)) (Out r.raw_offset r.raw_len ∷ []) m sent
  sends = (leads_out m r.raw_offset r.raw_len in_pool, omega (arith, sent_length))

  module _ (z : r.cursor ≡ 0) where
    sent_sized : Sized (to_alloc r) sent
    sent_sized = (S.0, omega (arith, sent_length, S.1))

    to_alloc_is : (mode : PoolMode) (own len : ℕ) → rust_to_alloc (rust_at mode r m own len) ≡ done (rust_at Alloc (to_alloc r) sent 0 len)
    unfolding rust_to_alloc copy_into_buffer raw_data in_bounds system_reserve system_commit
    to_alloc_is mode own len =
        rw (le-leb (r.raw_offset + r.raw_len) (length m.pool) in_pool, le-leb r.raw_len r.raw_len (le_refl r.raw_len))
        (ap (λ (x : List ℕ). done (rust_at Alloc (to_alloc r) (memories m.pool x) 0 len))
        (out_bytes m.pool m.overflow r.raw_offset r.raw_len r.cursor z))

-- ---- The layers

module _ (w len : ℕ) (again : Bool → RustPool → Run Reply) (again-moves : Bool → RustPool → List Move) (next : Bool → BufferPool → Decision) where
  -- the run, with these moves, makes this layer, and what comes after it
  abbrev Makes : Run Reply → List Move → Layer → Memories → Type 0
  Makes run rusts l m = Gives run rusts (resolve next l len) m

  -- what comes after a change to q agrees
  abbrev pub Then : Bool → BufferPool → Type 0
  Then entered q =
      (n : Memories) (own : ℕ) → Sized q n
      → Gives (again entered (rust_at q.mode q n own len)) (again-moves entered (rust_at q.mode q n own len)) (next entered q) n

  -- `change_mode` from B or F to this mode, and all over again
  abbrev switched : PoolMode → RustPool → Run Reply
  switched mode p = changed_then again (λ q. is_alloc q.mode) w mode p len p.inner_memory.live

  abbrev switched_moves : PoolMode → RustPool → List Move
  switched_moves mode p = changed_then_moves again-moves (λ q. is_alloc q.mode) w mode p len p.inner_memory.live

  out_gives : (r : BufferPool) (n : Memories) (S : Sized r n) → r.raw_offset + r.raw_len ≤ r.capacity → r.cursor ≡ 0
      → (mode : PoolMode) (own : ℕ) {rusts moves : List Move} {m : Memories} → Extends rusts moves m n → Then true (to_alloc r)
      → let run = rust_to_alloc (rust_at mode r n own len) in
      Makes (then run (λ q. with (again (is_alloc q.mode) q) after_change))
      (rusts ++ (to_alloc_moves (inner_of r n.pool) ++ moves_after run (λ q. again-moves (is_alloc q.mode) q))) (go_out r moves) m
  out_gives r n S room z mode own E out =
      rw (to_alloc_is r n S room z mode own len)
      (changed_gives E (sends r n S room) (out (sent r n S room) 0 (sent_sized r n S room z)))

  -- ---- B

  module _ (r : BufferPool) (R : Ready w r) (I : InBack w r 0) (m : Memories) (S : Sized r m) (own : ℕ) where
    room : r.raw_offset + r.raw_len ≤ r.capacity
    room = omega (arith, I.fits)

    -- the pool after the back's part, in B
    abbrev back_pool : PoolBack → InnerMemory → RustPool
    back_pool b inner = pool b Back inner (system m.overflow r.cursor own) len

    back_tail : (c : clearable w r ≡ true) → tail_fits w r len ≡ true
        → Makes
        (done (reply (rust_at Back (tail_cleared w r) (slid r m S room (tail_start w r)) own len) (at Pool (tail_start w r + r.raw_len) len) 0))
        (move_raw_moves (inner_of r m.pool) (tail_start w r) ++ [])
        (stay Back (tail_cleared w r) (within r.raw_offset r.raw_len (tail_start w r))) m
    back_tail c t =
        let h : tail_start w r + r.raw_len ≤ r.capacity = omega (arith, tail_fits_lem w r R c len t) in
        rw (append-nil (move_raw_moves (inner_of r m.pool) (tail_start w r)))
        (settled len (tail_cleared w r) Back refl (slid r m S room (tail_start w r)) (slid_sized r m S room (tail_start w r) h) own
        (slides r m S room (tail_start w r) h))

    back_head : Then false (head_cleared w r)
        → let p = back_pool (back_of (head_cleared w r)) (inner_of r m.pool) in
        Makes (switched (head_cleared w r).mode p) (switched_moves (head_cleared w r).mode p)
        (change false (head_cleared w r) (within r.raw_offset r.raw_len 0)) m
    unfolding change_mode change_mode_moves
    back_head head =
        let h : 0 + r.raw_len ≤ r.capacity = omega (arith, room) in
        rw (move_raw_is (used_to (inner_of r m.pool) 0) 0 (omega (arith, S.0, room)) (omega (arith, S.0, h)))
        (changed_gives (unmoved m) (slides r m S room 0 h) (head (slid r m S room 0) own (slid_sized r m S room 0 h)))

    back_out : Then true (to_alloc r)
        → Makes (switched Alloc (rust_at Back r m own len)) (switched_moves Alloc (rust_at Back r m own len)) (go_out r []) m
    unfolding change_mode change_mode_moves
    back_out out = out_gives r m S room I.no_cursor Back own (unmoved m) out

    pub layer_back : (0 < r.back_len → 0 < r.live) → Then true (to_alloc r)
        → (clearable w r ≡ true → head_fits w r ≡ true → Then false (head_cleared w r))
        → let run = back_reserve w (back_of r) (inner_of r m.pool) r.live len in
        Makes (then run (λ t. offered again w t.value (back_pool t.back t.memory) len r.live))
        (back_reserve_moves w (back_of r) (inner_of r m.pool) r.live len
        ++ moves_after run (λ t. offered_moves again-moves w t.value (back_pool t.back t.memory) len r.live))
        (back_layer w r len) m
    unfolding offered offered_moves back_layer back_on
    layer_back some out head =
        rw (back_reserve_is w r R m.pool S.0 room len some, back_reserve_moves_is w r R m.pool S.0 room len)
        (go (back_fits w r len) (clearable w r) refl (tail_fits w r len) refl (head_fits w r) refl)
      where
        go : (a c : Bool) → clearable w r ≡ c → (t : Bool) → tail_fits w r len ≡ t → (h : Bool) → head_fits w r ≡ h
            → let g = back_gives w r R m.pool S.0 room len a c t h in
            Makes (offered again w g.value (back_pool g.back g.memory) len r.live)
            (back_moves w r R m.pool S.0 room len a c t ++ offered_moves again-moves w g.value (back_pool g.back g.memory) len r.live)
            (back_on a c t h w r) m
        go true c e t u h v = settled len r Back refl m S own (unmoved m)
        go false false e t u h v = back_out out
        go false true e true u h v = back_tail e u
        go false true e false u true v = back_head (head e v)
        go false true e false u false v = back_out out

  -- ---- F gives way, after these moves

  module _ (r : BufferPool) (R : Ready w r) (z : r.cursor ≡ 0) (room : r.raw_offset + r.raw_len ≤ r.capacity) (f : PoolFront)
      (n : Memories) (S : Sized r n) (own : ℕ) {rusts moves : List Move} {m : Memories} (E : Extends rusts moves m n) where
    abbrev left : Run Reply
    left = switched Back (rust_at (Front f) r n own len)

    abbrev left_moves : List Move
    left_moves = rusts ++ switched_moves Back (rust_at (Front f) r n own len)

    module _ (out : Then true (to_alloc r)) where
      leave_unclearable : clearable w r ≡ false → Makes left left_moves (go_out r moves) m
      unfolding change_mode front_to_back change_mode_moves front_to_back_moves
      leave_unclearable c = rw (clearable_is w r R, c) (out_gives r n S room z (Front f) own E out)

      leave_full : clearable w r ≡ true → tail_fits w r len ≡ false → Makes left left_moves (go_out r moves) m
      unfolding change_mode front_to_back change_mode_moves front_to_back_moves
      leave_full c t =
          rw (clearable_is w r R, c, try_clear_tail_is w r R n.pool S.0 room len c, t) (out_gives r n S room z (Front f) own E out)

    leave_tail : (c : clearable w r ≡ true) → tail_fits w r len ≡ true → Then false (tail_cleared w r)
        → Makes left left_moves (change false (tail_cleared w r) (moves ++ within r.raw_offset r.raw_len (tail_start w r))) m
    unfolding change_mode front_to_back change_mode_moves front_to_back_moves
    leave_tail c t tail =
        let h : tail_start w r + r.raw_len ≤ r.capacity = omega (arith, tail_fits_lem w r R c len t) in
        rw (clearable_is w r R, c, try_clear_tail_is w r R n.pool S.0 room len c, t)
        (changed_gives E (slides r n S room (tail_start w r) h)
        (tail (slid r n S room (tail_start w r)) own (slid_sized r n S room (tail_start w r) h)))

    leave_gives : Then true (to_alloc r) → (clearable w r ≡ true → tail_fits w r len ≡ true → Then false (tail_cleared w r))
        → Makes left left_moves (leave w r moves len) m
    unfolding leave_on
    leave_gives out tail = go (clearable w r) refl (tail_fits w r len) refl
      where
        go : (c : Bool) → clearable w r ≡ c → (t : Bool) → tail_fits w r len ≡ t → Makes left left_moves (leave_on c t w r moves) m
        go true e true u = leave_tail e u (tail e u)
        go true e false u = leave_full out e u
        go false e t u = leave_unclearable out e

  -- ---- F

  module _ (out : (q : BufferPool) → Ready w q → q.cursor ≡ 0 → Then true (to_alloc q))
      (tail : (q : BufferPool) → Ready w q → q.cursor ≡ 0 → clearable w q ≡ true → tail_fits w q len ≡ true → Then false (tail_cleared w q))
      (r : BufferPool) (R : Ready w r) (f : PoolFront) (I : InFront w r f 0) (m : Memories) (S : Sized r m) (own : ℕ) where
    now_within : r.raw_offset + r.raw_len ≤ r.capacity
    now_within = omega (arith, I.fits, I.bytes_within)

    then_within : front_start w r f + r.raw_len ≤ r.capacity
    then_within = omega (arith, now_within, front_start_lem w r R f I)

    abbrev down : Memories
    down = slid r m S now_within (front_start w r f)

    abbrev down_moves : List Move
    down_moves = within r.raw_offset r.raw_len (front_start w r f)

    abbrev down_rusts : List Move
    down_rusts = move_raw_moves (inner_of r m.pool) (front_start w r f)

    goes_down : Extends down_rusts down_moves m down
    goes_down = slides r m S now_within (front_start w r f) then_within

    down_sized : Sized (front_cleared w r f) down
    down_sized = slid_sized r m S now_within (front_start w r f) then_within

    leave_down : let p = rust_at (Front (shorter w r f)) (front_cleared w r f) down own len in
        Makes (switched Back p) (down_rusts ++ switched_moves Back p) (leave w (front_cleared w r f) down_moves len) m
    leave_down =
        let Q = front_ready w r R f I in
        leave_gives (front_cleared w r f) Q I.no_cursor then_within (shorter w r f) down down_sized own goes_down
        (out (front_cleared w r f) Q I.no_cursor) (tail (front_cleared w r f) Q I.no_cursor)

    leave_here : let p = rust_at (Front f) r m own len in Makes (switched Back p) (switched_moves Back p) (leave w r [] len) m
    leave_here =
        leave_gives r R I.no_cursor now_within f m S own (unmoved m) (out r R I.no_cursor) (tail r R I.no_cursor)

    -- the pool after the front's part, in F
    abbrev front_pool : PoolFront → InnerMemory → RustPool
    front_pool g inner = pool (back_of r) (Front g) inner (system m.overflow r.cursor own) len

    pub layer_front : let run = front_reserve w f (inner_of r m.pool) r.live len in
        Makes (then run (λ t. offered again w t.value (front_pool t.front t.memory) len r.live))
        (front_reserve_moves w f (inner_of r m.pool) r.live len
        ++ moves_after run (λ t. offered_moves again-moves w t.value (front_pool t.front t.memory) len r.live))
        (front_layer w f r len) m
    unfolding offered offered_moves front_layer front_on
    layer_front =
        rw (front_reserve_is w r R f I m.pool S.0 len, front_reserve_moves_is w r R f I m.pool S.0 len)
        (go (ltb f.len f.back_start && front_fits r f.byte_capacity len) (ltb (front_last w r f) f.len)
        (front_fits (front_cleared w r f) f.byte_capacity len))
      where
        go : (a d g : Bool)
            → let t = front_gives w r R f I m.pool S.0 a d g in
            Makes (offered again w t.value (front_pool t.front t.memory) len r.live)
            (front_moves w r R f I m.pool S.0 len a d ++ offered_moves again-moves w t.value (front_pool t.front t.memory) len r.live)
            (front_on a d g w r f len) m
        go true d g = settled len r (Front f) refl m S own (unmoved m)
        go false true true =
            rw (append-nil down_rusts) (settled len (front_cleared w r f) (Front (shorter w r f)) refl down down_sized own goes_down)
        go false true false = leave_down
        go false false g = leave_here

  -- ---- A: the frame in the pool is empty and at 0

  module _ (r : BufferPool) (R : Ready w r) (I : InAlloc r 0) (m : Memories) (S : Sized r m) (own : ℕ) where
    no_room : r.raw_offset + r.raw_len ≤ r.capacity
    no_room = omega (arith, I.no_offset, I.no_len)

    -- the pool after the back's part, in A
    abbrev alloc_pool : PoolBack → InnerMemory → RustPool
    alloc_pool b inner = pool b Alloc inner (system m.overflow r.cursor own) len

    alloc_tail : (c : clearable w r ≡ true) → tail_fits w r len ≡ true → Then false (tail_cleared w r)
        → let p = rust_at Alloc (tail_cleared w r) (slid r m S no_room (tail_start w r)) own len in
        Makes (system_cleared again w (ok tt) p len r.live) (system_cleared_moves again-moves w (ok tt) p len r.live)
        (change false (tail_cleared w r) []) m
    unfolding system_cleared change_mode system_cleared_moves change_mode_moves
    alloc_tail c t tail =
        let h : tail_start w r + r.raw_len ≤ r.capacity = omega (arith, tail_fits_lem w r R c len t) in
        rw (add_comm (r.back_len - drops w r.live r.back_start) r.back_start)
        (changed_gives (unmoved m)
        (subst (λ (l : ℕ). Extends (move_raw_on_moves r.raw_offset l (tail_start w r)) (within r.raw_offset l (tail_start w r)) m (slid r m S no_room (tail_start w r)))
        I.no_len (slides r m S no_room (tail_start w r) h))
        (tail (slid r m S no_room (tail_start w r)) own (slid_sized r m S no_room (tail_start w r) h)))

    alloc_head : Then false (head_cleared w r)
        → let p = alloc_pool (back_of (head_cleared w r)) (inner_of r m.pool) in
        Makes (system_cleared again w (err (head_cleared w r).mode) p len r.live)
        (system_cleared_moves again-moves w (err (head_cleared w r).mode) p len r.live) (change false (head_cleared w r) []) m
    unfolding system_cleared change_mode system_cleared_moves change_mode_moves
    alloc_head head =
        subst (λ (l : ℕ). Makes (with (again false (headed l)) after_change) (again-moves false (headed l)) (change false (head_cleared w r) []) m)
        I.no_len (changed_gives (unmoved m) (unmoved m) (head m own S))
      where
        headed : ℕ → RustPool
        headed l =
            pool (back_of (head_cleared w r)) (head_cleared w r).mode (raw (inner_of (head_cleared w r) m.pool) m.pool 0 l)
            (system m.overflow r.cursor own) len

    abbrev grown_moves : List Move
    grown_moves = from_system_moves (system m.overflow r.cursor own) len

    alloc_stays : Makes (system_cleared again w (err Alloc) (rust_at Alloc r m own len) len r.live) grown_moves (stay Alloc r []) m
    unfolding system_cleared
    alloc_stays =
        subst (λ (x : InnerMemory). Makes (done (from_system (alloc_pool (back_of r) x) len)) grown_moves (stay Alloc r []) m)
        (ap₂ (λ (offset l : ℕ). raw (inner_of r m.pool) m.pool offset l) I.no_offset I.no_len) (system_gives len r m S own)

    -- the frame is empty
    no_tail_moves : clearable w r ≡ true → try_clear_tail_moves w (back_of r) (inner_of r m.pool) r.live len ≡ []
    no_tail_moves c = try_clear_tail_moves_is w r R m.pool S.0 no_room len c (tail_fits w r len) refl ∙ go (tail_fits w r len)
      where
        go : (t : Bool) → back_moves w r R m.pool S.0 no_room len false true t ≡ []
        go true = rw I.no_len refl
        go false = refl

    module _ (tail : r.cursor ≡ 0 → clearable w r ≡ true → tail_fits w r len ≡ true → Then false (tail_cleared w r))
        (head : r.cursor ≡ 0 → clearable w r ≡ true → head_fits w r ≡ true → Then false (head_cleared w r)) where
      abbrev clears : Run Reply
      clears =
          then (clear_unchecked w (back_of r) (inner_of r m.pool) r.live len)
          (λ t. system_cleared again w t.value (alloc_pool t.back t.memory) len r.live)

      abbrev clears_moves : List Move
      clears_moves =
          try_clear_tail_moves w (back_of r) (inner_of r m.pool) r.live len
          ++ moves_after (clear_unchecked w (back_of r) (inner_of r m.pool) r.live len)
          (λ t. system_cleared_moves again-moves w t.value (alloc_pool t.back t.memory) len r.live)

      alloc_clears : (c : clearable w r ≡ true) → r.cursor ≡ 0 → 0 < r.live
          → Makes clears clears_moves (alloc_on false (tail_fits w r len) (head_fits w r) w r) m
      unfolding alloc_on system_cleared_moves
      alloc_clears c z some =
          rw (clear_unchecked_is w r R m.pool S.0 no_room len c some, no_tail_moves c) (go (tail_fits w r len) refl (head_fits w r) refl)
        where
          go : (t : Bool) → tail_fits w r len ≡ t → (h : Bool) → head_fits w r ≡ h
              → let g = cleared w r R m.pool S.0 no_room len c t h in
              Makes (system_cleared again w g.value (alloc_pool g.back g.memory) len r.live)
              (system_cleared_moves again-moves w g.value (alloc_pool g.back g.memory) len r.live) (alloc_on false t h w r) m
          go true u h v = alloc_tail c u (tail z c u)
          go false u true v = alloc_head (head z c v)
          go false u false v = alloc_stays

      pub layer_alloc : (0 < r.back_len → r.cursor ≡ 0 → 0 < r.live) → (entered : Bool)
          → Makes (reserve_from_system_memory again w (rust_at Alloc r m own len) len r.live entered)
          (reserve_from_system_memory_moves again-moves w (rust_at Alloc r m own len) len r.live entered) (alloc_layer w entered r len) m
      unfolding reserve_from_system_memory reserve_from_system_memory_moves alloc_layer stays alloc_on
      layer_alloc some entered =
          rw (clearable_is w r R) (go entered (ltb 0 r.cursor) refl (eqb r.back_len 0) (clearable w r) refl)
        where
          from : Run Reply
          from = done (from_system (rust_at Alloc r m own len) len)

          go : (e x : Bool) → ltb 0 r.cursor ≡ x → (y c : Bool) → clearable w r ≡ c
              → Makes (pick (x || (e || y)) from (pick c clears from)) (pick (x || (e || y)) grown_moves (pick c clears_moves grown_moves)) (alloc_on (e || (x || (y || not c))) (tail_fits w r len) (head_fits w r) w r) m
          go true true a y c d = system_gives len r m S own
          go false true a y c d = system_gives len r m S own
          go true false a y c d = system_gives len r m S own
          go false false a true c d = system_gives len r m S own
          go false false a false false d = system_gives len r m S own
          go false false a false true d =
              let z : r.cursor ≡ 0 = omega (arith, ltb-false 0 r.cursor a) in
              alloc_clears d z (some (omega (arith, clear_full w r R d, R.start_below)) z)

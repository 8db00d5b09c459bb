-- The Rust's reserve is that of SPECIFICATION 5. The layers are put on each other: B that fits and A just entered settle at once, so
-- F needs one more call of `reserve_`, and B and A two. Before them, the reset; after it a tail that is clearable has a live slot, so
-- the head clear's index is that of a slot. Assumes nothing.
use mathlib.Core.Path.{◌≡◌, refl, sym, ap, ◌∙◌, subst}
use mathlib.Core.Bool.{Bool, true, false}
use mathlib.Core.List.{List, [], ◌∷◌, ◌++◌}
use mathlib.Core.Logic.{◌⊎◌, inl, inr}
use Prim.Native.Nat.{ℕ, zero, suc, ◌+◌, ◌-◌, ◌≤◌, ◌<◌}
use native.Mathlib.Nat.{eq-zero-or-pos, le_refl}
use native.Mathlib.Omega.{arith}
use borrow.Author.Tests.{ltb-true, ltb-false, eqb-true, eqb-false, lt-ltb, le-ltb, le-leb, eq-eqb, ne_eqb}
use lib.Dec.{ltb, eqb}
use lib.ListN.{length, take, drop, replicate, length-drop}
use lib.Seq.{length-take-le}
use Rattle.laws.specs.Tests.{pick}
use Rattle.laws.specs.Lists.{copied, moved}
use Rattle.laws.proofs.Tests.{no_true}
use Rattle.laws.proofs.Lists.{part_take}
use Rattle.buffer_pool.specs.declared.buffer_pool.BufferPool.{BufferPool}
use Rattle.buffer_pool.specs.declared.buffer_pool.PoolFront.{PoolFront}
use Rattle.buffer_pool.specs.declared.buffer_pool.PoolMode.{PoolMode}
use Rattle.buffer_pool.specs.declared.buffer_pool.PoolMode.TheVariants.{Back, Front, Alloc}
use Rattle.buffer_pool.specs.Record.{placed, framed, without_entries}
use Rattle.buffer_pool.specs.Moves.{Memories, memories, Move, In, Down, within, perform}
use Rattle.buffer_pool.specs.Placing.{Decision, clearable, tail_fits, tail_cleared, head_fits, head_cleared, to_alloc, finish, back_fits, back_on, stays, alloc_on, layer, back_layer, alloc_layer, place_of, most_changes, resets, reset_on, reset_moves, reset, place, is_too_long}
use Rattle.buffer_pool.specs.Sound.{Ready, InBack, InFront, InAlloc, InMode, Orderly}
use Rattle.buffer_pool.specs.Rust.{Run, done, with, RustPool, pool, back, system, raw, slotted, used_to, in_bounds, system_frame, system_get_data_owned, prepend_raw_data, move_raw_at_offset, offered, reserve_from_system_memory, reserve_, rust_reset_on, rust_reset, resets_now, rust_reserve}
use Rattle.buffer_pool.specs.RustMoves.{less_self_copies, move_raw_moves, reserve_from_system_memory_moves, offered_moves, reserve_moves, rust_reset_moves, rust_reserve_moves}
use Rattle.buffer_pool.specs.AsRust.{Exact, inner_of, rust_at, rust_of, Mirrors, Leaves, decided, heap_perform, heap_of}
use Rattle.buffer_pool.proofs.Rules.{tail_room, tail_ready, tail_in, head_ready, head_in}
use Rattle.buffer_pool.proofs.ReserveKept.{back_fits_lem, kept_fit, reset_fit, place_orderly}
use Rattle.buffer_pool.proofs.Unchanged.{place_overflow}
use Rattle.buffer_pool.proofs.MovesMade.{less_performs, less_heap_performs}
use Rattle.buffer_pool.proofs.HeapMoves.{Leads, leads_none, leads_append, leads_within, leads_in, leads_down, leads_heap, lent_bytes, lent_sizes}
use Rattle.buffer_pool.proofs.RustFunctions.{move_raw_is, back_fits_is, back_fits_moves_is}
use Rattle.buffer_pool.proofs.RustLayers.{Sized, Gives, unmoved, settled, system_gives, layer_back, layer_front, layer_alloc}

-- ---- `reserve_` and the placing, on a record in a mode

module _ (w len : ℕ) where
  -- with k calls and with j changes allowed, for these live slots; A was entered just now, or not
  abbrev Agrees : ℕ → ℕ → ℕ → Bool → PoolMode → BufferPool → Type 0
  Agrees live k j entered mode r =
      (m : Memories) (own : ℕ) → Sized r m
      → Gives (reserve_ w k mode (rust_at mode r m own len) len live entered) (reserve_moves w k mode (rust_at mode r m own len) len live entered)
      (place_of w j entered mode r len) m

  -- where no more change is made, with any number of calls and of changes allowed
  place_back : (r : BufferPool) (j : ℕ) → back_fits w r len ≡ true → place_of w j false Back r len ≡ finish Back r [] len
  unfolding place_of layer back_layer back_on
  place_back r zero e = refl
  place_back r (suc j) e = rw e refl

  place_alloc : (r : BufferPool) (j : ℕ) → place_of w j true Alloc r len ≡ finish Alloc r [] len
  unfolding place_of layer alloc_layer alloc_on stays
  place_alloc r zero = refl
  place_alloc r (suc j) = refl

  module _ (live k j : ℕ) (r : BufferPool) where
    back_settles : Ready w r → InBack w r len → r.back_start + r.back_len < w → Agrees live (suc k) j false Back r
    unfolding reserve_ offered reserve_moves offered_moves
    back_settles R I l m own S =
        let e = back_fits_lem w len r R I l in
        let room : r.raw_offset + r.raw_len ≤ r.capacity = omega (arith, I.fits) in
        rw (
          back_fits_is w r R m.pool S.0 room len live e,
          back_fits_moves_is w r R m.pool S.0 room len live e,
          place_back r j e,
        )
        (settled len r Back refl m S own (unmoved m))

    alloc_settles : Agrees live (suc k) j true Alloc r
    unfolding reserve_ reserve_from_system_memory reserve_moves reserve_from_system_memory_moves
    alloc_settles m own S = rw (place_alloc r j) (go (ltb 0 r.cursor) refl)
      where
        go : (t : Bool) → ltb 0 r.cursor ≡ t
            → Gives (reserve_ w (suc k) Alloc (rust_at Alloc r m own len) len live true)
            (reserve_moves w (suc k) Alloc (rust_at Alloc r m own len) len live true) (finish Alloc r [] len) m
        go true e = rw e (system_gives len r m S own)
        go false e = rw e (system_gives len r m S own)

  tail_settles : (live k j : ℕ) (r : BufferPool) (R : Ready w r) → r.cursor ≡ 0 → (c : clearable w r ≡ true) → (t : tail_fits w r len ≡ true)
      → Agrees live (suc k) j false Back (tail_cleared w r)
  tail_settles live k j r R z c t =
      back_settles live k j (tail_cleared w r) (tail_ready w r R c len t) (tail_in w r R c len t z) (tail_room w r R c len t)

  -- F with one call more, B and A with two
  module _ (k j : ℕ) where
    front_agrees : (entered : Bool) (f : PoolFront) (r : BufferPool) → Ready w r → InFront w r f 0
        → Agrees r.live (suc (suc k)) (suc j) entered (Front f) r
    unfolding reserve_ reserve_moves place_of layer
    front_agrees entered f r R I m own S =
        layer_front w len (λ c q. reserve_ w (suc k) q.mode q len r.live c)
        (λ c q. reserve_moves w (suc k) q.mode q len r.live c) (λ e q. place_of w j e q.mode q len)
        (λ q Q z. alloc_settles r.live k j (to_alloc q)) (λ q Q z c t. tail_settles r.live k j q Q z c t) r R f I m S own

    module _ (r : BufferPool) (R : Ready w r) (some : 0 < r.back_len → r.cursor ≡ 0 → 0 < r.live) where
      head_agrees : r.cursor ≡ 0 → (c : clearable w r ≡ true) → head_fits w r ≡ true
          → Agrees r.live (suc (suc k)) (suc j) false (head_cleared w r).mode (head_cleared w r)
      head_agrees z c h = front_agrees false _ (head_cleared w r) (head_ready w r R c h) (head_in w r R c h z)

      back_agrees : (entered : Bool) → InBack w r 0 → Agrees r.live (suc (suc (suc k))) (suc (suc j)) entered Back r
      unfolding reserve_ reserve_moves place_of layer
      back_agrees entered I m own S =
          layer_back w len (λ c q. reserve_ w (suc (suc k)) q.mode q len r.live c)
          (λ c q. reserve_moves w (suc (suc k)) q.mode q len r.live c) (λ e q. place_of w (suc j) e q.mode q len)
          r R I m S own (λ l. some l I.no_cursor) (alloc_settles r.live (suc k) (suc j) (to_alloc r)) (head_agrees I.no_cursor)

      alloc_agrees : (entered : Bool) → InAlloc r 0 → Agrees r.live (suc (suc (suc k))) (suc (suc j)) entered Alloc r
      unfolding reserve_ reserve_moves place_of layer
      alloc_agrees entered I m own S =
          layer_alloc w len (λ c q. reserve_ w (suc (suc k)) q.mode q len r.live c)
          (λ c q. reserve_moves w (suc (suc k)) q.mode q len r.live c) (λ e q. place_of w (suc j) e q.mode q len)
          r R I m S own (tail_settles r.live (suc k) (suc j) r R) head_agrees some entered

  mode_agrees : (k : ℕ) (r : BufferPool) → Ready w r → (0 < r.back_len → r.cursor ≡ 0 → 0 < r.live)
      → (mode : PoolMode) → InMode w mode r 0 → Agrees r.live (suc (suc (suc k))) most_changes false mode r
  mode_agrees k r R some Back I = back_agrees k 0 r R some false I
  mode_agrees k r R some (Front f) I = front_agrees (suc k) 1 false f r R I
  mode_agrees k r R some Alloc I = alloc_agrees k 0 r R some false I

-- ---- The reset

-- the run, with the Rust's moves, makes these, which do not lengthen the `Vec`, and leaves the Rust's pool of q
record Resets (run : Run RustPool) (rusts : List Move) (q : BufferPool) (moves : List Move) (m : Memories) : Type 0 where
  bytes : Memories
  own : ℕ
  leads : Leads rusts moves m bytes
  size : Sized q bytes
  shorter : length bytes.overflow ≤ length m.overflow
  run_is : run ≡ done (rust_of q bytes own)

-- a frame that went in by way of `frame`
in_bytes : (v d : List ℕ) (c : ℕ) → copied (take c v) 0 c d 0 ≡ copied v 0 c d 0
unfolding copied
in_bytes v d c = ap (λ (x : List ℕ). x ++ drop (0 + c) d) (part_take c v 0 c (omega arith))

module _ (w : ℕ) (r : BufferPool) (m : Memories) (S : Sized r m) (own : ℕ) where
  abbrev at_mode : PoolMode → RustPool
  at_mode mode = rust_at mode r m own r.reserved

  -- no byte is moved
  unmoved_reset : {run : Run RustPool} {rusts : List Move} (q : BufferPool) → Sized q m → run ≡ done (rust_of q m own) → rusts ≡ []
      → Resets run rusts q [] m
  unmoved_reset q T e none =
      record {
        bytes = m;
        own = own;
        leads = rw none (leads_none m);
        size = T;
        shorter = le_refl (length m.overflow);
        run_is = e;
      }

  -- B and F
  reset_pool : r.raw_offset + r.raw_len ≤ r.capacity
      → Resets
      (with (move_raw_at_offset (used_to (inner_of r m.pool) 0) 0)
      (λ x. pool (back 0 0) Back x (system m.overflow r.cursor own) r.reserved))
      (move_raw_moves (inner_of r m.pool) 0) (placed r Back 0 0 0 0) (within r.raw_offset r.raw_len 0) m
  reset_pool h =
      let L = leads_within m r.raw_offset r.raw_len 0 (omega (arith, S.0)) (omega (arith, S.0)) in
      record {
        bytes = memories (moved m.pool r.raw_offset r.raw_len 0) m.overflow;
        own = own;
        leads = L;
        size = (L.pool_size ∙ S.0, S.1);
        shorter = le_refl (length m.overflow);
        run_is = rw (move_raw_is (used_to (inner_of r m.pool) 0) 0 (omega (arith, S.0)) (omega (arith, S.0))) refl;
      }

  module _ (I : InAlloc r 0) where
    -- A's frame is empty
    abbrev emptied : ℕ → RustPool
    emptied l =
        pool (back 0 0) Back (raw (slotted (inner_of r m.pool) r.live (replicate w 0) (replicate w 0) 0) m.pool 0 l)
        (system m.overflow r.cursor own) r.reserved

    reset_none : Exact w r → ltb r.cursor r.capacity ≡ true → r.cursor ≡ 0
        → Resets (rust_reset w (at_mode Alloc)) (rust_reset_moves Alloc (at_mode Alloc))
        (without_entries (placed r Back 0 0 0 0)) [] m
    unfolding rust_reset rust_reset_on rust_reset_moves
    reset_none X e c =
        let z : ltb 0 r.cursor ≡ false = le-ltb 0 r.cursor (omega arith) in
        unmoved_reset _ S (rw (X.0, X.1, S.0, e, z) (ap (λ (l : ℕ). done (emptied l)) (sym I.no_len))) (rw (S.0, e, z) refl)

    -- A's frame goes in
    reset_in : r.cursor < r.capacity → 0 < r.cursor
        → Resets (rust_reset w (at_mode Alloc)) (rust_reset_moves Alloc (at_mode Alloc)) (framed (placed r Back 0 0 0 0) Back 0 r.cursor (r.kept - r.cursor) 0 r.reserved)
        (In r.cursor ∷ Down r.cursor (r.kept - r.cursor) ∷ []) m
    unfolding rust_reset rust_reset_on rust_reset_moves system_frame prepend_raw_data system_get_data_owned in_bounds
    reset_in e l =
        let c : r.cursor ≤ length m.overflow = omega (arith, I.fits, S.1) in
        let A = leads_in m r.cursor c (omega (arith, S.0)) in
        let n : Memories = memories (copied m.overflow 0 r.cursor m.pool 0) m.overflow in
        let rest : Memories = memories n.pool (drop r.cursor m.overflow) in
        let shorter-than = lt-ltb r.cursor (length m.pool) (omega (arith, S.0)) in
        let some = lt-ltb 0 r.cursor l in
        record {
          bytes = rest;
          own = 0;
          leads =
              rw (shorter-than, some)
              (subst
              (λ (k : ℕ). Leads (In r.cursor ∷ Down r.cursor (length m.overflow - r.cursor) ∷ []) (In r.cursor ∷ Down r.cursor (k - r.cursor) ∷ []) m rest)
              S.1 (leads_append A (leads_down n r.cursor c) (omega arith)));
          size = (A.pool_size ∙ S.0, length-drop r.cursor m.overflow ∙ ap (λ (k : ℕ). k - r.cursor) S.1);
          shorter = omega (arith, length-drop r.cursor m.overflow);
          run_is =
              rw (
                shorter-than,
                some,
                le-leb r.cursor (length m.overflow) c,
                length-take-le r.cursor m.overflow c,
                le-leb (0 + r.cursor) (length m.pool) (omega (arith, S.0)),
                in_bytes m.overflow m.pool r.cursor,
              )
              refl;
        }

    -- A stays
    reset_stays : ltb r.cursor r.capacity ≡ false
        → Resets (rust_reset w (at_mode Alloc)) (rust_reset_moves Alloc (at_mode Alloc)) (placed r Alloc r.back_start r.back_len 0 r.raw_offset) [] m
    unfolding rust_reset rust_reset_on rust_reset_moves
    reset_stays e = unmoved_reset _ S (rw (S.0, e) refl) (rw (S.0, e) refl)

  abbrev resetting_moves : List Move
  resetting_moves = reset_moves (resets r) (ltb r.cursor r.capacity) (eqb r.cursor 0) r.mode r

  abbrev resetting_rusts : List Move
  resetting_rusts = pick (resets_now (rust_of r m own)) (rust_reset_moves r.mode (rust_of r m own)) []

  reset_agrees : Exact w r → Orderly w r
      → Resets (pick (resets_now (rust_of r m own)) (rust_reset w (rust_of r m own)) (done (rust_of r m own))) resetting_rusts (reset r) resetting_moves m
  unfolding reset reset_on reset_moves resets_now resets rust_reset rust_reset_on rust_reset_moves
  reset_agrees X O =
      go (resets r) (ltb r.cursor r.capacity) refl (eqb r.cursor 0) refl r.mode refl (kept_fit w r O).1
    where
      go : (a t : Bool) → ltb r.cursor r.capacity ≡ t → (z : Bool) → eqb r.cursor 0 ≡ z
          → (mode : PoolMode) → r.mode ≡ mode → InMode w mode r 0
          → Resets (pick a (rust_reset w (at_mode mode)) (done (at_mode mode))) (pick a (rust_reset_moves mode (at_mode mode)) [])
          (reset_on a t z mode r) (reset_moves a t z mode r) m
      go false t q z s mode e I = unmoved_reset r S (ap (λ (x : PoolMode). done (at_mode x)) (sym e)) refl
      go true t q z s Back e I = reset_pool (omega (arith, I.fits))
      go true t q z s (Front f) e I = reset_pool (omega (arith, I.fits, I.bytes_within))
      go true true q true s Alloc e I = reset_none I X q (eqb-true r.cursor 0 s)
      go true true q false s Alloc e I = reset_in I (ltb-true r.cursor r.capacity q) (omega (arith, eqb-false r.cursor 0 s))
      go true false q z s Alloc e I = reset_stays I q

-- with no reset, a back that is not empty has a live slot
live_left : (r : BufferPool) → resets r ≡ false → 0 < r.back_len → 0 < r.live
unfolding resets
live_left r p h = go (eq-zero-or-pos r.live)
  where
    go : (r.live ≡ 0) ⊎ (0 < r.live) → 0 < r.live
    go (inl e) = absurd (no_true (sym (rw (eq-eqb r.live 0 e, ne_eqb r.back_len 0 (λ x. omega arith)) at p)))
    go (inr l) = l

-- the reset keeps the live slots, and leaves one where the back is not empty and the overflow has no frame
abbrev Kept : BufferPool → BufferPool → Type 0
Kept r q = (q.live ≡ r.live) × (0 < q.back_len → q.cursor ≡ 0 → 0 < q.live)

reset_keeps : (w : ℕ) (r : BufferPool) → Ready w r → Kept r (reset r)
unfolding reset reset_on
reset_keeps w r R = go (resets r) refl (ltb r.cursor r.capacity) refl (eqb r.cursor 0) r.mode
  where
    go : (a : Bool) → resets r ≡ a → (t : Bool) → ltb r.cursor r.capacity ≡ t → (z : Bool) (mode : PoolMode)
        → Kept r (reset_on a t z mode r)
    go false p t q z mode = (refl, λ l e. live_left r p l)
    go true p t q z Back = (refl, λ l e. absurd (omega arith))
    go true p t q z (Front f) = (refl, λ l e. absurd (omega arith))
    go true p true q true Alloc = (refl, λ l e. absurd (omega arith))
    go true p true q false Alloc = (refl, λ l e. absurd (omega arith))
    go true p false q z Alloc =
        (refl, λ l e. absurd (omega (arith, R.none (omega (arith, ltb-false r.cursor r.capacity q)))))

-- ---- Reset and placing together

module _ (w k : ℕ) (r : BufferPool) (len : ℕ) (X : Exact w r) (O : Orderly w r) (m : Memories) (S : Sized r m) (own : ℕ) where
  abbrev fresh : BufferPool
  fresh = reset r

  resetting : Resets (pick (resets_now (rust_of r m own)) (rust_reset w (rust_of r m own)) (done (rust_of r m own)))
      (resetting_rusts w r m S own) fresh (resetting_moves w r m S own) m
  resetting = reset_agrees w r m S own X O

  abbrev fresh_pool : RustPool
  fresh_pool = rust_at fresh.mode fresh resetting.bytes resetting.own len

  abbrev Reserving : ℕ → Type 0
  Reserving live =
      Gives (reserve_ w (suc (suc (suc k))) fresh.mode fresh_pool len live false)
      (reserve_moves w (suc (suc (suc k))) fresh.mode fresh_pool len live false)
      (place_of w most_changes false fresh.mode fresh len) resetting.bytes

  placing : Reserving r.live
  placing =
      let K = reset_keeps w r O.ready in
      let f = reset_fit w r O in
      subst Reserving K.0
      (mode_agrees w len k fresh f.0 K.1 fresh.mode f.1 resetting.bytes resetting.own resetting.size)

  placing_leads : Leads (rust_reserve_moves w (suc (suc (suc k))) (rust_of r m own) len) (place w r len).moves m placing.bytes
  unfolding place rust_reserve_moves
  placing_leads = rw resetting.run_is (leads_append resetting.leads placing.made.0 (omega (arith, resetting.shorter)))

  placing_leaves : Leaves (rust_reserve w (suc (suc (suc k))) (rust_of r m own) len) (decided (place w r len))
      (Mirrors (place w r len).next placing.bytes)
  unfolding place rust_reserve
  placing_leaves =
      record {
        left = placing.leaves.left;
        run_is = rw resetting.run_is placing.leaves.run_is;
        holds = placing.leaves.holds;
      }

-- ---- The theorems

-- every reserve of every length on an orderly record: no panic, at most two mode changes (a fourth call of `reserve_` is never
-- made), and the record, bytes, writable range and count of changes of SPECIFICATION 5 and 6
pub rust_agrees : (w k : ℕ) (r : BufferPool) (m : Memories) (p : RustPool) (len : ℕ) → Exact w r → Orderly w r → Mirrors r m p
    → Leaves (rust_reserve w (suc (suc (suc k))) p len) (decided (place w r len))
    (Mirrors (place w r len).next (heap_perform (place w r len).moves m))
rust_agrees w k r m p len X O M =
    let S : Sized r m = (M.pool_size, M.heap_size) in
    rw (M.is, leads_heap (placing_leads w k r len X O m S M.own)) (placing_leaves w k r len X O m S M.own)

-- W-203: the moves that a reserve decides on are "the Rust's, in its order, less those to the start where the frame already lies in
-- that memory"
pub moves_agree : (w k : ℕ) (r : BufferPool) (m : Memories) (p : RustPool) (len : ℕ) → Exact w r → Orderly w r → Mirrors r m p
    → (place w r len).moves ≡ less_self_copies (rust_reserve_moves w (suc (suc (suc k))) p len)
moves_agree w k r m p len X O M = rw M.is (placing_leads w k r len X O m (M.pool_size, M.heap_size) M.own).less

-- making either list leaves the same bytes, in both lent memories and in those with a `Vec`, whatever they hold
pub moves_perform : (w k : ℕ) (r : BufferPool) (m : Memories) (p : RustPool) (len : ℕ) → Exact w r → Orderly w r → Mirrors r m p → (x : Memories)
    → let rusts = rust_reserve_moves w (suc (suc (suc k))) p len in
    (perform (place w r len).moves x ≡ perform rusts x) × (heap_perform (place w r len).moves x ≡ heap_perform rusts x)
moves_perform w k r m p len X O M x =
    let rusts = rust_reserve_moves w (suc (suc (suc k))) p len in
    rw (moves_agree w k r m p len X O M) (less_performs rusts x, less_heap_performs rusts x)

-- with a long enough overflow, the same moves made in the lent memories leave the bytes that the Rust leaves
module _ (w : ℕ) (r : BufferPool) (m : Memories) (len : ℕ) (X : Exact w r) (O : Orderly w r) (S : Sized r (heap_of r m))
    (e : length m.overflow ≡ r.overflow) (fits : is_too_long (place w r len) len ≡ false) where
  abbrev d : Decision
  d = place w r len

  next_within : d.next.kept ≤ length m.overflow
  next_within = omega (arith, e, (place_orderly w r len O fits).kept_within, place_overflow w r len)

  pub bytes_agree : heap_perform d.moves (heap_of r m) ≡ heap_of d.next (perform d.moves m)
  bytes_agree =
      lent_bytes r d.next m (placing_leads w 0 r len X O (heap_of r m) S 0) (omega (arith, e, O.kept_within)) next_within
      (placing_leaves w 0 r len X O (heap_of r m) S 0).holds.heap_size

  pub sizes_agree : (length (perform d.moves m).pool ≡ length m.pool) × (length (perform d.moves m).overflow ≡ length m.overflow)
  sizes_agree =
      lent_sizes r d.next m (placing_leads w 0 r len X O (heap_of r m) S 0) (omega (arith, e, O.kept_within)) next_within
      (placing_leaves w 0 r len X O (heap_of r m) S 0).holds.heap_size

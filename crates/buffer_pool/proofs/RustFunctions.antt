-- What each function of the Rust gives and moves on a ready record: the SPECIFICATION's word for it, and no panic. Every index is
-- that of a slot, every range lies in the pool, and every difference is one. Assumes nothing.
use mathlib.Core.Path.{◌≡◌, refl, sym, ap, ◌∙◌}
use mathlib.Core.Bool.{Bool, true, false, ◌&&◌, ◌||◌}
use mathlib.Core.List.{List, []}
use mathlib.Core.Logic.{◌⊎◌, inl, inr}
use Prim.Native.Nat.{ℕ, zero, suc, ◌+◌, ◌-◌, ◌/◌, ◌^◌, ◌≤◌, ◌<◌, max}
use native.Mathlib.Nat.{add_comm, eq-zero-or-pos}
use native.Mathlib.Omega.{arith}
use native.Mathlib.Decide.{ℕ_discrete}
use borrow.Author.Tests.{ltb-true, ltb-false, leb-true, eqb-true, eqb-false, lt-ltb, le-ltb, le-leb, lt-leb, eq-eqb, ne_eqb}
use lib.Dec.{leb, ltb, eqb}
use lib.Count.{count_trailing_zeros, trailing_of_zero}
use lib.ListN.{length}
use Rattle.laws.specs.Tests.{pick}
use Rattle.laws.specs.Live.{last_live}
use Rattle.laws.specs.Lists.{moved}
use Rattle.laws.proofs.Slots.{last_zeros, zeros_below, first}
use Rattle.laws.proofs.Tests.{ltb_and, leb_and}
use Rattle.buffer_pool.specs.declared.buffer_pool.BufferPool.{BufferPool}
use Rattle.buffer_pool.specs.declared.buffer_pool.PoolFront.{PoolFront}
use Rattle.buffer_pool.specs.declared.buffer_pool.PoolMode.TheVariants.{Back, Alloc}
use Rattle.buffer_pool.specs.Record.{after}
use Rattle.buffer_pool.specs.Placing.{drops, clearable, tail_start, tail_fits, tail_cleared, front_slots, front_bytes, head_fits, head_cleared, back_fits, front_fits, front_last, front_start, shorter, front_cleared}
use Rattle.buffer_pool.specs.Moves.{Move}
use Rattle.buffer_pool.specs.Sound.{Ready, InFront}
use Rattle.buffer_pool.specs.Rust.{done, then, with, Result, ok, err, InnerMemory, Backed, backed, Fronted, fronted, raw, used_to, in_bounds, raw_offset_from_len, front_end_of, front_end, copy_within, move_raw_on, move_raw_at_offset, try_change_len, has_tail_capacity, has_capacity_until_offset, reserve_raw, element_to_drop, tail_is_clearable, back_offset, clear_tail_to, try_clear_tail_on, try_clear_tail_unchecked, boundary, try_clear_head_on, try_clear_head, clear_unchecked, back_has_capacity, back_offers, back_cleared, back_reserve, front_drop_to, front_try_clear_tail_on, front_try_clear_tail, rust_front_cleared, front_clear, front_reserve}
use Rattle.buffer_pool.specs.RustMoves.{moves_after, move_raw_moves, told_moves, try_clear_tail_moves, back_reserve_moves, front_reserve_moves}
use Rattle.buffer_pool.specs.AsRust.{back_of, inner_of}
use Rattle.buffer_pool.proofs.Rules.{clear_drops, clear_full, tail_room, tail_fits_lem, front_start_lem}
use Rattle.buffer_pool.proofs.ByteLaws.{moved_none}
use Rattle.buffer_pool.proofs.HeapMoves.{length_moved}

-- ---- The frame, in any memory

module _ (m : InnerMemory) where
  pub move_raw_is : (to : ℕ) → m.raw_offset + m.raw_len ≤ length m.bytes → to + m.raw_len ≤ length m.bytes
      → move_raw_at_offset m to ≡ done (raw m (moved m.bytes m.raw_offset m.raw_len to) to m.raw_len)
  unfolding move_raw_at_offset move_raw_on copy_within in_bounds
  move_raw_is to h k = go m.raw_len refl
    where
      go : (l : ℕ) → m.raw_len ≡ l → move_raw_on l m to ≡ done (raw m (moved m.bytes m.raw_offset m.raw_len to) to m.raw_len)
      go zero e =
          ap (λ (x : List ℕ). done (raw m x to m.raw_len))
          (moved_none m.bytes m.raw_offset to ∙ ap (λ (l : ℕ). moved m.bytes m.raw_offset l to) (sym e))
      go (suc l) e = rw (le-leb (m.raw_offset + m.raw_len) (length m.bytes) h, le-leb (to + m.raw_len) (length m.bytes) k) refl

  pub reserve_raw_is : (len : ℕ) → m.raw_offset + m.raw_len + len ≤ length m.bytes → reserve_raw m len ≡ done (m.raw_offset + m.raw_len)
  unfolding reserve_raw in_bounds
  reserve_raw_is len h = rw (le-leb (m.raw_offset + m.raw_len + len) (length m.bytes) h) refl

module _ (w : ℕ) (r : BufferPool) (R : Ready w r) where
  abbrev s : ℕ
  s = r.back_start

  abbrev n : ℕ
  n = r.back_len

  abbrev end : ℕ → ℕ
  end p = after r.starts r.lengths p

  -- ---- The tests and the slots' entries

  full_test : leb w (s + n) ≡ eqb (s + n) w
  full_test = go (ℕ_discrete (s + n) w)
    where
      go : Dec (s + n ≡ w) → leb w (s + n) ≡ eqb (s + n) w
      go (yes e) = le-leb w (s + n) (omega arith) ∙ sym (eq-eqb (s + n) w e)
      go (no f) = lt-leb w (s + n) (omega (arith, R.back_within)) ∙ sym (ne_eqb (s + n) w f)

  pub clearable_is : tail_is_clearable w (back_of r) r.live ≡ done (clearable w r)
  unfolding tail_is_clearable clearable drops
  clearable_is = rw (le-leb s w (omega (arith, R.start_below)), full_test) refl

  module _ (bytes : List ℕ) where
    abbrev m : InnerMemory
    m = inner_of r bytes

    offset_is : (p : ℕ) → p ≤ w → raw_offset_from_len w m p ≡ done (end p)
    unfolding raw_offset_from_len after
    offset_is zero h = refl
    offset_is (suc i) h = rw (lt-ltb i w h) refl

    -- x is the word shifted down, so that its lowest bit is that of slot b + 1
    front_end_of_is : (b : ℕ) → suc b ≤ w → (x : ℕ) → r.live / 2 ^ (w - suc b) ≡ x
        → front_end_of w m x (suc b) ≡ done (end (last_live w r.live (suc b)))
    unfolding front_end_of after
    front_end_of_is b h x e = go x e (last_zeros w r.live (suc b) h R.slots.live_fits)
      where
        go : (x : ℕ) → r.live / 2 ^ (w - suc b) ≡ x
            → last_live w r.live (suc b) ≡ suc b - count_trailing_zeros w (r.live / 2 ^ (w - suc b))
            → front_end_of w m x (suc b) ≡ done (end (last_live w r.live (suc b)))
        go zero e last =
            let z : last_live w r.live (suc b) ≡ 0 = omega (arith, last, ap (count_trailing_zeros w) e ∙ trailing_of_zero w) in
            rw z refl
        go (suc x) e last =
            let t : count_trailing_zeros w (suc x) < suc b =
            rw (← e) (zeros_below w r.live (suc b) h R.slots.live_fits (omega arith)) in
            let z : last_live w r.live (suc b) ≡ suc (suc b - 1 - count_trailing_zeros w (suc x)) =
            omega (arith, t, last, ap (count_trailing_zeros w) e) in
            rw (
              le-leb (count_trailing_zeros w (suc x)) (suc b - 1) (omega (arith, t)),
              lt-ltb (suc b - 1 - count_trailing_zeros w (suc x)) w (omega arith),
              z,
            )
            refl

    front_end_is : (b : ℕ) → b ≤ w → front_end w m r.live b ≡ done (end (last_live w r.live b))
    unfolding front_end last_live after
    front_end_is zero h = refl
    front_end_is (suc b) h = rw (le-leb (suc b) w h) (front_end_of_is b h (r.live / 2 ^ (w - suc b)) refl)

  -- ---- The tail clear

  abbrev dropped : ℕ
  dropped = drops w r.live s

  -- the memory with the frame moved to another record's place
  abbrev moved_to : BufferPool → List ℕ → InnerMemory
  moved_to q bytes = inner_of q (moved bytes r.raw_offset r.raw_len q.raw_offset)

  module _ (bytes : List ℕ) (size : length bytes ≡ r.capacity) (room : r.raw_offset + r.raw_len ≤ r.capacity) (len : ℕ) where
    abbrev pub tail_tried : Bool → Backed Bool
    tail_tried true = backed true (back_of (tail_cleared w r)) (moved_to (tail_cleared w r) bytes)
    tail_tried false = backed false (back_of r) (inner_of r bytes)

    abbrev tail_end : ℕ
    tail_end = tail_start w r + r.raw_len + len

    module _ (c : clearable w r ≡ true) where
      back_offset_is : (k : ℕ) → n - dropped ≡ k → back_offset w (back_of r) (inner_of r bytes) r.live k ≡ done (tail_start w r)
      unfolding back_offset tail_start
      back_offset_is zero e =
          rw (eq-eqb dropped n (omega (arith, clear_drops w r R c))) (front_end_is bytes s (omega (arith, R.start_below)))
      back_offset_is (suc k) e =
          let z : s + n - dropped ≡ suc k + s = omega (arith, clear_drops w r R c) in
          rw (ne_eqb dropped n (λ f. omega arith), z) (offset_is bytes (suc k + s) (omega (arith, R.back_within)))

      clear_tail_to_is : (t : Bool) → leb tail_end r.capacity ≡ t
          → clear_tail_to w (back_of r) (inner_of r bytes) r.live len (n - dropped) ≡ done (tail_tried t)
      unfolding clear_tail_to try_change_len in_bounds
      clear_tail_to_is true e =
          let h = leb-true tail_end r.capacity e in
          rw (
            back_offset_is (n - dropped) refl,
            size,
            e,
            move_raw_is (used_to (inner_of r bytes) (n - dropped + s)) (tail_start w r) (omega arith) (omega arith),
            add_comm (n - dropped) s,
          )
          refl
      clear_tail_to_is false e = rw (back_offset_is (n - dropped) refl, size, e) refl

      drop_is : element_to_drop w (back_of r) r.live - (w - (s + n)) ≡ dropped
      unfolding drops
      drop_is = omega (arith, clear_full w r R c)

      pub try_clear_tail_is : try_clear_tail_unchecked w (back_of r) (inner_of r bytes) r.live len ≡ done (tail_tried (tail_fits w r len))
      unfolding try_clear_tail_unchecked tail_fits try_clear_tail_on
      try_clear_tail_is =
          rw (
            le-leb s w (omega (arith, R.start_below)),
            le-leb (s + n) w R.back_within,
            ne_eqb (w - s) 0 (λ e. omega (arith, R.start_below)),
            le-ltb (element_to_drop w (back_of r) r.live) (w - (s + n)) (omega (arith, clear_full w r R c)),
          )
          (go (count_trailing_zeros w r.live))
        where
          go : (z : ℕ)
              → try_clear_tail_on (eqb z 0 || (false || false)) w (back_of r) (inner_of r bytes) r.live len
              (element_to_drop w (back_of r) r.live) (w - (s + n))
              ≡ done (tail_tried (ltb 0 z && leb tail_end r.capacity))
          go zero = refl
          go (suc z) =
              rw (ne_eqb (suc z) 0 (λ f. omega arith), lt-ltb 0 (suc z) (omega arith), drop_is, le-leb dropped n (clear_drops w r R c))
              (clear_tail_to_is (leb tail_end r.capacity) refl)

      -- ---- The head clear, and both in their order

      abbrev head_tried : Bool → Backed (Result (Unit {0}))
      head_tried true = backed (err (head_cleared w r).mode) (back_of (head_cleared w r)) (inner_of r bytes)
      head_tried false = backed (err Alloc) (back_of r) (inner_of r bytes)

      boundary_is : front_slots w r ≤ w → (t : Bool) → ltb s (front_slots w r) ≡ t
          → boundary t (back_of r) (front_slots w r) ≡ done (back_of (head_cleared w r))
      unfolding boundary
      boundary_is h true e =
          let l = ltb-true s (front_slots w r) e in
          let x : max s (front_slots w r) ≡ front_slots w r = omega (arith, l) in
          rw (le-leb (front_slots w r - s) n (omega (arith, clear_full w r R c)), x) refl
      boundary_is h false e =
          let l = ltb-false s (front_slots w r) e in
          let x : max s (front_slots w r) ≡ s = omega (arith, l) in
          let y : n - (front_slots w r - s) ≡ n = omega (arith, l) in
          rw (x, y) refl

      -- with a live slot there is a slot after the leading zeros
      try_clear_head_is : 0 < r.live → try_clear_head w (back_of r) (inner_of r bytes) r.live ≡ done (head_tried (head_fits w r))
      unfolding try_clear_head try_clear_head_on head_fits
      try_clear_head_is h = go (leb 1 (front_slots w r)) (ltb r.raw_len (front_bytes w r)) refl
        where
          lead : front_slots w r < w
          lead = omega (arith, (first w r.live h R.slots.live_fits).most)

          go : (a b : Bool) → ltb r.raw_len (front_bytes w r) ≡ b
              → try_clear_head_on a w (back_of r) (inner_of r bytes) (front_slots w r)
              ≡ done (head_tried (a && (ltb (front_slots w r) w && b)))
          go false b e = refl
          go true true e =
              rw (lt-ltb (front_slots w r) w lead, e, boundary_is (omega (arith, lead)) (ltb s (front_slots w r)) refl) refl
          go true false e = rw (lt-ltb (front_slots w r) w lead, e) refl

      abbrev pub cleared : Bool → Bool → Backed (Result (Unit {0}))
      cleared true h = backed (ok tt) (back_of (tail_cleared w r)) (moved_to (tail_cleared w r) bytes)
      cleared false h = head_tried h

      pub clear_unchecked_is : 0 < r.live
          → clear_unchecked w (back_of r) (inner_of r bytes) r.live len ≡ done (cleared (tail_fits w r len) (head_fits w r))
      unfolding clear_unchecked
      clear_unchecked_is l = rw try_clear_tail_is (go (tail_fits w r len))
        where
          go : (t : Bool)
              → pick (tail_tried t).value (done (backed (ok tt) (tail_tried t).back (tail_tried t).memory))
              (try_clear_head w (tail_tried t).back (tail_tried t).memory r.live)
              ≡ done (cleared t (head_fits w r))
          go true = refl
          go false = try_clear_head_is l

    -- ---- The back's reserve

    has_is : back_has_capacity w (back_of r) (inner_of r bytes) len ≡ back_fits w r len
    unfolding has_tail_capacity in_bounds back_fits
    has_is = rw (size, add_comm n s) refl

    fits_in_lem : back_fits w r len ≡ true → r.raw_offset + r.raw_len + len ≤ length bytes
    unfolding back_fits
    fits_in_lem p = omega (arith, (leb_and (r.raw_offset + r.raw_len + len) r.capacity p).0)

    abbrev offered_here : Backed (Result ℕ)
    offered_here = backed (ok (r.raw_offset + r.raw_len)) (back_of r) (inner_of r bytes)

    pub back_fits_is : (live : ℕ) → back_fits w r len ≡ true → back_reserve w (back_of r) (inner_of r bytes) live len ≡ done offered_here
    unfolding back_reserve
    back_fits_is live p = rw (has_is, p, reserve_raw_is (inner_of r bytes) len (fits_in_lem p)) refl

    -- the tail has room for what was asked
    module _ (c : clearable w r ≡ true) (t : tail_fits w r len ≡ true) where
      tail_length : length (moved_to (tail_cleared w r) bytes).bytes ≡ length bytes
      tail_length =
          let h = tail_fits_lem w r R c len t in
          length_moved bytes r.raw_offset r.raw_len (tail_start w r) (omega arith) (omega arith)

      tail_enough : tail_end ≤ length bytes
      tail_enough = omega (arith, size, tail_fits_lem w r R c len t)

      tail_has : back_has_capacity w (back_of (tail_cleared w r)) (moved_to (tail_cleared w r) bytes) len ≡ true
      unfolding has_tail_capacity in_bounds
      tail_has =
          rw (
            tail_length,
            le-leb tail_end (length bytes) tail_enough,
            lt-ltb (n - dropped + s) w (omega (arith, tail_room w r R c len t)),
          )
          refl

    -- fits? clearable? tail clear? head clear?
    abbrev pub back_gives : Bool → Bool → Bool → Bool → Backed (Result ℕ)
    back_gives true c t h = offered_here
    back_gives false false t h = backed (err Alloc) (back_of r) (inner_of r bytes)
    back_gives false true true h =
        backed (ok (tail_start w r + r.raw_len)) (back_of (tail_cleared w r)) (moved_to (tail_cleared w r) bytes)
    back_gives false true false true = backed (err (head_cleared w r).mode) (back_of (head_cleared w r)) (inner_of r bytes)
    back_gives false true false false = backed (err Alloc) (back_of r) (inner_of r bytes)

    pub back_reserve_is : (0 < n → 0 < r.live)
        → back_reserve w (back_of r) (inner_of r bytes) r.live len
        ≡ done (back_gives (back_fits w r len) (clearable w r) (tail_fits w r len) (head_fits w r))
    unfolding back_reserve back_cleared
    back_reserve_is some =
        rw (has_is, clearable_is)
        (go (back_fits w r len) refl (clearable w r) refl (tail_fits w r len) refl (head_fits w r) refl)
      where
        some_live : clearable w r ≡ true → 0 < r.live
        some_live c = some (omega (arith, clear_full w r R c, R.start_below))

        go : (a : Bool) → back_fits w r len ≡ a → (c : Bool) → clearable w r ≡ c → (t : Bool) → tail_fits w r len ≡ t
            → (h : Bool) → head_fits w r ≡ h
            → pick a (back_offers (back_of r) (inner_of r bytes) len)
            (pick c
            (then (clear_unchecked w (back_of r) (inner_of r bytes) r.live len) (λ x. back_cleared w len x.value x.back x.memory))
            (done (backed (err Alloc) (back_of r) (inner_of r bytes))))
            ≡ done (back_gives a c t h)
        go true p c e t u h v = rw (reserve_raw_is (inner_of r bytes) len (fits_in_lem p)) refl
        go false p false e t u h v = refl
        go false p true e true u h v =
            rw (
              clear_unchecked_is e (some_live e),
              u,
              tail_has e u,
              reserve_raw_is (moved_to (tail_cleared w r) bytes) len (rw (tail_length e u) (tail_enough e u)),
            )
            refl
        go false p true e false u true v = rw (clear_unchecked_is e (some_live e), u, v) refl
        go false p true e false u false v = rw (clear_unchecked_is e (some_live e), u, v) refl

    -- its moves: fits? clearable? tail clear?
    abbrev pub back_moves : Bool → Bool → Bool → List Move
    back_moves true c t = []
    back_moves false false t = []
    back_moves false true true = move_raw_moves (inner_of r bytes) (tail_start w r)
    back_moves false true false = []

    pub try_clear_tail_moves_is : clearable w r ≡ true → (t : Bool) → tail_fits w r len ≡ t
        → try_clear_tail_moves w (back_of r) (inner_of r bytes) r.live len ≡ back_moves false true t
    unfolding try_clear_tail_moves
    try_clear_tail_moves_is c true e = rw (try_clear_tail_is c, e) refl
    try_clear_tail_moves_is c false e = rw (try_clear_tail_is c, e) refl

    pub back_fits_moves_is : (live : ℕ) → back_fits w r len ≡ true → back_reserve_moves w (back_of r) (inner_of r bytes) live len ≡ []
    unfolding back_reserve_moves
    back_fits_moves_is live p = rw (has_is, p) refl

    pub back_reserve_moves_is : back_reserve_moves w (back_of r) (inner_of r bytes) r.live len
        ≡ back_moves (back_fits w r len) (clearable w r) (tail_fits w r len)
    unfolding back_reserve_moves
    back_reserve_moves_is = rw (has_is, clearable_is) (go (back_fits w r len) (clearable w r) refl)
      where
        go : (a c : Bool) → clearable w r ≡ c
            → pick a [] (pick c (try_clear_tail_moves w (back_of r) (inner_of r bytes) r.live len) []) ≡ back_moves a c (tail_fits w r len)
        go true c e = refl
        go false false e = refl
        go false true e = try_clear_tail_moves_is e (tail_fits w r len) refl

  -- ---- The front's reserve

  module _ (f : PoolFront) (I : InFront w r f 0) (bytes : List ℕ) (size : length bytes ≡ r.capacity) where
    abbrev drop_tried : Bool → Fronted Bool
    drop_tried true = fronted true (shorter w r f) (moved_to (front_cleared w r f) bytes)
    drop_tried false = fronted false f (inner_of r bytes)

    -- the zeros below the word of F's own slots
    abbrev zeros : ℕ
    zeros = count_trailing_zeros w (r.live / 2 ^ (w - f.len))

    len_in : f.len < w
    len_in = omega (arith, I.len_within, I.front_within, R.start_below)

    last_is : front_last w r f ≡ f.len - zeros
    last_is = last_zeros w r.live f.len (omega (arith, len_in)) R.slots.live_fits

    now_within : r.raw_offset + r.raw_len ≤ length bytes
    now_within = omega (arith, I.fits, I.bytes_within)

    then_within : front_start w r f + r.raw_len ≤ length bytes
    then_within = omega (arith, now_within, front_start_lem w r R f I)

    front_drop_to_is : (j : ℕ) → front_last w r f ≡ j → front_drop_to w f (inner_of r bytes) j ≡ done (drop_tried true)
    unfolding front_drop_to
    front_drop_to_is j e =
        rw (
          ← e,
          offset_is bytes (front_last w r f) (omega (arith, len_in, last_is)),
          move_raw_is (used_to (inner_of r bytes) (front_last w r f)) (front_start w r f) now_within then_within,
        )
        refl

    -- other than all of the word, they are zeros of F's own slots
    drop_within : (z : ℕ) → zeros ≡ z → (z ≡ w → ⊥) → z ≤ f.len
    drop_within z e other = go (eq-zero-or-pos (r.live / 2 ^ (w - f.len)))
      where
        go : (r.live / 2 ^ (w - f.len) ≡ 0) ⊎ (0 < r.live / 2 ^ (w - f.len)) → z ≤ f.len
        go (inl x) = absurd (other (sym e ∙ ap (count_trailing_zeros w) x ∙ trailing_of_zero w))
        go (inr x) = omega (arith, zeros_below w r.live f.len (omega (arith, len_in)) R.slots.live_fits x)

    front_try_clear_tail_is : 0 < f.len
        → front_try_clear_tail w f (inner_of r bytes) r.live ≡ done (drop_tried (ltb (front_last w r f) f.len))
    unfolding front_try_clear_tail front_try_clear_tail_on
    front_try_clear_tail_is h = rw (le-leb f.len w (omega (arith, len_in))) (go zeros refl)
      where
        all : (z : ℕ) → zeros ≡ suc z → (t : Bool) → eqb (suc z) w ≡ t
            → front_try_clear_tail_on false t w f (inner_of r bytes) (suc z) ≡ done (drop_tried true)
        all z e true g = front_drop_to_is 0 (omega (arith, len_in, eqb-true (suc z) w g, last_is))
        all z e false g =
            rw (le-leb (suc z) f.len (drop_within (suc z) e (eqb-false (suc z) w g)))
            (front_drop_to_is (f.len - suc z) (omega (arith, last_is)))

        go : (z : ℕ) → zeros ≡ z
            → front_try_clear_tail_on (eqb z 0) (eqb z w) w f (inner_of r bytes) z ≡ done (drop_tried (ltb (front_last w r f) f.len))
        go zero e = rw (le-ltb (front_last w r f) f.len (omega (arith, last_is))) refl
        go (suc z) e =
            rw (lt-ltb (front_last w r f) f.len (omega (arith, last_is)), ne_eqb (suc z) 0 (λ x. omega arith))
            (all z e (eqb (suc z) w) refl)

    -- fits? drops a slot? fits after that?
    abbrev pub front_gives : Bool → Bool → Bool → Fronted (Result ℕ)
    front_gives true d g = fronted (ok (r.raw_offset + r.raw_len)) f (inner_of r bytes)
    front_gives false true true =
        fronted (ok (front_start w r f + r.raw_len)) (shorter w r f) (moved_to (front_cleared w r f) bytes)
    front_gives false true false = fronted (err Back) (shorter w r f) (moved_to (front_cleared w r f) bytes)
    front_gives false false g = fronted (err Back) f (inner_of r bytes)

    module _ (len : ℕ) where
      abbrev drops_one : Bool
      drops_one = ltb (front_last w r f) f.len

      abbrev fits_then : Bool
      fits_then = front_fits (front_cleared w r f) f.byte_capacity len

      front_clear_is : front_clear w f (inner_of r bytes) r.live len ≡ done (front_gives false drops_one fits_then)
      unfolding front_clear rust_front_cleared has_capacity_until_offset front_fits
      front_clear_is = go (ltb 0 f.len) refl drops_one refl fits_then refl
        where
          go : (a : Bool) → ltb 0 f.len ≡ a → (d : Bool) → ltb (front_last w r f) f.len ≡ d
              → (g : Bool) → leb (front_start w r f + r.raw_len + len) f.byte_capacity ≡ g
              → front_clear w f (inner_of r bytes) r.live len ≡ done (front_gives false d g)
          go false e true p g u = absurd (omega (arith, ltb-false 0 f.len e, ltb-true (front_last w r f) f.len p))
          go false e false p g u = rw e refl
          go true e true p true u =
              let k : front_start w r f + r.raw_len + len ≤ length bytes =
              omega (arith, I.bytes_within, leb-true (front_start w r f + r.raw_len + len) f.byte_capacity u) in
              rw (
                e,
                front_try_clear_tail_is (ltb-true 0 f.len e),
                p,
                u,
                reserve_raw_is (moved_to (front_cleared w r f) bytes) len
                    (rw (length_moved bytes r.raw_offset r.raw_len (front_start w r f) now_within then_within) k),
              )
              refl
          go true e true p false u = rw (e, front_try_clear_tail_is (ltb-true 0 f.len e), p, u) refl
          go true e false p g u = rw (e, front_try_clear_tail_is (ltb-true 0 f.len e), p) refl

      abbrev fits_now : Bool
      fits_now = ltb f.len f.back_start && front_fits r f.byte_capacity len

      pub front_reserve_is : front_reserve w f (inner_of r bytes) r.live len ≡ done (front_gives fits_now drops_one fits_then)
      unfolding front_reserve has_capacity_until_offset front_fits
      front_reserve_is = rw front_clear_is (go fits_now refl)
        where
          go : (a : Bool) → (ltb f.len f.back_start && leb (r.raw_offset + r.raw_len + len) f.byte_capacity) ≡ a
              → pick a (with (reserve_raw (inner_of r bytes) len) (λ start. fronted (ok start) f (inner_of r bytes)))
              (done (front_gives false drops_one fits_then))
              ≡ done (front_gives a drops_one fits_then)
          go true p =
              let k = leb-true (r.raw_offset + r.raw_len + len) f.byte_capacity (ltb_and f.len f.back_start p).1 in
              rw (reserve_raw_is (inner_of r bytes) len (omega (arith, I.bytes_within))) refl
          go false p = refl

      -- its moves: fits? drops a slot?
      abbrev pub front_moves : Bool → Bool → List Move
      front_moves true d = []
      front_moves false true = move_raw_moves (inner_of r bytes) (front_start w r f)
      front_moves false false = []

      pub front_reserve_moves_is : front_reserve_moves w f (inner_of r bytes) r.live len ≡ front_moves fits_now drops_one
      unfolding front_reserve_moves has_capacity_until_offset front_fits
      front_reserve_moves_is = go fits_now (ltb 0 f.len) refl drops_one refl
        where
          go : (a b : Bool) → ltb 0 f.len ≡ b → (d : Bool) → ltb (front_last w r f) f.len ≡ d
              → pick a []
              (pick b (moves_after (front_try_clear_tail w f (inner_of r bytes) r.live) (λ t. told_moves (inner_of r bytes) t.value t.memory)) [])
              ≡ front_moves a d
          go true b e d p = refl
          go false false e true p = absurd (omega (arith, ltb-false 0 f.len e, ltb-true (front_last w r f) f.len p))
          go false false e false p = refl
          go false true e true p = rw (front_try_clear_tail_is (ltb-true 0 f.len e), p) refl
          go false true e false p = rw (front_try_clear_tail_is (ltb-true 0 f.len e), p) refl

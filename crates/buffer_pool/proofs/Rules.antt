-- What each rule of the placing gives on a ready record: a record that is ready again, and in the mode that the rule leads
-- to. The tail goes after the last live slot, so every live slot is before the frame there; the head ends where the first
-- live slot starts, so every live slot is above it. Assumes nothing.
use mathlib.Core.Path.{◌≡◌, refl, ap, subst}
use mathlib.Core.Bool.{Bool, true, false}
use Prim.Native.Nat.{ℕ, ◌+◌, ◌-◌, ◌≤◌, ◌<◌, min}
use native.Mathlib.Nat.{le_refl}
use native.Mathlib.Omega.{arith}
use borrow.Author.Tests.{ltb-true, leb-true, eqb-true, eqb-false}
use lib.Dec.{eqb}
use lib.ListN.{get_or}
use lib.Count.{count_trailing_zeros}
use Rattle.laws.specs.Tests.{pick}
use Rattle.laws.specs.Live.{last_live}
use Rattle.laws.proofs.Tests.{leb_and, ltb_and}
use Rattle.laws.proofs.Slots.{last_zeros_all}
use Rattle.buffer_pool.specs.declared.buffer_pool.BufferPool.{BufferPool}
use Rattle.buffer_pool.specs.declared.buffer_pool.PoolFront.{PoolFront}
use Rattle.buffer_pool.specs.Placing.{drops, clearable, tail_start, tail_fits, tail_cleared, front_slots, front_bytes, head_fits, head_cleared, to_alloc, front_last, front_start, shorter, front_cleared}
use Rattle.buffer_pool.specs.Sound.{Held, Ready, InBack, Side, own, above, InFront, InAlloc, InMode}
use Rattle.buffer_pool.proofs.Order.{start_of, end_of, Beside, last_held, starts_rise, after_last, after_last_le, below_trail, past_lead, lead_held}
use Rattle.buffer_pool.proofs.Parts.{ready_placed, ready_framed, front_longer}

module _ (w : ℕ) (r : BufferPool) (R : Ready w r) where
  abbrev dropped : ℕ
  dropped = drops w r.live r.back_start

  -- ---- Out to the overflow

  pub out_ready : Ready w (to_alloc r)
  out_ready = ready_framed R (omega (arith, R.kept_in))

  pub out_in : InAlloc (to_alloc r) 0
  out_in = record { no_offset = refl; no_len = refl; fits = omega arith }

  module _ (c : clearable w r ≡ true) where
    pub clear_drops : dropped ≤ r.back_len
    unfolding clearable
    clear_drops = (leb_and dropped r.back_len c).0

    pub clear_full : r.back_start + r.back_len ≡ w
    unfolding clearable
    clear_full = eqb-true (r.back_start + r.back_len) w (leb_and dropped r.back_len c).1

    -- ---- The tail

    pub tail_low : (p : ℕ) → Held w r.live p → p ≤ r.back_start + (r.back_len - dropped)
    unfolding drops
    tail_low p t = omega (arith, clear_drops, clear_full, below_trail R.slots p t)

    -- with slots left in the back, its last one is the last live slot
    pub tail_slot : eqb dropped r.back_len ≡ false → last_live w r.live w ≡ r.back_start + r.back_len - dropped
    unfolding drops
    tail_slot e =
        omega (
          arith,
          clear_drops,
          clear_full,
          eqb-false (min (w - r.back_start) (count_trailing_zeros w r.live)) r.back_len e,
          last_zeros_all w r.live R.slots.live_fits,
        )

    pub tail_past : (p : ℕ) → Held w r.live p → end_of r p ≤ tail_start w r
    unfolding tail_start
    tail_past p t = go (eqb dropped r.back_len) refl
      where
        go : (x : Bool) → eqb dropped r.back_len ≡ x
            → end_of r p
            ≤ pick x (end_of r (last_live w r.live r.back_start)) (end_of r (r.back_start + r.back_len - dropped))
        go true e =
            after_last R.slots r.back_start p (omega (arith, R.start_below))
            (omega (arith, tail_low p t, eqb-true dropped r.back_len e)) t
        go false e = subst (λ (k : ℕ). end_of r p ≤ end_of r k) (tail_slot e) (after_last R.slots w p (le_refl w) t.most t)

    module _ (len : ℕ) (f : tail_fits w r len ≡ true) where
      pub tail_drops : 0 < dropped
      unfolding drops tail_fits
      tail_drops = omega (arith, R.start_below, (ltb_and 0 (count_trailing_zeros w r.live) f).0)

      pub tail_fits_lem : tail_start w r + r.raw_len + len ≤ r.capacity
      unfolding tail_fits
      tail_fits_lem = leb-true (tail_start w r + r.raw_len + len) r.capacity (ltb_and 0 (count_trailing_zeros w r.live) f).1

      pub tail_room : r.back_start + (r.back_len - dropped) < w
      tail_room = omega (arith, clear_full, clear_drops, tail_drops)

      pub tail_ready : Ready w (tail_cleared w r)
      tail_ready = ready_placed R R.start_below (omega (arith, tail_room)) (λ e. omega (arith, R.none e)) tail_low

      pub tail_in : r.cursor ≡ 0 → InBack w (tail_cleared w r) len
      tail_in z = record { used_is = refl; no_cursor = z; past = tail_past; fits = tail_fits_lem; slot = λ l. tail_room }

    -- ---- The head

    module _ (f : head_fits w r ≡ true) where
      pub head_one : 1 ≤ front_slots w r
      unfolding head_fits
      head_one = (leb_and 1 (front_slots w r) f).0

      pub head_within : front_slots w r < w
      unfolding head_fits
      head_within = (ltb_and (front_slots w r) w (leb_and 1 (front_slots w r) f).1).0

      pub head_bytes : r.raw_len < front_bytes w r
      unfolding head_fits
      head_bytes =
          ltb-true r.raw_len (front_bytes w r) (ltb_and (front_slots w r) w (leb_and 1 (front_slots w r) f).1).1

      -- slot f + 1 is live, and starts where the front ends
      pub head_held : Held w r.live (front_slots w r + 1)
      head_held = lead_held R.slots head_within

      head_start : start_of r (front_slots w r + 1) ≡ front_bytes w r
      head_start = ap (λ (i : ℕ). get_or r.starts i 0) {y = front_slots w r} (omega arith)

      pub head_ready : Ready w (head_cleared w r)
      head_ready =
          ready_placed R (omega (arith, R.start_below, head_within)) (omega (arith, clear_full, head_within))
          (λ e. omega (arith, R.none e)) (λ p t. omega (arith, clear_full, t.most))

      pub head_in : r.cursor ≡ 0 → InMode w (head_cleared w r).mode (head_cleared w r) 0
      head_in z =
          record {
            full = omega (arith, clear_full, head_within);
            one = head_one;
            front_within = omega arith;
            len_within = omega arith;
            used_is = refl;
            no_cursor = z;
            bytes_within =
                let p : ℕ = front_slots w r + 1 in
                omega (arith, head_start, R.slots.some p head_held, R.slots.inside p head_held);
            side = λ p t.
                let l = past_lead R.slots p t in
                above l (rw (← head_start) (starts_rise R.slots (front_slots w r + 1) p (omega (arith, l)) head_held t));
            fits = omega (arith, head_bytes);
            slot = λ l. head_one;
          }

  -- ---- The front's own drop

  module _ (f : PoolFront) (I : InFront w r f 0) where
    len_below : f.len ≤ w
    len_below = omega (arith, I.len_within, I.front_within, R.start_below)

    pub front_start_lem : front_start w r f ≤ r.raw_offset
    front_start_lem = after_last_le R.slots f.len r.raw_offset len_below (λ p h t. go p h (I.side p t))
      where
        go : (p : ℕ) → p ≤ f.len → Beside r f p → end_of r p ≤ r.raw_offset
        go p h (own a b) = b
        go p h (above a b) = absurd (omega (arith, I.len_within))

    pub front_ready : Ready w (front_cleared w r f)
    front_ready = ready_placed R R.start_below R.back_within R.none R.low

    pub front_in : front_last w r f < f.len → (len : ℕ) → front_start w r f + r.raw_len + len ≤ f.byte_capacity
        → InFront w (front_cleared w r f) (shorter w r f) len
    front_in h len e =
        front_longer I (omega (arith, I.len_within)) refl (λ p t. go p t (I.side p t)) e (λ l. omega (arith, I.len_within))
      where
        go : (p : ℕ) → Held w r.live p → Beside r f p → Side p (shorter w r f) (start_of r p) (end_of r p) (front_start w r f)
        go p t (own a b) =
            own ((last_held w r.live f.len len_below).top p a t) (after_last R.slots f.len p len_below a t)
        go p t (above a b) = above a b

    -- with nothing reserved it always fits
    pub front_stays : front_last w r f < f.len → InFront w (front_cleared w r f) (shorter w r f) 0
    front_stays h = front_in h 0 (omega (arith, front_start_lem, I.fits))

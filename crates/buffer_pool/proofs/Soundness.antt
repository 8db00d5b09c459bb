-- The soundness test says what `Sound` says: each part of the test is split into its comparisons and read as the clauses of
-- the same part of `Sound`, and back. The pass over the slots is an induction that carries the end of the last live slice.
-- Assumes nothing.
use mathlib.Core.Path.{◌≡◌, refl, sym, ap, ◌∙◌, subst}
use mathlib.Core.Bool.{Bool, true, false, ◌&&◌, ◌||◌}
use mathlib.Core.Logic.{◌⊎◌, inl, inr}
use Prim.Native.Nat.{ℕ, zero, suc, ◌+◌, ◌^◌, ◌≤◌, ◌<◌}
use native.Mathlib.Nat.{eq-or-lt_of_le, le_refl, lt_of_not-le}
use native.Mathlib.Omega.{arith}
use borrow.Author.Tests.{ltb-true, leb-true, eqb-true, lt-ltb, le-ltb, le-leb, eq-eqb}
use lib.Dec.{leb, ltb, eqb}
use lib.ListN.{length}
use Rattle.laws.specs.Tests.{pick, implies}
use Rattle.laws.specs.Live.{live_at, lives}
use Rattle.laws.proofs.Tests.{no_true, both_true, both, or_right, implies_use, implies_make, every_use, every_make, unless_zero_use, unless_zero_make, leb_and, ltb_and, eqb_and}
use Rattle.buffer_pool.specs.declared.buffer_pool.BufferPool.{BufferPool}
use Rattle.buffer_pool.specs.declared.buffer_pool.PoolFront.{PoolFront}
use Rattle.buffer_pool.specs.declared.buffer_pool.PoolMode.{PoolMode}
use Rattle.buffer_pool.specs.declared.buffer_pool.PoolMode.TheVariants.{Back, Front, Alloc}
use Rattle.buffer_pool.specs.Record.{byte_limit, caller_count}
use Rattle.buffer_pool.specs.Soundness.{is_slot_count, shaped, limited, counted, rising, framed_within, back_numbers, back_sound, besides, front_numbers, front_sound, alloc_sound, mode_sound, orderly, sound}
use Rattle.buffer_pool.specs.Sound.{Held, InBack, own, above, InFront, InAlloc, InMode, Orderly, Sound}
use Rattle.buffer_pool.proofs.Order.{start_of, end_of, Beside}

-- ---- A test at every live slot

module _ (w live : ℕ) (f : ℕ → Bool) where
  abbrev held : ℕ → Bool
  held p = implies (live_at w live p) (f p)

  pub lives_use : lives w live f ≡ true → (p : ℕ) → Held w live p → f p ≡ true
  unfolding lives
  lives_use e p t = implies_use (live_at w live p) (f p) (every_use held 1 w e p t.one (omega (arith, t.most))) t.here

  pub lives_make : ((p : ℕ) → Held w live p → f p ≡ true) → lives w live f ≡ true
  unfolding lives
  lives_make g =
      every_make held 1 w
      (λ p h k. implies_make (live_at w live p) (f p) (λ e. g p (record { one = h; most = omega arith; here = e })))

module _ (w : ℕ) (r : BufferPool) where
  -- ---- The pass over the slots

  module _ (most : ℕ) where
    -- what it tests at a live slot p, past slices that end at e, before the rest
    abbrev tested : ℕ → ℕ → Bool → Bool
    tested p e rest =
        leb p most
        && (leb e (start_of r p) && (ltb (start_of r p) (end_of r p) && (leb (end_of r p) r.capacity && rest)))

    -- the same as a proposition
    pub record Found (e q : ℕ) : Type 0 where
      pub low : q ≤ most
      pub first : e ≤ start_of r q
      pub some : start_of r q < end_of r q
      pub inside : end_of r q ≤ r.capacity

    -- the slots from p on, past slices that end at e
    pub record Rises (p e : ℕ) : Type 0 where
      pub each : (q : ℕ) → p ≤ q → Held w r.live q → Found e q
      pub order : (p' q : ℕ) → p ≤ p' → p' < q → Held w r.live p' → Held w r.live q → end_of r p' ≤ start_of r q

    found_use : (p e : ℕ) (rest : Bool) → tested p e rest ≡ true → Found e p × (rest ≡ true)
    found_use p e rest t =
        let a = leb_and p most t in
        let b = leb_and e (start_of r p) a.1 in
        let c = ltb_and (start_of r p) (end_of r p) b.1 in
        let d = leb_and (end_of r p) r.capacity c.1 in
        (record { low = a.0; first = b.0; some = c.0; inside = d.0 }, d.1)

    found_make : (p e : ℕ) (rest : Bool) → Found e p → rest ≡ true → tested p e rest ≡ true
    found_make p e rest F t =
        both (le-leb _ _ F.low) (both (le-leb _ _ F.first) (both (lt-ltb _ _ F.some) (both (le-leb _ _ F.inside) t)))

    -- past other slices
    found_past : (e e' q : ℕ) → e ≤ start_of r q → Found e' q → Found e q
    found_past e e' q h F = record { low = F.low; first = h; some = F.some; inside = F.inside }

    -- a live slot p and the rest past its end, or a free slot p and the rest
    rises_live : (p e : ℕ) → Found e p → Rises (suc p) (end_of r p) → Rises p e
    rises_live p e F I =
        record {
          each = λ q h t. here q (eq-or-lt_of_le h) (λ l. I.each q l t);
          order = λ p' q h l t u. there p' q (eq-or-lt_of_le h) (I.each q (omega arith) u) (λ m. I.order p' q m l t u);
        }
      where
        here : (q : ℕ) → (p ≡ q) ⊎ (p < q) → (p < q → Found (end_of r p) q) → Found e q
        here q (inl d) f = subst (λ (x : ℕ). Found e x) d F
        here q (inr d) f = found_past e (end_of r p) q (omega (arith, F.first, F.some, (f d).first)) (f d)

        there : (p' q : ℕ) → (p ≡ p') ⊎ (p < p') → Found (end_of r p) q → (p < p' → end_of r p' ≤ start_of r q)
            → end_of r p' ≤ start_of r q
        there p' q (inl d) G f = subst (λ (x : ℕ). end_of r x ≤ start_of r q) d G.first
        there p' q (inr d) G f = f d

    rises_free : (p e : ℕ) → live_at w r.live p ≡ false → Rises (suc p) e → Rises p e
    rises_free p e z I =
        record {
          each = λ q h t. I.each q (next q t (eq-or-lt_of_le h)) t;
          order = λ p' q h l t u. I.order p' q (next p' t (eq-or-lt_of_le h)) l t u;
        }
      where
        next : (q : ℕ) → Held w r.live q → (p ≡ q) ⊎ (p < q) → p < q
        next q t (inl d) = absurd (no_true (sym z ∙ ap (live_at w r.live) d ∙ t.here))
        next q t (inr d) = d

    pub rising_use : (n p e : ℕ) → p + n ≡ suc w → rising w r most n p e ≡ true → Rises p e
    unfolding rising
    rising_use zero p e m t =
        record { each = λ q h u. absurd (omega (arith, u.most)); order = λ p' q h l u v. absurd (omega (arith, v.most)) }
    rising_use (suc n) p e m t = go (live_at w r.live p) refl (λ e. rising_use n (suc p) e (omega arith)) t
      where
        go : (x : Bool) → live_at w r.live p ≡ x → ((e : ℕ) → rising w r most n (suc p) e ≡ true → Rises (suc p) e)
            → pick x (tested p e (rising w r most n (suc p) (end_of r p))) (rising w r most n (suc p) e) ≡ true → Rises p e
        go true z rest t = let f = found_use p e _ t in rises_live p e f.0 (rest (end_of r p) f.1)
        go false z rest t = rises_free p e z (rest e t)

    pub rising_make : (n p e : ℕ) → 1 ≤ p → p + n ≡ suc w → Rises p e → rising w r most n p e ≡ true
    unfolding rising
    rising_make zero p e o m I = refl
    rising_make (suc n) p e o m I = go (live_at w r.live p) refl (λ e. rising_make n (suc p) e (omega arith) (omega arith))
      where
        order : (p' q : ℕ) → p < p' → p' < q → Held w r.live p' → Held w r.live q → end_of r p' ≤ start_of r q
        order p' q h l t u = I.order p' q (omega arith) l t u

        go : (x : Bool) → live_at w r.live p ≡ x → ((e : ℕ) → Rises (suc p) e → rising w r most n (suc p) e ≡ true)
            → pick x (tested p e (rising w r most n (suc p) (end_of r p))) (rising w r most n (suc p) e) ≡ true
        go true z rest =
            let t : Held w r.live p = record { one = o; most = omega arith; here = z } in
            found_make p e _ (I.each p (le_refl p) t)
            (rest (end_of r p)
            (record {
              each = λ q h u. found_past (end_of r p) e q (I.order p q (le_refl p) h t u) (I.each q (omega arith) u);
              order = order;
            }))
        go false z rest = rest e (record { each = λ q h u. I.each q (omega arith) u; order = order })

  -- ---- The modes

  framed_use : (bytes a b : ℕ) → framed_within r bytes (ltb a b) ≡ true
      → (r.raw_offset + r.raw_len + r.reserved ≤ bytes) × (0 < r.raw_len + r.reserved → a < b)
  unfolding framed_within
  framed_use bytes a b e =
      let t = leb_and (r.raw_offset + r.raw_len + r.reserved) bytes e in
      (t.0, λ l. ltb-true a b (unless_zero_use (ltb a b) (r.raw_len + r.reserved) t.1 l))

  framed_make : (bytes a b : ℕ) → r.raw_offset + r.raw_len + r.reserved ≤ bytes → (0 < r.raw_len + r.reserved → a < b)
      → framed_within r bytes (ltb a b) ≡ true
  unfolding framed_within
  framed_make bytes a b h f =
      both (le-leb _ _ h) (unless_zero_make (ltb a b) (r.raw_len + r.reserved) (λ l. lt-ltb a b (f l)))

  abbrev before : ℕ → Bool
  before p = leb (end_of r p) r.raw_offset

  pub back_use : back_sound w r ≡ true → InBack w r r.reserved
  unfolding back_sound back_numbers
  back_use e =
      let c = both_true (back_numbers w r) _ e in
      let a = eqb_and r.used (r.back_start + r.back_len) c.0 in
      let b = eqb_and r.cursor 0 a.1 in
      let d = framed_use r.capacity (r.back_start + r.back_len) w b.1 in
      record {
        used_is = a.0;
        no_cursor = b.0;
        past = λ p t. leb-true (end_of r p) r.raw_offset (lives_use w r.live before c.1 p t);
        fits = d.0;
        slot = d.1;
      }

  pub back_make : InBack w r r.reserved → back_sound w r ≡ true
  unfolding back_sound back_numbers
  back_make I =
      both
      (both (eq-eqb _ _ I.used_is) (both (eq-eqb _ _ I.no_cursor)
      (framed_make r.capacity (r.back_start + r.back_len) w I.fits I.slot)))
      (lives_make w r.live before (λ p t. le-leb _ _ (I.past p t)))

  module _ (f : PoolFront) where
    pub besides_use : (p : ℕ) → besides r f p ≡ true → Beside r f p
    unfolding besides
    besides_use p e = go (leb p f.len && before p) refl e
      where
        go : (x : Bool) → (leb p f.len && before p) ≡ x
            → (x || (ltb f.back_start p && leb f.byte_capacity (start_of r p))) ≡ true → Beside r f p
        go true d e = let a = leb_and p f.len d in own a.0 (leb-true (end_of r p) r.raw_offset a.1)
        go false d e = let a = ltb_and f.back_start p e in above a.0 (leb-true f.byte_capacity (start_of r p) a.1)

    pub besides_make : (p : ℕ) → Beside r f p → besides r f p ≡ true
    unfolding besides
    besides_make p (own a b) = rw (le-leb p f.len a, le-leb (end_of r p) r.raw_offset b)
    besides_make p (above a b) = or_right (leb p f.len && before p) _ (both (lt-ltb _ _ a) (le-leb _ _ b))

    pub front_use : front_sound w r f ≡ true → InFront w r f r.reserved
    unfolding front_sound front_numbers
    front_use e =
        let sides = both_true (front_numbers w r f) _ e in
        let full = eqb_and (r.back_start + r.back_len) w sides.0 in
        let one = leb_and 1 f.back_start full.1 in
        let front_within = leb_and f.back_start r.back_start one.1 in
        let len_within = leb_and f.len f.back_start front_within.1 in
        let used_is = eqb_and r.used f.len len_within.1 in
        let no_cursor = eqb_and r.cursor 0 used_is.1 in
        let bytes_within = leb_and f.byte_capacity r.capacity no_cursor.1 in
        let framed = framed_use f.byte_capacity f.len f.back_start bytes_within.1 in
        record {
          full = full.0;
          one = one.0;
          front_within = front_within.0;
          len_within = len_within.0;
          used_is = used_is.0;
          no_cursor = no_cursor.0;
          bytes_within = bytes_within.0;
          side = λ p t. besides_use p (lives_use w r.live (besides r f) sides.1 p t);
          fits = framed.0;
          slot = framed.1;
        }

    pub front_make : InFront w r f r.reserved → front_sound w r f ≡ true
    unfolding front_sound front_numbers
    front_make I =
        both
        (both (eq-eqb _ _ I.full) (both (le-leb _ _ I.one) (both (le-leb _ _ I.front_within)
        (both (le-leb _ _ I.len_within) (both (eq-eqb _ _ I.used_is) (both (eq-eqb _ _ I.no_cursor)
        (both (le-leb _ _ I.bytes_within) (framed_make f.byte_capacity f.len f.back_start I.fits I.slot))))))))
        (lives_make w r.live (besides r f) (λ p t. besides_make p (I.side p t)))

  pub alloc_use : alloc_sound r ≡ true → InAlloc r r.reserved
  unfolding alloc_sound
  alloc_use e =
      let a = eqb_and r.raw_offset 0 e in
      let b = eqb_and r.raw_len 0 a.1 in
      record { no_offset = a.0; no_len = b.0; fits = leb-true (r.cursor + r.reserved) r.kept b.1 }

  pub alloc_make : InAlloc r r.reserved → alloc_sound r ≡ true
  unfolding alloc_sound
  alloc_make I = both (eq-eqb _ _ I.no_offset) (both (eq-eqb _ _ I.no_len) (le-leb _ _ I.fits))

  pub mode_use : (mode : PoolMode) → mode_sound w mode r ≡ true → InMode w mode r r.reserved
  unfolding mode_sound
  mode_use Back e = back_use e
  mode_use (Front f) e = front_use f e
  mode_use Alloc e = alloc_use e

  pub mode_make : (mode : PoolMode) → InMode w mode r r.reserved → mode_sound w mode r ≡ true
  unfolding mode_sound
  mode_make Back I = back_make I
  mode_make (Front f) I = front_make f I
  mode_make Alloc I = alloc_make I

  -- ---- The whole test

  -- no slot of a pool without bytes
  none_use : (ltb 0 r.capacity || eqb r.back_len 0) ≡ true → r.capacity ≡ 0 → r.back_len ≡ 0
  none_use e z = eqb-true r.back_len 0 (rw (le-ltb 0 r.capacity (omega arith)) at e)

  none_make : (r.capacity ≡ 0 → r.back_len ≡ 0) → (ltb 0 r.capacity || eqb r.back_len 0) ≡ true
  none_make f =
      unless_zero_make (ltb 0 r.capacity) r.back_len
      (λ l. lt-ltb 0 r.capacity (lt_of_not-le (λ h. omega (arith, f (omega arith)))))

  abbrev slots_used : ℕ
  slots_used = r.back_start + r.back_len

  pub orderly_use : orderly w r ≡ true → Orderly w r
  unfolding orderly shaped counted
  orderly_use e =
      let a = both_true (shaped w r) _ e in
      let count_is = eqb_and r.slots w a.0 in
      let is_count = both_true (is_slot_count w) _ count_is.1 in
      let live_fits = ltb_and r.live (2 ^ w) is_count.1 in
      let starts_w = leb_and w (length r.starts) live_fits.1 in
      let lengths_w = leb_and w (length r.lengths) starts_w.1 in
      let serials_w = leb_and w (length r.serials) lengths_w.1 in
      let callers_w = leb_and w (length r.callers) serials_w.1 in
      let b = both_true (counted w r) _ a.1 in
      let kept_within = leb_and r.kept r.overflow b.0 in
      let start_below = ltb_and r.back_start w kept_within.1 in
      let back_within = leb_and slots_used w start_below.1 in
      let c = both_true (rising w r slots_used w 1 0) _ b.1 in
      let I = rising_use slots_used w 1 0 (omega arith) c.0 in
      record {
        ready =
            record {
              count_is = count_is.0;
              is_count = is_count.0;
              slots =
                  record {
                    live_fits = live_fits.0;
                    starts_w = starts_w.0;
                    lengths_w = lengths_w.0;
                    some = λ p t. (I.each p t.one t).some;
                    order = λ p q l t u. I.order p q t.one l t u;
                    inside = λ p t. (I.each p t.one t).inside;
                  };
              serials_fit =
                  record {
                    serials_w = serials_w.0;
                    callers_w = callers_w.0;
                    given_all = leb-true caller_count (length r.given) callers_w.1;
                  };
              kept_in = omega (arith, kept_within.0);
              start_below = start_below.0;
              back_within = back_within.0;
              none = none_use back_within.1;
              low = λ p t. (I.each p t.one t).low;
            };
        kept_within = kept_within.0;
        in_mode = mode_use r.mode c.1;
      }

  pub orderly_make : Orderly w r → orderly w r ≡ true
  unfolding orderly shaped counted
  orderly_make S =
      let R = S.ready in
      let L = R.slots in
      let F = R.serials_fit in
      both
      (both (eq-eqb _ _ R.count_is) (both R.is_count
      (both (lt-ltb _ _ L.live_fits) (both (le-leb _ _ L.starts_w) (both (le-leb _ _ L.lengths_w)
      (both (le-leb _ _ F.serials_w) (both (le-leb _ _ F.callers_w) (le-leb _ _ F.given_all))))))))
      (both
      (both (le-leb _ _ S.kept_within) (both (lt-ltb _ _ R.start_below) (both (le-leb _ _ R.back_within) (none_make R.none))))
      (both
      (rising_make slots_used w 1 0 (omega arith) (omega arith)
      (record {
        each = λ q h t. record { low = R.low q t; first = omega arith; some = L.some q t; inside = L.inside q t };
        order = λ p q h l t u. L.order p q l t u;
      }))
      (mode_make r.mode S.in_mode)))

  pub sound_use : sound w r ≡ true → Sound w r
  unfolding sound limited
  sound_use e =
      let a = both_true (limited r) _ e in
      let b = leb_and r.capacity byte_limit a.0 in
      record { capacity_limit = b.0; overflow_limit = leb-true r.overflow byte_limit b.1; orderly = orderly_use a.1 }

  pub sound_make : Sound w r → sound w r ≡ true
  unfolding sound limited
  sound_make S = both (both (le-leb _ _ S.capacity_limit) (le-leb _ _ S.overflow_limit)) (orderly_make S.orderly)

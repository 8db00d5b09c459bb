-- The three parts of the soundness test (SlotPass.antt) are together the test of Soundness.antt. The slots in order are read as a
-- proposition, which the numbers of each mode join to the pass over all slots. Assumes nothing.
use mathlib.Core.Path.{◌≡◌, refl, sym, ap, ◌∙◌, subst}
use mathlib.Core.Bool.{Bool, true, false, ◌&&◌}
use mathlib.Core.List.{List}
use mathlib.Core.Logic.{◌⊎◌, inl, inr}
use Prim.Native.Nat.{ℕ, zero, suc, ◌+◌, ◌-◌, ◌^◌, ◌≤◌, ◌<◌}
use native.Mathlib.Nat.{eq-or-lt_of_le, eq-zero-or-pos, le_refl, lt_of_not-le}
use native.Mathlib.Decide.{dec_le}
use native.Mathlib.Omega.{arith}
use lib.Dec.{leb, ltb, eqb}
use lib.ListN.{length, get_or}
use borrow.Author.Tests.{leb-true, lt-ltb, le-leb, eq-eqb}
use Rattle.laws.specs.Tests.{pick}
use Rattle.laws.specs.Live.{live_at, last_live}
use Rattle.laws.proofs.Tests.{no_true, both_true, both, leb_and, ltb_and, eqb_and}
use Rattle.buffer_pool.specs.declared.buffer_pool.BufferPool.{BufferPool}
use Rattle.buffer_pool.specs.declared.buffer_pool.PoolFront.{PoolFront}
use Rattle.buffer_pool.specs.declared.buffer_pool.PoolMode.{PoolMode}
use Rattle.buffer_pool.specs.declared.buffer_pool.PoolMode.TheVariants.{Back, Front, Alloc}
use Rattle.buffer_pool.specs.declared.numbers.Numbers.{Numbers}
use Rattle.buffer_pool.specs.Record.{start_at, after}
use Rattle.buffer_pool.specs.Numbers.{plain}
use Rattle.buffer_pool.specs.Sound.{Held, own, above}
use Rattle.buffer_pool.specs.Soundness.{is_slot_count, shaped, limited, counted, rising, framed_within, back_numbers, back_sound, besides, front_numbers, alloc_sound, mode_sound, orderly, sound}
use Rattle.buffer_pool.specs.Soundness as spec
use Rattle.buffer_pool.specs.SlotPass.{ordered, word_fits, is_back_within, front_counts, mode_numbers, numbers_sound, front_own, own_sound, front_sound, bytes_sound, span_of, ordered_in, slots_sound, parts_sound}
use Rattle.buffer_pool.proofs.Order.{Beside, last_held}
use Rattle.buffer_pool.proofs.Parts.{count_bounds}
use Rattle.buffer_pool.proofs.Soundness.{Found, Rises, rising_use, rising_make, lives_use, lives_make, besides_use, besides_make}

-- two tests of which each follows from the other
same_test : (a b : Bool) → (a ≡ true → b ≡ true) → (b ≡ true → a ≡ true) → a ≡ b
same_test true b f g = sym (f refl)
same_test false true f g = g refl
same_test false false f g = refl

-- ---- Slots in order

module _ (w live : ℕ) (starts lengths : List ℕ) where
  -- slot p past a slice that ends at e, and before to
  record Lies (e to p : ℕ) : Type 0 where
    pub first : e ≤ start_at starts p
    pub some : start_at starts p < after starts lengths p
    pub inside : after starts lengths p ≤ to

  -- the slots above slot i up to slot k, past slices that end at e
  record Ordered (to k i e : ℕ) : Type 0 where
    pub room : e ≤ to
    pub each : (p : ℕ) → i < p → p ≤ k → Held w live p → Lies e to p
    pub order : (p q : ℕ) → i < p → p < q → q ≤ k → Held w live p → Held w live q → after starts lengths p ≤ start_at starts q

  start_at_lem : (i : ℕ) → start_at starts (suc i) ≡ get_or starts i 0
  start_at_lem i = ap (λ (j : ℕ). get_or starts j 0) (omega arith)

  module _ (to k : ℕ) where
    -- a live slot i + 1 and the rest past its end, or a free one and the rest
    ordered_live : (i e : ℕ) → e ≤ start_at starts (suc i) → start_at starts (suc i) < after starts lengths (suc i)
        → Ordered to k (suc i) (after starts lengths (suc i)) → Ordered to k i e
    ordered_live i e f s O =
        record {
          room = omega (arith, f, s, O.room);
          each = λ p h l t. here p (eq-or-lt_of_le h) (λ m. O.each p m l t);
          order = λ p q h m l t u. there p q (eq-or-lt_of_le h) (O.each q (omega arith) l u) (λ g. O.order p q g m l t u);
        }
      where
        here : (p : ℕ) → (suc i ≡ p) ⊎ (suc i < p) → (suc i < p → Lies (after starts lengths (suc i)) to p) → Lies e to p
        here p (inl d) g = subst (λ (x : ℕ). Lies e to x) d (record { first = f; some = s; inside = O.room })
        here p (inr d) g = record { first = omega (arith, f, s, (g d).first); some = (g d).some; inside = (g d).inside }

        there : (p q : ℕ) → (suc i ≡ p) ⊎ (suc i < p) → Lies (after starts lengths (suc i)) to q
            → (suc i < p → after starts lengths p ≤ start_at starts q) → after starts lengths p ≤ start_at starts q
        there p q (inl d) F g = subst (λ (x : ℕ). after starts lengths x ≤ start_at starts q) d F.first
        there p q (inr d) F g = g d

    ordered_free : (i e : ℕ) → live_at w live (suc i) ≡ false → Ordered to k (suc i) e → Ordered to k i e
    ordered_free i e z O =
        record {
          room = O.room;
          each = λ p h l t. O.each p (next p t (eq-or-lt_of_le h)) l t;
          order = λ p q h m l t u. O.order p q (next p t (eq-or-lt_of_le h)) m l t u;
        }
      where
        next : (p : ℕ) → Held w live p → (suc i ≡ p) ⊎ (suc i < p) → suc i < p
        next p t (inl d) = absurd (no_true (sym z ∙ ap (live_at w live) d ∙ t.here))
        next p t (inr d) = d

    ordered_use : (n i e : ℕ) → i + n ≡ k → ordered w starts lengths live n i e to ≡ true → Ordered to k i e
    unfolding ordered after
    ordered_use zero i e m t =
        record {
          room = leb-true e to t;
          each = λ p h l u. absurd (omega arith);
          order = λ p q h g l u v. absurd (omega arith);
        }
    ordered_use (suc n) i e m t = go (live_at w live (suc i)) refl (λ e. ordered_use n (suc i) e (omega arith)) t
      where
        go : (x : Bool) → live_at w live (suc i) ≡ x → ((e : ℕ) → ordered w starts lengths live n (suc i) e to ≡ true → Ordered to k (suc i) e)
            → pick x (ltb 0 (get_or lengths i 0) && (leb e (get_or starts i 0)
            && ordered w starts lengths live n (suc i) (get_or starts i 0 + get_or lengths i 0) to))
            (ordered w starts lengths live n (suc i) e to) ≡ true → Ordered to k i e
        go true z rest t =
            let a = ltb_and 0 (get_or lengths i 0) t in
            let b = leb_and e (get_or starts i 0) a.1 in
            ordered_live i e (omega (arith, b.0, start_at_lem i)) (omega (arith, a.0, start_at_lem i)) (rest (get_or starts i 0 + get_or lengths i 0) b.1)
        go false z rest t = ordered_free i e z (rest e t)

    ordered_make : (n i e : ℕ) → i + n ≡ k → k ≤ w → Ordered to k i e → ordered w starts lengths live n i e to ≡ true
    unfolding ordered after
    ordered_make zero i e m h O = le-leb e to O.room
    ordered_make (suc n) i e m h O = go (live_at w live (suc i)) refl (λ e. ordered_make n (suc i) e (omega arith) h)
      where
        order : (p q : ℕ) → suc i < p → p < q → q ≤ k → Held w live p → Held w live q → after starts lengths p ≤ start_at starts q
        order p q g l b t u = O.order p q (omega arith) l b t u

        go : (x : Bool) → live_at w live (suc i) ≡ x → ((e : ℕ) → Ordered to k (suc i) e → ordered w starts lengths live n (suc i) e to ≡ true)
            → pick x (ltb 0 (get_or lengths i 0) && (leb e (get_or starts i 0)
            && ordered w starts lengths live n (suc i) (get_or starts i 0 + get_or lengths i 0) to))
            (ordered w starts lengths live n (suc i) e to) ≡ true
        go true z rest =
            let t : Held w live (suc i) = record { one = omega arith; most = omega arith; here = z } in
            let F = O.each (suc i) (omega arith) (omega arith) t in
            both (lt-ltb 0 (get_or lengths i 0) (omega (arith, F.some, start_at_lem i)))
            (both (le-leb e (get_or starts i 0) (omega (arith, F.first, start_at_lem i)))
            (rest (get_or starts i 0 + get_or lengths i 0)
            (record {
              room = F.inside;
              each = λ p g l u. record {
                first = O.order (suc i) p (omega arith) g l t u;
                some = (O.each p (omega arith) l u).some;
                inside = (O.each p (omega arith) l u).inside;
              };
              order = order;
            })))
        go false z rest = rest e (record { room = O.room; each = λ p g l u. O.each p (omega arith) l u; order = order })

-- ---- The slots of a record

module _ (n : Numbers) (starts lengths : List ℕ) where
  abbrev w : ℕ
  w = n.slots

  abbrev r : BufferPool
  r = plain n starts lengths

  abbrev most : ℕ
  most = n.back_start + n.back_len

  abbrev last : ℕ
  last = last_live w n.live w

  abbrev end : ℕ → ℕ
  end p = after starts lengths p

  abbrev Is : ℕ → Type 0
  Is p = Held w n.live p

  top : (p : ℕ) → Is p → p ≤ last
  top p t = (last_held w n.live w (le_refl w)).top p t.most t

  last_low : ((p : ℕ) → Is p → p ≤ most) → last ≤ most
  last_low f = go (eq-zero-or-pos last)
    where
      go : (last ≡ 0) ⊎ (0 < last) → last ≤ most
      go (inl z) = omega arith
      go (inr h) = f last ((last_held w n.live w (le_refl w)).held h)

  last_most : last ≤ w
  last_most = (last_held w n.live w (le_refl w)).within

  -- one span of all slots, in B and A
  module _ (to : ℕ) where
    whole_use : to ≤ n.capacity → last ≤ most → ordered w starts lengths n.live (last - 0) 0 0 to ≡ true
        → Rises w r most 1 0 × ((p : ℕ) → Is p → end p ≤ to)
    whole_use c m e =
        let O = ordered_use w n.live starts lengths to last (last - 0) 0 0 (omega arith) e in (
          record {
            each = λ q h t. let F = O.each q (omega arith) (top q t) t in record {
              low = omega (arith, top q t);
              first = omega arith;
              some = F.some;
              inside = omega (arith, F.inside);
            };
            order = λ p q h l t u. O.order p q (omega arith) l (top q u) t u;
          },
          λ p t. (O.each p t.one (top p t) t).inside,
        )

    whole_make : Rises w r most 1 0 → ((p : ℕ) → Is p → end p ≤ to)
        → (last ≤ most) × (ordered w starts lengths n.live (last - 0) 0 0 to ≡ true)
    whole_make R f = (
      last_low (λ p t. (R.each p t.one t).low),
      ordered_make w n.live starts lengths to last (last - 0) 0 0 (omega arith) last_most
          (record {
            room = omega arith;
            each = λ p h l t. record { first = omega arith; some = (R.each p t.one t).some; inside = f p t };
            order = λ p q h m l t u. R.order p q t.one m t u;
          }),
    )

  -- in F: its own slots, and those above all of F's
  module _ (f : PoolFront) (within : f.back_start ≤ w) (before : n.raw_offset ≤ f.byte_capacity)
      (bytes : f.byte_capacity ≤ n.capacity) where
    abbrev own_last : ℕ
    own_last = last_live w n.live f.back_start

    own_within : own_last ≤ f.back_start
    own_within = (last_held w n.live f.back_start within).within

    own_top : (p : ℕ) → p ≤ f.back_start → Is p → p ≤ own_last
    own_top p h t = (last_held w n.live f.back_start within).top p h t

    split_use : own_last ≤ f.len → last ≤ most
        → ordered w starts lengths n.live own_last 0 0 n.raw_offset ≡ true
        → ordered w starts lengths n.live (last - f.back_start) f.back_start f.byte_capacity n.capacity ≡ true
        → Rises w r most 1 0 × ((p : ℕ) → Is p → Beside r f p)
    split_use o m e d = (
      record {
        each = λ q h t. found q t (dec_le q f.back_start);
        order = λ p q h l t u. orders p q l t u (dec_le p f.back_start) (dec_le q f.back_start);
      },
      λ p t. side p t (dec_le p f.back_start),
    )
      where
        O : Ordered w n.live starts lengths n.raw_offset own_last 0 0
        O = ordered_use w n.live starts lengths n.raw_offset own_last own_last 0 0 (omega arith) e

        U : Ordered w n.live starts lengths n.capacity (f.back_start + (last - f.back_start)) f.back_start f.byte_capacity
        U = ordered_use w n.live starts lengths n.capacity _ (last - f.back_start) f.back_start f.byte_capacity refl d

        low : (p : ℕ) → Is p → p ≤ f.back_start → Lies w n.live starts lengths 0 n.raw_offset p
        low p t h = O.each p t.one (own_top p h t) t

        high : (p : ℕ) → Is p → f.back_start < p → Lies w n.live starts lengths f.byte_capacity n.capacity p
        high p t h = U.each p h (omega (arith, top p t)) t

        found : (q : ℕ) → Is q → Dec (q ≤ f.back_start) → Found w r most 0 q
        found q t (yes h) =
            record { low = omega (arith, top q t); first = omega arith; some = (low q t h).some; inside = omega (arith, (low q t h).inside) }
        found q t (no h) =
            let F = high q t (lt_of_not-le h) in
            record { low = omega (arith, top q t); first = omega arith; some = F.some; inside = F.inside }

        orders : (p q : ℕ) → p < q → Is p → Is q → Dec (p ≤ f.back_start) → Dec (q ≤ f.back_start) → end p ≤ start_at starts q
        orders p q l t u x (yes h) = O.order p q t.one l (own_top q h u) t u
        orders p q l t u (yes k) (no h) = omega (arith, (low p t k).inside, (high q u (lt_of_not-le h)).first)
        orders p q l t u (no k) (no h) = U.order p q (lt_of_not-le k) l (omega (arith, top q u)) t u

        side : (p : ℕ) → Is p → Dec (p ≤ f.back_start) → Beside r f p
        side p t (yes h) = own (omega (arith, own_top p h t)) (low p t h).inside
        side p t (no h) = above (lt_of_not-le h) (high p t (lt_of_not-le h)).first

    split_make : f.len ≤ f.back_start → Rises w r most 1 0 → ((p : ℕ) → Is p → Beside r f p)
        → ((own_last ≤ f.len) × (last ≤ most))
        × ((ordered w starts lengths n.live own_last 0 0 n.raw_offset ≡ true)
        × (ordered w starts lengths n.live (last - f.back_start) f.back_start f.byte_capacity n.capacity ≡ true))
    split_make c R s = (
      (used (eq-zero-or-pos own_last), last_low (λ p t. (R.each p t.one t).low)),
      (
        ordered_make w n.live starts lengths n.raw_offset own_last own_last 0 0 (omega arith) (omega (arith, own_within))
            (record {
              room = omega arith;
              each = λ p h l t. record { first = omega arith; some = (R.each p t.one t).some; inside = low p (omega (arith, own_within)) (s p t) };
              order = λ p q h m l t u. R.order p q t.one m t u;
            }),
        ordered_make w n.live starts lengths n.capacity (f.back_start + (last - f.back_start)) (last - f.back_start)
            f.back_start f.byte_capacity refl (omega (arith, last_most))
            (record {
              room = bytes;
              each = λ p h l t. record { first = high p h (s p t); some = (R.each p t.one t).some; inside = (R.each p t.one t).inside };
              order = λ p q h m l t u. R.order p q t.one m t u;
            }),
      ),
    )
      where
        low : (p : ℕ) → p ≤ f.back_start → Beside r f p → end p ≤ n.raw_offset
        low p h (own a b) = b
        low p h (above a b) = absurd (omega arith)

        high : (p : ℕ) → f.back_start < p → Beside r f p → f.byte_capacity ≤ start_at starts p
        high p h (own a b) = absurd (omega arith)
        high p h (above a b) = b

        count : (p : ℕ) → p ≤ f.back_start → Beside r f p → p ≤ f.len
        count p h (own a b) = a
        count p h (above a b) = absurd (omega arith)

        used : (own_last ≡ 0) ⊎ (0 < own_last) → own_last ≤ f.len
        used (inl z) = omega arith
        used (inr h) = count own_last own_within (s own_last ((last_held w n.live f.back_start within).held h))

  -- ---- By the mode

  abbrev risen : Bool
  risen = rising w r most w 1 0

  offset_within : (bytes a b : ℕ) → framed_within r bytes (ltb a b) ≡ true → n.raw_offset ≤ bytes
  unfolding framed_within
  offset_within bytes a b e = omega (arith, (leb_and (n.raw_offset + n.raw_len + n.reserved) bytes e).0)

  mode_use : (mode : PoolMode) → most ≤ w → mode_numbers mode n ≡ true → own_sound mode n starts lengths ≡ true → last ≤ most
      → ordered_in (span_of mode n) n starts lengths ≡ true → (risen ≡ true) × (mode_sound w mode r ≡ true)
  unfolding mode_numbers front_counts own_sound front_own span_of ordered_in mode_sound back_sound back_numbers framed_within spec.front_sound front_numbers alloc_sound
  mode_use Back h e g m o =
      let framed = (eqb_and n.cursor 0 (eqb_and n.used most e).1).1 in
      let W = whole_use n.raw_offset (offset_within n.capacity most w framed) m o in (
        rising_make w r most w 1 0 (omega arith) (omega arith) W.0,
        both e (lives_make w n.live _ (λ p t. le-leb (end p) n.raw_offset (W.1 p t))),
      )
  mode_use (Front f) h e g m o =
      let full = eqb_and most w e in
      let one = leb_and 1 f.back_start full.1 in
      let front_within = leb_and f.back_start n.back_start one.1 in
      let len_within = leb_and f.len f.back_start front_within.1 in
      let no_cursor = eqb_and n.cursor 0 g in
      let bytes_within = leb_and f.byte_capacity n.capacity no_cursor.1 in
      let framed = both_true (framed_within r f.byte_capacity (ltb f.len f.back_start)) _ bytes_within.1 in
      let owned = leb_and (last_live w n.live f.back_start) f.len framed.1 in
      let W =
      split_use f (omega (arith, front_within.0)) (offset_within f.byte_capacity f.len f.back_start framed.0) bytes_within.0 owned.0 m
      owned.1 o in (
        rising_make w r most w 1 0 (omega arith) (omega arith) W.0,
        both
            (both (eq-eqb most w full.0) (both (le-leb 1 f.back_start one.0)
            (both (le-leb f.back_start n.back_start front_within.0) (both (le-leb f.len f.back_start len_within.0)
            (both len_within.1 (both (eq-eqb n.cursor 0 no_cursor.0)
            (both (le-leb f.byte_capacity n.capacity bytes_within.0) framed.0)))))))
            (lives_make w n.live (besides r f) (λ p t. besides_make w r f p (W.1 p t))),
      )
  mode_use Alloc h e g m o =
      (rising_make w r most w 1 0 (omega arith) (omega arith) (whole_use n.capacity (le_refl n.capacity) m o).0, e)

  mode_make : (mode : PoolMode) → most ≤ w → risen ≡ true → mode_sound w mode r ≡ true
      → ((mode_numbers mode n ≡ true) × (own_sound mode n starts lengths ≡ true))
      × ((last ≤ most) × (ordered_in (span_of mode n) n starts lengths ≡ true))
  unfolding mode_numbers front_counts own_sound front_own span_of ordered_in mode_sound back_sound back_numbers framed_within spec.front_sound front_numbers alloc_sound
  mode_make Back h u e =
      let c = both_true (back_numbers w r) _ e in
      let R = rising_use w r most w 1 0 (omega arith) u in (
        (c.0, refl),
        whole_make n.raw_offset R (λ p t. leb-true (end p) n.raw_offset (lives_use w n.live (λ q. leb (end q) n.raw_offset) c.1 p t)),
      )
  mode_make (Front f) h u e =
      let R = rising_use w r most w 1 0 (omega arith) u in
      let sides = both_true (front_numbers w r f) _ e in
      let full = eqb_and most w sides.0 in
      let one = leb_and 1 f.back_start full.1 in
      let front_within = leb_and f.back_start n.back_start one.1 in
      let len_within = leb_and f.len f.back_start front_within.1 in
      let used_is = both_true (eqb n.used f.len) _ len_within.1 in
      let no_cursor = eqb_and n.cursor 0 used_is.1 in
      let bytes_within = leb_and f.byte_capacity n.capacity no_cursor.1 in
      let W =
      split_make f (omega (arith, front_within.0)) (offset_within f.byte_capacity f.len f.back_start bytes_within.1) bytes_within.0
      len_within.0 R (λ p t. besides_use w r f p (lives_use w n.live (besides r f) sides.1 p t)) in (
        (
          both (eq-eqb most w full.0) (both (le-leb 1 f.back_start one.0)
              (both (le-leb f.back_start n.back_start front_within.0)
              (both (le-leb f.len f.back_start len_within.0) used_is.0))),
          both (eq-eqb n.cursor 0 no_cursor.0) (both (le-leb f.byte_capacity n.capacity bytes_within.0)
              (both bytes_within.1
              (both (le-leb (last_live w n.live f.back_start) f.len W.0.0) W.1.0))),
        ),
        (W.0.1, W.1.1),
      )
  mode_make Alloc h u e =
      let R = rising_use w r most w 1 0 (omega arith) u in
      ((e, refl), whole_make n.capacity R (λ p t. (R.each p t.one t).inside))

  -- ---- The whole test

  module _ (s : length starts ≡ 16) (l : length lengths ≡ 16) where
    parts_use : parts_sound n starts lengths ≡ true → sound w r ≡ true
    unfolding parts_sound front_sound numbers_sound word_fits is_back_within slots_sound bytes_sound sound limited orderly shaped counted
    parts_use e =
        let parts = both_true (front_sound n starts lengths) _ e in
        let front = both_true (numbers_sound n) _ parts.0 in
        let word = both_true (word_fits w n.live) _ front.0 in
        let count = both_true (is_slot_count w) _ word.0 in
        let back = both_true (is_back_within n) _ word.1 in
        let start = both_true (ltb n.back_start w) _ back.0 in
        let bytes = both_true (bytes_sound n) _ parts.1 in
        let limit = both_true (limited r) _ bytes.0 in
        let kept = both_true (leb n.kept n.overflow) _ limit.1 in
        let low = leb_and last most bytes.1 in
        let M = mode_use n.mode (leb-true most w start.1) back.1 front.1 low.0 low.1 in
        let long = le-leb w 16 (count_bounds w count.0).1 in
        let starts-long : leb w (length starts) ≡ true = rw s long in
        let lengths-long : leb w (length lengths) ≡ true = rw l long in
        both limit.0
        (both
        (both (eq-eqb w w refl) (both count.0 (both count.1 (both starts-long (both lengths-long (both long (both long refl)))))))
        (both (both kept.0 (both start.0 (both start.1 kept.1))) (both M.0 M.1)))

    parts_make : sound w r ≡ true → parts_sound n starts lengths ≡ true
    unfolding parts_sound front_sound numbers_sound word_fits is_back_within slots_sound bytes_sound sound limited orderly shaped counted
    parts_make e =
        let limit = both_true (limited r) _ e in
        let shape = both_true (shaped w r) _ limit.1 in
        let count = both_true (is_slot_count w) _ (both_true (eqb w w) _ shape.0).1 in
        let word = both_true (ltb n.live (2 ^ w)) _ count.1 in
        let rest = both_true (counted w r) _ shape.1 in
        let kept = both_true (leb n.kept n.overflow) _ rest.0 in
        let start = both_true (ltb n.back_start w) _ kept.1 in
        let back = both_true (leb most w) _ start.1 in
        let slots = both_true risen _ rest.1 in
        let M = mode_make n.mode (leb-true most w back.0) slots.0 slots.1 in
        both
        (both (both (both count.0 word.0) (both (both start.0 back.0) M.0.0)) M.0.1)
        (both (both limit.0 (both kept.0 back.1)) (both (le-leb last most M.1.0) M.1.1))

    pub sound_parts : parts_sound n starts lengths ≡ sound w r
    sound_parts = same_test (parts_sound n starts lengths) (sound w r) parts_use parts_make

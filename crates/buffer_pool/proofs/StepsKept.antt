-- The other calls keep a record orderly, and a new pool's record is. Commit, truncate and an empty take only shorten what
-- frame and reservation span; a take makes the frame the slice of a slot that stands between the frame's neighbours; a
-- release leaves fewer live slots. Assumes nothing.
use mathlib.Core.Path.{◌≡◌, refl, sym, ap, ◌∙◌, subst}
use mathlib.Core.Bool.{Bool, true, false}
use mathlib.Core.List.{List}
use mathlib.Core.Logic.{◌≢◌}
use Prim.Native.Nat.{ℕ, zero, suc, ◌+◌, ◌-◌, ◌^◌, ◌≤◌, ◌<◌, min}
use native.Mathlib.Nat.{le_refl, lt_of_le_of_lt}
use native.Mathlib.Decide.{ℕ_discrete}
use native.Mathlib.Omega.{arith}
use borrow.Author.Tests.{ltb-false, eqb-false}
use lib.Dec.{leb, ltb, eqb}
use lib.Pow.{pow_pos}
use lib.ListN.{length, get_or, set, length-set}
use lib.Seq.{get_or-set_same, get_or-set_other}
use Rattle.laws.specs.Live.{live_at, claimed, released}
use Rattle.laws.proofs.Tests.{no_true, leb_and, pick_cases}
use Rattle.laws.proofs.Slots.{claimed_other, claimed_fits, released_same, released_other, released_le}
use Rattle.buffer_pool.specs.declared.slice.Handle.{Handle}
use Rattle.buffer_pool.specs.declared.buffer_pool.BufferPool.{BufferPool}
use Rattle.buffer_pool.specs.declared.buffer_pool.PoolFront.{PoolFront}
use Rattle.buffer_pool.specs.declared.buffer_pool.PoolMode.{PoolMode}
use Rattle.buffer_pool.specs.declared.buffer_pool.PoolMode.TheVariants.{Back, Front, Alloc}
use Rattle.buffer_pool.specs.declared.buffer_pool.Called.{Called}
use Rattle.buffer_pool.specs.Record.{most_slots, caller_count, start_at, after, new_record, with_live}
use Rattle.buffer_pool.specs.Soundness.{is_slot_count}
use Rattle.buffer_pool.specs.Sound.{Held, Slots, SerialsFit, Ready, InBack, Side, own, above, InFront, InMode, Orderly}
use Rattle.buffer_pool.specs.Steps.{frame, frame_of, resized, commit_step, truncate_step, most_serials, given_to, handed_out, longer, take_on, take_step, names, freed, release_step}
use Rattle.buffer_pool.proofs.Order.{start_of, end_of, Beside, none_held}
use Rattle.buffer_pool.proofs.Parts.{count_bounds, ready_marked, ready_framed, framed_orderly, back_kept, front_kept, front_longer, alloc_kept, zeros_long, no_slots, no_slots_back}

-- ---- New

pub new_orderly : (w capacity overflow : ℕ) → is_slot_count w ≡ true → Orderly w (new_record w capacity overflow)
new_orderly w capacity overflow i =
    let h = (count_bounds w i).0 in
    let z = zeros_long w most_slots (count_bounds w i).1 in
    record {
      ready =
          record {
            count_is = refl;
            is_count = i;
            slots = no_slots refl (pow_pos w) z z;
            serials_fit = record { serials_w = z; callers_w = z; given_all = zeros_long caller_count caller_count (omega arith) };
            kept_in = omega arith;
            start_below = h;
            back_within = omega arith;
            none = λ e. refl;
            low = λ p t. absurd (none_held w refl t);
          };
      kept_within = omega arith;
      in_mode = no_slots_back refl refl refl (omega arith) h;
    }

-- ---- Commit and truncate

-- a frame that does not end after the reservation, in each mode
resized_kept : (w : ℕ) (r : BufferPool) (mode : PoolMode) (len : ℕ) → Orderly w r → InMode w mode r r.reserved
    → len ≤ (frame_of mode r).length + r.reserved → Orderly w (resized mode r len)
resized_kept w r Back len S I h =
    framed_orderly S.ready S.kept_within (back_kept I I.past (omega (arith, I.fits)) (λ l. I.slot (omega arith)))
resized_kept w r (Front f) len S I h =
    framed_orderly S.ready S.kept_within (front_kept I I.side (omega (arith, I.fits)) (λ l. I.slot (omega arith)))
resized_kept w r Alloc len S I h = framed_orderly S.ready S.kept_within (alloc_kept I (omega (arith, I.fits)))

pub commit_kept : (w : ℕ) (r : BufferPool) (n : ℕ) → Orderly w r → Orderly w (commit_step r n).pool
unfolding commit_step
commit_kept w r n S =
    pick_cases (λ (c : Called). Orderly w c.pool) (ltb r.reserved n) (λ e. S)
    (λ e. resized_kept w r r.mode ((frame r).length + n) S S.in_mode (omega (arith, ltb-false r.reserved n e)))

pub truncate_kept : (w : ℕ) (r : BufferPool) (n : ℕ) → Orderly w r → Orderly w (truncate_step r n).pool
unfolding truncate_step
truncate_kept w r n S = resized_kept w r r.mode (min (frame r).length n) S S.in_mode (omega arith)

-- ---- A slot claimed

-- the entries of slot i + 1 set
module _ (starts lengths : List ℕ) (i a b : ℕ) where
  start_same : i < length starts → start_at (set starts i a) (suc i) ≡ a
  start_same h = ap (λ (j : ℕ). get_or (set starts i a) j 0) {y = i} (omega arith) ∙ get_or-set_same starts i a 0 h

  start_other : (p : ℕ) → 1 ≤ p → p ≢ suc i → start_at (set starts i a) p ≡ start_at starts p
  start_other p h n = get_or-set_other starts i (p - 1) a 0 (λ e. n (omega arith))

  after_same : i < length starts → i < length lengths → after (set starts i a) (set lengths i b) (suc i) ≡ a + b
  unfolding after
  after_same h k = rw (get_or-set_same starts i a 0 h, get_or-set_same lengths i b 0 k)

  after_other : (p : ℕ) → p ≢ suc i → after (set starts i a) (set lengths i b) p ≡ after starts lengths p
  unfolding after
  after_other zero n = refl
  after_other (suc j) n =
      rw (get_or-set_other starts i j a 0 (λ e. n (omega arith)), get_or-set_other lengths i j b 0 (λ e. n (omega arith)))

module _ {w live : ℕ} {starts lengths : List ℕ} {capacity : ℕ} (S : Slots w live starts lengths capacity)
    (i offset len : ℕ) (h : i < w) where
  abbrev starts' : List ℕ
  starts' = set starts i offset

  abbrev lengths' : List ℕ
  lengths' = set lengths i len

  -- what holds of the claimed slot and of every slot that was live holds of every live slot: P speaks of slot, start and end
  pub claimed_all : (P : ℕ → ℕ → ℕ → Type 0) → P (suc i) offset (offset + len)
      → ((p : ℕ) → Held w live p → P p (start_at starts p) (after starts lengths p))
      → (p : ℕ) → Held w (claimed w live (suc i)) p → P p (start_at starts' p) (after starts' lengths' p)
  claimed_all P new old p t = go (ℕ_discrete p (suc i))
    where
      go : Dec (p ≡ suc i) → P p (start_at starts' p) (after starts' lengths' p)
      go (yes e) =
          let a : i < length starts = omega (arith, S.starts_w) in
          let b : i < length lengths = omega (arith, S.lengths_w) in
          subst (λ (q : ℕ). P q (start_at starts' q) (after starts' lengths' q)) (sym e)
          (rw (start_same starts lengths i offset len a, after_same starts lengths i offset len a b) new)
      go (no n) =
          let e = claimed_other w live (suc i) p (omega arith) t.most (λ e. n (sym e)) in
          rw (start_other starts lengths i offset len p t.one n, after_other starts lengths i offset len p n)
          (old p (record { one = t.one; most = t.most; here = sym e ∙ t.here }))

  -- the claimed slot stands between its neighbours
  module _ (l : 0 < len) (c : offset + len ≤ capacity)
      (below : (p : ℕ) → Held w live p → p ≤ suc i → after starts lengths p ≤ offset)
      (over : (p : ℕ) → Held w live p → suc i < p → offset + len ≤ start_at starts p) where
    pub claimed_slots : Slots w (claimed w live (suc i)) starts' lengths' capacity
    claimed_slots =
        record {
          live_fits = claimed_fits w live (suc i) (omega arith) (omega arith) S.live_fits;
          starts_w = rw length-set S.starts_w;
          lengths_w = rw length-set S.lengths_w;
          some = claimed_all (λ p a e. a < e) (omega arith) S.some;
          order = λ p q d t u.
              claimed_all (λ p a e. p < q → e ≤ start_at starts' q)
              (claimed_all (λ q a e. suc i < q → offset + len ≤ a) (λ x. absurd (omega arith)) over q u)
              (λ p t.
              claimed_all (λ q a e. p < q → after starts lengths p ≤ a) (λ x. below p t (omega arith))
              (λ q u x. S.order p q x t u) q u)
              p t d;
          inside = claimed_all (λ p a e. e ≤ capacity) c S.inside;
        }

-- ---- Take

module _ (w caller : ℕ) (r : BufferPool) (S : Orderly w r) (l : 0 < r.raw_len) where
  abbrev R : Ready w r
  R = S.ready

  abbrev frame_end : ℕ
  frame_end = r.raw_offset + r.raw_len

  handed_serials : SerialsFit w (handed_out w caller r Back 0).serials (handed_out w caller r Back 0).callers
      (handed_out w caller r Back 0).given
  handed_serials =
      let F = R.serials_fit in
      record {
        serials_w = rw length-set F.serials_w;
        callers_w = rw length-set F.callers_w;
        given_all = rw length-set F.given_all;
      }

  -- with n slots in the back, the claimed one among the slots up to there
  handed_ready : {mode : PoolMode} {n : ℕ} → frame_end ≤ r.capacity
      → ((p : ℕ) → Held w r.live p → p ≤ suc r.used → end_of r p ≤ r.raw_offset)
      → ((p : ℕ) → Held w r.live p → suc r.used < p → frame_end ≤ start_of r p)
      → r.back_start + n ≤ w → suc r.used ≤ r.back_start + n → r.back_len ≤ n → Ready w (handed_out w caller r mode n)
  handed_ready {mode} {n} c below over within slot more =
      let h : r.used < w = omega arith in
      let slots = claimed_slots R.slots r.used r.raw_offset r.raw_len h l c below over in
      let all = claimed_all R.slots r.used r.raw_offset r.raw_len h in
      ready_framed
      (ready_marked R {mode = mode} {offset = frame_end} slots handed_serials R.start_below within
      (λ e. absurd (omega arith)) (all (λ p a e. p ≤ r.back_start + n) slot (λ p t. omega (arith, R.low p t))))
      R.kept_in

  take_back : InBack w r r.reserved → Orderly w (handed_out w caller r Back (suc r.used - r.back_start))
  take_back I =
      let room : r.used < w = omega (arith, I.used_is, I.slot (omega arith)) in
      let all = claimed_all R.slots r.used r.raw_offset r.raw_len room in
      record {
        ready =
            handed_ready (omega (arith, I.fits)) (λ p t h. I.past p t) (λ p t h. absurd (omega (arith, R.low p t, I.used_is)))
            (omega (arith, I.used_is)) (omega (arith, I.used_is)) (omega (arith, I.used_is));
        kept_within = S.kept_within;
        in_mode =
            record {
              used_is = omega (arith, I.used_is);
              no_cursor = I.no_cursor;
              past = all (λ p a e. e ≤ frame_end) (le_refl frame_end) (λ p t. omega (arith, I.past p t));
              fits = omega (arith, I.fits);
              slot = λ x. absurd (omega arith);
            };
      }

  module _ (f : PoolFront) (I : InFront w r f r.reserved) where
    front_room : r.used < f.back_start
    front_room = omega (arith, I.used_is, I.slot (omega arith))

    front_below : (p : ℕ) → p ≤ suc r.used → Beside r f p → end_of r p ≤ r.raw_offset
    front_below p h (own a b) = b
    front_below p h (above a b) = absurd (omega (arith, front_room))

    front_over : (p : ℕ) → suc r.used < p → Beside r f p → frame_end ≤ start_of r p
    front_over p h (own a b) = absurd (omega (arith, I.used_is))
    front_over p h (above a b) = omega (arith, I.fits)

    longer_side : (p : ℕ) → Beside r f p → Side p (longer f (suc r.used)) (start_of r p) (end_of r p) frame_end
    longer_side p (own a b) = own (omega (arith, I.used_is)) (omega arith)
    longer_side p (above a b) = above a b

    take_front : Orderly w (handed_out w caller r (Front (longer f (suc r.used))) r.back_len)
    take_front =
        let room : r.used < w = omega (arith, front_room, I.front_within, R.start_below) in
        let all = claimed_all R.slots r.used r.raw_offset r.raw_len room in
        record {
          ready =
              handed_ready (omega (arith, I.fits, I.bytes_within)) (λ p t h. front_below p h (I.side p t))
              (λ p t h. front_over p h (I.side p t)) R.back_within (omega (arith, front_room, I.front_within))
              (le_refl r.back_len);
          kept_within = S.kept_within;
          in_mode =
              front_longer I front_room refl
              (all (λ p a e. Side p (longer f (suc r.used)) a e frame_end) (own (le_refl (suc r.used)) (le_refl frame_end))
              (λ p t. longer_side p (I.side p t)))
              (omega (arith, I.fits)) (λ x. absurd (omega arith));
        }

pub take_kept : (w : ℕ) (r : BufferPool) (caller destination : ℕ) → Orderly w r
    → Orderly w (take_step w r caller destination).pool
unfolding take_step take_on
take_kept w r caller destination S =
    go (leb caller_count caller) r.mode S.in_mode (eqb (frame r).length 0) refl (ltb destination (frame r).length)
    (leb most_serials (given_to r caller))
  where
    go : (none : Bool) (mode : PoolMode) → InMode w mode r r.reserved → (z : Bool) → eqb (frame_of mode r).length 0 ≡ z
        → (long spent : Bool) → Orderly w (take_on none z long spent mode w caller r).pool
    go true mode I z e long spent = S
    go false mode I true e long spent = resized_kept w r mode (frame_of mode r).length S I (omega arith)
    go false Back I false e long true = S
    go false Back I false e long false = take_back w caller r S (omega (arith, eqb-false r.raw_len 0 e)) I
    go false (Front f) I false e long true = S
    go false (Front f) I false e long false = take_front w caller r S (omega (arith, eqb-false r.raw_len 0 e)) f I
    go false Alloc I false e true spent = S
    go false Alloc I false e false spent = framed_orderly S.ready (omega (arith, S.kept_within)) (alloc_kept I (omega arith))

-- ---- Release: fewer live slots

module _ (w : ℕ) (r : BufferPool) (live : ℕ) (sub : (p : ℕ) → Held w live p → Held w r.live p) where
  fewer_in : (mode : PoolMode) → InMode w mode r r.reserved → InMode w mode (with_live r live) r.reserved
  fewer_in Back I = back_kept I (λ p t. I.past p (sub p t)) I.fits I.slot
  fewer_in (Front f) I = front_kept I (λ p t. I.side p (sub p t)) I.fits I.slot
  fewer_in Alloc I = alloc_kept I I.fits

  pub fewer_orderly : live < 2 ^ w → Orderly w r → Orderly w (with_live r live)
  fewer_orderly h S =
      let R = S.ready in
      record {
        ready =
            ready_marked R
            (record {
              live_fits = h;
              starts_w = R.slots.starts_w;
              lengths_w = R.slots.lengths_w;
              some = λ p t. R.slots.some p (sub p t);
              order = λ p q d t u. R.slots.order p q d (sub p t) (sub q u);
              inside = λ p t. R.slots.inside p (sub p t);
            })
            R.serials_fit R.start_below R.back_within R.none (λ p t. R.low p (sub p t));
        kept_within = S.kept_within;
        in_mode = fewer_in r.mode S.in_mode;
      }

pub released_held : (w live k p : ℕ) → 1 ≤ k → k ≤ w → Held w (released w live k) p → Held w live p
released_held w live k p a b t = go (ℕ_discrete k p)
  where
    go : Dec (k ≡ p) → Held w live p
    go (yes e) = absurd (no_true (sym (released_same w live k a b) ∙ ap (live_at w (released w live k)) e ∙ t.here))
    go (no n) = record { one = t.one; most = t.most; here = sym (released_other w live k p b t.most n a t.one) ∙ t.here }

pub release_kept : (w : ℕ) (r : BufferPool) (h : Handle) → Orderly w r → Orderly w (release_step w r h).pool
unfolding release_step names
release_kept w r h S = pick_cases (λ (c : Called). Orderly w c.pool) (names w r h) named (λ e. S)
  where
    named : names w r h ≡ true → Orderly w (freed w r h.slot)
    named e =
        let x = leb_and 1 h.slot e in
        let y = leb_and h.slot w x.1 in
        fewer_orderly w r (released w r.live h.slot) (λ p t. released_held w r.live h.slot p x.0 y.0 t)
        (lt_of_le_of_lt (released_le w r.live h.slot) S.ready.slots.live_fits) S

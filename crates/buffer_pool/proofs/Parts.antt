-- A record with some of its fields replaced: what it keeps of the soundness of the record it came from, and what has to be
-- shown anew. Each lemma here builds one part of `Orderly`, with an argument for each clause that the fields touch.
-- Assumes nothing.
use mathlib.Core.Bool.{Bool, true, false, ◌||◌}
use mathlib.Core.List.{List}
use Prim.Native.Nat.{ℕ, ◌+◌, ◌^◌, ◌≤◌, ◌<◌, max}
use mathlib.Core.Path.{◌≡◌, refl}
use lib.Dec.{eqb}
use borrow.Author.Tests.{eqb-true}
use lib.ListN.{length, replicate, length-replicate}
use native.Mathlib.Omega.{arith}
use Rattle.buffer_pool.specs.declared.buffer_pool.BufferPool.{BufferPool}
use Rattle.buffer_pool.specs.declared.buffer_pool.PoolFront.{PoolFront}
use Rattle.buffer_pool.specs.declared.buffer_pool.PoolMode.{PoolMode}
use Rattle.buffer_pool.specs.declared.buffer_pool.PoolMode.TheVariants.{Back, Front, Alloc}
use Rattle.buffer_pool.specs.Record.{start_at, after, placed, framed, marked}
use Rattle.buffer_pool.specs.Soundness.{is_slot_count}
use Rattle.buffer_pool.specs.Steps.{longer}
use Rattle.buffer_pool.specs.Deciding.{Worded}
use Rattle.buffer_pool.specs.Sound.{Held, Slots, SerialsFit, Ready, InBack, Side, InFront, InAlloc, InMode, Orderly}
use Rattle.buffer_pool.proofs.Order.{none_held}

-- ---- What holds in every mode

module _ {w : ℕ} {r : BufferPool} (R : Ready w r) where
  -- other entries of the slots, and another back
  pub ready_marked : {live : ℕ} {starts lengths serials callers given : List ℕ} {mode : PoolMode} {s n used offset : ℕ}
      → Slots w live starts lengths r.capacity → SerialsFit w serials callers given → s < w → s + n ≤ w
      → (r.capacity ≡ 0 → n ≡ 0) → ((p : ℕ) → Held w live p → p ≤ s + n)
      → Ready w (placed (marked r live starts lengths serials callers given) mode s n used offset)
  ready_marked slots serials start within none low =
      record {
        count_is = R.count_is;
        is_count = R.is_count;
        slots = slots;
        serials_fit = serials;
        kept_in = R.kept_in;
        start_below = start;
        back_within = within;
        none = none;
        low = low;
      }

  -- another back
  pub ready_placed : {mode : PoolMode} {s n used offset : ℕ} → s < w → s + n ≤ w → (r.capacity ≡ 0 → n ≡ 0)
      → ((p : ℕ) → Held w r.live p → p ≤ s + n) → Ready w (placed r mode s n used offset)
  ready_placed start within none low = ready_marked R.slots R.serials_fit start within none low

  -- another frame
  pub ready_framed : {mode : PoolMode} {offset len kept cursor reserved : ℕ} → kept ≤ max r.overflow cursor
      → Ready w (framed r mode offset len kept cursor reserved)
  ready_framed kept =
      record {
        count_is = R.count_is;
        is_count = R.is_count;
        slots = R.slots;
        serials_fit = R.serials_fit;
        kept_in = kept;
        start_below = R.start_below;
        back_within = R.back_within;
        none = R.none;
        low = R.low;
      }

  -- the whole, by the mode of that frame
  pub framed_orderly : {mode : PoolMode} {offset len kept cursor reserved : ℕ} → kept ≤ r.overflow
      → InMode w mode (framed r mode offset len kept cursor reserved) reserved
      → Orderly w (framed r mode offset len kept cursor reserved)
  framed_orderly kept I = record { ready = ready_framed (omega arith); kept_within = kept; in_mode = I }

-- ---- The modes

-- other entries of the slots, another count of used slots and another frame
abbrev other : BufferPool → ℕ → List ℕ → List ℕ → List ℕ → List ℕ → List ℕ → PoolMode → ℕ → ℕ → ℕ → ℕ → ℕ → BufferPool
other r live starts lengths serials callers given mode used offset len kept reserved =
    framed (placed (marked r live starts lengths serials callers given) mode r.back_start r.back_len used offset) mode offset
    len kept r.cursor reserved

module _ {w live : ℕ} {starts lengths serials callers given : List ℕ} {mode : PoolMode} {offset len kept reserved b : ℕ} where
  pub back_kept : {r : BufferPool} {a : ℕ} → InBack w r a → ((p : ℕ) → Held w live p → after starts lengths p ≤ offset)
      → offset + len + b ≤ r.capacity → (0 < len + b → r.back_start + r.back_len < w)
      → InBack w (other r live starts lengths serials callers given mode r.used offset len kept reserved) b
  back_kept I past fits slot =
      record { used_is = I.used_is; no_cursor = I.no_cursor; past = past; fits = fits; slot = slot }

  -- with l slots of F used
  pub front_longer : {r : BufferPool} {f : PoolFront} {a used l : ℕ} → InFront w r f a → l ≤ f.back_start → used ≡ l
      → ((p : ℕ) → Held w live p → Side p (longer f l) (start_at starts p) (after starts lengths p) offset)
      → offset + len + b ≤ f.byte_capacity → (0 < len + b → l < f.back_start)
      → InFront w (other r live starts lengths serials callers given mode used offset len kept reserved) (longer f l) b
  front_longer I within used side fits slot =
      record {
        full = I.full;
        one = I.one;
        front_within = I.front_within;
        len_within = within;
        used_is = used;
        no_cursor = I.no_cursor;
        bytes_within = I.bytes_within;
        side = side;
        fits = fits;
        slot = slot;
      }

  pub front_kept : {r : BufferPool} {f : PoolFront} {a : ℕ} → InFront w r f a
      → ((p : ℕ) → Held w live p → Side p f (start_at starts p) (after starts lengths p) offset)
      → offset + len + b ≤ f.byte_capacity → (0 < len + b → f.len < f.back_start)
      → InFront w (other r live starts lengths serials callers given mode r.used offset len kept reserved) f b
  front_kept I side fits slot = front_longer I I.len_within I.used_is side fits slot

-- A, with other entries of the slots, another back and another cursor
pub alloc_kept : {r : BufferPool} {live : ℕ} {starts lengths serials callers given : List ℕ} {mode : PoolMode}
    {s n used kept cursor reserved a b : ℕ} → InAlloc r a → cursor + b ≤ kept
    → InAlloc
    (framed (placed (marked r live starts lengths serials callers given) mode s n used r.raw_offset) mode r.raw_offset
    r.raw_len kept cursor reserved)
    b
alloc_kept I fits = record { no_offset = I.no_offset; no_len = I.no_len; fits = fits }

-- fewer bytes reserved
pub weaken : (w : ℕ) (mode : PoolMode) (r : BufferPool) {a b : ℕ} → b ≤ a → InMode w mode r a → InMode w mode r b
weaken w Back r h I = back_kept I I.past (omega (arith, I.fits)) (λ l. I.slot (omega arith))
weaken w (Front f) r h I = front_kept I I.side (omega (arith, I.fits)) (λ l. I.slot (omega arith))
weaken w Alloc r h I = alloc_kept I (omega (arith, I.fits))

-- ---- No live slot: any entries do, if there are enough

pub zeros_long : (w n : ℕ) → w ≤ n → w ≤ length {A = ℕ} (replicate n 0)
zeros_long w n h = simp length-replicate h

-- a slot count is some, and at most 16
pub count_bounds : (w : ℕ) → is_slot_count w ≡ true → (0 < w) × (w ≤ 16)
unfolding is_slot_count
count_bounds w e = go (eqb w 8) refl e
  where
    go : (b : Bool) → eqb w 8 ≡ b → (b || eqb w 16) ≡ true → (0 < w) × (w ≤ 16)
    go true d e = let x = eqb-true w 8 d in (omega arith, omega arith)
    go false d e = let x = eqb-true w 16 e in (omega arith, omega arith)

-- a ready record has a place in its arrays and a bit in its live word for every slot
pub ready_worded : (w : ℕ) (r : BufferPool) → Ready w r → Worded r
ready_worded w r R = record { most = rw R.count_is (count_bounds w R.is_count).1; word = rw R.count_is R.slots.live_fits }

pub no_slots : {w live : ℕ} {starts lengths : List ℕ} {capacity : ℕ} → live ≡ 0 → live < 2 ^ w
    → w ≤ length starts → w ≤ length lengths → Slots w live starts lengths capacity
no_slots {w} z h starts lengths =
    record {
      live_fits = h;
      starts_w = starts;
      lengths_w = lengths;
      some = λ p t. absurd (none_held w z t);
      order = λ p q l t u. absurd (none_held w z t);
      inside = λ p t. absurd (none_held w z t);
    }

pub no_slots_back : {w : ℕ} {r : BufferPool} {b : ℕ} → r.live ≡ 0 → r.used ≡ r.back_start + r.back_len → r.cursor ≡ 0
    → r.raw_offset + r.raw_len + b ≤ r.capacity → r.back_start + r.back_len < w → InBack w r b
no_slots_back {w} z used cursor fits slot =
    record { used_is = used; no_cursor = cursor; past = λ p t. absurd (none_held w z t); fits = fits; slot = λ l. slot }

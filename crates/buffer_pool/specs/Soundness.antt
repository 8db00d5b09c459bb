-- The soundness test, SPECIFICATION 4: one Bool that every call computes first (docs/SOUNDNESS.md says who cites it, and why).
-- A record that fails it is refused with 1. Sound.antt reads it as a proposition.
use Rattle.std.specs.Prelude.{Bool, true, ◌&&◌, ◌||◌, ℕ, zero, suc, ◌+◌, ◌^◌, leb, ltb, eqb, length}
use Rattle.laws.specs.Tests.{pick}
use Rattle.laws.specs.Live.{live_at, lives}
use Rattle.buffer_pool.specs.declared.buffer_pool.BufferPool.{BufferPool}
use Rattle.buffer_pool.specs.declared.buffer_pool.PoolFront.{PoolFront}
use Rattle.buffer_pool.specs.declared.buffer_pool.PoolMode.{PoolMode}
use Rattle.buffer_pool.specs.declared.buffer_pool.PoolMode.TheVariants.{Back, Front, Alloc}
use Rattle.buffer_pool.specs.Record.{rust_slots, most_slots, byte_limit, caller_count, start_at, after}

-- W-208: "a slot count of 8 or 16"
unfoldable pub is_slot_count : ℕ → Bool
is_slot_count w = eqb w rust_slots || eqb w most_slots

-- 4.5: the record's slot count is w, one of the two, and the live word has w bits; each array has a place for every slot and `given`
-- one for every caller (in code the types say so)
unfoldable pub shaped : ℕ → BufferPool → Bool
shaped w r =
    eqb r.slots w && (is_slot_count w && (ltb r.live (2 ^ w)
    && (leb w (length r.starts) && (leb w (length r.lengths) && (leb w (length r.serials)
    && (leb w (length r.callers) && leb caller_count (length r.given)))))))

-- 4.2: no memory is longer than the limit
unfoldable pub limited : BufferPool → Bool
limited r = leb r.capacity byte_limit && leb r.overflow byte_limit

-- 4.3: s < w, s + n ≤ w, n = 0 if the capacity is 0, and the kept length lies in the overflow
unfoldable pub counted : ℕ → BufferPool → Bool
counted w r =
    leb r.kept r.overflow
    && (ltb r.back_start w && (leb (r.back_start + r.back_len) w && (ltb 0 r.capacity || eqb r.back_len 0)))

-- 4.4: going up the n slots from p on, each live slot is one of the first most, is not empty, starts at or after end (the end
-- of the live slot before it), and ends within the capacity
unfoldable pub rising : ℕ → BufferPool → ℕ → ℕ → ℕ → ℕ → Bool
rising w r most zero p end = true
rising w r most (suc n) p end =
    pick (live_at w r.live p)
    (leb p most && (leb end (start_at r.starts p)
    && (ltb (start_at r.starts p) (after r.starts r.lengths p) && (leb (after r.starts r.lengths p) r.capacity
    && rising w r most n (suc p) (after r.starts r.lengths p)))))
    (rising w r most n (suc p) end)

-- frame and reservation end within the bytes given, and take a slot only where one is left
unfoldable pub framed_within : BufferPool → ℕ → Bool → Bool
framed_within r bytes slotLeft =
    leb (r.raw_offset + r.raw_len + r.reserved) bytes && (slotLeft || eqb (r.raw_len + r.reserved) 0)

-- 4.6, B: s + n slots are used, nothing stands in the overflow's frame; and the frame lies after every live slot
unfoldable pub back_numbers : ℕ → BufferPool → Bool
back_numbers w r =
    eqb r.used (r.back_start + r.back_len) && (eqb r.cursor 0
    && framed_within r r.capacity (ltb (r.back_start + r.back_len) w))

unfoldable pub back_sound : ℕ → BufferPool → Bool
back_sound w r = back_numbers w r && lives w r.live (λ p. leb (after r.starts r.lengths p) r.raw_offset)

-- 4.7, F: the back is full, F's slots are some of those before it, and frame and reservation lie within F's bytes
unfoldable pub front_numbers : ℕ → BufferPool → PoolFront → Bool
front_numbers w r f =
    eqb (r.back_start + r.back_len) w && (leb 1 f.back_start && (leb f.back_start r.back_start
    && (leb f.len f.back_start && (eqb r.used f.len && (eqb r.cursor 0 && (leb f.byte_capacity r.capacity
    && framed_within r f.byte_capacity (ltb f.len f.back_start)))))))

-- F: a live slot is one of the used ones, before the frame, or above all of F's slots, and after F's bytes
unfoldable pub besides : BufferPool → PoolFront → ℕ → Bool
besides r f p =
    (leb p f.len && leb (after r.starts r.lengths p) r.raw_offset)
    || (ltb f.back_start p && leb f.byte_capacity (start_at r.starts p))

unfoldable pub front_sound : ℕ → BufferPool → PoolFront → Bool
front_sound w r f = front_numbers w r f && lives w r.live (besides r f)

-- 4.8, A: no frame in the pool; frame and reservation lie in the kept bytes of the overflow
unfoldable pub alloc_sound : BufferPool → Bool
alloc_sound r = eqb r.raw_offset 0 && (eqb r.raw_len 0 && leb (r.cursor + r.reserved) r.kept)

unfoldable pub mode_sound : ℕ → PoolMode → BufferPool → Bool
mode_sound w Back r = back_sound w r
mode_sound w (Front f) r = front_sound w r f
mode_sound w Alloc r = alloc_sound r

-- the test without the byte limit (the record steps need no limit), and the test
unfoldable pub orderly : ℕ → BufferPool → Bool
orderly w r =
    shaped w r && (counted w r && (rising w r (r.back_start + r.back_len) w 1 0 && mode_sound w r.mode r))

unfoldable pub sound : ℕ → BufferPool → Bool
sound w r = limited r && orderly w r

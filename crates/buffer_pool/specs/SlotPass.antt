-- The soundness test as the code makes it (src/sound.rt), in three parts: of a record's numbers, of a front, and of the slots with what
-- is left. The starts and lengths are lent beside the numbers. `sound_parts` (proofs/SoundParts.antt) shows that the three together are
-- the test of Soundness.antt.
use Rattle.std.specs.Prelude.{Bool, true, ◌&&◌, ◌||◌, List, ℕ, zero, suc, ◌+◌, ◌-◌, ◌^◌, leb, ltb, eqb, get_or}
use Rattle.laws.specs.Tests.{pick}
use Rattle.laws.specs.Live.{live_at, last_live}
use Rattle.buffer_pool.specs.declared.buffer_pool.PoolFront.{PoolFront}
use Rattle.buffer_pool.specs.declared.buffer_pool.PoolMode.{PoolMode}
use Rattle.buffer_pool.specs.declared.buffer_pool.PoolMode.TheVariants.{Back, Front, Alloc}
use Rattle.buffer_pool.specs.declared.numbers.Numbers.{Numbers}
use Rattle.buffer_pool.specs.declared.sound.Span.{Span}
use Rattle.buffer_pool.specs.Numbers.{bare}
use Rattle.buffer_pool.specs.Soundness.{is_slot_count, limited, framed_within, back_numbers, alloc_sound}

-- the k slots from index i on: each live one is not empty and starts at or after end, the end of the live one before it; and the last
-- end is at most to
unfoldable pub ordered : ℕ → List ℕ → List ℕ → ℕ → ℕ → ℕ → ℕ → ℕ → Bool
ordered w starts lengths live zero i end to = leb end to
ordered w starts lengths live (suc k) i end to =
    pick (live_at w live (suc i))
    (ltb 0 (get_or lengths i 0) && (leb end (get_or starts i 0)
    && ordered w starts lengths live k (suc i) (get_or starts i 0 + get_or lengths i 0) to))
    (ordered w starts lengths live k (suc i) end to)

-- ---- The numbers, but for a front's

-- the slot count is 8 or 16, and the live word has so many bits
unfoldable pub word_fits : ℕ → ℕ → Bool
word_fits w live = is_slot_count w && ltb live (2 ^ w)

-- the back lies in the slots
unfoldable pub is_back_within : Numbers → Bool
is_back_within n = ltb n.back_start n.slots && leb (n.back_start + n.back_len) n.slots

-- a front's counts of slots
unfoldable pub front_counts : Numbers → PoolFront → Bool
front_counts n f =
    eqb (n.back_start + n.back_len) n.slots && (leb 1 f.back_start && (leb f.back_start n.back_start
    && (leb f.len f.back_start && eqb n.used f.len)))

unfoldable pub mode_numbers : PoolMode → Numbers → Bool
mode_numbers Back n = back_numbers n.slots (bare n)
mode_numbers (Front f) n = front_counts n f
mode_numbers Alloc n = alloc_sound (bare n)

unfoldable pub numbers_sound : Numbers → Bool
numbers_sound n = word_fits n.slots n.live && (is_back_within n && mode_numbers n.mode n)

-- ---- A front

-- its frame lies in its bytes, and its live slots are some of those it has used, in order before the frame
unfoldable pub front_own : Numbers → List ℕ → List ℕ → PoolFront → Bool
front_own n starts lengths f =
    eqb n.cursor 0 && (leb f.byte_capacity n.capacity
    && (framed_within (bare n) f.byte_capacity (ltb f.len f.back_start)
    && (leb (last_live n.slots n.live f.back_start) f.len
    && ordered n.slots starts lengths n.live (last_live n.slots n.live f.back_start) 0 0 n.raw_offset)))

unfoldable pub own_sound : PoolMode → Numbers → List ℕ → List ℕ → Bool
own_sound Back n starts lengths = true
own_sound (Front f) n starts lengths = front_own n starts lengths f
own_sound Alloc n starts lengths = true

unfoldable pub front_sound : Numbers → List ℕ → List ℕ → Bool
front_sound n starts lengths = numbers_sound n && own_sound n.mode n starts lengths

-- ---- The slots, and what is left of the numbers

-- the memories are within the limit, the kept length is within the overflow, and a pool of no bytes has no slots in its back
unfoldable pub bytes_sound : Numbers → Bool
bytes_sound n =
    limited (bare n) && (leb n.kept n.overflow && (ltb 0 n.capacity || eqb n.back_len 0))

-- the bytes that the slots from an index on lie in: in F those after its own
unfoldable pub span_of : PoolMode → Numbers → Span
span_of Back n = record { first = 0; from = 0; to = n.raw_offset }
span_of (Front f) n = record { first = f.back_start; from = f.byte_capacity; to = n.capacity }
span_of Alloc n = record { first = 0; from = 0; to = n.capacity }

-- the slots up to the last live one, from the span's first on
unfoldable pub ordered_in : Span → Numbers → List ℕ → List ℕ → Bool
ordered_in g n starts lengths =
    ordered n.slots starts lengths n.live (last_live n.slots n.live n.slots - g.first) g.first g.from g.to

unfoldable pub slots_sound : Numbers → List ℕ → List ℕ → Bool
slots_sound n starts lengths =
    bytes_sound n && (leb (last_live n.slots n.live n.slots) (n.back_start + n.back_len)
    && ordered_in (span_of n.mode n) n starts lengths)

-- ---- The whole test

unfoldable pub parts_sound : Numbers → List ℕ → List ℕ → Bool
parts_sound n starts lengths = front_sound n starts lengths && slots_sound n starts lengths

-- The cases of callers, SPECIFICATION 11.26 to 11.31, and of slot counts, 11.32 to 11.41, as tables of calls and their answers, and how
-- they are run. proofs/Cases.antt has the theorems.
use Rattle.std.specs.Prelude.{Ok, Err, List, [], ◌∷◌, map, ℕ, ◌-◌, ◌^◌, replicate, set}
use Rattle.buffer_pool.specs.declared.slice.Handle.{Handle}
use Rattle.buffer_pool.specs.declared.buffer_pool.BufferPool.{BufferPool}
use Rattle.buffer_pool.specs.declared.buffer_pool.PoolMode.TheVariants.{Back}
use Rattle.buffer_pool.specs.declared.buffer_pool.Memory.TheVariants.{Pool, Overflow}
use Rattle.buffer_pool.specs.declared.buffer_pool.Answer.TheVariants.{Done, Reserved, Framed, Taken}
use Rattle.buffer_pool.specs.declared.buffer_pool.Called.{Called}
use Rattle.buffer_pool.specs.declared.refusals.Refusal.TheVariants.{Unsound, DestinationTooShort, NotLive, NoSerials, UnknownCaller, WrongSlotCount}
use Rattle.buffer_pool.specs.Values.{Response}
use Rattle.buffer_pool.specs.Record.{rust_slots, most_slots, caller_count, new_record, marked, placed, with_live}
use Rattle.buffer_pool.specs.Moves.{Memories, memories}
use Rattle.buffer_pool.specs.Steps.{refused, at, most_serials}
use Rattle.buffer_pool.specs.Calls.{Outcome, new}
use Rattle.buffer_pool.specs.Vocabulary.{Call, Reserve, Commit, Take, Release, call}

-- a call and what it must answer
pub record AnswerLine : Type 0 where
  pub call : Call
  pub answer : Response

infix 4 ◌▸◌
abbrev pub ◌▸◌ : Call → Response → AnswerLine
call ▸ answer = record { call = call; answer = answer }

-- the record that the calls begin with, and the calls
pub record AnswerCase : Type 0 where
  pub pool : BufferPool
  pub lines : List AnswerLine

abbrev pub begun : BufferPool → List AnswerLine → AnswerCase
begun pool lines = record { pool = pool; lines = lines }

-- ---- The tables

abbrev pub handle : ℕ → ℕ → ℕ → ℕ → ℕ → Handle
handle slot start length serial caller =
    record { slot = slot; start = start; length = length; serial = serial; caller = caller }

-- the entries of a new pool
abbrev pub zeros : List ℕ
zeros = replicate most_slots 0

-- a new pool of 8 slots and this capacity, with an overflow of 8 bytes
abbrev pub empty : ℕ → BufferPool
empty capacity = new_record rust_slots capacity 8

-- 11.30: caller 0 was given all its serials
abbrev pub spent : BufferPool
spent = marked (empty 16) 0 zeros zeros zeros zeros (most_serials ∷ 0 ∷ 0 ∷ 0 ∷ [])

-- 11.31: slot 1 is live, 2 bytes at 0, and has caller 4
abbrev pub damaged : BufferPool
damaged =
    placed (marked (empty 16) 128 zeros (set zeros 0 2) (set zeros 0 1) (set zeros 0 4) (replicate caller_count 0)) Back 0 1 1 2

unfoldable pub caller_table : List AnswerCase
caller_table =
    -- 11.26
    begun (empty 16)
    ((Reserve 2 ▸ Ok (Reserved (at Pool 0 2) 0))
    ∷ (Commit 2 ▸ Ok (Framed (at Pool 0 2)))
    ∷ (Take 0 [] ▸ Ok (Taken (handle 1 0 2 1 0)))
    ∷ (Reserve 2 ▸ Ok (Reserved (at Pool 2 2) 0))
    ∷ (Commit 2 ▸ Ok (Framed (at Pool 2 2)))
    ∷ (Take 1 [] ▸ Ok (Taken (handle 2 2 2 1 1)))
    ∷ (Reserve 2 ▸ Ok (Reserved (at Pool 4 2) 0))
    ∷ (Commit 2 ▸ Ok (Framed (at Pool 4 2)))
    ∷ (Take 0 [] ▸ Ok (Taken (handle 3 4 2 2 0)))
    -- 11.27
    ∷ (Release (handle 2 2 2 1 0) ▸ Err NotLive)
    ∷ (Release (handle 2 2 2 1 1) ▸ Ok Done)
    ∷ (Release (handle 1 0 2 1 0) ▸ Ok Done)
    ∷ [])
    -- 11.28
    ∷ begun (empty 16) ((Take 4 [] ▸ Err UnknownCaller) ∷ [])
    -- 11.29
    ∷ begun (empty 0)
    ((Reserve 5 ▸ Ok (Reserved (at Overflow 0 5) 1))
    ∷ (Commit 5 ▸ Ok (Framed (at Overflow 0 5)))
    ∷ (Take 4 (0 ∷ 0 ∷ []) ▸ Err UnknownCaller)
    ∷ (Take 3 (0 ∷ 0 ∷ []) ▸ Err DestinationTooShort)
    ∷ [])
    -- 11.30
    ∷ begun spent
    ((Reserve 2 ▸ Ok (Reserved (at Pool 0 2) 0))
    ∷ (Commit 2 ▸ Ok (Framed (at Pool 0 2)))
    ∷ (Take 4 [] ▸ Err UnknownCaller)
    ∷ (Take 0 [] ▸ Err NoSerials)
    ∷ (Take 1 [] ▸ Ok (Taken (handle 1 0 2 1 1)))
    ∷ [])
    -- 11.31
    ∷ begun damaged ((Release (handle 1 0 2 1 4) ▸ Err NotLive) ∷ (Reserve 2 ▸ Ok (Reserved (at Pool 2 2) 0)) ∷ [])
    ∷ []

-- "*Sixteen* is 16 slots, capacity 33, overflow 20, with sixteen slices of 2 bytes taken"
abbrev pub sixteen : BufferPool
sixteen =
    placed
    (marked (new_record 16 33 20) 0xffff (0 ∷ 2 ∷ 4 ∷ 6 ∷ 8 ∷ 10 ∷ 12 ∷ 14 ∷ 16 ∷ 18 ∷ 20 ∷ 22 ∷ 24 ∷ 26 ∷ 28 ∷ 30 ∷ [])
    (replicate 16 2) (1 ∷ 2 ∷ 3 ∷ 4 ∷ 5 ∷ 6 ∷ 7 ∷ 8 ∷ 9 ∷ 10 ∷ 11 ∷ 12 ∷ 13 ∷ 14 ∷ 15 ∷ 16 ∷ []) (replicate 16 0) (16 ∷ 0 ∷ 0 ∷ 0 ∷ []))
    Back 0 16 16 32

-- 11.32: the same pool with eight slices taken
abbrev pub eight_of_sixteen : BufferPool
eight_of_sixteen =
    placed
    (marked (new_record 16 33 20) 0xff00 (0 ∷ 2 ∷ 4 ∷ 6 ∷ 8 ∷ 10 ∷ 12 ∷ 14 ∷ 0 ∷ 0 ∷ 0 ∷ 0 ∷ 0 ∷ 0 ∷ 0 ∷ 0 ∷ [])
    (2 ∷ 2 ∷ 2 ∷ 2 ∷ 2 ∷ 2 ∷ 2 ∷ 2 ∷ 0 ∷ 0 ∷ 0 ∷ 0 ∷ 0 ∷ 0 ∷ 0 ∷ 0 ∷ []) (1 ∷ 2 ∷ 3 ∷ 4 ∷ 5 ∷ 6 ∷ 7 ∷ 8 ∷ 0 ∷ 0 ∷ 0 ∷ 0 ∷ 0 ∷ 0 ∷ 0 ∷ 0 ∷ [])
    zeros (8 ∷ 0 ∷ 0 ∷ 0 ∷ []))
    Back 0 8 8 16

-- 11.38: counts that no pool has, asked of new
unfoldable pub other_counts : List ℕ
other_counts = 0 ∷ 1 ∷ 7 ∷ 9 ∷ 15 ∷ 17 ∷ 32 ∷ (2 ^ 64 - 1) ∷ []

-- what new gives, on memories of 4 and 2 bytes
unfoldable pub created_with : ℕ → Called
created_with w = (new w (memories (replicate 4 255) (replicate 2 255))).call

-- what it must give: the record of a new pool of 8 slots
abbrev pub refused_of_eight : Called
refused_of_eight = refused (new_record 8 0 0) WrongSlotCount

-- 11.41: a new pool of 8 slots, but with start, length and serial 7 in entry 9
abbrev pub ninth : BufferPool
ninth = marked (empty 16) 0 (set zeros 8 7) (set zeros 8 7) (set zeros 8 7) zeros (replicate caller_count 0)

unfoldable pub slot_table : List AnswerCase
slot_table =
    -- 11.32: slot 1 is 0x8000, and slot 9 comes after slot 8
    begun eight_of_sixteen
    ((Reserve 2 ▸ Ok (Reserved (at Pool 16 2) 0)) ∷ (Commit 2 ▸ Ok (Framed (at Pool 16 2))) ∷ (Take 0 [] ▸ Ok (Taken (handle 9 16 2 9 0))) ∷ [])
    -- 11.33: no slot is left
    ∷ begun sixteen ((Reserve 1 ▸ Ok (Reserved (at Overflow 0 1) 1)) ∷ [])
    -- 11.34, 11.35: a front of nine slots and 18 bytes
    ∷ begun (with_live sixteen 0x007f) ((Reserve 18 ▸ Ok (Reserved (at Pool 0 18) 1)) ∷ [])
    ∷ begun (with_live sixteen 0x007f) ((Reserve 19 ▸ Ok (Reserved (at Overflow 0 19) 2)) ∷ [])
    -- 11.36: a tail of two slots
    ∷ begun (with_live sixteen 0x3ffc) ((Reserve 3 ▸ Ok (Reserved (at Pool 28 3) 0)) ∷ [])
    -- 11.37: slot 16 is 0x0001, and there is no slot 17
    ∷ begun sixteen
    ((Release (handle 17 30 2 16 0) ▸ Err NotLive) ∷ (Release (handle 16 30 2 16 0) ▸ Ok Done) ∷ (Release (handle 16 30 2 16 0) ▸ Err NotLive) ∷ [])
    -- 11.39: a record with another count
    ∷ begun (new_record 12 16 8) ((Reserve 2 ▸ Err Unsound) ∷ [])
    -- 11.40: a live word with a bit beyond the slots
    ∷ begun (with_live (empty 16) 0x100) ((Reserve 2 ▸ Err Unsound) ∷ [])
    -- 11.41: the entry does not matter, and its handle names nothing
    ∷ begun ninth
    ((Reserve 2 ▸ Ok (Reserved (at Pool 0 2) 0))
    ∷ (Commit 2 ▸ Ok (Framed (at Pool 0 2)))
    ∷ (Take 0 [] ▸ Ok (Taken (handle 1 0 2 1 0)))
    ∷ (Release (handle 9 7 7 7 0) ▸ Err NotLive)
    ∷ [])
    ∷ []

-- ---- The tables run on the definitions

-- the answers of the calls, one after the other
unfoldable pub answers_on : BufferPool → Memories → List AnswerLine → List Response
answers_on r m [] = []
answers_on r m (l ∷ rest) =
    let o : Outcome = call r.slots r m l.call in o.call.answer ∷ answers_on o.call.pool o.memory rest

unfoldable pub answered : AnswerCase → List Response
answered c = answers_on c.pool (memories (replicate c.pool.capacity 0) (replicate c.pool.overflow 0)) c.lines

unfoldable pub expected : AnswerCase → List Response
expected c = map (λ (l : AnswerLine). l.answer) c.lines

-- What a trace holds, read off a file and written as one; proofs/Inverse.antt has that the two are inverse. `event_at` and
-- `bytes` give the parts of `content`.
use Rattle.std.specs.Prelude.{Bool, ◌&&◌, List, [], ◌∷◌, ◌++◌, ℕ, zero, suc, ◌+◌, ◌/◌, ◌%◌, ◌^◌, ◌<◌, ◌≤◌, leb, length, get_or, drop, Option, Some, None, Result}
use Rattle.laws.specs.Tests.{pick}
use Rattle.trace.specs.declared.Header.{Header}
use Rattle.trace.specs.declared.Event.{Event}
use Rattle.trace.specs.declared.Refusal.{Refusal}
use Rattle.trace.specs.Trace.{most_caller, size_limit, file_limit, header_length, capacity_of, overflow_of, event_count, byte_offset, event_place, event_at, right, answer_on}

-- the sizes, the events in their order, and the bytes for the frames
pub record Content : Type 0 where
  pub capacity : ℕ
  pub overflow : ℕ
  pub events : List Event
  pub bytes : List ℕ

-- ---- Read off a file

-- the n events of the file from index i on
unfoldable pub events_from : List ℕ → ℕ → ℕ → List Event
events_from file i zero = []
events_from file i (suc n) = event_at file i ∷ events_from file (suc i) n

-- what the file holds
unfoldable pub content : List ℕ → Content
content file =
    record {
      capacity = capacity_of file;
      overflow = overflow_of file;
      events = events_from file 0 (event_count file);
      bytes = drop (byte_offset file) file;
    }

-- where its bytes begin, and 0 where the file ends before
unfoldable pub bytes_place : List ℕ → ℕ
bytes_place file = pick (leb (byte_offset file) (length file)) (byte_offset file) 0

-- a pointer, moved on by n bytes
abbrev pub moved_on : ℕ × ℕ → ℕ → ℕ × ℕ
moved_on at n = (at.0, n + at.1)

-- no event: its kind is none of the five
abbrev pub no_event : Event
no_event = record { kind = 0; caller = 0; number = 0 }

-- every element is a byte
abbrev pub Bytes : List ℕ → Type 0
Bytes file = (i : ℕ) → get_or file i 0 < 256

-- ---- Written as a file

-- the n lowest bytes of a number, lowest first
unfoldable pub low_bytes : ℕ → ℕ → List ℕ
low_bytes zero v = []
low_bytes (suc n) v = v % 256 ∷ low_bytes n (v / 256)

-- an event: its kind, its caller, two filler bytes, its number
unfoldable pub event_bytes : Event → List ℕ
event_bytes e = (e.kind ∷ e.caller ∷ 0 ∷ 0 ∷ []) ++ low_bytes 4 e.number

-- the events, one after the other
unfoldable pub events_bytes : List Event → List ℕ
events_bytes [] = []
events_bytes (e ∷ events) = event_bytes e ++ events_bytes events

-- numbers, one after the other
unfoldable pub numbers_bytes : List ℕ → List ℕ
numbers_bytes [] = []
numbers_bytes (v ∷ numbers) = low_bytes 4 v ++ numbers_bytes numbers

-- what is free in the header of a file that holds c
abbrev pub header_for : Content → Header
header_for c = record { capacity = c.capacity; overflow = c.overflow; events = length c.events; bytes = length c.bytes }

-- the six numbers of that header
unfoldable pub header_numbers : Content → List ℕ
header_numbers c =
    c.capacity
    ∷ c.overflow
    ∷ length c.events
    ∷ header_length
    ∷ length c.bytes
    ∷ event_place (length c.events)
    ∷ []

-- the file that holds c
unfoldable pub written : Content → List ℕ
written c = numbers_bytes (header_numbers c) ++ (events_bytes c.events ++ c.bytes)

-- ---- What can be written

-- the sizes and the file's length are within their limits: the conditions of 9 on a content
unfoldable pub fits : Content → Bool
fits c = leb c.capacity size_limit && (leb c.overflow size_limit && leb (event_place (length c.events) + length c.bytes) file_limit)

-- the first event that is not right, counted from 1 with i events before these, and none where all are right: the condition of 10
unfoldable pub first_wrong : ℕ → List Event → Option ℕ
first_wrong i [] = None
first_wrong i (e ∷ events) = pick (right e) (first_wrong (suc i) events) (Some (suc i))

-- what the tests of 9 and 10 give on c; for a c that passes, what reading its file gives
unfoldable pub checked : Content → Result Header Refusal
checked c = answer_on (fits c) (first_wrong 0 c.events) (header_for c)

-- no event's caller is above 3
abbrev pub Callers : List Event → Type 0
Callers events = (i : ℕ) → (get_or events i no_event).caller ≤ most_caller

-- every event's number is a 32-bit one
abbrev pub Narrow : List Event → Type 0
Narrow events = (i : ℕ) → (get_or events i no_event).number < 256 ^ 4

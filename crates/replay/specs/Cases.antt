-- The listing of SPECIFICATION 12, a trace of two callers and one with a freed gap with their listings, byte for byte, the percentages
-- of 10.10 and the held bytes of 10.11. proofs/Cases.antt has the theorems.
use Rattle.std.specs.Prelude.{List, [], ◌∷◌, ◌++◌, ℕ, zero, suc, replicate}
use Rattle.buffer_pool.specs.declared.buffer_pool.BufferPool.{BufferPool}
use Rattle.buffer_pool.specs.Moves.{Memories, memories}
use Rattle.buffer_pool.specs.Computing as pool
use Rattle.trace.specs.declared.Event.{Event}
use Rattle.trace.specs.Trace.{reserve_kind, commit_kind, take_kind, release_kind}
use Rattle.trace.specs.Cases as trace
use Rattle.trace.specs.Content.{content, events_from}
use Rattle.replay.specs.Text.{places, decimal, hex, signed, spaced}
use Rattle.replay.specs.Slots.{bears, slot_from, slot_of, handle_at, handle_of}
use Rattle.replay.specs.Percentage.{even_neighbour, nearest, percent}
use Rattle.replay.specs.HeldBytes.{live_end, highest_end, held}
use Rattle.replay.specs.Run.{Running, left, counted, kind_letter, mode_letter, take_extent, release_extent, extent_of, starts_of, shown_so, shown_of, fills, filling, filled, call_of, step_of, step}
use Rattle.replay.specs.Listing.{first_line, move_of, line_head, line, last_line, lines, begun_on, listing_on, listing_of, refused_nine, refused_ten, refused, listing_by, listing}

unfoldable pub printed : List ℕ
printed =
    -- pool 16 overflow 12
    112 ∷ 111 ∷ 111 ∷ 108 ∷ 32 ∷ 49 ∷ 54 ∷ 32 ∷ 111 ∷ 118 ∷ 101 ∷ 114 ∷ 102 ∷ 108 ∷ 111 ∷ 119 ∷ 32 ∷ 49 ∷ 50 ∷ 10
    -- 1 r 0 B 00 0 6 0
    ∷ 49 ∷ 32 ∷ 114 ∷ 32 ∷ 48 ∷ 32 ∷ 66 ∷ 32 ∷ 48 ∷ 48 ∷ 32 ∷ 48 ∷ 32 ∷ 54 ∷ 32 ∷ 48 ∷ 10
    -- 2 c 0 B 00 0 6 0
    ∷ 50 ∷ 32 ∷ 99 ∷ 32 ∷ 48 ∷ 32 ∷ 66 ∷ 32 ∷ 48 ∷ 48 ∷ 32 ∷ 48 ∷ 32 ∷ 54 ∷ 32 ∷ 48 ∷ 10
    -- 3 t 0 B 80 0 6 0
    ∷ 51 ∷ 32 ∷ 116 ∷ 32 ∷ 48 ∷ 32 ∷ 66 ∷ 32 ∷ 56 ∷ 48 ∷ 32 ∷ 48 ∷ 32 ∷ 54 ∷ 32 ∷ 48 ∷ 10
    -- 4 r 4 B 80 0 0 0
    ∷ 52 ∷ 32 ∷ 114 ∷ 32 ∷ 52 ∷ 32 ∷ 66 ∷ 32 ∷ 56 ∷ 48 ∷ 32 ∷ 48 ∷ 32 ∷ 48 ∷ 32 ∷ 48 ∷ 10
    -- 5 r 0 B 80 6 8 0
    ∷ 53 ∷ 32 ∷ 114 ∷ 32 ∷ 48 ∷ 32 ∷ 66 ∷ 32 ∷ 56 ∷ 48 ∷ 32 ∷ 54 ∷ 32 ∷ 56 ∷ 32 ∷ 48 ∷ 10
    -- 6 c 5 B 80 0 0 0
    ∷ 54 ∷ 32 ∷ 99 ∷ 32 ∷ 53 ∷ 32 ∷ 66 ∷ 32 ∷ 56 ∷ 48 ∷ 32 ∷ 48 ∷ 32 ∷ 48 ∷ 32 ∷ 48 ∷ 10
    -- 7 c 0 B 80 6 4 0
    ∷ 55 ∷ 32 ∷ 99 ∷ 32 ∷ 48 ∷ 32 ∷ 66 ∷ 32 ∷ 56 ∷ 48 ∷ 32 ∷ 54 ∷ 32 ∷ 52 ∷ 32 ∷ 48 ∷ 10
    -- 8 r 0 A 80 4 7 0
    ∷ 56 ∷ 32 ∷ 114 ∷ 32 ∷ 48 ∷ 32 ∷ 65 ∷ 32 ∷ 56 ∷ 48 ∷ 32 ∷ 52 ∷ 32 ∷ 55 ∷ 32 ∷ 48 ∷ 10
    -- 9 k 0 A 80 0 3 0
    ∷ 57 ∷ 32 ∷ 107 ∷ 32 ∷ 48 ∷ 32 ∷ 65 ∷ 32 ∷ 56 ∷ 48 ∷ 32 ∷ 48 ∷ 32 ∷ 51 ∷ 32 ∷ 48 ∷ 10
    -- 10 t 0 A 80 0 3 0
    ∷ 49 ∷ 48 ∷ 32 ∷ 116 ∷ 32 ∷ 48 ∷ 32 ∷ 65 ∷ 32 ∷ 56 ∷ 48 ∷ 32 ∷ 48 ∷ 32 ∷ 51 ∷ 32 ∷ 48 ∷ 10
    -- 11 d 0 A 00 0 6 0
    ∷ 49 ∷ 49 ∷ 32 ∷ 100 ∷ 32 ∷ 48 ∷ 32 ∷ 65 ∷ 32 ∷ 48 ∷ 48 ∷ 32 ∷ 48 ∷ 32 ∷ 54 ∷ 32 ∷ 48 ∷ 10
    -- 12 r 0 B 00 0 16 0
    ∷ 49 ∷ 50 ∷ 32 ∷ 114 ∷ 32 ∷ 48 ∷ 32 ∷ 66 ∷ 32 ∷ 48 ∷ 48 ∷ 32 ∷ 48 ∷ 32 ∷ 49 ∷ 54 ∷ 32 ∷ 48 ∷ 10
    -- T 10 2 50 0
    ∷ 84 ∷ 32 ∷ 49 ∷ 48 ∷ 32 ∷ 50 ∷ 32 ∷ 53 ∷ 48 ∷ 32 ∷ 48 ∷ 10
    ∷ []

-- W-205, the trace of SPECIFICATION 9.9. Capacity 8, overflow 0, ten events, the events' place 24, no bytes, the bytes' place 104; then r 2, c 2, t by caller 0, r 3,
-- c 3, t by caller 1, and releases of serial 1: of caller 1, of caller 2, of caller 1 again and of caller 0
unfoldable pub two_callers : List ℕ
two_callers =
    8 ∷ 0 ∷ 0 ∷ 0
    ∷ 0 ∷ 0 ∷ 0 ∷ 0
    ∷ 10 ∷ 0 ∷ 0 ∷ 0
    ∷ 24 ∷ 0 ∷ 0 ∷ 0
    ∷ 0 ∷ 0 ∷ 0 ∷ 0
    ∷ 104 ∷ 0 ∷ 0 ∷ 0
    ∷ 1 ∷ 0 ∷ 0 ∷ 0 ∷ 2 ∷ 0 ∷ 0 ∷ 0
    ∷ 2 ∷ 0 ∷ 0 ∷ 0 ∷ 2 ∷ 0 ∷ 0 ∷ 0
    ∷ 3 ∷ 0 ∷ 0 ∷ 0 ∷ 0 ∷ 0 ∷ 0 ∷ 0
    ∷ 1 ∷ 0 ∷ 0 ∷ 0 ∷ 3 ∷ 0 ∷ 0 ∷ 0
    ∷ 2 ∷ 0 ∷ 0 ∷ 0 ∷ 3 ∷ 0 ∷ 0 ∷ 0
    ∷ 3 ∷ 1 ∷ 0 ∷ 0 ∷ 0 ∷ 0 ∷ 0 ∷ 0
    ∷ 5 ∷ 1 ∷ 0 ∷ 0 ∷ 1 ∷ 0 ∷ 0 ∷ 0
    ∷ 5 ∷ 2 ∷ 0 ∷ 0 ∷ 1 ∷ 0 ∷ 0 ∷ 0
    ∷ 5 ∷ 1 ∷ 0 ∷ 0 ∷ 1 ∷ 0 ∷ 0 ∷ 0
    ∷ 5 ∷ 0 ∷ 0 ∷ 0 ∷ 1 ∷ 0 ∷ 0 ∷ 0
    ∷ []

-- both takes give serial 1: event 7 frees the second slice and not the first, of events 8 and 9 no live slice has both numbers, and
-- event 10 frees the first
unfoldable pub two_callers_printed : List ℕ
two_callers_printed =
    -- pool 8 overflow 0
    112 ∷ 111 ∷ 111 ∷ 108 ∷ 32 ∷ 56 ∷ 32 ∷ 111 ∷ 118 ∷ 101 ∷ 114 ∷ 102 ∷ 108 ∷ 111 ∷ 119 ∷ 32 ∷ 48 ∷ 10
    -- 1 r 0 B 00 0 2 0
    ∷ 49 ∷ 32 ∷ 114 ∷ 32 ∷ 48 ∷ 32 ∷ 66 ∷ 32 ∷ 48 ∷ 48 ∷ 32 ∷ 48 ∷ 32 ∷ 50 ∷ 32 ∷ 48 ∷ 10
    -- 2 c 0 B 00 0 2 0
    ∷ 50 ∷ 32 ∷ 99 ∷ 32 ∷ 48 ∷ 32 ∷ 66 ∷ 32 ∷ 48 ∷ 48 ∷ 32 ∷ 48 ∷ 32 ∷ 50 ∷ 32 ∷ 48 ∷ 10
    -- 3 t 0 B 80 0 2 0
    ∷ 51 ∷ 32 ∷ 116 ∷ 32 ∷ 48 ∷ 32 ∷ 66 ∷ 32 ∷ 56 ∷ 48 ∷ 32 ∷ 48 ∷ 32 ∷ 50 ∷ 32 ∷ 48 ∷ 10
    -- 4 r 0 B 80 2 3 0
    ∷ 52 ∷ 32 ∷ 114 ∷ 32 ∷ 48 ∷ 32 ∷ 66 ∷ 32 ∷ 56 ∷ 48 ∷ 32 ∷ 50 ∷ 32 ∷ 51 ∷ 32 ∷ 48 ∷ 10
    -- 5 c 0 B 80 2 3 0
    ∷ 53 ∷ 32 ∷ 99 ∷ 32 ∷ 48 ∷ 32 ∷ 66 ∷ 32 ∷ 56 ∷ 48 ∷ 32 ∷ 50 ∷ 32 ∷ 51 ∷ 32 ∷ 48 ∷ 10
    -- 6 t 0 B c0 2 3 0
    ∷ 54 ∷ 32 ∷ 116 ∷ 32 ∷ 48 ∷ 32 ∷ 66 ∷ 32 ∷ 99 ∷ 48 ∷ 32 ∷ 50 ∷ 32 ∷ 51 ∷ 32 ∷ 48 ∷ 10
    -- 7 d 0 B 80 2 3 0
    ∷ 55 ∷ 32 ∷ 100 ∷ 32 ∷ 48 ∷ 32 ∷ 66 ∷ 32 ∷ 56 ∷ 48 ∷ 32 ∷ 50 ∷ 32 ∷ 51 ∷ 32 ∷ 48 ∷ 10
    -- 8 d 7 B 80 0 0 0
    ∷ 56 ∷ 32 ∷ 100 ∷ 32 ∷ 55 ∷ 32 ∷ 66 ∷ 32 ∷ 56 ∷ 48 ∷ 32 ∷ 48 ∷ 32 ∷ 48 ∷ 32 ∷ 48 ∷ 10
    -- 9 d 7 B 80 0 0 0
    ∷ 57 ∷ 32 ∷ 100 ∷ 32 ∷ 55 ∷ 32 ∷ 66 ∷ 32 ∷ 56 ∷ 48 ∷ 32 ∷ 48 ∷ 32 ∷ 48 ∷ 32 ∷ 48 ∷ 10
    -- 10 d 0 B 00 0 2 0
    ∷ 49 ∷ 48 ∷ 32 ∷ 100 ∷ 32 ∷ 48 ∷ 32 ∷ 66 ∷ 32 ∷ 48 ∷ 48 ∷ 32 ∷ 48 ∷ 32 ∷ 50 ∷ 32 ∷ 48 ∷ 10
    -- T 8 2 0 0
    ∷ 84 ∷ 32 ∷ 56 ∷ 32 ∷ 50 ∷ 32 ∷ 48 ∷ 32 ∷ 48 ∷ 10
    ∷ []

-- W-204, the table of SPECIFICATION 10.10: so many takes from the overflow, of so many takes, and what line T shows
pub record PercentCase : Type 0 where
  pub part : ℕ
  pub all : ℕ
  pub shown : ℕ

abbrev pub shows : ℕ → ℕ → ℕ → PercentCase
shows part all shown = record { part = part; all = all; shown = shown }

unfoldable pub percent_table : List PercentCase
percent_table =
    -- an exact half
    shows 1 8 12
    ∷ shows 3 8 38
    ∷ shows 1 200 0
    ∷ shows 3 200 2
    ∷ shows 199 200 100
    -- below the half
    ∷ shows 1 16 6
    ∷ shows 1 3 33
    -- above the half
    ∷ shows 1 6 17
    ∷ shows 1 13 8
    -- whole numbers
    ∷ shows 1 2 50
    ∷ shows 0 3 0
    ∷ shows 3 3 100
    -- no takes
    ∷ shows 0 0 0
    ∷ []

-- W-206, the trace of SPECIFICATION 10.11. Capacity 16, overflow 0, seven events, the events' place 24, no bytes, the bytes' place 80;
-- then r 14, c 14, t, r 2, c 2, t and the release of serial 1, which leaves one live slice of 2 bytes at start 14
unfoldable pub gap_below : List ℕ
gap_below =
    16 ∷ 0 ∷ 0 ∷ 0
    ∷ 0 ∷ 0 ∷ 0 ∷ 0
    ∷ 7 ∷ 0 ∷ 0 ∷ 0
    ∷ 24 ∷ 0 ∷ 0 ∷ 0
    ∷ 0 ∷ 0 ∷ 0 ∷ 0
    ∷ 80 ∷ 0 ∷ 0 ∷ 0
    ∷ 1 ∷ 0 ∷ 0 ∷ 0 ∷ 14 ∷ 0 ∷ 0 ∷ 0
    ∷ 2 ∷ 0 ∷ 0 ∷ 0 ∷ 14 ∷ 0 ∷ 0 ∷ 0
    ∷ 3 ∷ 0 ∷ 0 ∷ 0 ∷ 0 ∷ 0 ∷ 0 ∷ 0
    ∷ 1 ∷ 0 ∷ 0 ∷ 0 ∷ 2 ∷ 0 ∷ 0 ∷ 0
    ∷ 2 ∷ 0 ∷ 0 ∷ 0 ∷ 2 ∷ 0 ∷ 0 ∷ 0
    ∷ 3 ∷ 0 ∷ 0 ∷ 0 ∷ 0 ∷ 0 ∷ 0 ∷ 0
    ∷ 5 ∷ 0 ∷ 0 ∷ 0 ∷ 1 ∷ 0 ∷ 0 ∷ 0
    ∷ []

unfoldable pub gap_below_printed : List ℕ
gap_below_printed =
    -- pool 16 overflow 0
    112 ∷ 111 ∷ 111 ∷ 108 ∷ 32 ∷ 49 ∷ 54 ∷ 32 ∷ 111 ∷ 118 ∷ 101 ∷ 114 ∷ 102 ∷ 108 ∷ 111 ∷ 119 ∷ 32 ∷ 48 ∷ 10
    -- 1 r 0 B 00 0 14 0
    ∷ 49 ∷ 32 ∷ 114 ∷ 32 ∷ 48 ∷ 32 ∷ 66 ∷ 32 ∷ 48 ∷ 48 ∷ 32 ∷ 48 ∷ 32 ∷ 49 ∷ 52 ∷ 32 ∷ 48 ∷ 10
    -- 2 c 0 B 00 0 14 0
    ∷ 50 ∷ 32 ∷ 99 ∷ 32 ∷ 48 ∷ 32 ∷ 66 ∷ 32 ∷ 48 ∷ 48 ∷ 32 ∷ 48 ∷ 32 ∷ 49 ∷ 52 ∷ 32 ∷ 48 ∷ 10
    -- 3 t 0 B 80 0 14 0
    ∷ 51 ∷ 32 ∷ 116 ∷ 32 ∷ 48 ∷ 32 ∷ 66 ∷ 32 ∷ 56 ∷ 48 ∷ 32 ∷ 48 ∷ 32 ∷ 49 ∷ 52 ∷ 32 ∷ 48 ∷ 10
    -- 4 r 0 B 80 14 2 0
    ∷ 52 ∷ 32 ∷ 114 ∷ 32 ∷ 48 ∷ 32 ∷ 66 ∷ 32 ∷ 56 ∷ 48 ∷ 32 ∷ 49 ∷ 52 ∷ 32 ∷ 50 ∷ 32 ∷ 48 ∷ 10
    -- 5 c 0 B 80 14 2 0
    ∷ 53 ∷ 32 ∷ 99 ∷ 32 ∷ 48 ∷ 32 ∷ 66 ∷ 32 ∷ 56 ∷ 48 ∷ 32 ∷ 49 ∷ 52 ∷ 32 ∷ 50 ∷ 32 ∷ 48 ∷ 10
    -- 6 t 0 B c0 14 2 0
    ∷ 54 ∷ 32 ∷ 116 ∷ 32 ∷ 48 ∷ 32 ∷ 66 ∷ 32 ∷ 99 ∷ 48 ∷ 32 ∷ 49 ∷ 52 ∷ 32 ∷ 50 ∷ 32 ∷ 48 ∷ 10
    -- 7 d 0 B 40 0 14 0
    ∷ 55 ∷ 32 ∷ 100 ∷ 32 ∷ 48 ∷ 32 ∷ 66 ∷ 32 ∷ 52 ∷ 48 ∷ 32 ∷ 48 ∷ 32 ∷ 49 ∷ 52 ∷ 32 ∷ 48 ∷ 10
    -- T 7 0 0 16
    ∷ 84 ∷ 32 ∷ 55 ∷ 32 ∷ 48 ∷ 32 ∷ 48 ∷ 32 ∷ 49 ∷ 54 ∷ 10
    ∷ []

-- W-206, the table of SPECIFICATION 10.11: the sizes and the events of a trace without bytes, the held bytes that line T shows, and the
-- letter of the mode after the events
pub record HeldCase : Type 0 where
  pub capacity : ℕ
  pub overflow : ℕ
  pub events : List Event
  pub shown : ℕ
  pub mode : ℕ

abbrev r : ℕ → Event
r n = record { kind = reserve_kind; caller = 0; number = n }

abbrev c : ℕ → Event
c n = record { kind = commit_kind; caller = 0; number = n }

abbrev t : Event
t = record { kind = take_kind; caller = 0; number = 0 }

abbrev d : ℕ → Event
d n = record { kind = release_kind; caller = 0; number = n }

abbrev B : ℕ
B = 66

abbrev F : ℕ
F = 70

abbrev A : ℕ
A = 65

abbrev holds : ℕ → ℕ → List Event → ℕ → ℕ → HeldCase
holds capacity overflow events shown mode =
    record { capacity = capacity; overflow = overflow; events = events; shown = shown; mode = mode }

-- n slices of 2 bytes taken
unfoldable pub slices_of_two : ℕ → List Event
slices_of_two zero = []
slices_of_two (suc n) = r 2 ∷ c 2 ∷ t ∷ slices_of_two n

-- "*Octet* is capacity 17, overflow 20, with eight slices of 2 bytes taken"
abbrev octet : List Event → ℕ → ℕ → HeldCase
octet events shown mode = holds 17 20 (slices_of_two 8 ++ events) shown mode

unfoldable pub held_table : List HeldCase
held_table =
    -- a freed gap below, and nothing live
    holds 16 0 (r 14 ∷ c 14 ∷ t ∷ r 2 ∷ c 2 ∷ t ∷ d 1 ∷ []) 16 B
    ∷ holds 16 0 (r 14 ∷ c 14 ∷ t ∷ r 2 ∷ c 2 ∷ t ∷ d 1 ∷ d 2 ∷ []) 0 B
    -- a freed gap between, and one above
    ∷ holds 16 0 (r 2 ∷ c 2 ∷ t ∷ r 3 ∷ c 3 ∷ t ∷ r 4 ∷ c 4 ∷ t ∷ d 2 ∷ []) 9 B
    ∷ holds 16 0 (r 2 ∷ c 2 ∷ t ∷ r 3 ∷ c 3 ∷ t ∷ r 4 ∷ c 4 ∷ t ∷ d 3 ∷ []) 5 B
    -- frame and reservation, and frames that were copied
    ∷ holds 16 0 (r 4 ∷ c 4 ∷ t ∷ r 5 ∷ c 5 ∷ r 3 ∷ []) 4 B
    ∷ holds 4 8 (r 3 ∷ c 3 ∷ t ∷ r 8 ∷ c 8 ∷ t ∷ []) 3 A
    ∷ holds 4 8 (r 8 ∷ c 8 ∷ t ∷ []) 0 A
    -- B with the last slot alone, and F
    ∷ octet (d 1 ∷ d 2 ∷ d 3 ∷ d 4 ∷ d 5 ∷ d 6 ∷ d 7 ∷ []) 16 B
    ∷ octet (d 1 ∷ d 2 ∷ r 3 ∷ c 3 ∷ t ∷ []) 16 F
    ∷ octet (d 1 ∷ d 2 ∷ r 1 ∷ c 1 ∷ t ∷ r 1 ∷ c 1 ∷ t ∷ d 9 ∷ d 8 ∷ []) 14 F
    ∷ octet (d 1 ∷ d 2 ∷ r 3 ∷ c 3 ∷ t ∷ d 3 ∷ d 4 ∷ d 5 ∷ d 6 ∷ d 7 ∷ d 8 ∷ []) 3 F
    ∷ octet (d 1 ∷ d 2 ∷ r 3 ∷ c 3 ∷ t ∷ d 3 ∷ d 4 ∷ d 5 ∷ d 6 ∷ d 7 ∷ d 8 ∷ d 9 ∷ []) 0 F
    ∷ []

-- the record that these events leave
unfoldable pub left_by : Running → List Event → BufferPool
left_by s [] = s.state.pool
left_by s (e ∷ events) = left_by (left (step [] s e)) events

-- the case with the held bytes and the mode of the record that its events leave
unfoldable pub run_case : HeldCase → HeldCase
run_case x =
    let m : Memories = memories (replicate x.capacity 0) (replicate x.overflow 0) in
    let p : BufferPool = left_by (begun_on m (replicate x.overflow 0)) x.events in
    holds x.capacity x.overflow x.events (held p) (mode_letter p.mode)

-- opens what a listing unfolds to, for computing
unfoldable pub definitions : Unit {0}
unfolding pool.definitions trace.definitions content events_from places decimal hex signed spaced bears slot_from slot_of handle_at handle_of even_neighbour nearest percent live_end highest_end held counted kind_letter take_extent release_extent extent_of starts_of shown_so shown_of fills filling filled call_of step_of step first_line move_of line_head line last_line lines begun_on listing_on listing_of refused_nine refused_ten refused listing_by listing
definitions = tt

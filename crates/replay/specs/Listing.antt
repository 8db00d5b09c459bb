-- The listing of a trace file, SPECIFICATION 10: the bytes that `replay` writes.
use Rattle.std.specs.Prelude.{List, [], ◌∷◌, ◌++◌, ℕ, suc, ◌+◌, ◌-◌, ◌*◌, ◌/◌, leb, length, drop, replicate, ℤ, pos, ◌-ℤ◌, Result, Ok, Err}
use Rattle.laws.specs.Tests.{pick}
use Rattle.buffer_pool.specs.declared.buffer_pool.BufferPool.{BufferPool}
use Rattle.buffer_pool.specs.Record.{rust_slots}
use Rattle.buffer_pool.specs.Moves.{Memories, memories}
use Rattle.buffer_pool.specs.Calls.{Outcome, new}
use Rattle.trace.specs.declared.Event.{Event}
use Rattle.trace.specs.declared.Header.{Header}
use Rattle.trace.specs.declared.Refusal.{Refusal}
use Rattle.trace.specs.declared.Refusal.TheVariants.{WrongHeader, BadEvent}
use Rattle.trace.specs.Trace.{size_limit, file_limit, header_length, event_length, reading}
use Rattle.trace.specs.Content.{Content, content}
use Rattle.replay.specs.declared.event.Tally.{Tally}
use Rattle.replay.specs.declared.event.Starts.{Starts}
use Rattle.replay.specs.declared.event.Shown.{Shown}
use Rattle.replay.specs.declared.TooShort.{TooShort}
use Rattle.replay.specs.Text.{decimal, hex, signed, spaced, newline}
use Rattle.replay.specs.Percentage.{percent}
use Rattle.replay.specs.HeldBytes.{held}
use Rattle.replay.specs.Run.{Running, running, left, step}

-- ---- The lines

-- 10.3: pool CAPACITY overflow LENGTH
unfoldable pub first_line : ℕ → ℕ → List ℕ
first_line capacity overflow =
    (112 ∷ 111 ∷ 111 ∷ 108 ∷ []) ++ spaced (decimal capacity) ++ (32 ∷ 111 ∷ 118 ∷ 101 ∷ 114 ∷ 102 ∷ 108 ∷ 111 ∷ 119 ∷ [])
    ++ spaced (decimal overflow) ++ newline

-- 10.5, the move: "the frame's start after the event minus its start before"
unfoldable pub move_of : Starts → ℤ
move_of s = pos s.after -ℤ pos s.before

-- 10.3, fields 1 to 5: event, kind letter, refusal or 0, mode, live word
unfoldable pub line_head : ℕ → Shown → List ℕ
line_head event s =
    decimal event ++ spaced (s.kind ∷ []) ++ spaced (decimal s.refusal) ++ spaced (s.mode ∷ []) ++ spaced (hex s.live)

-- and fields 6 to 8: start, length, move
unfoldable pub line : ℕ → Shown → List ℕ
line event s =
    line_head event s ++ spaced (decimal s.place.start) ++ spaced (decimal s.place.length) ++ spaced (signed (move_of s.frame))
    ++ newline

-- 10.6: T, events done, events refused, the overflow percentage, held bytes
unfoldable pub last_line : Tally → BufferPool → List ℕ
last_line t r =
    (84 ∷ []) ++ spaced (decimal t.done) ++ spaced (decimal t.refused) ++ spaced (decimal (percent t.spilled t.takes)) ++ spaced (decimal (held r))
    ++ newline

-- the lines of these events of a run, the first of them with i events before it, and line T
unfoldable pub lines : List ℕ → Running → ℕ → List Event → List ℕ
lines bytes s i [] = last_line s.state.tally s.state.pool
lines bytes s i (e ∷ rest) = line (suc i) (step bytes s e).step.shown ++ lines bytes (left (step bytes s e)) (suc i) rest

-- ---- The listing

-- the run before the first event: a new pool on these memories, no trace byte used, nothing counted. W-208: "Traces stay at 8."
unfoldable pub begun_on : Memories → List ℕ → Running
begun_on m destination =
    let o : Outcome = new rust_slots m in
    running
    (record { pool = o.call.pool; next = 0; tally = record { done = 0; refused = 0; takes = 0; spilled = 0 } })
    o.memory destination

-- the listing of a file that holds c, run on these memories and with this destination
unfoldable pub listing_on : Memories → List ℕ → Content → List ℕ
listing_on m destination c =
    first_line (length m.pool) (length m.overflow) ++ lines c.bytes (begun_on m destination) 0 c.events

-- as many zeros as the longest memory has bytes
unfoldable pub zeros : List ℕ
zeros = replicate size_limit 0

-- on memories of zeros, as long as the file says (9.6); "a destination as long as the overflow" (9.8)
unfoldable pub listing_of : Content → List ℕ
listing_of c = listing_on (memories (replicate c.capacity 0) (replicate c.overflow 0)) (replicate c.overflow 0) c

-- 10.2: "`refused 9`; or `refused 10` and, after a space, the number of the event"
abbrev pub refused_with : ℕ → List ℕ
refused_with number = (114 ∷ 101 ∷ 102 ∷ 117 ∷ 115 ∷ 101 ∷ 100 ∷ []) ++ spaced (decimal number)

unfoldable pub refused_nine : List ℕ
refused_nine = refused_with 9 ++ newline

unfoldable pub refused_ten : ℕ → List ℕ
refused_ten event = refused_with 10 ++ spaced (decimal event) ++ newline

unfoldable pub refused : Refusal → List ℕ
refused WrongHeader = refused_nine
refused (BadEvent event) = refused_ten event

-- the listing, by what reading the file gives
unfoldable pub listing_by : Result Header Refusal → Content → List ℕ
listing_by (Ok header) c = listing_of c
listing_by (Err refusal) c = refused refusal

-- the listing of a file
unfoldable pub listing : List ℕ → List ℕ
listing file = listing_by (reading file) (content file)

-- ---- A limit of a listing's length, by the widths of its fields: each but the first follows a space, and a line ends in a newline.
-- proofs/ListingLength.antt has that no listing is longer.

-- the most events of a file, which by 9.3 has at most 65,536 bytes, 24 of them the header's and 8 an event's
abbrev pub event_limit : ℕ
event_limit = (file_limit - header_length) / event_length

-- line one: two words, and two sizes of 5 digits
abbrev pub first_limit : ℕ
first_limit = 4 + (1 + 5) + 9 + (1 + 5) + 1

-- an event's line: 4 digits of the event, its letter, a digit of the refusal, the mode, 2 digits of the live bits, start and length
-- of 5 digits, a sign and 5 digits of the move
abbrev pub line_limit : ℕ
line_limit = 4 + (1 + 1) + (1 + 1) + (1 + 1) + (1 + 2) + (1 + 5) + (1 + 5) + (1 + 6) + 1

-- line T: two counts of 4 digits, 3 digits of the percent, 5 of the held bytes
abbrev pub last_limit : ℕ
last_limit = 1 + (1 + 4) + (1 + 4) + (1 + 3) + (1 + 5) + 1

-- line one, a line for each event, and line T
abbrev pub listing_limit : ℕ
listing_limit = first_limit + event_limit * line_limit + last_limit

-- ---- What replay leaves

-- its answer, and the lent output
pub record Replayed : Type 0 where
  pub answer : Result ℕ TooShort
  pub output : List ℕ

abbrev pub replayed : Result ℕ TooShort → List ℕ → Replayed
replayed answer output = record { answer = answer; output = output }

-- a text goes to the start of an output that is long enough, and the bytes after it stay; a shorter output stays whole
unfoldable pub delivered : List ℕ → List ℕ → Replayed
delivered text output =
    pick (leb (length text) (length output)) (replayed (Ok (length text)) (text ++ drop (length text) output))
    (replayed (Err (record { needed = length text })) output)

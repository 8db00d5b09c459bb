-- The terms of demand 3's two statements, `book_kept` and `alike` (proofs/Demand3.antt). w is the slot count.
use Rattle.std.specs.Prelude.{◌≡◌, true, List, [], ◌∷◌, ◌++◌, ◌⊎◌, ℕ, ◌+◌, ◌≤◌, ◌<◌, length, drop, replicate}
use Rattle.buffer_pool.specs.declared.buffer_pool.BufferPool.{BufferPool}
use Rattle.buffer_pool.specs.declared.buffer_pool.Memory.TheVariants.{Pool}
use Rattle.buffer_pool.specs.declared.buffer_pool.Place.{Place}
use Rattle.buffer_pool.specs.Values.{Response, no_place, no_handle, valued, values, View}
use Rattle.buffer_pool.specs.Moves.{Memories, memories}
use Rattle.buffer_pool.specs.Sound.{Held}
use Rattle.buffer_pool.specs.Steps.{refused, at, frame, reservation, names}
use Rattle.buffer_pool.specs.declared.refusals.Refusal.TheVariants.{WrongLength}
use Rattle.buffer_pool.specs.Calls.{Outcome, outcome, misfit, shown, frame_view, reservation_view, bytes_at, Lies}
use Rattle.buffer_pool.specs.Vocabulary.{Part, TheFrame, TheReservation, TheSlice, Call, Reserve, Commit, Truncate, Take, Release, Look, destination_of, view_of, call}
use Rattle.book.specs.Entries.{Entry, Own, Other, Write, State, happens, next}
use Rattle.book.specs.Book.{Pair, Book, noted}

-- ---- The first part: the book is kept

-- the pair is one of those of the book
abbrev pub Member : Pair → List Pair → Type 0
Member x [] = ⊥
Member x (y ∷ pairs) = (x ≡ y) ⊎ Member x pairs

-- the place of a handle's slice
abbrev pub slice_of : Pair → Place
slice_of x = at Pool x.handle.start x.handle.length

-- byte i of the pool lies in the place
abbrev pub Covers : Place → ℕ → Type 0
Covers p i = (p.memory ≡ Pool) × (p.start ≤ i) × (i < p.start + p.length)

-- SPECIFICATION 8.3: "no byte of the pool memory in common"
abbrev pub Apart : Place → Place → Type 0
Apart p q = (i : ℕ) → Covers p i → Covers q i → ⊥

-- each pair's slice apart from that of every pair after it
abbrev pub AllApart : List Pair → Type 0
AllApart [] = Unit
AllApart (x ∷ pairs) = ((y : Pair) → Member y pairs → Apart (slice_of x) (slice_of y)) × AllApart pairs

-- the view is not refused; it is of this place, which lies inside its memory and holds these bytes
pub record Shows (w : ℕ) (s : State) (v : Part) (p : Place) (bytes : List ℕ) : Type 0 where
  pub view : view_of w s.pool s.lent v ≡ shown p
  pub inside : Lies s.lent p
  pub holds : bytes_at s.lent p ≡ bytes

-- what holds of record, memories and book, before the first entry and after each
pub record Kept (w : ℕ) (s : State) (b : Book) : Type 0 where
  -- w is the record's own slot count, as the contracts of the calls have it
  pub count : s.pool.slots ≡ w
  -- 8.4, 1: "the handles in the book are those of the live slots, one for each": a handle in the book names a live slot, with
  -- that slot's start, length, serial and caller, and every live slot has its handle in the book
  pub live : (x : Pair) → Member x b.pairs → names w s.pool x.handle ≡ true
  pub booked : (p : ℕ) → Held w s.pool.live p → (x : Pair) × Member x b.pairs × (x.handle.slot ≡ p)
  -- 8.4, 2: "every live slice lies inside the pool memory, and the view of its handle shows exactly the bytes that the book has
  -- for it"; 4: "the views of frame and reservation show F and R"
  pub slices : (x : Pair) → Member x b.pairs → Shows w s (TheSlice x.handle) (slice_of x) x.bytes
  pub gathered : Shows w s TheFrame (frame s.pool) b.F
  pub offered : Shows w s TheReservation (reservation s.pool) b.R
  -- 8.4, 3: "live slices are apart from each other, from the frame and from the reservation"
  pub apart : AllApart b.pairs
  pub apart_frame : (x : Pair) → Member x b.pairs → Apart (slice_of x) (frame s.pool)
  pub apart_reservation : (x : Pair) → Member x b.pairs → Apart (slice_of x) (reservation s.pool)
  -- 8.4, 5: "a take that copies leaves F at the start of its destination, and the destination's other bytes as they were", whatever
  -- caller takes now and whatever destination it is lent
  pub copied : (caller : ℕ) (destination : List ℕ) (n : ℕ) → let o = call w s.pool s.lent (Take caller destination) in
      values o.call.answer ≡ valued 0 no_place no_handle n 0
      → (n ≡ length b.F) × (o.destination ≡ b.F ++ drop n destination)
  -- 8.1, of a call lent "memories of other lengths": "it is refused with 2", whichever call is made now, and changes nothing:
  -- neither the record nor the memories and the destination that it was lent
  pub refused_other : (m : Memories) (c : Call) → misfit s.pool m ≡ true
      → call w s.pool m c ≡ outcome (refused s.pool WrongLength) m (destination_of c)

-- one statement over the whole list: `Kept` before the first entry and after each
unfoldable pub Always : ℕ → State → Book → List Entry → Type 0
Always w s b [] = Kept w s b
Always w s b (e ∷ es) = Kept w s b × Always w (next w s e) (noted w s b e) es

-- ---- The second part: two lists alike

-- bytes of this length, all 0
abbrev pub blank : List ℕ → List ℕ
blank bytes = replicate (length bytes) 0

abbrev pub blank_memories : Memories → Memories
blank_memories m = memories (blank m.pool) (blank m.overflow)

abbrev pub blank_call : Call → Call
blank_call (Reserve len) = Reserve len
blank_call (Commit n) = Commit n
blank_call (Truncate n) = Truncate n
blank_call (Take caller destination) = Take caller (blank destination)
blank_call (Release h) = Release h
blank_call (Look v) = Look v

-- the calls of a list, every lent byte made 0 and the writes left out: two lists are, by 8.5, "alike in slot count, calls, handles and
-- lengths" if they have one w and these are equal
unfoldable pub calls : List Entry → List Entry
calls [] = []
calls (Own c ∷ es) = Own (blank_call c) ∷ calls es
calls (Other m c ∷ es) = Other (blank_memories m) (blank_call c) ∷ calls es
calls (Write v i byte ∷ es) = calls es

-- what is seen at a call: its answer (refusal, place, handle with its serial and caller, count of mode changes), the record it
-- leaves (mode, live slots, their places, serials and callers), and frame and reservation as viewed then
pub record Seen : Type 0 where
  pub answer : Response
  pub pool : BufferPool
  pub frame : View
  pub reservation : View

abbrev pub seen_at : ℕ → Outcome → Seen
seen_at w o =
    record {
      answer = o.call.answer;
      pool = o.call.pool;
      frame = frame_view w o.call.pool o.memory;
      reservation = reservation_view w o.call.pool o.memory;
    }

-- what is seen, by 8.5, "at every call" of a list
unfoldable pub seen : ℕ → State → List Entry → List Seen
seen w s [] = []
seen w s (Own c ∷ es) = seen_at w (happens w s (Own c)) ∷ seen w (next w s (Own c)) es
seen w s (Other m c ∷ es) = seen_at w (happens w s (Other m c)) ∷ seen w (next w s (Other m c)) es
seen w s (Write v i byte ∷ es) = seen w (next w s (Write v i byte)) es

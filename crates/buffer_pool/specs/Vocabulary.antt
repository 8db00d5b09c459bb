-- The words of demands 1, 2 and 3: the calls on a pool and the writes through its views, what each answers and leaves, and which
-- answers are results. The calls themselves are those of Calls.antt, by which the contracts of the public functions are stated. w is
-- the slot count.
use Rattle.std.specs.Prelude.{◌≡◌, Ok, Err, List, [], ◌⊎◌, ℕ, ◌<◌}
use Rattle.buffer_pool.specs.declared.slice.Handle.{Handle}
use Rattle.buffer_pool.specs.declared.buffer_pool.BufferPool.{BufferPool}
use Rattle.buffer_pool.specs.declared.buffer_pool.Memory.TheVariants.{Pool}
use Rattle.buffer_pool.specs.declared.buffer_pool.Place.{Place}
use Rattle.buffer_pool.specs.declared.buffer_pool.Answer.TheVariants.{Done, Framed}
use Rattle.buffer_pool.specs.declared.buffer_pool.Called.{Called}
use Rattle.buffer_pool.specs.Values.{Response, View, view_place, no_place, no_handle, valued, values, refusal}
use Rattle.buffer_pool.specs.Moves.{Memories}
use Rattle.buffer_pool.specs.Steps.{called, at, frame, reservation}
use Rattle.buffer_pool.specs.Calls.{Outcome, outcome, reserve, commit, truncate, take, release, frame_view, reservation_view, slice_view, written}

-- ---- The calls

-- what a view shows, and a write is made through
pub data Part : Type 0 where
  TheFrame : Part
  TheReservation : Part
  TheSlice : Handle → Part

pub data Call : Type 0 where
  Reserve : ℕ → Call
  Commit : ℕ → Call
  Truncate : ℕ → Call
  -- by this caller, with this destination
  Take : ℕ → List ℕ → Call
  Release : Handle → Call
  -- a view, or the call with the same arguments that tells its number
  Look : Part → Call

-- the destination lent to a call
abbrev pub destination_of : Call → List ℕ
destination_of (Reserve len) = []
destination_of (Commit n) = []
destination_of (Truncate n) = []
destination_of (Take caller destination) = destination
destination_of (Release h) = []
destination_of (Look part) = []

-- ---- What a call answers and leaves

unfoldable pub view_of : ℕ → BufferPool → Memories → Part → View
view_of w r m TheFrame = frame_view w r m
view_of w r m TheReservation = reservation_view w r m
view_of w r m (TheSlice h) = slice_view w r m h

-- a view's answer: `Framed` is the answer that is a place
unfoldable pub view_answer : View → Response
view_answer (Ok place) = Ok (Framed place)
view_answer (Err why) = Err why

-- the call on a record and two lent memories; a view leaves everything
unfoldable pub call : ℕ → BufferPool → Memories → Call → Outcome
call w r m (Reserve len) = reserve w r m len
call w r m (Commit n) = commit w r m n
call w r m (Truncate n) = truncate w r m n
call w r m (Take caller destination) = take w r m caller destination
call w r m (Release h) = release w r m h
call w r m (Look part) = outcome (called r (view_answer (view_of w r m part))) m []

-- the number of its refusal, or 0
unfoldable pub number_of : ℕ → BufferPool → Memories → Call → ℕ
number_of w r m c = refusal (call w r m c).call.answer

-- ---- What a write answers and leaves (SPECIFICATION 7.10)

abbrev pub done_unless : View → Response
done_unless (Ok place) = Ok Done
done_unless (Err why) = Err why

-- this byte at this index of what a view shows: "refused as its view is"; it "changes no record"
abbrev pub write : ℕ → BufferPool → Memories → Part → ℕ → ℕ → Outcome
write w r m part i byte =
    outcome (called r (done_unless (view_of w r m part))) (written m (view_place (view_of w r m part)) i byte) []

-- ---- Results and refusals, by what an answer says

-- what a view shows that is not refused (SPECIFICATION 7.9)
abbrev pub part_of : Part → BufferPool → Place
part_of TheFrame r = frame r
part_of TheReservation r = reservation r
part_of (TheSlice h) r = at Pool h.start h.length

-- the answer is a result of the call, by the table of SPECIFICATION 3.1: of a reserve the reservation, with the count of mode
-- changes; of a commit and a truncate the frame; of a take a handle with a slot, or a copied length; of a view what it shows
unfoldable pub Result : Call → Called → Type 0
Result (Reserve len) c = (changes : ℕ) × (values c.answer ≡ valued 0 (reservation c.pool) no_handle 0 changes)
Result (Commit n) c = values c.answer ≡ valued 0 (frame c.pool) no_handle 0 0
Result (Truncate n) c = values c.answer ≡ valued 0 (frame c.pool) no_handle 0 0
Result (Take caller destination) c =
    ((h : Handle) × (0 < h.slot) × (values c.answer ≡ valued 0 no_place h 0 0))
    ⊎ ((n : ℕ) × (values c.answer ≡ valued 0 no_place no_handle n 0))
Result (Release h) c = values c.answer ≡ valued 0 no_place no_handle 0 0
Result (Look part) c = values c.answer ≡ valued 0 (part_of part c.pool) no_handle 0 0

-- the answer is a refusal with this number: it says nothing else
abbrev pub Refusal : ℕ → Called → Type 0
Refusal k c = values c.answer ≡ valued k no_place no_handle 0 0

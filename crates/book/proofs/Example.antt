-- The books of two short lists and what the pool shows beside them, by computing: a pool of 4 bytes and an overflow of 4, at 8
-- slots. In the second, two callers hold slices of one serial. Assumes nothing.
use mathlib.Core.Path.{◌≡◌, refl}
use mathlib.Core.List.{List, [], ◌∷◌, map}
use Rattle.buffer_pool.specs.declared.buffer_pool.Memory.TheVariants.{Pool, Overflow}
use Rattle.buffer_pool.specs.declared.buffer_pool.Answer.TheVariants.{Done, Reserved, Framed, Taken, Copied}
use Rattle.buffer_pool.specs.declared.slice.Handle.{Handle}
use Rattle.buffer_pool.specs.declared.refusals.Refusal.TheVariants.{WrongLength, CommitTooLong, DestinationTooShort, NotLive, UnknownCaller}
use Rattle.std.specs.Prelude.{Ok, Err}
use Rattle.buffer_pool.specs.Values.{Response}
use Rattle.buffer_pool.specs.Record.{rust_slots}
use Rattle.buffer_pool.specs.Moves.{memories}
use Rattle.buffer_pool.specs.Steps.{at, frame, reservation}
use Rattle.buffer_pool.specs.Calls.{bytes_at}
use Rattle.buffer_pool.specs.Vocabulary.{TheFrame, TheReservation, TheSlice, Reserve, Commit, Truncate, Take, Release, Look, view_of, view_answer, call}
use Rattle.buffer_pool.specs.Computing.{definitions}
use Rattle.book.specs.Entries.{Entry, Own, Other, Write, State, opened, happens, next}
use Rattle.book.specs.Book.{Pair, pair, Book, book, empty_book, same_handle, without, rewritten, noted}
use Rattle.book.specs.Demand3.{slice_of}

-- an entry, its answer, the book after it, and frame, reservation and slices as shown then
record Line : Type 0 where
  entry : Entry
  answer : Response
  noted : Book
  shown : Book

abbrev line : Entry → Response → Book → Line
line e a b = record { entry = e; answer = a; noted = b; shown = b }

abbrev shown_beside : State → Book → Book
shown_beside s b =
    book (bytes_at s.lent (frame s.pool)) (bytes_at s.lent (reservation s.pool))
    (map (λ (x : Pair). pair x.handle (bytes_at s.lent (slice_of x))) b.pairs)

told : State → Book → List Entry → List Line
told s b [] = []
told s b (e ∷ es) =
    record {
      entry = e;
      answer = (happens rust_slots s e).call.answer;
      noted = noted rust_slots s b e;
      shown = shown_beside (next rust_slots s e) (noted rust_slots s b e);
    }
    ∷ told (next rust_slots s e) (noted rust_slots s b e) es

-- the handle of the first take, and an invented one of the same slot
abbrev first : Handle
first = record { slot = 1; start = 0; length = 2; serial = 1; caller = 0 }

abbrev invented : Handle
invented = record { slot = 1; start = 0; length = 2; serial = 2; caller = 0 }

lines : List Line
lines =
    line (Own (Reserve 3)) (Ok (Reserved (at Pool 0 3) 0)) (book [] (0 ∷ 0 ∷ 0 ∷ []) [])
    ∷ line (Write TheReservation 1 7) (Ok Done) (book [] (0 ∷ 7 ∷ 0 ∷ []) [])
    ∷ line (Own (Commit 4)) (Err CommitTooLong) (book [] (0 ∷ 7 ∷ 0 ∷ []) [])
    ∷ line (Own (Commit 2)) (Ok (Framed (at Pool 0 2))) (book (0 ∷ 7 ∷ []) [] [])
    ∷ line (Own (Take 0 [])) (Ok (Taken first)) (book [] [] (pair first (0 ∷ 7 ∷ []) ∷ []))
    ∷ line (Own (Reserve 3)) (Ok (Reserved (at Overflow 0 3) 1)) (book [] (0 ∷ 0 ∷ 0 ∷ []) (pair first (0 ∷ 7 ∷ []) ∷ []))
    ∷ line (Write (TheSlice first) 0 6) (Ok Done) (book [] (0 ∷ 0 ∷ 0 ∷ []) (pair first (6 ∷ 7 ∷ []) ∷ []))
    ∷ line (Write (TheSlice invented) 0 8) (Err NotLive) (book [] (0 ∷ 0 ∷ 0 ∷ []) (pair first (6 ∷ 7 ∷ []) ∷ []))
    ∷ line (Write TheReservation 0 5) (Ok Done) (book [] (5 ∷ 0 ∷ 0 ∷ []) (pair first (6 ∷ 7 ∷ []) ∷ []))
    ∷ line (Own (Commit 3)) (Ok (Framed (at Overflow 0 3))) (book (5 ∷ 0 ∷ 0 ∷ []) [] (pair first (6 ∷ 7 ∷ []) ∷ []))
    ∷ line (Own (Truncate 1)) (Ok (Framed (at Overflow 0 1))) (book (5 ∷ []) [] (pair first (6 ∷ 7 ∷ []) ∷ []))
    ∷ line (Write TheFrame 1 9) (Ok Done) (book (5 ∷ []) [] (pair first (6 ∷ 7 ∷ []) ∷ []))
    ∷ line (Own (Take 0 [])) (Err DestinationTooShort) (book (5 ∷ []) [] (pair first (6 ∷ 7 ∷ []) ∷ []))
    ∷ line (Own (Take 0 (1 ∷ 2 ∷ []))) (Ok (Copied 1)) (book [] [] (pair first (6 ∷ 7 ∷ []) ∷ []))
    ∷ line (Own (Look (TheSlice first))) (Ok (Framed (at Pool 0 2))) (book [] [] (pair first (6 ∷ 7 ∷ []) ∷ []))
    ∷ line (Own (Release invented)) (Err NotLive) (book [] [] (pair first (6 ∷ 7 ∷ []) ∷ []))
    ∷ line (Other (memories [] []) (Release first)) (Err WrongLength) (book [] [] (pair first (6 ∷ 7 ∷ []) ∷ []))
    ∷ line (Own (Release first)) (Ok Done) (book [] [] [])
    ∷ line (Own (Release first)) (Err NotLive) (book [] [] [])
    ∷ line (Write (TheSlice first) 0 8) (Err NotLive) (book [] [] [])
    ∷ []

-- the slices of callers 2 and 3, and a handle of the second slot with the first one's caller
abbrev second : Handle
second = record { slot = 1; start = 0; length = 2; serial = 1; caller = 2 }

abbrev third : Handle
third = record { slot = 2; start = 2; length = 1; serial = 1; caller = 3 }

abbrev exchanged : Handle
exchanged = record { slot = 2; start = 2; length = 1; serial = 1; caller = 2 }

two_callers : List Line
two_callers =
    line (Own (Take 4 [])) (Err UnknownCaller) (book [] [] [])
    ∷ line (Own (Reserve 2)) (Ok (Reserved (at Pool 0 2) 0)) (book [] (0 ∷ 0 ∷ []) [])
    ∷ line (Own (Commit 2)) (Ok (Framed (at Pool 0 2))) (book (0 ∷ 0 ∷ []) [] [])
    ∷ line (Own (Take 4 [])) (Err UnknownCaller) (book (0 ∷ 0 ∷ []) [] [])
    ∷ line (Own (Take 2 [])) (Ok (Taken second)) (book [] [] (pair second (0 ∷ 0 ∷ []) ∷ []))
    ∷ line (Own (Reserve 1)) (Ok (Reserved (at Pool 2 1) 0)) (book [] (0 ∷ []) (pair second (0 ∷ 0 ∷ []) ∷ []))
    ∷ line (Own (Commit 1)) (Ok (Framed (at Pool 2 1))) (book (0 ∷ []) [] (pair second (0 ∷ 0 ∷ []) ∷ []))
    ∷ line (Own (Take 3 [])) (Ok (Taken third)) (book [] [] (pair third (0 ∷ []) ∷ pair second (0 ∷ 0 ∷ []) ∷ []))
    ∷ line (Write (TheSlice exchanged) 0 8) (Err NotLive) (book [] [] (pair third (0 ∷ []) ∷ pair second (0 ∷ 0 ∷ []) ∷ []))
    ∷ line (Write (TheSlice third) 0 8) (Ok Done) (book [] [] (pair third (8 ∷ []) ∷ pair second (0 ∷ 0 ∷ []) ∷ []))
    ∷ line (Own (Release exchanged)) (Err NotLive) (book [] [] (pair third (8 ∷ []) ∷ pair second (0 ∷ 0 ∷ []) ∷ []))
    ∷ line (Own (Release second)) (Ok Done) (book [] [] (pair third (8 ∷ []) ∷ []))
    ∷ line (Own (Look (TheSlice third))) (Ok (Framed (at Pool 2 1))) (book [] [] (pair third (8 ∷ []) ∷ []))
    ∷ []

entries : List Line → List Entry
entries [] = []
entries (l ∷ ls) = l.entry ∷ entries ls

abbrev start : State
start = opened rust_slots (memories (9 ∷ 9 ∷ 9 ∷ 9 ∷ []) (4 ∷ 3 ∷ 2 ∷ 1 ∷ []))

example : told start empty_book (entries lines) ≡ lines
unfolding told entries lines definitions call view_of view_answer same_handle without rewritten
example = refl

two_callers_lem : told start empty_book (entries two_callers) ≡ two_callers
unfolding told entries two_callers definitions call view_of view_answer same_handle without rewritten
two_callers_lem = refl

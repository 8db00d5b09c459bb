-- The book, SPECIFICATION 8.2. It sees each entry, its answer and, at a reserve, the bytes in the range answered when it returns;
-- it sees neither record nor memories. What is quoted is of 8.2.
use Rattle.std.specs.Prelude.{Bool, ◌&&◌, List, [], ◌∷◌, ◌++◌, map, ℕ, zero, suc, eqb, set, take}
use Rattle.laws.specs.Tests.{pick}
use Rattle.buffer_pool.specs.declared.slice.Handle.{Handle}
use Rattle.buffer_pool.specs.Values.{Values, values}
use Rattle.buffer_pool.specs.Calls.{bytes_at}
use Rattle.buffer_pool.specs.Vocabulary.{Part, TheFrame, TheReservation, TheSlice, Call, Reserve, Commit, Truncate, Take, Release, Look}
use Rattle.book.specs.Entries.{Entry, Own, Other, Write, State, happens}

pub record Pair : Type 0 where
  pub handle : Handle
  pub bytes : List ℕ

abbrev pub pair : Handle → List ℕ → Pair
pair handle bytes = record { handle = handle; bytes = bytes }

-- "It has a frame F and an offer R, both rows of bytes, and pairs of a handle and a row of bytes, all empty at first."
pub record Book : Type 0 where
  pub F : List ℕ
  pub R : List ℕ
  pub pairs : List Pair

abbrev pub book : List ℕ → List ℕ → List Pair → Book
book F R pairs = record { F = F; R = R; pairs = pairs }

abbrev pub empty_book : Book
empty_book = book [] [] []

-- two handles of the same five numbers: two live slices may have one serial, with two callers
unfoldable pub same_handle : Handle → Handle → Bool
same_handle h k =
    eqb h.slot k.slot && (eqb h.start k.start && (eqb h.length k.length
    && (eqb h.serial k.serial && eqb h.caller k.caller)))

-- the pairs but for this handle's
unfoldable pub without : Handle → List Pair → List Pair
without h [] = []
without h (x ∷ pairs) = pick (same_handle x.handle h) (without h pairs) (x ∷ without h pairs)

-- a pair with this byte set, if it is this handle's
unfoldable pub rewritten : Handle → ℕ → ℕ → Pair → Pair
rewritten h i byte x = pick (same_handle x.handle h) (pair x.handle (set x.bytes i byte)) x

-- "the pair of handle and F enters"
abbrev pub entered_in : ℕ → Handle → List ℕ → List Pair → List Pair
entered_in zero h F pairs = pairs
entered_in (suc k) h F pairs = pair h F ∷ pairs

abbrev pub entered : Values → List ℕ → List Pair → List Pair
entered v F pairs = entered_in v.handle.slot v.handle F pairs

-- an unrefused call, what its answer says, and the bytes in the range answered, which the clause of a reserve alone reads
abbrev pub note_call : Book → Call → Values → List ℕ → Book
-- "R becomes those bytes"
note_call b (Reserve len) v bytes = book b.F bytes b.pairs
-- "F gains the first `len` bytes of R; R becomes empty"; "F keeps at most its first `len` bytes; R becomes empty"
note_call b (Commit n) v bytes = book (b.F ++ take n b.R) [] b.pairs
note_call b (Truncate n) v bytes = book (take n b.F) [] b.pairs
-- "F and R become empty"
note_call b (Take caller destination) v bytes = book [] [] (entered v b.F b.pairs)
-- "the pair with that handle leaves"
note_call b (Release h) v bytes = book b.F b.R (without h b.pairs)
-- a view: "nothing"
note_call b (Look part) v bytes = b

-- "the byte at that index of R, of F, or of the row of the pair with that handle is set; past the end, none"
abbrev pub note_write : Book → Part → ℕ → ℕ → Book
note_write b TheReservation i byte = book b.F (set b.R i byte) b.pairs
note_write b TheFrame i byte = book (set b.F i byte) b.R b.pairs
note_write b (TheSlice h) i byte = book b.F b.R (map (rewritten h i byte) b.pairs)

-- "any refused call": nothing; so a call lent memories of other lengths changes nothing
abbrev pub note : Book → Entry → Values → List ℕ → Book
note b (Own c) v bytes = pick (eqb v.number 0) (note_call b c v bytes) b
note b (Other m c) v bytes = b
note b (Write part i byte) v bytes = note_write b part i byte

-- what is said at an entry
abbrev pub said_at : ℕ → State → Entry → Values
said_at w s e = values (happens w s e).call.answer

-- the book after an entry: it is told what was said and, "at a reserve, the bytes in the range answered when the reserve returns"
abbrev pub noted : ℕ → State → Book → Entry → Book
noted w s b e = note b e (said_at w s e) (bytes_at (happens w s e).memory (said_at w s e).place)

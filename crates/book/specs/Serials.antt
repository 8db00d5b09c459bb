-- The terms of W-205's statements, `serials_own`, `serials_from_one` and `one_slice_of_a_serial` (proofs/Demand3.antt): what a list
-- tells of a caller's takes, from its calls and their answers alone. w is the slot count.
use Rattle.std.specs.Prelude.{List, [], ◌∷◌, ℕ, zero, suc, ◌+◌, min, eqb}
use Rattle.laws.specs.Tests.{pick}
use Rattle.buffer_pool.specs.Values.{Values}
use Rattle.buffer_pool.specs.Vocabulary.{Call, Reserve, Commit, Truncate, Take, Release, Look}
use Rattle.book.specs.Entries.{Entry, Own, Other, Write, State, next}
use Rattle.book.specs.Book.{Book, said_at, noted}

-- 1 for a take by this caller that gave a slice of the pool: its handle has a slot
abbrev pub pooled_call : ℕ → Call → Values → ℕ
pooled_call caller (Reserve len) v = 0
pooled_call caller (Commit n) v = 0
pooled_call caller (Truncate n) v = 0
pooled_call caller (Take by destination) v = pick (eqb by caller) (min v.handle.slot 1) 0
pooled_call caller (Release h) v = 0
pooled_call caller (Look part) v = 0

abbrev pub pooled_take : ℕ → Entry → Values → ℕ
pooled_take caller (Own c) v = pooled_call caller c v
pooled_take caller (Other m c) v = pooled_call caller c v
pooled_take caller (Write part i byte) v = 0

-- how many pooled takes of the caller the entries have
unfoldable pub pooled_takes : ℕ → State → List Entry → ℕ → ℕ
pooled_takes w s [] caller = 0
pooled_takes w s (e ∷ es) caller = pooled_take caller e (said_at w s e) + pooled_takes w (next w s e) es caller

-- what the entries leave
unfoldable pub after_all : ℕ → State → List Entry → State
after_all w s [] = s
after_all w s (e ∷ es) = after_all w (next w s e) es

-- the book after the entries
unfoldable pub book_after : ℕ → State → Book → List Entry → Book
book_after w s b [] = b
book_after w s b (e ∷ es) = book_after w (next w s e) (noted w s b e) es

-- a serial more, if the entry is a pooled take
abbrev pub with_serial : ℕ → ℕ → List ℕ → List ℕ
with_serial zero serial rest = rest
with_serial (suc n) serial rest = serial ∷ rest

-- the serials of the caller's pooled takes, in their order
unfoldable pub serials_of : ℕ → State → List Entry → ℕ → List ℕ
serials_of w s [] caller = []
serials_of w s (e ∷ es) caller =
    with_serial (pooled_take caller e (said_at w s e)) (said_at w s e).handle.serial (serials_of w (next w s e) es caller)

-- the n numbers after k
unfoldable pub numbers_after : ℕ → ℕ → List ℕ
numbers_after k zero = []
numbers_after k (suc n) = suc k ∷ numbers_after (suc k) n

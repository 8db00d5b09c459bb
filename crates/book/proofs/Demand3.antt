-- Demand 3, at both slot counts w: `book_kept` is its first part, `alike` its second, over lists that share the count (terms in
-- specs/Demand3.antt); and W-205 on the same lists, `serials_own`, `serials_from_one` and `one_slice_of_a_serial` (terms in
-- specs/Serials.antt). Assumes nothing.
use mathlib.Core.Path.{◌≡◌}
use mathlib.Core.Bool.{true}
use mathlib.Core.List.{List}
use Prim.Native.Nat.{ℕ, suc, ◌≤◌, ◌<◌}
use lib.ListN.{length}
use Rattle.buffer_pool.specs.declared.slice.Handle.{Handle}
use Rattle.buffer_pool.specs.Record.{byte_limit}
use Rattle.buffer_pool.specs.Soundness.{is_slot_count}
use Rattle.buffer_pool.specs.Moves.{Memories}
use Rattle.buffer_pool.specs.Values.{no_place, valued, refusal}
use Rattle.buffer_pool.specs.Calls.{new}
use Rattle.buffer_pool.specs.Vocabulary.{Take}
use Rattle.book.specs.Entries.{Entry, Own, opened}
use Rattle.book.specs.Book.{Pair, empty_book, said_at}
use Rattle.book.specs.Demand3.{Member, Always, calls, seen}
use Rattle.book.specs.Serials.{pooled_takes, after_all, book_after, serials_of, numbers_after}
use Rattle.book.proofs.Keeps.{new_agrees, new_unrefused, always}
use Rattle.book.proofs.Same.{seen_alike}
use Rattle.book.proofs.Serials.{own_serial, own_serials, one_of_serial}

-- 8 or 16 slots and memories within the limit start a list
pub unrefused : (w : ℕ) (m : Memories) → is_slot_count w ≡ true → length m.pool ≤ byte_limit → length m.overflow ≤ byte_limit
    → refusal (new w m).call.answer ≡ 0
unrefused w m i p o = new_unrefused w m i p o

-- from what an unrefused new returned, whatever bytes it was lent: for every list of entries, before the first and after
-- each, the book is kept
pub book_kept : (w : ℕ) (m : Memories) (es : List Entry) → refusal (new w m).call.answer ≡ 0
    → Always w (opened w m) empty_book es
book_kept w m es u = always w es (opened w m) empty_book (new_agrees w m u)

-- with one slot count and from memories of the same lengths, two lists of the same calls, handles and lengths are seen alike at every
-- call, whatever bytes the memories hold and whatever is written
pub alike : (w : ℕ) (m m' : Memories) (es es' : List Entry) → refusal (new w m).call.answer ≡ 0
    → length m.pool ≡ length m'.pool → length m.overflow ≡ length m'.overflow → calls es ≡ calls es'
    → seen w (opened w m) es ≡ seen w (opened w m') es'
alike w m m' es es' u p o e = seen_alike w m m' es es' u p o e

-- W-205, "each caller has its own serials from 1": whatever entries came before, a take that gives a slice gives it its caller, and
-- the serial that follows the caller's pooled takes so far
pub serials_own : (w : ℕ) (m : Memories) (before : List Entry) (caller : ℕ) (destination : List ℕ) (h : Handle)
    → let s = after_all w (opened w m) before in
    said_at w s (Own (Take caller destination)) ≡ valued 0 no_place h 0 0 → 0 < h.slot
    → (h.caller ≡ caller) × (h.serial ≡ suc (pooled_takes w (opened w m) before caller))
serials_own w m before caller destination h e l = own_serial w m before caller destination h l e

-- so over every list a caller's serials are 1, 2, 3, .. up to the count of its pooled takes: they "depend on its own pooled takes
-- alone"
pub serials_from_one : (w : ℕ) (m : Memories) (es : List Entry) (caller : ℕ)
    → serials_of w (opened w m) es caller ≡ numbers_after 0 (pooled_takes w (opened w m) es caller)
serials_from_one w m es caller = own_serials w m es caller

-- and of the live slices no two have one caller and one serial: what is in the book after any entries has one handle for both
pub one_slice_of_a_serial : (w : ℕ) (m : Memories) (es : List Entry) (x y : Pair)
    → let pairs = (book_after w (opened w m) empty_book es).pairs in
    Member x pairs → Member y pairs → x.handle.caller ≡ y.handle.caller → x.handle.serial ≡ y.handle.serial
    → x.handle ≡ y.handle
one_slice_of_a_serial w m es x y = one_of_serial w m es x y

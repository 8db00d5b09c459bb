-- Reading then writing: an accepted file's content passes the tests of 9 and 10 and, written, is the file again. Assumes nothing.
use mathlib.Core.Path.{◌≡◌, refl, sym, ap, ap₂, ◌∙◌}
use mathlib.Core.Bool.{true}
use mathlib.Core.List.{List, [], ◌∷◌, ◌++◌}
use Prim.Native.Nat.{ℕ, zero, suc, ◌+◌, ◌*◌, ◌≤◌}
use native.Mathlib.Nat.{add-zero, add-suc}
use native.Mathlib.Omega.{arith}
use borrow.Author.Tests.{eqb-true, le-leb}
use lib.ListN.{length, get_or, drop, length-drop, take-append-drop}
use lib.Seq.{drop-drop}
use Rattle.std.specs.Prelude.{None}
use Rattle.laws.specs.Lists.{part}
use Rattle.laws.proofs.Lists.{part_add, part_none}
use Rattle.laws.proofs.Tests.{both_true, both, eqb_and}
use Rattle.trace.specs.Trace.{size_limit, file_limit, number_at, event_place, capacity_of, overflow_of, event_count, event_at, byte_count, byte_offset, filler_zero, good_at, first_bad, headed, answer_on, reading}
use Rattle.trace.specs.Content.{Bytes, content, events_from, event_bytes, events_bytes, numbers_bytes, header_numbers, written, fits, first_wrong, checked, Narrow}
use Rattle.trace.proofs.LowBytes.{number_written, number_below, part_cons}
use Rattle.trace.proofs.ReadLaws.{length_events}
use Rattle.trace.proofs.Accepted.{Headed, headed_use, header_same, good_first}

-- the n numbers of the file from `at` on
numbers_from : List ℕ → ℕ → ℕ → List ℕ
numbers_from file at zero = []
numbers_from file at (suc n) = number_at file at ∷ numbers_from file (at + 4) n

-- the n bytes of the file from place at + k on
bytes_from : List ℕ → ℕ → ℕ → ℕ → List ℕ
bytes_from file at k zero = []
bytes_from file at k (suc n) = get_or file (at + k) 0 ∷ bytes_from file at (suc k) n

-- a part of the file, byte by byte
part_bytes : (file : List ℕ) (at k n : ℕ) → at + k + n ≤ length file → part file (at + k) n ≡ bytes_from file at k n
unfolding bytes_from
part_bytes file at k zero h = part_none file (at + k)
part_bytes file at k (suc n) h =
    part_cons file (at + k) n (omega arith)
    ∙ ap (λ (r : List ℕ). get_or file (at + k) 0 ∷ r) (rw (add-suc at k) at (part_bytes file at (suc k) n (omega arith)))

-- two lists one after the other, part by part
join : {a b c d : List ℕ} → a ≡ b → c ≡ d → a ++ c ≡ b ++ d
join p q = ap₂ (λ (x y : List ℕ). x ++ y) p q

-- a part and what follows it
part_rest : (file : List ℕ) (at n : ℕ) → part file at n ++ drop (at + n) file ≡ drop at file
unfolding part
part_rest file at n = rw (← drop-drop n at file) (take-append-drop n (drop at file))

module _ (file : List ℕ) (bytes : Bytes file) where
  -- numbers of the file, written, are their bytes of the file
  numbers_written : (at n : ℕ) → at + 4 * n ≤ length file → numbers_bytes (numbers_from file at n) ≡ part file at (4 * n)
  unfolding numbers_bytes numbers_from
  numbers_written at zero h = sym (part_none file at)
  numbers_written at (suc n) h =
      let more : 4 * suc n ≡ 4 + 4 * n = omega arith in
      rw more (join (number_written file at bytes (omega arith)) (numbers_written (at + 4) n (omega arith)) ∙ sym (part_add file at 4 (4 * n)))

  -- a good event, written, is its eight bytes of the file
  event_written : (i : ℕ) → event_place i + 8 ≤ length file → good_at file i ≡ true → event_bytes (event_at file i) ≡ part file (event_place i) 8
  unfolding event_bytes good_at filler_zero bytes_from
  event_written i h g =
      let first = eqb_and (get_or file (event_place i + 2) 0) 0 (both_true (filler_zero file i) _ g).0 in
      let last = eqb-true (get_or file (event_place i + 3) 0) 0 first.1 in
      let four = rw (add-zero (event_place i), first.0, last) at (part_bytes file (event_place i) 0 4 (omega arith)) in
      join (sym four) (number_written file (event_place i + 4) bytes (omega arith)) ∙ sym (part_add file (event_place i) 4 4)

  -- good events, written, are their bytes of the file
  events_written : (i n : ℕ) → event_place (i + n) ≤ length file → first_bad file i n ≡ None
      → events_bytes (events_from file i n) ≡ part file (event_place i) (8 * n)
  unfolding events_bytes events_from
  events_written i zero h e = sym (part_none file (event_place i))
  events_written i (suc n) h e =
      let first = good_first file i n e in
      let next : event_place (suc i) ≡ event_place i + 8 = omega arith in
      let more : 8 * suc n ≡ 8 + 8 * n = omega arith in
      rw more
      (join
      (event_written i (omega arith) first.0)
      (events_written (suc i) n (omega arith) first.1 ∙ ap (λ (at : ℕ). part file at (8 * n)) next)
      ∙ sym (part_add file (event_place i) 8 (8 * n)))

  module _ (h : Headed file) where
    -- the header, written, is its 24 bytes of the file
    header_written : numbers_bytes (header_numbers (content file)) ≡ part file 0 24
    unfolding header_numbers content numbers_from
    header_written =
        let whole = h.whole in
        let last = h.bytes_last in
        let next = h.bytes_next in
        let first = h.events_first in
        let count = length_events file 0 (event_count file) in
        let rest : length (drop (byte_offset file) file) ≡ byte_count file = length-drop (byte_offset file) file ∙ omega arith in
        let same : header_numbers (content file) ≡ numbers_from file 0 6 = cc in
        ap numbers_bytes same ∙ numbers_written 0 6 (omega arith)

    pub file_written : first_bad file 0 (event_count file) ≡ None → written (content file) ≡ file
    unfolding written content
    file_written e =
        let last = h.bytes_last in
        let next = h.bytes_next in
        let z : 0 + event_count file ≡ event_count file = omega arith in
        join header_written
        (join (events_written 0 (event_count file) (omega arith) e) (ap (λ (at : ℕ). drop at file) next)
        ∙ part_rest file 24 (8 * event_count file))
        ∙ part_rest file 0 24

    -- its content passes the tests of 9
    content_fits : fits (content file) ≡ true
    unfolding fits content
    content_fits =
        let last = h.bytes_last in
        let next = h.bytes_next in
        let within = h.within in
        let count = length_events file 0 (event_count file) in
        let rest = length-drop (byte_offset file) file in
        both (le-leb (capacity_of file) size_limit h.capacity_within)
        (both (le-leb (overflow_of file) size_limit h.overflow_within)
        (le-leb (event_place (length (content file).events) + length (content file).bytes) file_limit (omega arith)))

  -- good events are right
  events_right : (i n : ℕ) → first_bad file i n ≡ None → first_wrong i (events_from file i n) ≡ None
  unfolding events_from first_wrong good_at
  events_right i zero e = refl
  events_right i (suc n) e =
      let first = good_first file i n e in
      rw (both_true (filler_zero file i) _ first.0).1 (events_right (suc i) n first.1)

  -- their numbers are 32-bit
  pub events_narrow : (i n : ℕ) → Narrow (events_from file i n)
  unfolding events_from
  events_narrow i zero j = omega arith
  events_narrow i (suc n) zero = number_below file (event_place i + 4) bytes
  events_narrow i (suc n) (suc j) = events_narrow (suc i) n j

  pub content_checked : headed file ≡ true → first_bad file 0 (event_count file) ≡ None → checked (content file) ≡ reading file
  unfolding checked reading content
  content_checked p q =
      let h = headed_use file p in
      rw (content_fits h, p, q, events_right 0 (event_count file) q) (ap (answer_on true None) (header_same file h))

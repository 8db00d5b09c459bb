-- Writing then reading: the file of a content that passes the tests of 9 and 10 is accepted and holds that content. Assumes nothing.
use mathlib.Core.Path.{◌≡◌, refl, sym, ap, ap₂, ◌∙◌, subst}
use mathlib.Core.Bool.{true}
use mathlib.Core.List.{List, [], ◌∷◌, ◌++◌, append_assoc}
use Prim.Native.Nat.{ℕ, zero, suc, ◌+◌, ◌*◌, ◌^◌, ◌≤◌, ◌<◌}
use native.Mathlib.Omega.{arith}
use borrow.Author.Tests.{leb-true, eq-eqb}
use lib.ListN.{length, get_or, drop, length-append}
use lib.Seq.{get_or-append-add, get_or_at, drop_at}
use Rattle.laws.specs.Tests.{pick}
use Rattle.laws.proofs.Tests.{both, leb_and}
use Rattle.std.specs.Prelude.{Option, Some, Ok}
use Rattle.trace.specs.declared.Event.{Event}
use Rattle.trace.specs.declared.Header.{Header}
use Rattle.trace.specs.Trace.{size_limit, file_limit, number_at, event_count, byte_offset, event_place, event_at, filler_zero, right, good_at, first_bad, header_of, reading}
use Rattle.trace.specs.Content.{Content, content, events_from, low_bytes, event_bytes, events_bytes, numbers_bytes, header_numbers, header_for, written, fits, first_wrong, checked, Narrow}
use Rattle.trace.proofs.LowBytes.{length_low, number_head, number_skip}
use Rattle.trace.proofs.Accepted.{Headed, headed_make, accepted_only}

length_numbers : (vs : List ℕ) → length (numbers_bytes vs) ≡ 4 * length vs
unfolding numbers_bytes
length_numbers [] = refl
length_numbers (v ∷ vs) = length-append (low_bytes 4 v) (numbers_bytes vs) ∙ omega (arith, length_low 4 v, length_numbers vs)

length_event : (e : Event) → length (event_bytes e) ≡ 8
unfolding event_bytes
length_event e = length-append (e.kind ∷ e.caller ∷ 0 ∷ 0 ∷ []) (low_bytes 4 e.number) ∙ omega (arith, length_low 4 e.number)

length_events_bytes : (es : List Event) → length (events_bytes es) ≡ 8 * length es
unfolding events_bytes
length_events_bytes [] = refl
length_events_bytes (e ∷ es) = length-append (event_bytes e) (events_bytes es) ∙ omega (arith, length_event e, length_events_bytes es)

-- each of the numbers that are written is read at its place
numbers_there : (vs rest : List ℕ) (i : ℕ) → ((j : ℕ) → get_or vs j 0 < 256 ^ 4) → i < length vs
    → number_at (numbers_bytes vs ++ rest) (4 * i) ≡ get_or vs i 0
unfolding numbers_bytes
numbers_there [] rest i small h = absurd (omega arith)
numbers_there (v ∷ vs) rest zero small h = rw append_assoc (number_head v (numbers_bytes vs ++ rest) (small 0))
numbers_there (v ∷ vs) rest (suc i) small h =
    let next : 4 * suc i ≡ 4 + 4 * i = omega arith in
    rw (append_assoc, next)
    (number_skip (low_bytes 4 v) (numbers_bytes vs ++ rest) 4 (4 * i) (length_low 4 v) ∙ numbers_there vs rest i (λ j. small (suc j)) (omega arith))

-- an event that is written, at its place
module _ (pre : List ℕ) (a : ℕ) (place : length pre ≡ event_place a) (e : Event) (more : List ℕ) where
  file : List ℕ
  file = pre ++ (event_bytes e ++ more)

  byte_there : (n : ℕ) → get_or file (event_place a + n) 0 ≡ get_or (event_bytes e ++ more) n 0
  unfolding file
  byte_there n = rw (← place) (get_or-append-add pre (event_bytes e ++ more) n 0)

  filler_there : filler_zero file a ≡ true
  unfolding filler_zero event_bytes
  filler_there = both (eq-eqb (get_or file (event_place a + 2) 0) 0 (byte_there 2)) (eq-eqb (get_or file (event_place a + 3) 0) 0 (byte_there 3))

  kind_there : get_or file (event_place a) 0 ≡ e.kind
  unfolding file event_bytes
  kind_there = get_or_at pre e.kind _ 0 (event_place a) place

  caller_there : get_or file (event_place a + 1) 0 ≡ e.caller
  unfolding event_bytes
  caller_there = byte_there 1

  number_there : e.number < 256 ^ 4 → number_at file (event_place a + 4) ≡ e.number
  unfolding file event_bytes
  number_there h =
      number_skip pre (event_bytes e ++ more) (event_place a) 4 place
      ∙ number_skip (e.kind ∷ e.caller ∷ 0 ∷ 0 ∷ []) (low_bytes 4 e.number ++ more) 4 0 refl
      ∙ number_head e.number more h

  event_there : e.number < 256 ^ 4 → event_at file a ≡ e
  event_there h = rw (kind_there, caller_there, number_there h) refl

  good_there : e.number < 256 ^ 4 → good_at file a ≡ right e
  unfolding good_at
  good_there h = rw (filler_there) (ap right (event_there h))

-- the events that are written, and the first bad one of them
events_there : (es : List Event) (pre : List ℕ) (a : ℕ) (rest : List ℕ) → length pre ≡ event_place a → Narrow es
    → (events_from (pre ++ (events_bytes es ++ rest)) a (length es) ≡ es) × (first_bad (pre ++ (events_bytes es ++ rest)) a (length es) ≡ first_wrong a es)
unfolding events_from first_bad first_wrong events_bytes file
events_there [] pre a rest p small = (refl, refl)
events_there (e ∷ es) pre a rest p small =
    let more = events_bytes es ++ rest in
    let next : length (pre ++ event_bytes e) ≡ event_place (suc a) = length-append pre (event_bytes e) ∙ omega (arith, length_event e) in
    let after = events_there es (pre ++ event_bytes e) (suc a) rest next (λ i. small (suc i)) in
    let moved : pre ++ (event_bytes e ++ more) ≡ pre ++ event_bytes e ++ more = sym (append_assoc pre (event_bytes e) more) in
    let there : (events_from (pre ++ (event_bytes e ++ more)) a (suc (length es)) ≡ e ∷ es)
    × (first_bad (pre ++ (event_bytes e ++ more)) a (suc (length es)) ≡ first_wrong a (e ∷ es)) = (
      ap₂ (λ (x : Event) (r : List Event). x ∷ r) (event_there pre a p e more (small 0))
          (subst (λ (f : List ℕ). events_from f (suc a) (length es) ≡ es) (sym moved) after.0),
      rw (good_there pre a p e more (small 0))
          (ap (λ (n : Option ℕ). pick (right e) n (Some (suc a)))
          (subst (λ (f : List ℕ). first_bad f (suc a) (length es) ≡ first_wrong (suc a) es) (sym moved) after.1)),
    ) in
    subst
    (λ (f : List ℕ). (events_from f a (suc (length es)) ≡ e ∷ es) × (first_bad f a (suc (length es)) ≡ first_wrong a (e ∷ es)))
    (ap (λ (f : List ℕ). pre ++ f) (sym (append_assoc (event_bytes e) (events_bytes es) rest))) there

module _ (c : Content) where
  length_written : length (written c) ≡ event_place (length c.events) + length c.bytes
  unfolding written header_numbers
  length_written =
      length-append (numbers_bytes (header_numbers c)) (events_bytes c.events ++ c.bytes)
      ∙ omega (arith, length_numbers (header_numbers c), length-append (events_bytes c.events) c.bytes, length_events_bytes c.events)

  module _ (capacity : c.capacity ≤ size_limit) (overflow : c.overflow ≤ size_limit)
      (end : event_place (length c.events) + length c.bytes ≤ file_limit) (narrow : Narrow c.events) where
    small : (j : ℕ) → get_or (header_numbers c) j 0 < 256 ^ 4
    unfolding header_numbers
    small zero = omega arith
    small (suc zero) = omega arith
    small (suc (suc zero)) = omega arith
    small (suc (suc (suc zero))) = omega arith
    small (suc (suc (suc (suc zero)))) = omega arith
    small (suc (suc (suc (suc (suc zero))))) = omega arith
    small (suc (suc (suc (suc (suc (suc j)))))) = omega arith

    -- the header's number of index i
    there : (i : ℕ) → i < 6 → number_at (written c) (4 * i) ≡ get_or (header_numbers c) i 0
    unfolding written header_numbers
    there i h = numbers_there (header_numbers c) (events_bytes c.events ++ c.bytes) i small (omega arith)

    header_right : Headed (written c)
    unfolding header_numbers
    header_right =
        let size = length_written in
        let n = there 2 (omega arith) in
        let offset = there 5 (omega arith) in
        let count = there 4 (omega arith) in
        let x = there 0 (omega arith) in
        let y = there 1 (omega arith) in
        record {
          whole = omega arith;
          capacity_within = omega arith;
          overflow_within = omega arith;
          events_first = there 3 (omega arith);
          bytes_next = omega arith;
          bytes_last = omega arith;
          within = omega arith;
        }

    header_there : header_of (written c) ≡ header_for c
    unfolding header_numbers
    header_there = cc (there 0 (omega arith), there 1 (omega arith), there 2 (omega arith), there 4 (omega arith))

    all_there : (events_from (written c) 0 (event_count (written c)) ≡ c.events)
        × (first_bad (written c) 0 (event_count (written c)) ≡ first_wrong 0 c.events)
    unfolding written header_numbers
    all_there =
        rw (there 2 (omega arith))
        (events_there c.events (numbers_bytes (header_numbers c)) 0 c.bytes (length_numbers (header_numbers c)) narrow)

    bytes_there : drop (byte_offset (written c)) (written c) ≡ c.bytes
    unfolding written header_numbers
    bytes_there =
        rw (there 5 (omega arith), ← append_assoc)
        (drop_at (numbers_bytes (header_numbers c) ++ events_bytes c.events) c.bytes (event_place (length c.events))
        (length-append (numbers_bytes (header_numbers c)) (events_bytes c.events)
        ∙ omega (arith, length_numbers (header_numbers c), length_events_bytes c.events)))

    content_there : content (written c) ≡ c
    unfolding content header_numbers
    content_there = rw (there 0 (omega arith), there 1 (omega arith), all_there.0, bytes_there) refl

    answer_there : fits c ≡ true → reading (written c) ≡ checked c
    unfolding reading checked
    answer_there f = rw (headed_make (written c) header_right, all_there.1, header_there, f) refl

-- a content that passes the tests of 9 and 10: its file is accepted, and holds it
pub written_read : (c : Content) (h : Header) → checked c ≡ Ok h → Narrow c.events
    → (reading (written c) ≡ Ok h) × (content (written c) ≡ c)
unfolding checked fits
written_read c h p n =
    let f = (accepted_only (fits c) (first_wrong 0 c.events) _ h p).0 in
    let capacity = leb_and c.capacity size_limit f in
    let overflow = leb_and c.overflow size_limit capacity.1 in
    let end = leb-true (event_place (length c.events) + length c.bytes) file_limit overflow.1 in
    (answer_there c capacity.0 overflow.0 end n f ∙ p, content_there c capacity.0 overflow.0 end n)

-- What is known of an accepted file: each clause of its header, that every event is good and no caller above 3, and that the
-- answer's counts are those of its content; and that an old trace is accepted, with caller 0 in every event. Assumes nothing.
use mathlib.Core.Path.{◌≡◌, refl, ◌∙◌}
use mathlib.Core.Bool.{Bool, true, false}
use mathlib.Core.List.{List}
use Prim.Native.Nat.{ℕ, zero, suc, ◌+◌, ◌≤◌, ◌<◌}
use native.Mathlib.Omega.{arith}
use borrow.Author.Tests.{leb-true, eqb-true, le-leb, eq-eqb}
use lib.Dec.{eqb}
use lib.ListN.{length, get_or, drop, length-drop}
use Rattle.laws.specs.Tests.{pick, implies}
use Rattle.laws.proofs.Tests.{both_true, both, leb_and, eqb_and, pick_cases}
use Rattle.std.specs.Prelude.{Option, Some, None, Ok}
use Rattle.trace.specs.declared.Header.{Header}
use Rattle.trace.specs.declared.Event.{Event}
use Rattle.trace.specs.Trace.{header_length, size_limit, file_limit, reserve_kind, take_kind, release_kind, most_caller, event_place, capacity_of, overflow_of, event_count, event_offset, byte_count, byte_offset, complete, sized, in_order, ended, headed, header_of, event_at, filler_zero, has_caller, caller_right, right, good_at, OldEvent, first_bad, answer_on, reading}
use Rattle.trace.specs.Content.{events_from, content, no_event, Callers, header_for}
use Rattle.trace.proofs.ReadLaws.{length_events}

-- caller 0 is right for every kind
caller_zero : (e : Event) → e.caller ≡ 0 → caller_right e ≡ true
unfolding caller_right
caller_zero e z = rw z (pick_cases (λ (t : Bool). t ≡ true) (has_caller e.kind) (λ h. refl) (λ h. refl))

-- a right event's caller is at most 3, whatever its kind
right_caller : (e : Event) → right e ≡ true → e.caller ≤ most_caller
unfolding right caller_right
right_caller e h =
    let kind = leb_and e.kind release_kind (leb_and reserve_kind e.kind h).1 in
    pick_cases (λ (t : Bool). t ≡ true → e.caller ≤ most_caller) (has_caller e.kind) (λ t. leb-true e.caller most_caller)
    (λ t z. omega (arith, eqb-true e.caller 0 z)) (both_true (caller_right e) _ kind.1).0

-- the clauses of a right header
pub record Headed (file : List ℕ) : Type 0 where
  pub whole : header_length ≤ length file
  pub capacity_within : capacity_of file ≤ size_limit
  pub overflow_within : overflow_of file ≤ size_limit
  pub events_first : event_offset file ≡ header_length
  pub bytes_next : byte_offset file ≡ event_place (event_count file)
  pub bytes_last : length file ≡ byte_offset file + byte_count file
  pub within : length file ≤ file_limit

-- a file is accepted, with its header's numbers, only if the header is right and no event is bad
pub accepted_only : (right : Bool) (bad : Option ℕ) (x h : Header) → answer_on right bad x ≡ Ok h → (right ≡ true) × (bad ≡ None) × (x ≡ h)
unfolding answer_on
accepted_only false bad x h e = absurd (cc)
accepted_only true None x h e = (refl, refl, cc)
accepted_only true (Some n) x h e = absurd (cc)

module _ (file : List ℕ) where
  pub headed_use : headed file ≡ true → Headed file
  unfolding headed complete sized in_order ended
  headed_use e =
      let whole = leb_and header_length (length file) e in
      let sizes = both_true (sized file) _ whole.1 in
      let capacity = leb_and (capacity_of file) size_limit sizes.0 in
      let order = both_true (in_order file) _ sizes.1 in
      let next = eqb_and (byte_offset file) (event_place (event_count file)) order.0 in
      let long = leb_and (length file) file_limit order.1 in
      record {
        whole = whole.0;
        capacity_within = capacity.0;
        overflow_within = leb-true (overflow_of file) size_limit capacity.1;
        events_first = eqb-true (event_offset file) header_length next.1;
        bytes_next = next.0;
        bytes_last = eqb-true (length file) (byte_offset file + byte_count file) long.1;
        within = long.0;
      }

  pub headed_make : Headed file → headed file ≡ true
  unfolding headed complete sized in_order ended
  headed_make h =
      both (le-leb header_length (length file) h.whole)
      (both
      (both (le-leb (capacity_of file) size_limit h.capacity_within) (le-leb (overflow_of file) size_limit h.overflow_within))
      (both
      (both (eq-eqb (byte_offset file) (event_place (event_count file)) h.bytes_next) (eq-eqb (event_offset file) header_length h.events_first))
      (both (le-leb (length file) file_limit h.within) (eq-eqb (length file) (byte_offset file + byte_count file) h.bytes_last))))

  -- where none of the n events from index i on is bad, the first is good, and none after it is bad
  pub good_first : (i n : ℕ) → first_bad file i (suc n) ≡ None → (good_at file i ≡ true) × (first_bad file (suc i) n ≡ None)
  unfolding first_bad
  good_first i n e = go (good_at file i) refl e
    where
      go : (g : Bool) → good_at file i ≡ g → pick g (first_bad file (suc i) n) (Some (suc i)) ≡ None → (good_at file i ≡ true) × (first_bad file (suc i) n ≡ None)
      go true p q = (p, q)
      go false p q = absurd (cc)

  -- so no caller of theirs is above 3
  good_callers : (i n : ℕ) → first_bad file i n ≡ None → Callers (events_from file i n)
  unfolding events_from good_at
  good_callers i zero e j = omega arith
  good_callers i (suc n) e zero = right_caller (event_at file i) (both_true (filler_zero file i) _ (good_first i n e).0).1
  good_callers i (suc n) e (suc j) = good_callers (suc i) n (good_first i n e).1 j

  -- an accepted file: its header is right, and no event is bad
  pub accepted_use : (h : Header) → reading file ≡ Ok h → (headed file ≡ true) × (first_bad file 0 (event_count file) ≡ None) × (header_of file ≡ h)
  unfolding reading
  accepted_use h e = accepted_only (headed file) (first_bad file 0 (event_count file)) (header_of file) h e

  -- and no caller is above 3
  pub accepted_callers : (h : Header) → reading file ≡ Ok h → Callers (content file).events
  unfolding content
  accepted_callers h e = good_callers 0 (event_count file) (accepted_use h e).1

  -- the header's counts are those of the content
  pub header_same : Headed file → header_for (content file) ≡ header_of file
  unfolding content
  header_same h =
      let last = h.bytes_last in
      let count = length_events file 0 (event_count file) in
      let rest : length (drop (byte_offset file) file) ≡ byte_count file = length-drop (byte_offset file) file ∙ omega arith in
      rw (count, rest) refl

  pub header_content : (h : Header) → reading file ≡ Ok h → header_for (content file) ≡ h
  header_content h e =
      let facts = accepted_use h e in
      header_same (headed_use facts.0) ∙ facts.2

-- ---- Old traces

module _ (file : List ℕ) where
  -- an old event is good
  old_good : (i : ℕ) → OldEvent file i → good_at file i ≡ true
  unfolding good_at filler_zero right
  old_good i O =
      let e = event_at file i in
      both (both (eq-eqb (get_or file (event_place i + 2) 0) 0 O.second_zero) (eq-eqb (get_or file (event_place i + 3) 0) 0 O.third_zero))
      (both (le-leb reserve_kind e.kind O.kind_is.0) (both (le-leb e.kind release_kind O.kind_is.1)
      (both (caller_zero e O.first_zero) (numbered (eqb e.kind take_kind) refl))))
    where
      numbered : (t : Bool) → eqb (event_at file i).kind take_kind ≡ t → implies t (eqb (event_at file i).number 0) ≡ true
      numbered true k = eq-eqb (event_at file i).number 0 (O.take_zero (eqb-true (event_at file i).kind take_kind k))
      numbered false k = refl

  none_bad : (i n : ℕ) → ((j : ℕ) → i ≤ j → j < i + n → OldEvent file j) → first_bad file i n ≡ None
  unfolding first_bad
  none_bad i zero old = refl
  none_bad i (suc n) old =
      rw (old_good i (old i (omega arith) (omega arith))) (none_bad (suc i) n (λ j l u. old j (omega arith) (omega arith)))

  callers_zero : (i n : ℕ) → ((j : ℕ) → i ≤ j → j < i + n → OldEvent file j) → (k : ℕ)
      → (get_or (events_from file i n) k no_event).caller ≡ 0
  unfolding events_from
  callers_zero i zero old k = refl
  callers_zero i (suc n) old zero = (old i (omega arith) (omega arith)).first_zero
  callers_zero i (suc n) old (suc k) = callers_zero (suc i) n (λ j l u. old j (omega arith) (omega arith)) k

  -- W-205, "Old traces read as caller 0": a file with a right header and old events is accepted, and all its callers are 0
  pub old_traces : headed file ≡ true → ((i : ℕ) → i < event_count file → OldEvent file i)
      → (reading file ≡ Ok (header_of file)) × ((i : ℕ) → (get_or (content file).events i no_event).caller ≡ 0)
  unfolding reading answer_on content
  old_traces h old =
      let all : (j : ℕ) → 0 ≤ j → j < 0 + event_count file → OldEvent file j = λ j l u. old j (omega arith) in
      (rw (h, none_bad 0 (event_count file) all) refl, callers_zero 0 (event_count file) all)

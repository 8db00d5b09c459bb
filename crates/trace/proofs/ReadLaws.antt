-- What reading gives, and what a file holds, from what the code knows where it returns. Assumes nothing.
use mathlib.Core.Path.{◌≡◌, refl, sym, ap, ◌∙◌}
use mathlib.Core.Bool.{Bool, true, false, not}
use mathlib.Core.List.{List, []}
use Prim.Native.Nat.{ℕ, zero, suc, ◌+◌, ◌-◌, ◌≤◌, ◌<◌}
use native.Mathlib.Nat.{add-zero, add-suc, suc-add}
use native.Mathlib.Omega.{arith}
use borrow.Author.Tests.{lt-leb, le-leb}
use lib.ListN.{length, get_or, take, drop, length-drop, drop_of_length-le, get_or-eq_default}
use lib.Seq.{take_all}
use Rattle.std.specs.Prelude.{Option, Some, None, Ok, Err}
use Rattle.laws.proofs.Tests.{not_true, not_false}
use Rattle.trace.specs.declared.Event.{Event}
use Rattle.trace.specs.declared.Refusal.TheVariants.{WrongHeader, BadEvent}
use Rattle.trace.specs.Trace.{capacity_of, overflow_of, event_count, byte_count, byte_offset, headed, first_bad, answer_on, reading, header_of, event_at}
use Rattle.trace.specs.Content.{content, events_from, no_event, bytes_place, moved_on}

module _ (file : List ℕ) (t : Bool) (e : t ≡ headed file) where
  pub header_wrong : not t ≡ true → Err WrongHeader ≡ reading file
  unfolding reading answer_on
  header_wrong h = simp (← e, not_true t h)

  module _ (h : not t ≡ false) (n : ℕ) (p : n ≡ event_count file) (bad : Option ℕ) (q : bad ≡ first_bad file 0 n) where
    by_bad : (b : Option ℕ) → bad ≡ b → answer_on true b (header_of file) ≡ reading file
    unfolding reading
    by_bad b k = rw (← e, not_false t h, ← p, ← q, k) refl

    pub event_bad : (b : ℕ) → bad ≡ Some b → Err (BadEvent b) ≡ reading file
    unfolding answer_on
    event_bad b k = by_bad (Some b) k

    pub accepted : bad ≡ None → (capacity overflow bytes : ℕ) → capacity ≡ capacity_of file → overflow ≡ overflow_of file → bytes ≡ byte_count file
        → Ok (record { capacity = capacity; overflow = overflow; events = n; bytes = bytes }) ≡ reading file
    unfolding answer_on
    accepted k capacity overflow bytes c o b = rw (c, o, b, p) (by_bad None k)

-- the events of a file, by their index
pub length_events : (file : List ℕ) (a n : ℕ) → length (events_from file a n) ≡ n
unfolding events_from
length_events file a zero = refl
length_events file a (suc n) = ap suc (length_events file (suc a) n)

pub get_d_events : (file : List ℕ) (a n i : ℕ) (d : Event) → i < n → get_or (events_from file a n) i d ≡ event_at file (a + i)
unfolding events_from
get_d_events file a zero i d h = absurd (omega arith)
get_d_events file a (suc n) zero d h = rw (add-zero a) refl
get_d_events file a (suc n) (suc i) d h = rw (add-suc a i, ← suc-add a i) (get_d_events file (suc a) n i d (omega arith))

module _ (file : List ℕ) (n : ℕ) (p : n ≡ event_count file) (i : ℕ) where
  pub no_event_lem : n ≤ i → no_event ≡ get_or (content file).events i no_event
  unfolding content
  no_event_lem h = sym (get_or-eq_default (events_from file 0 (event_count file)) no_event (rw (length_events file 0 (event_count file), ← p) h))

  pub some_event : i < n → (e : Event) → e ≡ event_at file i → e ≡ get_or (content file).events i no_event
  unfolding content
  some_event h e q =
      let z : 0 + i ≡ i = omega arith in
      q ∙ sym (rw z at (get_d_events file 0 (event_count file) i no_event (rw (← p) h)))

module _ (file : List ℕ) (at : ℕ) (p : at ≡ byte_offset file) where
  pub no_bytes : length file < at → [] ≡ (content file).bytes
  unfolding content
  no_bytes h = let k : length file ≤ byte_offset file = omega arith in sym (drop_of_length-le file k)

  pub some_bytes : at ≤ length file → take (length file - at) (drop at file) ≡ (content file).bytes
  unfolding content
  some_bytes h = rw (← p) (take_all (length file - at) (drop at file) (rw (length-drop at file) (omega arith)))

  pub no_place : length file < at → (a : ℕ × ℕ) → moved_on a 0 ≡ moved_on a (bytes_place file)
  unfolding bytes_place
  no_place h a = simp (← p, lt-leb at (length file) h)

  pub some_place : at ≤ length file → (a : ℕ × ℕ) → moved_on a at ≡ moved_on a (bytes_place file)
  unfolding bytes_place
  some_place h a = simp (← p, le-leb at (length file) h)

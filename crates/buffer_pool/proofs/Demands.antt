-- Demands 1 and 2, W-203 and W-208, stated over the definitions of specs/Vocabulary.antt, Calls.antt, Causes.antt, Together.antt and
-- RustMoves.antt, with the record's own slot count or, of new, with any. The proofs stand in Answers, RefusedKeeps, ViewPlaces,
-- OnlyForCause, AsTheRust, RustAgrees, RustCalls, Unchanged and Cut. What every call answers has no premise on record or memories
-- (SPECIFICATION 3.2): "Nothing is left to be tested beforehand."; what sets it beside the Rust names a pool of the Rust that stands for
-- them, with the first entries of the record's arrays, as many as it has slots. Assumes nothing.
use mathlib.Core.Path.{◌≡◌, refl, sym, ap, ◌∙◌}
use mathlib.Core.Bool.{true, false, ◌&&◌}
use mathlib.Core.List.{List}
use mathlib.Core.Logic.{◌⊎◌, inl, inr, ◌↔◌}
use Prim.Native.Nat.{ℕ, zero, suc, ◌+◌, ◌≤◌, ◌<◌}
use native.Mathlib.Omega.{arith}
use borrow.Author.Tests.{le-ltb}
use lib.Dec.{ltb}
use lib.ListN.{length}
use Rattle.buffer_pool.specs.declared.buffer_pool.BufferPool.{BufferPool}
use Rattle.buffer_pool.specs.declared.buffer_pool.Memory.TheVariants.{Pool}
use Rattle.buffer_pool.specs.Record.{cut, byte_limit}
use Rattle.buffer_pool.specs.Moves.{Memories, Move, perform}
use Rattle.buffer_pool.specs.Soundness.{is_slot_count, sound}
use Rattle.buffer_pool.specs.Sound.{Orderly}
use Rattle.buffer_pool.specs.Placing.{Decision, most_changes, place}
use Rattle.buffer_pool.specs.Values.{View, view_refusal, view_place, no_place, no_handle, valued, values, refusal}
use Rattle.buffer_pool.specs.Steps.{at, frame}
use Rattle.buffer_pool.specs.declared.refusals.Refusal.TheVariants.{MemoryTooLong, WrongSlotCount}
use Rattle.buffer_pool.specs.Calls.{Outcome, new_refused, new_done, new, reserve, Lies, written}
use Rattle.buffer_pool.specs.Rust.{done, RustPool, rust_reserve}
use Rattle.buffer_pool.specs.RustMoves.{less_self_copies, rust_reserve_moves}
use Rattle.buffer_pool.specs.AsRust.{rust_of, Stands, heap_of}
use Rattle.buffer_pool.specs.Vocabulary.{Part, Call, Reserve, Look, destination_of, view_of, call, number_of, done_unless, write, Result, Refusal}
use Rattle.buffer_pool.specs.Causes.{uses_heap, heap_too_short, causes, new_causes, too_large, wrong_count, First, first_cause}
use Rattle.buffer_pool.specs.Together.{Action, leaves, our_start, accepted, shows, rust_start, rust_shows}
use Rattle.buffer_pool.proofs.ViewPlaces.{part_lies}
use Rattle.buffer_pool.proofs.Answers.{view_number, write_number, call_answers}
use Rattle.buffer_pool.proofs.RefusedKeeps.{refused_keeps, refused_view, past_written, refused_written, new_cases}
use Rattle.buffer_pool.proofs.OnlyForCause.{only_for_cause, new_only_for_cause, other_count, four_is_the_rusts, mirrored, first_is, first_holds}
use Rattle.buffer_pool.proofs.RustAgrees.{moves_agree, moves_perform}
use Rattle.buffer_pool.proofs.RustCalls.{reserve_makes}
use Rattle.buffer_pool.proofs.Unchanged.{call_slots}
use Rattle.buffer_pool.proofs.Cut.{orderly_cut, placed_cut, exact_cut, view_cut, call_cut}
use Rattle.buffer_pool.proofs.AsTheRust.{sequence_count, as_the_rust}

module _ (r : BufferPool) (m : Memories) (c : Call) where
  -- ---- Demand 1

  -- SPECIFICATION 3.2: "Every call answers, for every record, handle, length, caller, slot count and memory: with a result, or with a
  -- refusal": the number of a cause that holds, with none before it
  pub a_result_or_a_refusal : Result c (call r.slots r m c).call
      ⊎ ((k : ℕ) × Refusal k (call r.slots r m c).call × First k (causes r.slots r m c))
  unfolding number_of refusal
  a_result_or_a_refusal = go (number_of r.slots r m c) refl
    where
      go : (n : ℕ) → number_of r.slots r m c ≡ n
          → Result c (call r.slots r m c).call ⊎ ((k : ℕ) × Refusal k (call r.slots r m c).call × First k (causes r.slots r m c))
      go zero e = inl (call_answers r.slots r m c e)
      go (suc k) e =
          let x = refused_keeps r.slots r m c (omega (arith, e)) in
          inr (
            suc k,
            ap (λ (o : Outcome). values o.call.answer) x.1
                ∙ ap (λ (n : ℕ). valued n no_place no_handle 0 0) (ap (λ (o : Outcome). refusal o.call.answer) (sym x.1) ∙ e),
            first_holds k (causes r.slots r m c) (sym (only_for_cause r.slots r m c) ∙ e),
          )

  -- 3.2: "A refused call leaves everything as it was", a take's destination too
  pub a_refusal_changes_nothing : 0 < number_of r.slots r m c
      → ((call r.slots r m c).call.pool ≡ r) × ((call r.slots r m c).memory ≡ m)
      × ((call r.slots r m c).destination ≡ destination_of c)
  a_refusal_changes_nothing h =
      let e = (refused_keeps r.slots r m c h).1 in
      (ap (λ (o : Outcome). o.call.pool) e, ap (λ (o : Outcome). o.memory) e, ap (λ (o : Outcome). o.destination) e)

  -- ---- Demand 2: the refusals

  -- 3.4: "A call is refused with the first cause that holds, and only if one holds": with k exactly where cause k holds and none
  -- before it
  pub refused_only_for_cause : (k : ℕ) → 0 < k → (number_of r.slots r m c ≡ k) ↔ First k (causes r.slots r m c)
  refused_only_for_cause zero h = absurd (omega arith)
  refused_only_for_cause (suc k) h = (
    λ e. first_holds k (causes r.slots r m c) (sym (only_for_cause r.slots r m c) ∙ e),
    λ f. only_for_cause r.slots r m c ∙ first_is (suc k) (causes r.slots r m c) f,
  )

-- SPECIFICATION 3.6: "A refused view is an empty place: the pool memory, start 0, length 0"
pub a_refused_view_is_empty : (r : BufferPool) (m : Memories) (part : Part) → 0 < view_refusal (view_of r.slots r m part)
    → (view_place (view_of r.slots r m part)) ≡ at Pool 0 0
a_refused_view_is_empty r m part h = ap view_place (refused_view r.slots r m part h).1

-- SPECIFICATION 3.1: "A view gives a part of the lent memory": every view's place lies in its memory, whatever record and memories
-- it is asked of; a refused one is empty
pub a_view_lies_in_its_memory : (r : BufferPool) (m : Memories) (part : Part) → Lies m (view_place (view_of r.slots r m part))
a_view_lies_in_its_memory = λ r. part_lies r.slots r

-- a write of one byte through a view (SPECIFICATION 7.10): it is "refused as its view is", for the view's causes and only then
pub a_write_is_refused_as_its_view : (r : BufferPool) (m : Memories) (part : Part) (i byte : ℕ)
    → refusal (write r.slots r m part i byte).call.answer ≡ number_of r.slots r m (Look part)
unfolding number_of call
a_write_is_refused_as_its_view r m part i byte =
    let v = view_of r.slots r m part in write_number v ∙ sym (view_number v)

-- "a refused write sets no byte", and no write changes the record
pub a_refused_write_changes_nothing : (r : BufferPool) (m : Memories) (part : Part) (i byte : ℕ)
    → 0 < refusal (write r.slots r m part i byte).call.answer
    → ((write r.slots r m part i byte).call.pool ≡ r) × ((write r.slots r m part i byte).memory ≡ m)
a_refused_write_changes_nothing r m part i byte h =
    (refl, refused_written r.slots r m part i byte (omega (arith, write_number (view_of r.slots r m part))))

-- "At or past the view's end it sets none."
pub a_write_past_the_end_changes_nothing : (r : BufferPool) (m : Memories) (part : Part) (i byte : ℕ)
    → (view_place (view_of r.slots r m part)).length ≤ i → (write r.slots r m part i byte).memory ≡ m
a_write_past_the_end_changes_nothing r m part = past_written r.slots r m (view_place (view_of r.slots r m part))

-- 4: "the Rust would use the heap, and frame length + `len` exceeds the length of the overflow", for every pool of the Rust that
-- stands for the record and the memories
pub four_when_the_rust_needs_more : (r : BufferPool) (m : Memories) (p : RustPool) (len : ℕ) → sound r.slots r ≡ true
    → Stands (cut r.slots r) m p
    → heap_too_short r.slots r m len
    ≡ (uses_heap (rust_reserve r.slots (suc most_changes) p len) && ltb r.overflow ((frame r).length + len))
four_when_the_rust_needs_more r m p len = four_is_the_rusts r.slots 0 r m p len

-- ---- New, SPECIFICATION 3.5: "New has no causes but 16 and 3, tested in this order. A refused new gives the record of a new pool of 8
-- slots whose two lengths are 0"

pub new_refused_only_for_cause : (w : ℕ) (m : Memories) → refusal (new w m).call.answer ≡ first_cause (new_causes w m)
new_refused_only_for_cause = new_only_for_cause

-- SPECIFICATION 7.1: done, with the record of a new pool of so many slots and of these lengths (which keeps 0 bytes of the overflow),
-- zeros in the pool memory and the overflow as it was; or refused with 16 or 3, and no byte changed
pub new_is_done_or_refused : (w : ℕ) (m : Memories)
    → ((wrong_count w ≡ false) × (too_large m ≡ false) × (new w m ≡ new_done w m))
    ⊎ (((wrong_count w ≡ true) × (new w m ≡ new_refused WrongSlotCount m))
    ⊎ ((wrong_count w ≡ false) × (too_large m ≡ true) × (new w m ≡ new_refused MemoryTooLong m)))
new_is_done_or_refused = new_cases

-- ---- Demand 2: the sequence

new_accepts : (w : ℕ) (m : Memories) → is_slot_count w ≡ true → length m.pool ≤ byte_limit → length m.overflow ≤ byte_limit
    → refusal (new w m).call.answer ≡ 0
unfolding too_large wrong_count new_causes first_cause
new_accepts w m i a b =
    new_only_for_cause w m ∙ rw (i, le-ltb byte_limit (length m.pool) a, le-ltb byte_limit (length m.overflow) b) refl

-- SPECIFICATION 8.6: "For every list, refused calls left out, the Rust gives the same places, modes, counts of mode changes, live
-- slots, lengths and shown bytes, and never panics": given the actions that we do not refuse, it shows at each what we show. With 8
-- slots it is the Rust, with 16 "the widened definition" of W-208
pub every_sequence_as_the_rust : (w : ℕ) (m : Memories) (es : List Action) → is_slot_count w ≡ true
    → length m.pool ≤ byte_limit → length m.overflow ≤ byte_limit
    → rust_shows w (rust_start w m) (accepted w (our_start w m) es) ≡ done (shows w (our_start w m) es)
every_sequence_as_the_rust w m es i a b = as_the_rust w m es (new_accepts w m i a b)

-- and w is the record's own slot count before every action, as the contracts of the calls have it
pub every_sequence_keeps_the_count : (w : ℕ) (m : Memories) (es : List Action) → is_slot_count w ≡ true
    → length m.pool ≤ byte_limit → length m.overflow ≤ byte_limit
    → (leaves w (our_start w m) es).pool.slots ≡ w
every_sequence_keeps_the_count w m es i a b = sequence_count w m es (new_accepts w m i a b)

-- ---- W-203: the moves of a reserve, beside those of every pool of the Rust that stands for the record and the memories

-- there is one for every orderly record and memories of its lengths
pub a_rust_pool_stands : (r : BufferPool) (m : Memories) → Orderly r.slots r → length m.pool ≡ r.capacity
    → length m.overflow ≡ r.overflow → let q = cut r.slots r in Stands q m (rust_of q (heap_of r m) r.reserved)
a_rust_pool_stands r m O a b =
    record { mirrors = mirrored r.slots (cut r.slots r) m (orderly_cut r.slots r O) a b; overflow_size = b }

module _ (r : BufferPool) (m : Memories) (p : RustPool) (T : Stands (cut r.slots r) m p) (len : ℕ) where
  abbrev rusts : List Move
  rusts = rust_reserve_moves r.slots (suc most_changes) p len

  -- SPECIFICATION 6.9: the moves noted are "the Rust's, in its order, less those to the start where the frame already lies in that
  -- memory"
  pub decided_moves_are_the_rusts : Orderly r.slots r → (place r.slots r len).moves ≡ less_self_copies rusts
  decided_moves_are_the_rusts O =
      let P = orderly_cut r.slots r O in
      ap (λ (d : Decision). d.moves) (sym (placed_cut r.slots r len O))
      ∙ moves_agree r.slots 0 (cut r.slots r) (heap_of r m) p len (exact_cut r.slots r P) P T.mirrors

  -- "Either list leaves the same bytes in both memories"
  pub either_list_leaves_the_same_bytes : Orderly r.slots r → perform (place r.slots r len).moves m ≡ perform rusts m
  either_list_leaves_the_same_bytes O =
      let P = orderly_cut r.slots r O in
      ap (λ (d : Decision). perform d.moves m) (sym (placed_cut r.slots r len O))
      ∙ (moves_perform r.slots 0 (cut r.slots r) (heap_of r m) p len (exact_cut r.slots r P) P T.mirrors m).0

  -- and a reserve that is not refused makes them
  pub made_moves_are_the_rusts : refusal (reserve r.slots r m len).call.answer ≡ 0
      → (reserve r.slots r m len).memory ≡ perform (less_self_copies rusts) m
  unfolding call
  made_moves_are_the_rusts u =
      let e = call_cut r.slots r m (Reserve len) in
      ap (λ (o : Outcome). o.memory) (sym e)
      ∙ reserve_makes r.slots (cut r.slots r) m p T (exact_cut r.slots r) 0 len (ap (λ (o : Outcome). refusal o.call.answer) e ∙ u)

-- ---- W-208: the slot count

-- the soundness test knows two counts: on a record with another every call is refused with 1
pub another_count_is_unsound : (r : BufferPool) (m : Memories) (c : Call) → wrong_count r.slots ≡ true → number_of r.slots r m c ≡ 1
another_count_is_unsound r = other_count r.slots r

-- no call changes the count
pub a_call_keeps_the_count : (r : BufferPool) (m : Memories) (c : Call) → (call r.slots r m c).call.pool.slots ≡ r.slots
a_call_keeps_the_count r = call_slots r.slots r

-- entries above the count never matter: of two records that differ in these alone, every call answers the same and leaves the same
-- bytes, and records that again differ in these alone
pub entries_above_never_matter : (r q : BufferPool) (m : Memories) (c : Call) → cut r.slots r ≡ cut r.slots q
    → let o = call r.slots r m c in let o' = call r.slots q m c in
    (o.call.answer ≡ o'.call.answer) × (o.memory ≡ o'.memory) × (o.destination ≡ o'.destination)
    × (cut r.slots o.call.pool ≡ cut r.slots o'.call.pool)
entries_above_never_matter r q m c e =
    let f = sym (call_cut r.slots r m c) ∙ ap (λ (x : BufferPool). call r.slots x m c) e ∙ call_cut r.slots q m c in (
      ap (λ (o : Outcome). o.call.answer) f,
      ap (λ (o : Outcome). o.memory) f,
      ap (λ (o : Outcome). o.destination) f,
      ap (λ (o : Outcome). o.call.pool) f,
    )

-- and every write through a view
pub entries_above_never_matter_in_a_write : (r q : BufferPool) (m : Memories) (part : Part) (i byte : ℕ)
    → cut r.slots r ≡ cut r.slots q
    → let o = write r.slots r m part i byte in let o' = write r.slots q m part i byte in
    (o.call.answer ≡ o'.call.answer) × (o.memory ≡ o'.memory)
entries_above_never_matter_in_a_write r q m part i byte e =
    let f = sym (view_cut r.slots r m part) ∙ ap (λ (x : BufferPool). view_of r.slots x m part) e ∙ view_cut r.slots q m part in
    (ap (λ (v : View). done_unless v) f, ap (λ (v : View). written m (view_place v) i byte) f)

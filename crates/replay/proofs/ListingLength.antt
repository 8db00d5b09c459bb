-- No listing is longer than `listing_limit`. A line is as long as its fields together, and a number below 10 ^ k has at most k digits;
-- the numbers that a line shows are small (ShownSmall.antt), an accepted file has at most `event_limit` events, whose callers are at
-- most 3, and a refused file's one line is short. Assumes nothing.
use mathlib.Core.Path.{◌≡◌, refl}
use mathlib.Core.Bool.{Bool, true, false, cond}
use mathlib.Core.List.{List, [], ◌∷◌, ◌++◌}
use Prim.Native.Nat.{ℕ, zero, suc, ◌+◌, ◌-◌, ◌*◌, ◌≤◌}
use native.Mathlib.Numerals.{add-one}
use native.Mathlib.Omega.{arith}
use lib.Dec.{ltb}
use lib.IntN.{pos, negsuc, ◌-ℤ◌}
use lib.ListN.{length, drop, length-append, length-replicate}
use Rattle.buffer_pool.specs.declared.buffer_pool.BufferPool.{BufferPool}
use Rattle.buffer_pool.specs.Moves.{Memories}
use Rattle.trace.specs.declared.Event.{Event}
use Rattle.trace.specs.declared.Header.{Header}
use Rattle.trace.specs.declared.Refusal.{Refusal}
use Rattle.trace.specs.declared.Refusal.TheVariants.{WrongHeader, BadEvent}
use Rattle.std.specs.Prelude.{Result, Ok, Err}
use Rattle.trace.specs.Trace.{size_limit, event_count, reading}
use Rattle.trace.specs.Content.{Content, content, Callers}
use Rattle.trace.proofs.Accepted.{accepted_use, accepted_callers, headed_use}
use Rattle.trace.proofs.ReadLaws.{length_events}
use Rattle.io.specs.Counts.{IsPrefixLen}
use Rattle.io.proofs.Counting.{prefix_len_of_le}
use Rattle.replay.specs.declared.event.Tally.{Tally}
use Rattle.replay.specs.declared.event.Starts.{Starts}
use Rattle.replay.specs.declared.event.Shown.{Shown}
use Rattle.replay.specs.Text.{hex, signed, spaced, output, wrote}
use Rattle.replay.specs.Percentage.{percent}
use Rattle.replay.specs.HeldBytes.{held}
use Rattle.replay.specs.Run.{Within, Running, left, step}
use Rattle.replay.specs.Listing.{first_line, move_of, line_head, line, last_line, lines, begun_on, listing_on, listing_of, refused_nine, refused_ten, refused, listing_by, listing, event_limit, first_limit, line_limit, last_limit, listing_limit}
use Rattle.replay.proofs.Digits.{decimal_most, decimal_any}
use Rattle.replay.proofs.Kept.{Starting, step_within}
use Rattle.replay.proofs.ListingLaws.{measured, fitted}
use Rattle.replay.proofs.ShownSmall.{Small, small_new, Narrow, step_small, step_narrow}
use Rattle.replay.proofs.Percentage.{percent_most}
use Rattle.replay.proofs.HeldBytes.{held_within}

-- ---- The lines

first_length : (capacity overflow : ℕ) → capacity ≤ size_limit → overflow ≤ size_limit → length (first_line capacity overflow) ≤ first_limit
unfolding first_line spaced
first_length capacity overflow h k =
    simp length-append (omega (arith, decimal_most 4 capacity (omega arith), decimal_most 4 overflow (omega arith)))

-- a move, the difference of two starts: 5 digits, and a sign
plus_length : (n : ℕ) → n ≤ size_limit → length (signed (pos n)) ≤ 6
unfolding signed
plus_length n h = omega (arith, decimal_most 4 n (omega arith))

minus_length : (n : ℕ) → suc n ≤ size_limit → length (signed (negsuc n)) ≤ 6
unfolding signed
minus_length n h = omega (arith, decimal_most 4 (suc n) (omega arith))

difference_length : (a b : ℕ) → a ≤ size_limit → b ≤ size_limit → length (signed (pos a -ℤ pos b)) ≤ 6
difference_length a zero h k = plus_length (a + 0) (omega arith)
difference_length a (suc b) h k = go (ltb a (suc b))
  where
    go : (t : Bool) → length (signed (cond t (negsuc (suc b - suc a)) (pos (a - suc b)))) ≤ 6
    go true = minus_length (suc b - suc a) (omega arith)
    go false = plus_length (a - suc b) (omega arith)

move_length : (s : Starts) → Starting size_limit s → length (signed (move_of s)) ≤ 6
unfolding move_of
move_length s w = search difference_length

line_length : (event : ℕ) (s : Shown) → event ≤ event_limit → Narrow s → length (line event s) ≤ line_limit
unfolding line line_head spaced hex
line_length event s h N =
    simp length-append
    (omega (
      arith,
      decimal_most 3 event (omega arith),
      decimal_most 0 s.refusal (omega (arith, N.refusal_digit)),
      decimal_most 4 s.place.start (omega (arith, N.start_within)),
      decimal_most 4 s.place.length (omega (arith, N.length_within)),
      move_length s.frame N.frame_within,
    ))

last_length : (t : Tally) (r : BufferPool) → Within event_limit t → Small r → length (last_line t r) ≤ last_limit
unfolding last_line spaced
last_length t r w S =
    simp length-append
    (omega (
      arith,
      decimal_most 3 t.done (omega (arith, w.0)),
      decimal_most 3 t.refused (omega (arith, w.1)),
      decimal_most 2 (percent t.spilled t.takes) (omega (arith, percent_most t.spilled t.takes w.3)),
      decimal_most 4 (held r) (omega (arith, held_within r S.is_sound, S.capacity_within)),
    ))

-- ---- The run

lines_length : (bytes : List ℕ) (events : List Event) → Callers events → (s : Running) (i : ℕ) → i + length events ≤ event_limit
    → Small s.state.pool → Within i s.state.tally
    → length (lines bytes s i events) ≤ length events * line_limit + last_limit
unfolding lines
lines_length bytes [] c s i h S w =
    omega (arith, last_length s.state.tally s.state.pool (omega arith, omega arith, omega arith, w.3) S)
lines_length bytes (e ∷ rest) c s i h S w =
    simp length-append
    (omega (
      arith,
      line_length (suc i) (step bytes s e).step.shown (omega arith) (step_narrow bytes s e S (c 0)),
      lines_length bytes rest (λ j. c (suc j)) (left (step bytes s e)) (suc i) (omega arith) (step_small bytes s e S (c 0)) (rw add-one at (step_within bytes s e i w)),
    ))

run_length : (m : Memories) (d : List ℕ) (c : Content) → length m.pool ≤ size_limit → length m.overflow ≤ size_limit
    → length c.events ≤ event_limit → Callers c.events → length (listing_on m d c) ≤ listing_limit
unfolding listing_on begun_on
run_length m d c h k l callers =
    simp length-append
    (omega (
      arith,
      first_length (length m.pool) (length m.overflow) h k,
      lines_length c.bytes c.events callers (begun_on m d) 0 (omega arith) (small_new m h k) (omega arith, omega arith, omega arith, omega arith),
    ))

-- ---- Every file

-- an accepted file holds sizes within their limit, at most so many events, and no caller above 3
accepted_length : (file : List ℕ) (h : Header) → reading file ≡ Ok h → length (listing_of (content file)) ≤ listing_limit
unfolding listing_of content
accepted_length file h e =
    let A = accepted_use file h e in
    let H = headed_use file A.0 in
    run_length _ _ (content file) (rw length-replicate H.capacity_within) (rw length-replicate H.overflow_within)
    (omega (arith, length_events file 0 (event_count file), H.bytes_next, H.bytes_last, H.within)) (accepted_callers file h e)

-- the listing of every file fits an output of this length
pub listing_fits : (file : List ℕ) → length (listing file) ≤ listing_limit
unfolding listing listing_by refused refused_nine refused_ten spaced
listing_fits file = go (reading file) refl
  where
    go : (a : Result Header Refusal) → reading file ≡ a → length (listing_by a (content file)) ≤ listing_limit
    go (Ok h) e = accepted_length file h e
    go (Err WrongHeader) e = simp length-append (omega (arith, decimal_any 9))
    go (Err (BadEvent event)) e = simp length-append (omega (arith, decimal_any 10, decimal_any event))

-- ---- What `replay_whole` leaves: every listing fits its output

pub whole_listed : (file out new : List ℕ) (n : ℕ) → length out ≡ listing_limit → output n new ≡ wrote (output 0 out) (listing file)
    → (n ≡ length (listing file)) × ((new ≡ listing file ++ drop n out) × IsPrefixLen n new)
whole_listed file out new n l e =
    let m = measured (listing file) out new n e in
    let f = fitted (listing file) out new n e (omega (arith, listing_fits file, l)) in
    let w : n ≤ length new = rw (f, length-append (listing file) (drop n out)) (omega (arith, m)) in
    (m, (f, prefix_len_of_le n new w))

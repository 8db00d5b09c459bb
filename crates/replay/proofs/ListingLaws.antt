-- The listing of a file, from the walk over its events; and what `replay` leaves. Assumes nothing.
use mathlib.Core.Path.{◌≡◌, refl, sym, ap, ◌∙◌, subst}
use mathlib.Core.Bool.{true}
use mathlib.Core.List.{List, [], ◌∷◌, ◌++◌}
use Prim.Native.Nat.{ℕ, zero, suc, ◌≤◌, ◌<◌}
use native.Mathlib.Nat.{zero-add}
use native.Mathlib.Omega.{arith}
use borrow.Author.Tests.{lt-leb, le-leb}
use lib.ListN.{length, take, drop, replicate, length-drop}
use lib.Seq.{sets-eq, length-take-le}
use Rattle.buffer_pool.specs.declared.buffer_pool.BufferPool.{BufferPool}
use Rattle.buffer_pool.specs.declared.buffer_pool.Called.{Called}
use Rattle.buffer_pool.specs.Record.{rust_slots}
use Rattle.buffer_pool.specs.Moves.{Memories, memories}
use Rattle.buffer_pool.specs.Soundness.{sound}
use Rattle.buffer_pool.specs.Calls.{Outcome, outcome, new}
use Rattle.trace.specs.declared.Header.{Header}
use Rattle.trace.specs.declared.Refusal.{Refusal}
use Rattle.std.specs.Prelude.{Result, Ok, Err}
use Rattle.trace.specs.Trace.{reading, byte_offset}
use Rattle.trace.specs.Content.{Content, content}
use Rattle.trace.proofs.Accepted.{accepted_use, headed_use, header_content}
use Rattle.replay.specs.declared.event.State.{State}
use Rattle.replay.specs.declared.text.Writer.{Writer}
use Rattle.replay.specs.Text.{Output, output, wrote, Writes}
use Rattle.replay.specs.Run.{Running, running}
use Rattle.replay.specs.Listing.{first_line, lines, begun_on, listing_on, zeros, listing_of, refused, listing_by, listing, replayed, delivered}
use Rattle.replay.proofs.TextLaws.{sets_past, joined}
use Rattle.replay.proofs.Kept.{new_sound}

-- ---- The run from a new pool

-- the state before the first event
abbrev fresh : BufferPool → State
fresh r = record { pool = r; next = 0; tally = record { done = 0; refused = 0; takes = 0; spilled = 0 } }

module _ (m n : Memories) (c : Called) (q : outcome c n [] ≡ new rust_slots m) where
  pub fresh_sound : sound rust_slots c.pool ≡ true
  fresh_sound = ap (λ (o : Outcome). sound rust_slots o.call.pool) q ∙ new_sound m

  fresh_begun : (d : List ℕ) → running (fresh c.pool) n d ≡ begun_on m d
  unfolding begun_on
  fresh_begun d = ap (λ (o : Outcome). running (fresh o.call.pool) o.memory d) q

  pub run_listed : (d : List ℕ) (file : Content) {a b e : Writer} → Writes a b (first_line (length m.pool) (length m.overflow))
      → Writes b e (lines file.bytes (running (fresh c.pool) n d) 0 file.events) → Writes a e (listing_on m d file)
  unfolding listing_on
  run_listed d file {a} {b} {e} x y = joined x (subst (λ (r : Running). Writes b e (lines file.bytes r 0 file.events)) (fresh_begun d) y)

pub bytes_few : (file bytes : List ℕ) → bytes ≡ (content file).bytes → length bytes ≤ length file
unfolding content
bytes_few file bytes e = rw (e, length-drop (byte_offset file) file) (omega arith)

-- ---- An accepted file

take_zeros : (n k : ℕ) → n ≤ k → take {A = ℕ} n (replicate k 0) ≡ replicate n 0
take_zeros zero k l = refl
take_zeros (suc n) zero l = absurd (omega arith)
take_zeros (suc n) (suc k) l = ap (λ (x : List ℕ). 0 ∷ x) (take_zeros n k (omega arith))

module _ (file : List ℕ) (h : Header) (e : reading file ≡ Ok h) where
  pub trace_capacity : h.capacity ≤ 16384
  trace_capacity = let f = accepted_use file h e in subst (λ (x : Header). x.capacity ≤ 16384) f.2 (headed_use file f.0).capacity_within

  pub trace_overflow : h.overflow ≤ 16384
  trace_overflow = let f = accepted_use file h e in subst (λ (x : Header). x.overflow ≤ 16384) f.2 (headed_use file f.0).overflow_within

  pub trace_length : length file ≤ 65536
  trace_length = (headed_use file (accepted_use file h e).0).within

  pub trace_events : h.events ≡ length (content file).events
  trace_events = sym (ap (λ (x : Header). x.events) (header_content file h e))

-- the first n bytes of a memory of zeros
pub part_long : (n : ℕ) (z : List ℕ) → 16384 ≡ length z → n ≤ 16384 → n ≡ length (take n z)
part_long n z e h = sym (length-take-le n z (omega arith))

module _ (file : List ℕ) (h : Header) (e : reading file ≡ Ok h) where
  -- the memories that the code lends
  module _ (z z' z'' : List ℕ) (u : z ≡ zeros) (u' : z' ≡ zeros) (u'' : z'' ≡ zeros) where
    part_zeros : (n : ℕ) → n ≤ 16384 → (l : List ℕ) → l ≡ zeros → take n l ≡ replicate n 0
    unfolding zeros
    part_zeros n k l x = rw x (take_zeros n 16384 k)

    pub trace_listed : (o r : Output)
        → r ≡ wrote o (listing_on (memories (take h.capacity z) (take h.overflow z')) (take h.overflow z'') (content file))
        → r ≡ wrote o (listing_of (content file))
    unfolding listing_of
    trace_listed o r x =
        let c : h.capacity ≡ (content file).capacity = sym (ap (λ (y : Header). y.capacity) (header_content file h e)) in
        let v : h.overflow ≡ (content file).overflow = sym (ap (λ (y : Header). y.overflow) (header_content file h e)) in
        x ∙ rw (part_zeros h.capacity (trace_capacity file h e) z u, part_zeros h.overflow (trace_overflow file h e) z' u', part_zeros h.overflow (trace_overflow file h e) z'' u'', c, v) refl

-- ---- Every file

module _ (file : List ℕ) (a : Result Header Refusal) (e : a ≡ reading file) where
  pub listing_trace : (h : Header) → a ≡ Ok h → (o r : Output) → r ≡ wrote o (listing_of (content file)) → r ≡ wrote o (listing file)
  unfolding listing listing_by
  listing_trace h t o r x = x ∙ rw (← e, t) refl

  pub listing_refused : (why : Refusal) → a ≡ Err why → (o r : Output) → r ≡ wrote o (refused why) → r ≡ wrote o (listing file)
  unfolding listing listing_by
  listing_refused why t o r x = x ∙ rw (← e, t) refl

-- ---- What replay leaves

-- a text put at an output's start: the place after it is its length, and where it fits the output's other bytes follow it
module _ (text out new : List ℕ) (n : ℕ) (e : output n new ≡ wrote (output 0 out) text) where
  pub measured : n ≡ length text
  unfolding wrote
  measured = ap (λ (o : Output). o.at) e ∙ zero-add (length text)

  pub fitted : length text ≤ length out → new ≡ text ++ drop n out
  unfolding wrote
  fitted h = ap (λ (o : Output). o.bytes) e ∙ sets-eq text out 0 (omega arith) ∙ rw (zero-add (length text), measured) refl

-- the first walk measures, and stores nothing in an output of no bytes
module _ (text none : List ℕ) (n : ℕ) (e : output n none ≡ wrote (output 0 []) text) where
  nothing_stored : none ≡ []
  unfolding wrote
  nothing_stored = ap (λ (o : Output). o.bytes) e ∙ sets_past text [] 0 (omega arith)

  pub too_short : (out : List ℕ) → length (none ++ out) < n → replayed (Err (record { needed = n })) (none ++ out) ≡ delivered text out
  unfolding delivered
  too_short out h =
      rw nothing_stored (rw (← measured text [] none n e, lt-leb n (length out) (rw nothing_stored at h)) refl)

  -- the second writes
  pub all_listed : (out new : List ℕ) (k : ℕ) → n ≤ length (none ++ out) → output k new ≡ wrote (output 0 (none ++ out)) text
      → replayed (Ok n) new ≡ delivered text out
  unfolding delivered
  all_listed out new k h w =
      let m = measured text [] none n e in
      let v : output k new ≡ wrote (output 0 out) text = rw nothing_stored at w in
      let l : length text ≤ length out = omega (arith, m, rw nothing_stored at h) in
      rw (le-leb (length text) (length out) l, m, fitted text out new k v l, measured text out new k v) refl

-- One event, from what the code of event.rt knows where it returns. Assumes nothing.
use mathlib.Core.Path.{◌≡◌, refl, sym, ap, ◌∙◌}
use mathlib.Core.Bool.{false}
use mathlib.Core.List.{List, []}
use mathlib.Core.Logic.{◌⊎◌, inl, inr}
use Prim.Native.Nat.{ℕ, ◌+◌, ◌-◌, ◌≤◌, ◌<◌, min}
use native.Mathlib.Omega.{arith}
use lib.Dec.{eqb}
use lib.ListN.{length, take, drop}
use lib.Seq.{sets}
use Rattle.laws.specs.Lists.{part}
use Rattle.buffer_pool.specs.declared.slice.Handle.{Handle}
use Rattle.buffer_pool.specs.declared.buffer_pool.BufferPool.{BufferPool}
use Rattle.buffer_pool.specs.declared.buffer_pool.PoolFront.{PoolFront}
use Rattle.buffer_pool.specs.declared.buffer_pool.PoolMode.TheVariants.{Back, Front, Alloc}
use Rattle.buffer_pool.specs.declared.buffer_pool.Called.{Called}
use Rattle.buffer_pool.specs.Moves.{Memories, memories}
use Rattle.buffer_pool.specs.Calls as calls
use Rattle.buffer_pool.specs.Calls.{Outcome, outcome}
use Rattle.buffer_pool.specs.Values.{Values, values}
use Rattle.trace.specs.declared.Event.{Event}
use Rattle.replay.specs.declared.event.Tally.{Tally}
use Rattle.replay.specs.declared.event.State.{State}
use Rattle.replay.specs.declared.event.Extent.{Extent}
use Rattle.replay.specs.declared.event.Starts.{Starts}
use Rattle.replay.specs.declared.event.Shown.{Shown}
use Rattle.replay.specs.declared.event.Step.{Step}
use Rattle.replay.specs.declared.text.Writer.{Writer}
use Rattle.replay.specs.Text.{Output, output, wrote, held_by, Writes}
use Rattle.replay.specs.Slots.{handle_of}
use Rattle.replay.specs.declared.event.Told.{Told}
use Rattle.replay.specs.Run.{said, Tells, shown_so, counted, kind_letter, mode_letter, take_extent, release_extent, extent_of, starts_of, shown_of, filling, filled, call_of, running, stepped, step_of, step}
use Rattle.replay.proofs.TextLaws.{sets_past}

-- ---- Counts and lines, by what was told of the answer

module _ (a : Told) (v : Values) (t : Tells a v) where
  counted_same : (n : Tally) → counted n (said a) ≡ counted n v
  unfolding counted
  counted_same n = rw (t.refusal_is, t.handle_is, t.copied_is) refl

  shown_same : (kind : ℕ) (r : BufferPool) (h : Handle) (q : BufferPool) → shown_so kind r h q (said a) ≡ shown_so kind r h q v
  unfolding shown_so extent_of take_extent release_extent
  shown_same kind r h q = rw (t.refusal_is, t.place_is, t.handle_is, t.copied_is) refl

module _ (t : Tally) (a : Told) where
  pub counted_as : (done refused taken spilled : ℕ) → done ≡ 1 - min a.refusal 1 → refused ≡ min a.refusal 1 → taken ≡ min (a.handle.slot + a.copied) 1
      → spilled ≡ min a.copied 1
      → record { done = t.done + done; refused = t.refused + refused; takes = t.takes + taken; spilled = t.spilled + spilled } ≡ counted t (said a)
  unfolding counted
  counted_as done refused taken spilled d n k s = rw (d, n, k, s) refl

pub shown_as : (kind : ℕ) (r : BufferPool) (h : Handle) (q : BufferPool) (a : Told) (letter mode : ℕ) (place : Extent) (frame : Starts)
    → letter ≡ kind_letter kind → mode ≡ mode_letter q.mode → place ≡ extent_of kind h (said a) → frame ≡ starts_of kind r q
    → record { kind = letter; refusal = a.refusal; mode = mode; live = q.live; place = place; frame = frame } ≡ shown_so kind r h q (said a)
unfolding shown_so
shown_as kind r h q a letter mode place frame d e f g = rw (d, e, f, g) refl

-- ---- Filling the reservation

module _ (m : List ℕ) (start len : ℕ) (text : List ℕ) where
  pub fill_past : length m < start → m ≡ sets m (start + len) text
  fill_past h = sym (sets_past text m (start + len) (omega arith))

  pub fill_short : start ≤ length m → length m - start < len → m ≡ sets m (start + len) text
  fill_short h k = sym (sets_past text m (start + len) (omega arith))

  pub fill_in : {a b : Writer} → held_by a ≡ output (start + len) m → Writes a b text → b.out.now ≡ sets m (start + len) text
  unfolding wrote
  fill_in {a} {b} h p = ap (λ (o : Output). o.bytes) (p.after ∙ ap (λ (o : Output). wrote o text) h)

module _ (r : BufferPool) (pool overflow text : List ℕ) where
  pub filled_pool : (r.mode ≡ Back) ⊎ ((f : PoolFront) × (r.mode ≡ Front f)) → (new : List ℕ) → new ≡ sets pool (r.raw_offset + r.raw_len) text
      → memories new overflow ≡ filled r text (memories pool overflow)
  unfolding filled
  filled_pool (inl m) new e = rw (m, e) refl
  filled_pool (inr (f, m)) new e = rw (m, e) refl

  pub filled_alloc : r.mode ≡ Alloc → (new : List ℕ) → new ≡ sets overflow (0 + r.cursor) text
      → memories pool new ≡ filled r text (memories pool overflow)
  unfolding filled
  filled_alloc m new e = rw (m, e) refl

-- ---- The call

module _ (r : BufferPool) (m : Memories) (d : List ℕ) (e : Event) (h : Handle) (c : Called) (n : Memories) where
  pub call_reserve : e.kind ≡ 1 → outcome c n [] ≡ calls.reserve r.slots r m e.number → outcome c n d ≡ call_of r m d e h
  unfolding call_of
  call_reserve k o = rw (k, ← o) refl

  pub call_commit : e.kind ≡ 2 → outcome c n [] ≡ calls.commit r.slots r m e.number → outcome c n d ≡ call_of r m d e h
  unfolding call_of
  call_commit k o = rw (k, ← o) refl

  pub call_take : e.kind ≡ 3 → (f : List ℕ) → outcome c n f ≡ calls.take r.slots r m e.caller d → outcome c n f ≡ call_of r m d e h
  unfolding call_of
  call_take k f o = rw k o

  pub call_truncate : e.kind ≡ 4 → outcome c n [] ≡ calls.truncate r.slots r m e.number → outcome c n d ≡ call_of r m d e h
  unfolding call_of
  call_truncate k o = rw (k, ← o) refl

  pub call_release : eqb e.kind 1 ≡ false → eqb e.kind 2 ≡ false → eqb e.kind 3 ≡ false → eqb e.kind 4 ≡ false
      → outcome c n [] ≡ calls.release r.slots r m h → outcome c n d ≡ call_of r m d e h
  unfolding call_of
  call_release a b f g o = rw (a, b, f, g, ← o) refl

-- ---- The event

pub step_of_lem : (s : State) (e : Event) (h : Handle) (next : ℕ) (c : Called) (a : Told) → Tells a (values c.answer) → (t : Tally) (l : Shown)
    → t ≡ counted s.tally (said a) → l ≡ shown_so e.kind s.pool h c.pool (said a)
    → record { state = record { pool = c.pool; next = next; tally = t }; shown = l } ≡ step_of s e h next c
unfolding step_of shown_of
step_of_lem s e h next c a d t l v w =
    rw (v, w, counted_same a (values c.answer) d s.tally, shown_same a (values c.answer) d e.kind s.pool h c.pool) refl

-- the part of a list between two places
pub between : (bytes : List ℕ) (a k : ℕ) → take (a + k - a) (drop a bytes) ≡ part bytes a k
unfolding part
between bytes a k = let z : a + k - a ≡ k = omega arith in rw z refl

-- with the trace bytes filled in, the call made, the counts and the line
pub step_as : (bytes : List ℕ) (s : State) (m n o : Memories) (d f : List ℕ) (e : Event) (k : ℕ) (h : Handle) (c : Called) (l : Step)
    → k ≡ filling s.pool e (length bytes - s.next) → h ≡ handle_of s.pool e.caller e.number
    → n ≡ filled s.pool (take (s.next + k - s.next) (drop s.next bytes)) m
    → outcome c o f ≡ call_of s.pool n d e h
    → l ≡ step_of s e h (s.next + k) c
    → stepped l o f ≡ step bytes (running s m d) e
unfolding step
step_as bytes s m n o d f e k h c l a g p u v =
    ap (λ (x : Step). stepped x o f) v
    ∙ rw (← a, ← g, ← between bytes s.next k, ← p) (ap (λ (x : Outcome). stepped (step_of s e h (s.next + k) x.call) x.memory x.destination) u)

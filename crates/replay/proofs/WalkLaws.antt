-- The walk over the events: what is written and what is left to write are together the whole listing. Assumes nothing.
use mathlib.Core.Path.{◌≡◌, refl, sym, ap, ◌∙◌, subst}
use mathlib.Core.Bool.{true}
use mathlib.Core.List.{List, ◌++◌}
use Prim.Native.Nat.{ℕ, ◌+◌, ◌≤◌, ◌<◌}
use native.Mathlib.Numerals.{add-one}
use native.Mathlib.Omega.{arith}
use lib.ListN.{length, get_or, drop, drop_of_length-le}
use lib.Seq.{drop-cons}
use Rattle.buffer_pool.specs.declared.buffer_pool.BufferPool.{BufferPool}
use Rattle.buffer_pool.specs.Record.{rust_slots, most_slots}
use Rattle.buffer_pool.specs.Moves.{Memories}
use Rattle.buffer_pool.specs.Soundness.{sound}
use Rattle.buffer_pool.proofs.Soundness.{sound_use}
use Rattle.trace.specs.declared.Event.{Event}
use Rattle.trace.specs.Content.{no_event}
use Rattle.replay.specs.declared.event.State.{State}
use Rattle.replay.specs.declared.event.Step.{Step}
use Rattle.replay.specs.declared.text.Writer.{Writer}
use Rattle.replay.specs.Text.{Output, wrote, held_by, Writes}
use Rattle.replay.specs.Run.{Within, Running, running, Stepped, stepped, left, step}
use Rattle.replay.specs.Listing.{line, last_line, lines}
use Rattle.replay.proofs.TextLaws.{wrote_more}
use Rattle.replay.proofs.Kept.{step_sound, step_starts, step_live, step_next, step_within}

-- a trace's pool has a place in its arrays for every slot
pub few_slots : (r : BufferPool) → sound rust_slots r ≡ true → r.slots ≤ most_slots
few_slots r h = rw (sound_use rust_slots r h).orderly.ready.count_is (omega arith)

-- ---- One event

module _ (bytes : List ℕ) (s : State) (m o : Memories) (d f : List ℕ) (e : Event) (t : Step) (q : stepped t o f ≡ step bytes (running s m d) e) where
  pub small_before : sound rust_slots s.pool ≡ true → t.shown.frame.before < 4294967296
  small_before h = subst (λ (x : Stepped). x.step.shown.frame.before < 4294967296) (sym q) (omega (arith, (step_starts bytes (running s m d) e rust_slots h).0))

  pub small_after : sound rust_slots s.pool ≡ true → t.shown.frame.after < 4294967296
  small_after h = subst (λ (x : Stepped). x.step.shown.frame.after < 4294967296) (sym q) (omega (arith, (step_starts bytes (running s m d) e rust_slots h).1))

  pub small_live : sound rust_slots s.pool ≡ true → t.shown.live < 256
  small_live h = subst (λ (x : Stepped). x.step.shown.live < 256) (sym q) (step_live bytes (running s m d) e rust_slots h)

-- ---- The loop

module _ (bytes : List ℕ) (s t : State) (m o : Memories) (d f : List ℕ) (e : Event) (q : running t o f ≡ left (step bytes (running s m d) e)) where
  pub next_sound : sound rust_slots s.pool ≡ true → sound rust_slots t.pool ≡ true
  next_sound h = ap (λ (x : Running). sound rust_slots x.state.pool) q ∙ step_sound bytes (running s m d) e rust_slots h

  pub next_next : s.next ≤ length bytes → t.next ≤ length bytes
  next_next h = subst (λ (x : Running). x.state.next ≤ length bytes) (sym q) (step_next bytes (running s m d) e h)

  pub next_within : (n : ℕ) → Within n s.tally → Within (n + 1) t.tally
  next_within n w = subst (λ (x : Running). Within (n + 1) x.state.tally) (sym q) (step_within bytes (running s m d) e n w)

  pub walk_more : (i : ℕ) (events : List Event) {a b : Writer} (whole : Output) → i < length events → e ≡ get_or events i no_event
      → Writes a b (line (i + 1) (step bytes (running s m d) e).step.shown)
      → wrote (held_by a) (lines bytes (running s m d) i (drop i events)) ≡ whole
      → wrote (held_by b) (lines bytes (running t o f) (i + 1) (drop (i + 1) events)) ≡ whole
  unfolding lines
  walk_more i events {a} {b} whole h g p z =
      let l = line (i + 1) (step bytes (running s m d) e).step.shown in
      let rest = lines bytes (running t o f) (i + 1) (drop (i + 1) events) in
      let y : lines bytes (running s m d) i (drop i events) ≡ l ++ rest = rw (add-one i, drop-cons events i no_event h, ← g, ← q) refl in
      ap (λ (x : Output). wrote x rest) p.after ∙ wrote_more (held_by a) l rest ∙ ap (wrote (held_by a)) (sym y) ∙ z

pub walk_end : (bytes : List ℕ) (s : State) (m : Memories) (d : List ℕ) (i : ℕ) (events : List Event) {a b : Writer} (whole : Output) → length events ≤ i
    → Writes a b (last_line s.tally s.pool) → wrote (held_by a) (lines bytes (running s m d) i (drop i events)) ≡ whole → held_by b ≡ whole
unfolding lines
walk_end bytes s m d i events whole h p z =
    p.after ∙ rw (drop_of_length-le events h) at z

-- the lines over the bytes of the file, by whichever name
pub walked : (bytes more : List ℕ) → bytes ≡ more → {a b : Writer} (s : Running) (events : List Event) → Writes a b (lines bytes s 0 events)
    → Writes a b (lines more s 0 events)
walked bytes more e {a} {b} s events p = subst (λ (x : List ℕ). Writes a b (lines x s 0 events)) e p

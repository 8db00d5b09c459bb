-- What the held bytes of line T are (W-206): no live slice ends above, one ends there, and no other number is that. In a sound record they
-- are the end of the last live slot, and no more than the pool's capacity. Assumes nothing.
use mathlib.Core.Path.{◌≡◌, refl, sym}
use mathlib.Core.Bool.{true}
use Prim.Native.Nat.{ℕ, ◌≤◌}
use native.Mathlib.Omega.{arith}
use Rattle.laws.specs.Live.{last_live}
use Rattle.laws.proofs.Tests.{pick_cases}
use Rattle.buffer_pool.specs.declared.slice.Handle.{Handle}
use Rattle.buffer_pool.specs.declared.buffer_pool.BufferPool.{BufferPool}
use Rattle.buffer_pool.specs.declared.buffer_pool.Called.{Called}
use Rattle.buffer_pool.specs.Record.{after}
use Rattle.buffer_pool.specs.Soundness.{sound}
use Rattle.buffer_pool.specs.Sound.{Held}
use Rattle.buffer_pool.specs.Steps.{freed, names, release_step}
use Rattle.buffer_pool.proofs.Soundness.{sound_use}
use Rattle.buffer_pool.proofs.Named.{names_use}
use Rattle.replay.specs.HeldBytes.{held, IsHighestEnd}
use Rattle.replay.proofs.HighestEnd.{highest_is, highest_most, one_highest, freed_highest, last_highest}

-- "the highest end of a live pooled slice": no live slice ends above them, and one ends there, unless they are 0
pub held_is_highest : (r : BufferPool) → IsHighestEnd r (held r)
held_is_highest = highest_is

-- and no other number is that
pub nothing_else_is_highest : (r : BufferPool) (n : ℕ) → IsHighestEnd r n → n ≡ held r
nothing_else_is_highest r n N = one_highest r n (held r) N (held_is_highest r)

-- "0 without one"
pub held_without_slices : (r : BufferPool) → ((p : ℕ) → Held r.slots r.live p → ⊥) → held r ≡ 0
held_without_slices r f =
    sym (nothing_else_is_highest r 0 (record { none_above = λ p t. absurd (f p t); one_there = λ l. absurd (omega arith) }))

-- "Freed gaps below count as held": a release leaves the held bytes as they are, where another live slice ends as high
pub freed_gaps_count : (r : BufferPool) (h : Handle) (q : ℕ) → Held r.slots r.live q → (h.slot ≡ q → ⊥)
    → after r.starts r.lengths h.slot ≤ after r.starts r.lengths q → held (release_step r.slots r h).pool ≡ held r
unfolding release_step
freed_gaps_count r h q Q d l =
    pick_cases (λ (c : Called). held c.pool ≡ held r) (names r.slots r h)
    (λ e. let n = held (freed r.slots r h.slot) in
    nothing_else_is_highest r n (freed_highest r h.slot q (names_use r.slots r h e).here Q d l n (held_is_highest (freed r.slots r h.slot))))
    (λ e. refl)

-- "Live slices stand in the order of their slots, so that the highest end is that of the last live slot"
pub held_is_the_last_end : (r : BufferPool) → sound r.slots r ≡ true
    → held r ≡ after r.starts r.lengths (last_live r.slots r.live r.slots)
held_is_the_last_end r s = sym (nothing_else_is_highest r _ (last_highest r (sound_use r.slots r s).orderly.ready.slots))

-- a pool is no further occupied than it reaches
pub held_within : (r : BufferPool) → sound r.slots r ≡ true → held r ≤ r.capacity
held_within r s = highest_most r (held r) r.capacity (held_is_highest r) (sound_use r.slots r s).orderly.ready.slots.inside

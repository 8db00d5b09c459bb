-- The soundness test of a record, and what turns every call away, from what the code of sound.rt and guard.rt knows where it returns.
-- Assumes nothing.
use mathlib.Core.Path.{◌≡◌, refl, sym, ◌∙◌}
use mathlib.Core.Bool.{Bool, true, false, not}
use lib.ListN.{length}
use Rattle.std.specs.Prelude.{Ok, Err}
use Rattle.buffer_pool.specs.declared.buffer_pool.BufferPool.{BufferPool}
use Rattle.buffer_pool.specs.declared.buffer_pool.Entries.{Entries}
use Rattle.buffer_pool.specs.declared.numbers.Numbers.{Numbers}
use Rattle.buffer_pool.specs.declared.refusals.Refusal.TheVariants.{Unsound, WrongLength}
use Rattle.buffer_pool.specs.Numbers.{Whole, numbers_of, rest_of, entries_of, rest_in, with_entries}
use Rattle.buffer_pool.specs.Moves.{Memories}
use Rattle.buffer_pool.specs.Soundness.{sound}
use Rattle.buffer_pool.specs.SlotPass.{front_sound, slots_sound, parts_sound}
use Rattle.buffer_pool.specs.Calls.{guard}
use Rattle.buffer_pool.proofs.RestLaws.{sound_rest}
use Rattle.buffer_pool.proofs.SoundParts.{sound_parts}
use Rattle.buffer_pool.proofs.SoundTestLaws.{front_fails, slots_last}
use Rattle.buffer_pool.proofs.CallLaws.{guard_unsound, guard_pool_length, guard_overflow_length, guard_passes}

-- ---- A record

pub record_sound : (p : BufferPool) → Whole (entries_of p) → (n : Numbers) → n ≡ numbers_of p → (b : Bool)
    → b ≡ parts_sound n p.starts p.lengths → b ≡ sound p.slots p
record_sound p W n i b e =
    e ∙ rw i
    (sound_parts (numbers_of p) p.starts p.lengths W.starts_all W.lengths_all
    ∙ sym (sound_rest p.slots (numbers_of p) p.starts p.lengths (rest_of p) W.rest_all))

-- ---- The guard

module _ (n : Numbers) (e : Entries) (W : Whole e) (m : Memories) (b : Bool) (f : b ≡ front_sound n e.starts e.lengths) where
  parts : parts_sound n e.starts e.lengths ≡ sound n.slots (with_entries n e)
  parts = sound_parts n e.starts e.lengths W.starts_all W.lengths_all ∙ sym (sound_rest n.slots n e.starts e.lengths (rest_in e) W.rest_all)

  pub guard_front : not b ≡ true → Err Unsound ≡ guard n.slots (with_entries n e) m
  guard_front h = guard_unsound (with_entries n e) m false (front_fails n e.starts e.lengths b f h ∙ parts) refl

  module _ (h : not b ≡ false) (t : Bool) (d : t ≡ slots_sound n e.starts e.lengths) where
    tested : t ≡ sound n.slots (with_entries n e)
    tested = slots_last n e.starts e.lengths b f h t d ∙ parts

    pub guard_slots : not t ≡ true → Err Unsound ≡ guard n.slots (with_entries n e) m
    guard_slots k = guard_unsound (with_entries n e) m t tested k

    module _ (k : not t ≡ false) where
      pub guard_pool : (length m.pool ≡ n.capacity → ⊥) → Err WrongLength ≡ guard n.slots (with_entries n e) m
      guard_pool z = guard_pool_length (with_entries n e) m t tested k z

      module _ (z : length m.pool ≡ n.capacity) where
        pub guard_overflow : (length m.overflow ≡ n.overflow → ⊥) → Err WrongLength ≡ guard n.slots (with_entries n e) m
        guard_overflow y = guard_overflow_length (with_entries n e) m t tested k z y

        pub guard_none : length m.overflow ≡ n.overflow → Ok tt ≡ guard n.slots (with_entries n e) m
        guard_none y = guard_passes (with_entries n e) m t tested k z y

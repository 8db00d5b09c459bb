-- The slots that the loops of slots.rt have passed, and what they know where they return. Assumes nothing.
use mathlib.Core.Path.{◌≡◌, refl, sym, ◌∙◌}
use mathlib.Core.Bool.{Bool, true, false, not}
use mathlib.Core.List.{List}
use Prim.Native.Nat.{ℕ, zero, suc, ◌+◌, ◌-◌, ◌≤◌, ◌<◌, max}
use native.Mathlib.Numerals.{add-one}
use native.Mathlib.Omega.{arith}
use lib.ListN.{get_or}
use Rattle.std.specs.Prelude.{Option, Some, None, IfSome}
use Rattle.laws.specs.Tests.{pick}
use Rattle.laws.specs.Live.{live_at}
use Rattle.laws.proofs.Tests.{both_true, not_true, pick_cases}
use Rattle.buffer_pool.specs.declared.buffer_pool.BufferPool.{BufferPool}
use Rattle.buffer_pool.specs.Record.{after}
use Rattle.buffer_pool.specs.Sound.{Held}
use Rattle.buffer_pool.proofs.BoundLaws.{end_some}
use Rattle.replay.specs.Slots.{bears, slot_from, slot_of, handle_at, handle_of}
use Rattle.replay.specs.HeldBytes.{live_end, highest_end, held}

-- ---- The slot of a caller and a serial

-- a slot that is not live is named by none
pub bears_dead : (w live : ℕ) (callers serials : List ℕ) (caller serial p : ℕ) (l : Bool) → l ≡ live_at w live p → not l ≡ true
    → false ≡ bears w live callers serials caller serial p
unfolding bears
bears_dead w live callers serials caller serial p l e h = rw (← e, not_true l h)

module _ (r : BufferPool) (caller serial : ℕ) where
  -- is slot p named by them?
  abbrev named : ℕ → Bool
  named = bears r.slots r.live r.callers r.serials caller serial

  -- the first such slot of the n from slot p on
  abbrev first : ℕ → ℕ → Option ℕ
  first = slot_from r.slots r.live r.callers r.serials caller serial

  -- the slots before slot i + 1 are passed
  module _ (i : ℕ) (inv : first 1 r.slots ≡ first (i + 1) (r.slots - i)) where
    module _ (h : i < r.slots) (b : Bool) (e : b ≡ named (i + 1)) where
      step_slot : first 1 r.slots ≡ pick b (Some (i + 1)) (first (i + 1 + 1) (r.slots - (i + 1)))
      unfolding slot_from
      step_slot = let z : r.slots - i ≡ suc (r.slots - (i + 1)) = omega arith in rw (add-one (i + 1), e) (rw z at inv)

      pub slot_here : b ≡ true → Some (i + 1) ≡ slot_of r caller serial
      unfolding slot_of
      slot_here t = sym (rw t at step_slot)

      pub slot_more : b ≡ false → first 1 r.slots ≡ first (i + 1 + 1) (r.slots - (i + 1))
      slot_more f = rw f at step_slot

    pub slot_none : r.slots ≤ i → None ≡ slot_of r caller serial
    unfolding slot_of slot_from
    slot_none h = let z : r.slots - i ≡ 0 = omega arith in sym (rw z at inv)

  -- that slot, if there is one, is live
  pub slot_held : (n p : ℕ) → 1 ≤ p → p + n ≤ suc r.slots → IfSome (first p n) (Held r.slots r.live)
  unfolding slot_from bears
  slot_held zero p h k = tt
  slot_held (suc n) p h k =
      pick_cases (λ (q : Option ℕ). IfSome q (Held r.slots r.live)) (named p)
      (λ t. record { one = h; most = omega arith; here = (both_true (live_at r.slots r.live p) _ t).0 })
      (λ t. slot_held n (suc p) (omega arith) (omega arith))

module _ (r : BufferPool) (caller serial : ℕ) (o : Option ℕ) (e : o ≡ slot_of r caller serial) where
  pub handle_none : o ≡ None → record { slot = 0; start = 0; length = 0; serial = serial; caller = caller } ≡ handle_of r caller serial
  unfolding handle_of handle_at
  handle_none z = rw (← e, z) refl

  pub handle_some : (p : ℕ) → o ≡ Some p
      → record { slot = p; start = get_or r.starts (p - 1) 0; length = get_or r.lengths (p - 1) 0; serial = serial; caller = caller }
      ≡ handle_of r caller serial
  unfolding handle_of handle_at
  handle_some p n = rw (← e, n) refl

-- ---- Held bytes

module _ (r : BufferPool) (p : ℕ) (l : Bool) (e : l ≡ live_at r.slots r.live p) where
  pub end_live : l ≡ true → after r.starts r.lengths p ≡ live_end r p
  unfolding live_end
  end_live t = rw (← e, t) refl

  -- as the code reads it
  pub end_read : l ≡ true → 1 ≤ p → get_or r.starts (p - 1) 0 + get_or r.lengths (p - 1) 0 ≡ live_end r p
  end_read t o =
      end_some r.starts r.lengths p (λ z. omega (arith, z, o)) (get_or r.starts (p - 1) 0) (get_or r.lengths (p - 1) 0) refl refl ∙ end_live t

  pub end_free : l ≡ false → 0 ≡ live_end r p
  unfolding live_end
  end_free f = rw (← e, f) refl

module _ (r : BufferPool) (i highest : ℕ) (inv : highest ≡ highest_end r i) where
  pub held_more : (n next : ℕ) → n ≡ live_end r (i + 1) → next ≡ max highest n → next ≡ highest_end r (i + 1)
  unfolding highest_end
  held_more n next e f = rw (f, inv, e, add-one i) refl

  pub held_all : i ≤ r.slots → r.slots ≤ i → highest ≡ held r
  unfolding held
  held_all h k = let z : i ≡ r.slots = omega arith in rw z at inv

-- A handle of C's with its slot and its caller in a byte each: it names what C's handle names. Assumes nothing.
use mathlib.Core.Path.{◌≡◌, refl, sym, ap, ◌∙◌}
use mathlib.Core.Bool.{Bool, true, false, not}
use mathlib.Core.List.{[]}
use Prim.Native.Nat.{ℕ, ◌<◌, ◌≤◌}
use native.Mathlib.Omega.{arith}
use lib.Dec.{ltb}
use borrow.Author.Tests.{ltb-false, le-leb, lt-leb}
use Rattle.laws.specs.Tests.{pick}
use Rattle.buffer_pool.specs.declared.slice.Handle as pool
use Rattle.buffer_pool.specs.declared.buffer_pool.Memory.TheVariants.{Pool}
use Rattle.buffer_pool.specs.declared.buffer_pool.BufferPool.{BufferPool}
use Rattle.buffer_pool.specs.declared.refusals.Refusal.{Refusal}
use Rattle.buffer_pool.specs.declared.refusals.Refusal.TheVariants.{Unsound, WrongLength, NotLive}
use Rattle.buffer_pool.specs.Record.{most_slots, caller_count}
use Rattle.buffer_pool.specs.Moves.{Memories}
use Rattle.buffer_pool.specs.Soundness.{sound}
use Rattle.buffer_pool.specs.Steps.{refused, at, names, release_step}
use Rattle.buffer_pool.specs.Calls as calls
use Rattle.buffer_pool.specs.Calls.{outcome, misfit, guarded, shown, hidden}
use Rattle.buffer_pool.proofs.Parts.{count_bounds}
use Rattle.buffer_pool.proofs.Soundness.{sound_use}
use Rattle.buffer_pool.proofs.Named.{names_use}
use Rattle.buffer_pool.specs.Values.{View, view_place, view_refusal}
use Rattle.buffer_pool_c.specs.declared.results.Handle.{Handle}
use Rattle.buffer_pool_c.specs.declared.results.Place.{Place}
use Rattle.buffer_pool_c.specs.Results.{named, in_bytes, byte_or, place_of, view_result}

-- ---- A slot or a caller that has no byte

-- neither a slot above the slot count nor a caller that is none names a slice
pub no_slot : (w : ℕ) (p : BufferPool) (h : pool.Handle) → w < h.slot → names w p h ≡ false
unfolding names
no_slot w p h beyond = rw (le-leb 1 h.slot (omega arith), lt-leb h.slot w beyond) refl

pub no_caller : (w : ℕ) (p : BufferPool) (h : pool.Handle) → caller_count ≤ h.caller → names w p h ≡ false
no_caller w p h beyond = go (names w p h) refl
  where
    go : (t : Bool) → names w p h ≡ t → t ≡ false
    go true e = absurd (omega (arith, (names_use w p h e).a_caller))
    go false e = refl

-- so where every slot has a byte, what turns every handle away that names no slice does the same for what has no byte and for what
-- stands in its place
module _ (w : ℕ) (few : w ≤ most_slots) (p : BufferPool) {A : Type 0} (f : pool.Handle → A) (turned : A) (off : (h : pool.Handle) → names w p h ≡ false → f h ≡ turned) (h : Handle) where
  in_bytes_lem : f (named (in_bytes h)) ≡ f (named h)
  unfolding names
  in_bytes_lem = go (ltb h.slot 256) refl (ltb h.caller 256) refl
    where
      short : Bool → Bool → pool.Handle
      short s c =
          record { slot = pick s h.slot 0; start = h.start; length = h.length; serial = h.serial; caller = pick c h.caller 255 }

      -- both name nothing
      neither : (k : pool.Handle) → names w p k ≡ false → names w p (named h) ≡ false → f k ≡ f (named h)
      neither k a b = off k a ∙ sym (off (named h) b)

      go : (s : Bool) → ltb h.slot 256 ≡ s → (c : Bool) → ltb h.caller 256 ≡ c → f (short s c) ≡ f (named h)
      go true d true e = refl
      go true d false e =
          neither (short true false) (no_caller w p (short true false) (omega arith))
          (no_caller w p (named h) (omega (arith, ltb-false h.caller 256 e)))
      go false d c e =
          neither (short false c) refl (no_slot w p (named h) (omega (arith, ltb-false h.slot 256 d)))

-- and in a call that is not refused with 1 every slot has a byte: the slot count is 8 or 16
module _ (w : ℕ) (p : BufferPool) (m : Memories) where
  count_tested : {A : Type 0} (refuse : Refusal → A) (a b : A) → (w ≤ most_slots → a ≡ b) → guarded w p m refuse a ≡ guarded w p m refuse b
  count_tested {A} refuse a b e = go (sound w p) refl
    where
      go : (s : Bool) → sound w p ≡ s → pick (not s) (refuse Unsound) (pick (misfit p m) (refuse WrongLength) a) ≡ pick (not s) (refuse Unsound) (pick (misfit p m) (refuse WrongLength) b)
      go true s = ap (λ (x : A). pick (misfit p m) (refuse WrongLength) x) (e (count_bounds w (sound_use w p s).orderly.ready.is_count).1)
      go false s = refl

  module _ (h : Handle) where
    pub released_in_bytes : calls.release w p m (named (in_bytes h)) ≡ calls.release w p m (named h)
    unfolding calls.release release_step
    released_in_bytes =
        count_tested (λ why. outcome (refused p why) m []) _ _
        (λ few. in_bytes_lem w few p (λ k. outcome (release_step w p k) m []) (outcome (refused p NotLive) m []) (λ n e. rw e refl) h)

    pub viewed_in_bytes : calls.slice_view w p m (named (in_bytes h)) ≡ calls.slice_view w p m (named h)
    unfolding calls.slice_view
    viewed_in_bytes =
        count_tested hidden _ _
        (λ few. in_bytes_lem w few p (λ k. pick (names w p k) (shown (at Pool k.start k.length)) (hidden NotLive)) (hidden NotLive) (λ n e. rw e refl) h)

-- ---- What the code makes of a handle and of a view

pub named_as : (h : Handle) (slot : ℕ) → slot ≡ byte_or 0 h.slot → (caller : ℕ) → caller ≡ byte_or 255 h.caller
    → record { slot = slot; start = h.start; length = h.length; serial = h.serial; caller = caller } ≡ named (in_bytes h)
named_as h slot e caller f = rw (e, f) refl

pub view_result_as : (v : View) (q : Place) → q ≡ place_of (view_place v) → record { place = q; refusal = view_refusal v } ≡ view_result v
view_result_as v q e = rw e refl

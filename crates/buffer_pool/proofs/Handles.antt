-- The handles that were taken and not released are exactly those that name a live slot, after every call. A reserve keeps live
-- slots and their entries; a take adds the handle of a slot that was free, and no other entry changes; after a release no
-- handle of that slot is left. Assumes nothing.
use mathlib.Core.Path.{◌≡◌, refl, sym, ap, ◌∙◌, subst}
use mathlib.Core.Bool.{Bool, true, false}
use mathlib.Core.List.{List, [], ◌∷◌}
use mathlib.Core.Logic.{◌≢◌, ◌⊎◌, inl, inr}
use Prim.Native.Nat.{ℕ, suc, ◌+◌, ◌-◌, ◌<◌, min}
use native.Mathlib.Decide.{ℕ_discrete}
use native.Mathlib.Omega.{arith}
use borrow.Author.Tests.{eqb-true, eqb-false, leb-false}
use lib.Dec.{leb, ltb, eqb}
use Rattle.laws.specs.Tests.{pick}
use Rattle.laws.specs.Live.{live_at}
use Rattle.laws.proofs.Tests.{no_true, pick_cases}
use Rattle.buffer_pool.specs.declared.slice.Handle.{Handle}
use Rattle.buffer_pool.specs.declared.buffer_pool.BufferPool.{BufferPool}
use Rattle.buffer_pool.specs.declared.buffer_pool.PoolMode.{PoolMode}
use Rattle.buffer_pool.specs.declared.buffer_pool.PoolMode.TheVariants.{Back, Front, Alloc}
use Rattle.buffer_pool.specs.declared.buffer_pool.Called.{Called}
use Rattle.buffer_pool.specs.Record.{caller_count, new_record}
use Rattle.buffer_pool.specs.Placing.{place, is_too_long}
use Rattle.buffer_pool.specs.Sound.{Orderly}
use Rattle.buffer_pool.specs.Values.{refusal, values}
use Rattle.buffer_pool.specs.Steps.{frame, frame_of, reserve_on, reserve_step, resized, commit_step, truncate_step, most_serials, given_to, next_handle, handed_out, longer, take_on, take_step, names, freed, release_step}
use Rattle.buffer_pool.specs.Together.{holding, without, let_go}
use Rattle.buffer_pool.proofs.Order.{none_held}
use Rattle.buffer_pool.proofs.Unchanged.{fixed}
use Rattle.buffer_pool.proofs.Ranges.{orderly_claim}
use Rattle.buffer_pool.proofs.Named.{Named, names_use, slot_one, Same, fixed_same, place_same, same_back, same_named, claimed_named, claimed_still, claimed_before, released_still, released_before, released_gone}

-- ---- The handles held

unfoldable pub Has : Handle → List Handle → Type 0
Has h [] = ⊥
Has h (k ∷ held) = (h ≡ k) ⊎ Has h held

pub record Holds (w : ℕ) (r : BufferPool) (held : List Handle) : Type 0 where
  pub named : (h : Handle) → Has h held → Named w (fixed r) h
  pub has : (h : Handle) → Named w (fixed r) h → Has h held

pub new_holds : (w capacity overflow : ℕ) → Holds w (new_record w capacity overflow) []
unfolding Has
new_holds w capacity overflow = record { named = λ h x. absurd x; has = λ h N. none_held w refl N.here }

-- ---- The same live slots with the same entries

abbrev SameSlots : ℕ → BufferPool → BufferPool → Type 0
SameSlots w r q = Same w (fixed r) (fixed q)

same_holds : {w : ℕ} {r q : BufferPool} {held : List Handle} → SameSlots w r q → Holds w r held → Holds w q held
same_holds S H = record { named = λ h x. same_named S (H.named h x); has = λ h N. H.has h (same_named (same_back S) N) }

module _ (w : ℕ) (r : BufferPool) where
  resized_same : (mode : PoolMode) (n : ℕ) → SameSlots w r (resized mode r n)
  resized_same Back n = fixed_same refl
  resized_same (Front f) n = fixed_same refl
  resized_same Alloc n = fixed_same refl

  reserve_same : (len : ℕ) → SameSlots w r (reserve_step w r len).pool
  unfolding reserve_step reserve_on
  reserve_same len = go (is_too_long (place w r len) len)
    where
      go : (t : Bool) → SameSlots w r (reserve_on t r (place w r len)).pool
      go true = fixed_same refl
      go false = place_same w r len

  commit_same : (n : ℕ) → SameSlots w r (commit_step r n).pool
  unfolding commit_step
  commit_same n =
      pick_cases (λ (c : Called). SameSlots w r c.pool) (ltb r.reserved n) (λ e. fixed_same refl)
      (λ e. resized_same r.mode ((frame r).length + n))

  truncate_same : (n : ℕ) → SameSlots w r (truncate_step r n).pool
  unfolding truncate_step
  truncate_same n = resized_same r.mode (min (frame r).length n)

-- ---- A take of a frame in the pool

module _ (w caller : ℕ) (r : BufferPool) (O : Orderly w r) (a : caller < caller_count) (l : 0 < r.raw_len) (mode : PoolMode) (n : ℕ)
    (held : List Handle) (H : Holds w r held) where
  abbrev q : BufferPool
  q = handed_out w caller r mode n

  abbrev next : ℕ
  next = suc r.used

  within : r.used < w
  within = (orderly_claim w r O l).within

  next_named : Named w (fixed q) (next_handle r caller)
  next_named =
      let R = O.ready in
      claimed_named w (fixed r) r.used r.raw_offset r.raw_len (suc (given_to r caller)) caller within R.slots.starts_w
      R.slots.lengths_w R.serials_fit a

  -- the slot was free
  other_slot : (h : Handle) → Named w (fixed r) h → h.slot ≢ next
  other_slot h N e = no_true (sym (orderly_claim w r O l).free ∙ ap (live_at w r.live) (sym e) ∙ N.here.here)

  handed_holds : Holds w q (next_handle r caller ∷ held)
  unfolding Has
  handed_holds = record { named = named; has = λ h N. has h N (ℕ_discrete h.slot next) }
    where
      named : (h : Handle) → (h ≡ next_handle r caller) ⊎ Has h held → Named w (fixed q) h
      named h (inl e) = subst (λ (k : Handle). Named w (fixed q) k) (sym e) next_named
      named h (inr x) = let N = H.named h x in claimed_still w (fixed r) r.used _ _ _ caller within (other_slot h N) N

      has : (h : Handle) → Named w (fixed q) h → Dec (h.slot ≡ next) → (h ≡ next_handle r caller) ⊎ Has h held
      has h N (yes e) = inl (slot_one N next_named e)
      has h N (no d) = inr (H.has h (claimed_before w (fixed r) r.used _ _ _ caller within d N))

-- ---- A release

-- the handles of other slots stay
without_has : (slot : ℕ) (h : Handle) (held : List Handle) → h.slot ≢ slot → Has h held → Has h (without slot held)
unfolding Has without
without_has slot h [] d x = x
without_has slot h (k ∷ held) d x = go (eqb k.slot slot) refl x (without_has slot h held d)
  where
    go : (t : Bool) → eqb k.slot slot ≡ t → (h ≡ k) ⊎ Has h held → (Has h held → Has h (without slot held))
        → Has h (pick t (without slot held) (k ∷ without slot held))
    go true e (inl y) rest = absurd (d (ap (λ (a : Handle). a.slot) y ∙ eqb-true k.slot slot e))
    go true e (inr y) rest = rest y
    go false e (inl y) rest = inl y
    go false e (inr y) rest = inr (rest y)

without_from : (slot : ℕ) (h : Handle) (held : List Handle) → Has h (without slot held) → (h.slot ≢ slot) × Has h held
unfolding Has without
without_from slot h [] x = absurd x
without_from slot h (k ∷ held) x = go (eqb k.slot slot) refl x (without_from slot h held)
  where
    go : (t : Bool) → eqb k.slot slot ≡ t → Has h (pick t (without slot held) (k ∷ without slot held))
        → (Has h (without slot held) → (h.slot ≢ slot) × Has h held) → (h.slot ≢ slot) × ((h ≡ k) ⊎ Has h held)
    go true e y rest = ((rest y).0, inr (rest y).1)
    go false e (inl y) rest = (λ d. eqb-false k.slot slot e (ap (λ (a : Handle). a.slot) (sym y) ∙ d), inl y)
    go false e (inr y) rest = ((rest y).0, inr (rest y).1)

module _ (w : ℕ) (r : BufferPool) (held : List Handle) (H : Holds w r held) (h : Handle) (N : Named w (fixed r) h) where
  freed_holds : Holds w (freed w r h.slot) (without h.slot held)
  freed_holds =
      record {
        named = λ k x. let y = without_from h.slot k held x in released_still N.here y.0 (H.named k y.1);
        has = λ k M. without_has h.slot k held (released_gone N.here M) (H.has k (released_before N.here M));
      }

-- ---- The steps

module _ (w : ℕ) (r : BufferPool) (held : List Handle) (H : Holds w r held) where
  pub reserve_holds : (len : ℕ) → Holds w (reserve_step w r len).pool held
  reserve_holds len = same_holds (reserve_same w r len) H

  pub commit_holds : (n : ℕ) → Holds w (commit_step r n).pool held
  commit_holds n = same_holds (commit_same w r n) H

  pub truncate_holds : (n : ℕ) → Holds w (truncate_step r n).pool held
  truncate_holds n = same_holds (truncate_same w r n) H

  pub take_holds : (caller destination : ℕ) → Orderly w r → let c = take_step w r caller destination in
      Holds w c.pool (holding (values c.answer) held)
  unfolding take_step take_on
  take_holds caller destination O =
      go (leb caller_count caller) refl r.mode (eqb (frame r).length 0) refl (ltb destination (frame r).length)
      (leb most_serials (given_to r caller))
    where
      handed : leb caller_count caller ≡ false → eqb r.raw_len 0 ≡ false → (mode : PoolMode) (n : ℕ)
          → Holds w (handed_out w caller r mode n) (next_handle r caller ∷ held)
      handed a e mode n =
          handed_holds w caller r O (leb-false caller_count caller a) (omega (arith, eqb-false r.raw_len 0 e)) mode n held H

      go : (none : Bool) → leb caller_count caller ≡ none → (mode : PoolMode) (z : Bool) → eqb (frame_of mode r).length 0 ≡ z
          → (long spent : Bool) → let c = take_on none z long spent mode w caller r in
          Holds w c.pool (holding (values c.answer) held)
      go true a mode z e long spent = H
      go false a mode true e long spent = same_holds (resized_same w r mode (frame_of mode r).length) H
      go false a Back false e long true = H
      go false a Back false e long false = handed a e Back (suc r.used - r.back_start)
      go false a (Front f) false e long true = H
      go false a (Front f) false e long false = handed a e (Front (longer f (suc r.used))) r.back_len
      go false a Alloc false e true spent = H
      go false a Alloc false e false spent = same_holds (fixed_same refl) H

  pub release_holds : (h : Handle) → let c = release_step w r h in
      Holds w c.pool (let_go (refusal c.answer) h.slot held)
  unfolding release_step refusal
  release_holds h =
      pick_cases (λ (c : Called). Holds w c.pool (let_go (refusal c.answer) h.slot held)) (names w r h)
      (λ e. freed_holds w r held H h (names_use w r h e)) (λ e. H)

-- The book's pairs beside the slots: each handle names its slot, so two handles of one slot are one handle, and each change
-- of the slots is followed by the book's change of its pairs. Assumes nothing.
use mathlib.Core.Path.{◌≡◌, refl, sym, ap, ◌∙◌, subst}
use mathlib.Core.Bool.{Bool, true, false}
use mathlib.Core.List.{List, [], ◌∷◌, map}
use mathlib.Core.Logic.{◌≢◌, inl, inr}
use Prim.Native.Nat.{ℕ, suc, ◌≤◌, ◌<◌}
use native.Mathlib.Decide.{ℕ_discrete}
use lib.ListN.{length, set}
use Rattle.laws.specs.Tests.{pick}
use Rattle.laws.specs.Live.{live_at, released}
use Rattle.laws.proofs.Tests.{no_true, pick_cases}
use Rattle.laws.proofs.Slots.{released_same}
use Rattle.buffer_pool.specs.declared.buffer_pool.Place.{Place}
use Rattle.buffer_pool.specs.declared.slice.Handle.{Handle}
use Rattle.buffer_pool.specs.Record.{caller_count}
use Rattle.buffer_pool.specs.Moves.{Memories}
use Rattle.buffer_pool.specs.Sound.{Held, SerialsFit}
use Rattle.buffer_pool.specs.Calls.{bytes_at, written}
use Rattle.buffer_pool.proofs.StepsKept.{released_held}
use Rattle.buffer_pool.proofs.Unchanged.{Fixed}
use Rattle.buffer_pool.proofs.Named.{Named, slot_one, Same, same_held, same_named, claimed_slot, handle_of, claimed_named, claimed_live, claimed_still, released_slot, released_still}
use Rattle.book.specs.Book.{Pair, pair, same_handle, without, rewritten}
use Rattle.book.specs.Demand3.{Member, slice_of}
use Rattle.book.proofs.Places.{Off, written_same, written_off}
use Rattle.book.proofs.Slices.{same_is, same_self}

-- ---- Pairs

pub member_map : (f : Pair → Pair) (pairs : List Pair) (y : Pair) → Member y (map f pairs) → (x : Pair) × Member x pairs × (y ≡ f x)
member_map f [] y i = elim i [ ]
member_map f (x ∷ pairs) y (inl e) = (x, inl refl, e)
member_map f (x ∷ pairs) y (inr i) = let t = member_map f pairs y i in (t.0, inr t.1, t.2)

map_member : (f : Pair → Pair) (pairs : List Pair) (x : Pair) → Member x pairs → Member (f x) (map f pairs)
map_member f [] x i = elim i [ ]
map_member f (y ∷ pairs) x (inl e) = inl (ap f e)
map_member f (y ∷ pairs) x (inr i) = inr (map_member f pairs x i)

pub without_member : (h : Handle) (pairs : List Pair) (y : Pair) → Member y (without h pairs)
    → Member y pairs × (same_handle y.handle h ≡ false)
unfolding without
without_member h [] y = λ i. absurd i
without_member h (x ∷ pairs) y = go (same_handle x.handle h) refl (without_member h pairs y)
  where
    go : (t : Bool) → same_handle x.handle h ≡ t
        → (Member y (without h pairs) → Member y pairs × (same_handle y.handle h ≡ false))
        → Member y (pick t (without h pairs) (x ∷ without h pairs)) → Member y (x ∷ pairs) × (same_handle y.handle h ≡ false)
    go true e rest i = let t = rest i in (inr t.0, t.1)
    go false e rest (inl d) = (inl d, ap (λ (z : Pair). same_handle z.handle h) d ∙ e)
    go false e rest (inr i) = let t = rest i in (inr t.0, t.1)

member_without : (h : Handle) (pairs : List Pair) (y : Pair) → Member y pairs → same_handle y.handle h ≡ false
    → Member y (without h pairs)
unfolding without
member_without h [] y i e = elim i [ ]
member_without h (x ∷ pairs) y i e = go (same_handle x.handle h) refl i (λ j. member_without h pairs y j e)
  where
    go : (t : Bool) → same_handle x.handle h ≡ t → Member y (x ∷ pairs) → (Member y pairs → Member y (without h pairs))
        → Member y (pick t (without h pairs) (x ∷ without h pairs))
    go true d (inl j) rest = absurd (no_true (sym e ∙ ap (λ (z : Pair). same_handle z.handle h) j ∙ d))
    go true d (inr j) rest = rest j
    go false d (inl j) rest = inl j
    go false d (inr j) rest = inr (rest j)

-- a pair that is rewritten keeps its handle
pub rewritten_handle : (h : Handle) (i byte : ℕ) (x : Pair) → (rewritten h i byte x).handle ≡ x.handle
unfolding rewritten
rewritten_handle h i byte x =
    pick_cases (λ (y : Pair). y.handle ≡ x.handle) (same_handle x.handle h) (λ e. refl) (λ e. refl)

-- no two pairs are of one slot
abbrev pub Once : List Pair → Type 0
Once [] = Unit
Once (x ∷ pairs) = ((y : Pair) → Member y pairs → x.handle.slot ≢ y.handle.slot) × Once pairs

once_map : (f : Pair → Pair) → ((x : Pair) → (f x).handle ≡ x.handle) → (pairs : List Pair) → Once pairs → Once (map f pairs)
once_map f same [] O = tt
once_map f same (x ∷ pairs) O = (differ, once_map f same pairs O.1)
  where
    differ : (y : Pair) → Member y (map f pairs) → (f x).handle.slot ≢ y.handle.slot
    differ y i e =
        let t = member_map f pairs y i in
        O.0 t.0 t.1
        (ap (λ (h : Handle). h.slot) (sym (same x)) ∙ e ∙ ap (λ (z : Pair). z.handle.slot) t.2
        ∙ ap (λ (h : Handle). h.slot) (same t.0))

once_without : (h : Handle) (pairs : List Pair) → Once pairs → Once (without h pairs)
unfolding without
once_without h [] O = tt
once_without h (x ∷ pairs) O = go (same_handle x.handle h) (once_without h pairs O.1)
  where
    go : (t : Bool) → Once (without h pairs) → Once (pick t (without h pairs) (x ∷ without h pairs))
    go true rest = rest
    go false rest = (λ y i. O.0 y (without_member h pairs y i).0, rest)

-- the pairs' handles are those of the live slots, and their slices show their bytes
pub record Booked (w : ℕ) (x : Fixed) (m : Memories) (pairs : List Pair) : Type 0 where
  pub named : (y : Pair) → Member y pairs → Named w x y.handle
  pub shows : (y : Pair) → Member y pairs → bytes_at m (slice_of y) ≡ y.bytes
  pub known : (p : ℕ) → Held w x.live p → (y : Pair) × Member y pairs × (y.handle.slot ≡ p)
  pub once : Once pairs

module _ {w : ℕ} {x : Fixed} {m : Memories} {pairs : List Pair} (B : Booked w x m pairs) where
  -- other memories, in which the slices show the same
  pub booked_beside : {m' : Memories} → ((y : Pair) → Member y pairs → bytes_at m' (slice_of y) ≡ bytes_at m (slice_of y))
      → Booked w x m' pairs
  booked_beside same = record { named = B.named; shows = λ y i. same y i ∙ B.shows y i; known = B.known; once = B.once }

  -- other slots, with the same entries where one is live
  pub booked_slots : {x' : Fixed} → Same w x x' → Booked w x' m pairs
  booked_slots S =
      record {
        named = λ y i. same_named S (B.named y i);
        shows = B.shows;
        known = λ p t. B.known p (same_held S p t);
        once = B.once;
      }

  -- a byte written at p: a handle's slice, off every other, or, where the handle names no slot, any place off all of them
  pub booked_written : (h : Handle) (p : Place) (i byte : ℕ) → (Named w x h → p ≡ slice_of (pair h []))
      → ((y : Pair) → Member y pairs → y.handle ≢ h → Off (slice_of y) p)
      → Booked w x (written m p i byte) (map (rewritten h i byte) pairs)
  unfolding rewritten
  booked_written h p i byte is off =
      record {
        named = λ y j.
            let t = member_map _ pairs y j in
            subst (Named w x) (sym (ap (λ (z : Pair). z.handle) t.2 ∙ kept t.0)) (B.named t.0 t.1);
        shows = λ y j. let t = member_map _ pairs y j in subst Shown (sym t.2) (rewrites t.0 t.1);
        known = λ q t.
            let k = B.known q t in
            (rewritten h i byte k.0, map_member _ pairs k.0 k.1, ap (λ (z : Handle). z.slot) (kept k.0) ∙ k.2);
        once = once_map (rewritten h i byte) kept pairs B.once;
      }
    where
      changed : Bool → Pair → Pair
      changed t z = pick t (pair z.handle (set z.bytes i byte)) z

      Shown : Pair → Type 0
      Shown z = bytes_at (written m p i byte) (slice_of z) ≡ z.bytes

      kept : (z : Pair) → (rewritten h i byte z).handle ≡ z.handle
      kept = rewritten_handle h i byte

      rewrites : (z : Pair) → Member z pairs → Shown (rewritten h i byte z)
      rewrites z j = go (same_handle z.handle h) refl
        where
          go : (t : Bool) → same_handle z.handle h ≡ t → Shown (changed t z)
          go true e =
              let d = same_is z.handle h e in
              let N = subst (Named w x) d (B.named z j) in
              let here : p ≡ slice_of z = is N ∙ ap (λ (k : Handle). slice_of (pair k [])) (sym d) in
              subst (λ (q : Place). bytes_at (written m q i byte) (slice_of z) ≡ set z.bytes i byte) (sym here)
              (written_same m i byte (slice_of z) ∙ ap (λ (l : List ℕ). set l i byte) (B.shows z j))
          go false e =
              written_off m i byte p (slice_of z)
              (off z j (λ d. no_true (sym e ∙ ap (λ (k : Handle). same_handle k h) d ∙ same_self h)))
              ∙ B.shows z j

-- ---- A slot claimed, and a slot released

module _ {w : ℕ} {x : Fixed} {m : Memories} {pairs : List Pair} (B : Booked w x m pairs) where
  -- slot i + 1 was free, and the frame's bytes are F
  module _ (i start len serial caller : ℕ) (F : List ℕ) (h : i < w) (free : live_at w x.live (suc i) ≡ false)
      (hs : w ≤ length x.starts) (hl : w ≤ length x.lengths) (hn : SerialsFit w x.serials x.callers x.given)
      (a : caller < caller_count) where
    abbrev taken : Handle
    taken = handle_of (suc i) start len serial caller

    abbrev x' : Fixed
    x' = claimed_slot w x i start len serial caller

    not_taken : (y : Pair) → Member y pairs → y.handle.slot ≢ suc i
    not_taken y j e = no_true (sym free ∙ ap (live_at w x.live) (sym e) ∙ (B.named y j).here.here)

    pub booked_claimed : bytes_at m (slice_of (pair taken [])) ≡ F → Booked w x' m (pair taken F ∷ pairs)
    booked_claimed shown =
        record {
          named = named;
          shows = shows;
          known = λ p t. known p t (ℕ_discrete p (suc i));
          once = (λ y j e. not_taken y j (sym e), B.once);
        }
      where
        named : (y : Pair) → Member y (pair taken F ∷ pairs) → Named w x' y.handle
        named y (inl e) =
            subst (λ (z : Pair). Named w x' z.handle) (sym e) (claimed_named w x i start len serial caller h hs hl hn a)
        named y (inr j) = claimed_still w x i start len serial caller h (not_taken y j) (B.named y j)

        shows : (y : Pair) → Member y (pair taken F ∷ pairs) → bytes_at m (slice_of y) ≡ y.bytes
        shows y (inl e) = subst (λ (z : Pair). bytes_at m (slice_of z) ≡ z.bytes) (sym e) shown
        shows y (inr j) = B.shows y j

        known : (p : ℕ) → Held w x'.live p → Dec (p ≡ suc i)
            → (y : Pair) × Member y (pair taken F ∷ pairs) × (y.handle.slot ≡ p)
        known p t (yes e) = (pair taken F, inl refl, sym e)
        known p t (no n) =
            let k = B.known p (record { one = t.one; most = t.most; here = sym (claimed_live w x i start len serial caller h p t.most n) ∙ t.here }) in
            (k.0, inr k.1, k.2)

  pub booked_released : (h : Handle) → Named w x h → Booked w (released_slot w x h.slot) m (without h pairs)
  booked_released h N =
      record {
        named = λ y j. let t = without_member h pairs y j in named y (B.named y t.0) t.1;
        shows = λ y j. B.shows y (without_member h pairs y j).0;
        known = λ p t. known p t (B.known p (released_held w x.live h.slot p N.here.one N.here.most t));
        once = once_without h pairs B.once;
      }
    where
      named : (y : Pair) → Named w x y.handle → same_handle y.handle h ≡ false
          → Named w (released_slot w x h.slot) y.handle
      named y M e =
          released_still N.here
          (λ d. no_true (sym e ∙ ap (λ (k : Handle). same_handle k h) (slot_one M N d) ∙ same_self h)) M

      known : (p : ℕ) → Held w (released w x.live h.slot) p → (y : Pair) × Member y pairs × (y.handle.slot ≡ p)
          → (y : Pair) × Member y (without h pairs) × (y.handle.slot ≡ p)
      known p t k = go (same_handle k.0.handle h) refl
        where
          go : (a : Bool) → same_handle k.0.handle h ≡ a → (y : Pair) × Member y (without h pairs) × (y.handle.slot ≡ p)
          go true e =
              let d : h.slot ≡ p = sym (ap (λ (z : Handle). z.slot) (same_is k.0.handle h e)) ∙ k.2 in
              absurd
              (no_true
              (sym (released_same w x.live h.slot N.here.one N.here.most)
              ∙ ap (live_at w (released w x.live h.slot)) d ∙ t.here))
          go false e = (k.0, member_without h pairs k.0 k.1 e, k.2)

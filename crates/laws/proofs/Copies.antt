-- What a copy, a move and a zero fill leave at each place: the copied elements where they went, everything else as it was.
-- Assumes nothing.
use mathlib.Core.Path.{◌≡◌, ap, ◌∙◌, subst}
use mathlib.Core.List.{List, ◌++◌, append_assoc}
use Prim.Native.Nat.{ℕ, ◌+◌, ◌-◌, ◌≤◌}
use native.Mathlib.Nat.{add-zero}
use native.Mathlib.Omega.{arith}
use lib.ListN.{length, take, drop, length-append, length-take, length-drop}
use lib.Seq.{length-take-le}
use Rattle.laws.specs.Lists.{part, copied}
use Rattle.laws.proofs.Lists.{length_part, part_take, part_drop, part_part, part_append_left, part_append_right}

module _ {ℓ} {A : Type ℓ} (x : List A) (s l : ℕ) (d : List A) (t : ℕ) (hs : s + l ≤ length x) (ht : t + l ≤ length d) where
  -- the copy as a front, the copied part and a rest
  cut : copied x s l d t ≡ take t d ++ (part x s l ++ drop (t + l) d)
  unfolding copied
  cut = append_assoc (take t d) (part x s l) (drop (t + l) d)

  pub length_copied : length (copied x s l d t) ≡ length d
  unfolding copied
  length_copied = simp (length-append, length-take, length-drop, length_part x s l hs) (omega arith)

  -- what was copied stands at its new place, and each part of it
  pub part_copied_in : (a n : ℕ) → a + n ≤ l → part (copied x s l d t) (t + a) n ≡ part x (s + a) n
  part_copied_in a n h =
      rw cut
      (part_append_right (take t d) _ t a n (length-take-le t d (omega arith))
      ∙ part_append_left (part x s l) _ a n (rw (length_part x s l hs) h)
      ∙ part_part x s l a n h)

  pub part_copied_all : part (copied x s l d t) t l ≡ part x s l
  part_copied_all = simp add-zero at (part_copied_in 0 l (omega arith))

  -- what stands apart from the new place stays
  pub part_copied_before : (a n : ℕ) → a + n ≤ t → part (copied x s l d t) a n ≡ part d a n
  part_copied_before a n h =
      rw cut (part_append_left (take t d) _ a n (rw (length-take-le t d (omega arith)) h) ∙ part_take t d a n h)

  part_copied_past : (k n : ℕ) → part (copied x s l d t) (t + (l + k)) n ≡ part d (t + l + k) n
  part_copied_past k n =
      rw cut
      (part_append_right (take t d) _ t (l + k) n (length-take-le t d (omega arith))
      ∙ part_append_right (part x s l) _ l k n (length_part x s l hs)
      ∙ part_drop (t + l) d k n)

  pub part_copied_after : (a n : ℕ) → t + l ≤ a → part (copied x s l d t) a n ≡ part d a n
  part_copied_after a n h =
      subst (λ (j : ℕ). part (copied x s l d t) j n ≡ part d a n) (omega arith)
      (part_copied_past (a - (t + l)) n ∙ ap (λ (j : ℕ). part d j n) (omega arith))

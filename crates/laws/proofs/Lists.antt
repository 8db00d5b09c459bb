-- The part of a list: its length, its elements, a part of a part, of a concatenation, of a list with one element stored.
-- Assumes nothing.
use mathlib.Core.Path.{◌≡◌, refl, ◌∙◌, subst}
use mathlib.Core.List.{List, [], ◌∷◌, ◌++◌}
use Prim.Native.Nat.{ℕ, zero, suc, ◌+◌, ◌-◌, ◌≤◌, ◌<◌}
use native.Mathlib.Omega.{arith}
use lib.ListN.{length, take, drop, get_or, set, length-take, length-drop}
use lib.Seq.{take-append-le, drop-append-le, drop-append-add, take-take, drop-drop, take-add, take-set-le, drop-set-lt, take-set-lt, drop-set-add, get_or-take, get_or-drop}
use Rattle.laws.specs.Lists.{part}

module _ {ℓ} {A : Type ℓ} where
  pub length_part : (m : List A) (s l : ℕ) → s + l ≤ length m → length (part m s l) ≡ l
  unfolding part
  length_part m s l h = simp (length-take, length-drop) (omega arith)

  pub get_d_part : (m : List A) (s l i : ℕ) (d : A) → i < l → get_or (part m s l) i d ≡ get_or m (s + i) d
  unfolding part
  get_d_part m s l i d h = rw (get_or-take, get_or-drop)

  pub part_none : (m : List A) (s : ℕ) → part m s 0 ≡ []
  unfolding part
  part_none m s = refl

  -- two parts one after the other
  pub part_add : (m : List A) (s a b : ℕ) → part m s (a + b) ≡ part m s a ++ part m (s + a) b
  unfolding part
  part_add m s a b = rw (take-add a b (drop s m), drop-drop)

  -- a part of a front, of a rest, of a part
  pub part_take : (d : ℕ) (m : List A) (a n : ℕ) → a + n ≤ d → part (take d m) a n ≡ part m a n
  unfolding part
  part_take d m zero n h = take-take n d m (omega arith)
  part_take zero m (suc a) n h = absurd (omega arith)
  part_take (suc d) [] (suc a) n h = refl
  part_take (suc d) (x ∷ m) (suc a) n h = part_take d m a n (omega arith)

  pub part_drop : (d : ℕ) (m : List A) (a n : ℕ) → part (drop d m) a n ≡ part m (d + a) n
  unfolding part
  part_drop d m a n = rw drop-drop

  pub part_part : (m : List A) (s l a n : ℕ) → a + n ≤ l → part (part m s l) a n ≡ part m (s + a) n
  unfolding part
  part_part m s l a n h = part_take l (drop s m) a n h ∙ part_drop s m a n

  -- a part of a concatenation
  pub part_append_left : (xs ys : List A) (a n : ℕ) → a + n ≤ length xs → part (xs ++ ys) a n ≡ part xs a n
  unfolding part
  part_append_left xs ys a n h =
      rw (drop-append-le a xs ys (omega arith))
      (take-append-le n (drop a xs) ys (simp length-drop (omega arith)))

  pub part_append_right : (xs ys : List A) (c a n : ℕ) → length xs ≡ c → part (xs ++ ys) (c + a) n ≡ part ys a n
  unfolding part
  part_append_right xs ys c a n e = rw (← e, drop-append-add xs ys a)

  -- a store outside of a part, and inside
  pub part_set_before : (m : List A) (s l i : ℕ) (v : A) → i < s → part (set m i v) s l ≡ part m s l
  unfolding part
  part_set_before m s l i v h = rw (drop-set-lt s m i v h)

  part_set_past : (m : List A) (s l k : ℕ) (v : A) → l ≤ k → part (set m (s + k) v) s l ≡ part m s l
  unfolding part
  part_set_past m s l k v h = rw (drop-set-add s m k v, take-set-le l (drop s m) k v h)

  pub part_set_after : (m : List A) (s l i : ℕ) (v : A) → s + l ≤ i → part (set m i v) s l ≡ part m s l
  part_set_after m s l i v h = subst (λ (j : ℕ). part (set m j v) s l ≡ part m s l) (omega arith) (part_set_past m s l (i - s) v (omega arith))

  pub part_set_in : (m : List A) (s l i : ℕ) (v : A) → i < l → part (set m (s + i) v) s l ≡ set (part m s l) i v
  unfolding part
  part_set_in m s l i v h = rw (drop-set-add s m i v, take-set-lt l (drop s m) i v h)

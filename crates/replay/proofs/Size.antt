-- The text of a signed number, and the difference of two starts. Assumes nothing.
use Prim.Native.Nat.{ℕ, zero, suc, ◌-◌, ◌<◌}
use mathlib.Core.Path.{◌≡◌, refl, ap, sym, subst, ◌∙◌}
use mathlib.Core.Bool.{Bool, true, false, cond}
use native.Mathlib.Omega.{arith}
use lib.IntN.{ℤ, pos, negsuc, nat_abs, ◌-ℤ◌}
use lib.Dec.{ltb}
use lib.Signed.{lt_z}
use borrow.Author.Tests.{ltb-true}
use mir.Syntax.{w64}
use mir.Val.{to_z, of_z, SFits}
use mir.Facts.{to_z-of_z}
use mathlib.Core.List.{List, [], ◌∷◌}
use Rattle.laws.proofs.Tests.{no_true}
use Rattle.replay.specs.declared.event.Starts.{Starts}
use Rattle.replay.specs.declared.text.Writer.{Writer}
use Rattle.replay.specs.Text.{decimal, signed, spaced, Writes}
use Rattle.replay.specs.Listing.{move_of}
use Rattle.replay.proofs.TextLaws.{joined}

-- ---- The text of a signed number

minus : (z : ℤ) (n : ℕ) → lt_z z (pos 0) ≡ true → n ≡ nat_abs z → 45 ∷ decimal n ≡ signed z
unfolding signed
minus (pos k) n t e = let h : k < 0 = ltb-true k 0 t in absurd (omega arith)
minus (negsuc k) n t e = rw e refl

plus : (z : ℤ) (n : ℕ) → lt_z z (pos 0) ≡ false → n ≡ nat_abs z → decimal n ≡ signed z
unfolding signed
plus (pos k) n t e = rw e refl
plus (negsuc k) n t e = absurd (no_true (sym t))

module _ {a b : Writer} (v : ℤ) (f : SFits w64 v) (n : ℕ) (e : n ≡ nat_abs (to_z w64 (of_z w64 v))) where
  pub signed_minus : {c : Writer} → lt_z (to_z w64 (of_z w64 v)) (pos 0) ≡ true → Writes a b (spaced (45 ∷ [])) → Writes b c (decimal n)
      → Writes a c (spaced (signed v))
  unfolding spaced
  signed_minus {c} t p q =
      subst (λ (l : List ℕ). Writes a c (32 ∷ l)) (minus v n (rw (to_z-of_z f) at t) (rw (to_z-of_z f) at e)) (joined p q)

  pub signed_plus : lt_z (to_z w64 (of_z w64 v)) (pos 0) ≡ false → Writes a b (spaced (decimal n)) → Writes a b (spaced (signed v))
  signed_plus t p = subst (λ (l : List ℕ). Writes a b (spaced l)) (plus v n (rw (to_z-of_z f) at t) (rw (to_z-of_z f) at e)) p

-- ---- The difference of two starts

-- a start as a signed number
pub start_fits : (n : ℕ) → n < 4294967296 → SFits w64 (pos n)
start_fits n h = record { sfits = omega arith }

less_fits : (a b : ℕ) → a < 4294967296 → b < 4294967296 → SFits w64 (pos a -ℤ pos b)
less_fits a zero h k = record { sfits = omega arith }
less_fits a (suc b) h k = go (ltb a (suc b))
  where
    go : (t : Bool) → SFits w64 (cond t (negsuc (suc b - suc a)) (pos (a - suc b)))
    go true = record { sfits = omega arith }
    go false = record { sfits = omega arith }

module _ (s : Starts) (h : s.before < 4294967296) (k : s.after < 4294967296) where
  pub move_fits : SFits w64 (to_z w64 (of_z w64 (pos s.after)) -ℤ to_z w64 (of_z w64 (pos s.before)))
  move_fits = rw (to_z-of_z (start_fits s.after k), to_z-of_z (start_fits s.before h)) (less_fits s.after s.before k h)

  pub move_is : to_z w64 (of_z w64 (to_z w64 (of_z w64 (pos s.after)) -ℤ to_z w64 (of_z w64 (pos s.before)))) ≡ move_of s
  unfolding move_of
  move_is = to_z-of_z move_fits ∙ rw (to_z-of_z (start_fits s.after k), to_z-of_z (start_fits s.before h)) refl

  -- a move that was answered, read back
  pub move_read : (m : ℤ) → m ≡ move_of s → to_z w64 (of_z w64 m) ≡ move_of s
  unfolding move_of
  move_read m e = ap (λ (z : ℤ). to_z w64 (of_z w64 z)) e ∙ to_z-of_z (less_fits s.after s.before k h)

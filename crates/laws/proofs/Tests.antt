-- Bool tests read as facts, and back. Assumes nothing.
use mathlib.Core.Path.{◌≡◌, refl, sym, ap₂, subst}
use mathlib.Core.Bool.{Bool, true, false, not, ◌&&◌, ◌||◌}
use mathlib.Core.Logic.{◌⊎◌, inl, inr}
use Prim.Native.Nat.{ℕ, zero, suc, ◌+◌, ◌≤◌, ◌<◌}
use native.Mathlib.Nat.{eq-or-lt_of_le, le_refl}
use native.Mathlib.Omega.{arith}
use borrow.Author.Tests.{leb-true, ltb-true, eqb-true}
use lib.Dec.{leb, ltb, eqb}
use Rattle.laws.specs.Tests.{pick, implies, every}

pub no_true : false ≡ true → ⊥
no_true e = let z : ◌≡◌ {A = ℕ} 0 1 = cc in omega arith

pub both_true : (a b : Bool) → (a && b) ≡ true → (a ≡ true) × (b ≡ true)
both_true true b e = (refl, e)
both_true false b e = absurd (no_true e)

pub both : {a b : Bool} → a ≡ true → b ≡ true → (a && b) ≡ true
both p q = rw (p, q)

pub either_false : (a b : Bool) → (a || b) ≡ false → (a ≡ false) × (b ≡ false)
either_false true b e = absurd (no_true (sym e))
either_false false b e = (refl, e)

pub or_left : (a b : Bool) → a ≡ true → (a || b) ≡ true
or_left true b e = refl
or_left false b e = absurd (no_true e)

pub or_right : (a b : Bool) → b ≡ true → (a || b) ≡ true
or_right true b e = refl
or_right false b e = e

pub not_false : (a : Bool) → not a ≡ false → a ≡ true
not_false true e = refl
not_false false e = absurd (no_true (sym e))

pub not_true : (a : Bool) → not a ≡ true → a ≡ false
not_true true e = absurd (no_true e)
not_true false e = refl

pub implies_use : (a b : Bool) → implies a b ≡ true → a ≡ true → b ≡ true
implies_use true b e p = e
implies_use false b e p = absurd (no_true p)

pub implies_make : (a b : Bool) → (a ≡ true → b ≡ true) → implies a b ≡ true
implies_make true b f = f refl
implies_make false b f = refl

-- a test that only a number other than 0 needs
pub unless_zero_use : (a : Bool) (x : ℕ) → (a || eqb x 0) ≡ true → 0 < x → a ≡ true
unless_zero_use true x e h = refl
unless_zero_use false x e h = absurd (omega (arith, eqb-true x 0 e))

pub unless_zero_make : (a : Bool) (x : ℕ) → (0 < x → a ≡ true) → (a || eqb x 0) ≡ true
unless_zero_make true x f = refl
unless_zero_make false zero f = refl
unless_zero_make false (suc x) f = absurd (no_true (f (omega arith)))

pub every_use : (f : ℕ → Bool) (a n : ℕ) → every f a n ≡ true → (p : ℕ) → a ≤ p → p < a + n → f p ≡ true
unfolding every
every_use f a zero e p h k = absurd (omega arith)
every_use f a (suc n) e p h k = go (eq-or-lt_of_le h) (λ l. every_use f (suc a) n (both_true (f a) _ e).1 p l (omega arith))
  where
    go : (a ≡ p) ⊎ (a < p) → (a < p → f p ≡ true) → f p ≡ true
    go (inl d) r = subst (λ (x : ℕ). f x ≡ true) d (both_true (f a) _ e).0
    go (inr d) r = r d

pub every_make : (f : ℕ → Bool) (a n : ℕ) → ((p : ℕ) → a ≤ p → p < a + n → f p ≡ true) → every f a n ≡ true
unfolding every
every_make f a zero g = refl
every_make f a (suc n) g = both (g a (le_refl a) (omega arith)) (every_make f (suc a) n (λ p h k. g p (omega arith) (omega arith)))

-- a comparison and what follows it, of a conjunction
pub leb_and : (a b : ℕ) {c : Bool} → (leb a b && c) ≡ true → (a ≤ b) × (c ≡ true)
leb_and a b e = let t = both_true (leb a b) _ e in (leb-true a b t.0, t.1)

pub ltb_and : (a b : ℕ) {c : Bool} → (ltb a b && c) ≡ true → (a < b) × (c ≡ true)
ltb_and a b e = let t = both_true (ltb a b) _ e in (ltb-true a b t.0, t.1)

pub eqb_and : (a b : ℕ) {c : Bool} → (eqb a b && c) ≡ true → (a ≡ b) × (c ≡ true)
eqb_and a b e = let t = both_true (eqb a b) _ e in (eqb-true a b t.0, t.1)

-- what holds of either choice, by the test
pub pick_cases : {A : Type 0} (P : A → Type 0) (t : Bool) {a b : A} → (t ≡ true → P a) → (t ≡ false → P b) → P (pick t a b)
pick_cases P true f g = f refl
pick_cases P false f g = g refl

pub every_same : (f g : ℕ → Bool) (a n : ℕ) → ((p : ℕ) → a ≤ p → p < a + n → f p ≡ g p) → every f a n ≡ every g a n
unfolding every
every_same f g a zero same = refl
every_same f g a (suc n) same =
    ap₂ (λ (x y : Bool). x && y) (same a (omega arith) (omega arith)) (every_same f g (suc a) n (λ p l h. same p (omega arith) (omega arith)))

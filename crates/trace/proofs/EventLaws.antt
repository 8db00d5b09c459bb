-- An event as it stands in a file, and the first bad event, from what the code knows where it returns. Assumes nothing.
use mathlib.Core.Path.{◌≡◌, sym, ap, ◌∙◌}
use mathlib.Core.Bool.{Bool, true, false, not}
use mathlib.Core.List.{List}
use Prim.Native.Nat.{ℕ, suc, ◌+◌, ◌-◌, ◌≤◌, ◌<◌}
use native.Mathlib.Omega.{arith}
use native.Mathlib.Numerals.{add-one}
use Rattle.std.specs.Prelude.{Some, None}
use Rattle.laws.proofs.Tests.{not_true, not_false}
use lib.ListN.{get_or}
use Rattle.trace.specs.Trace.{event_place, event_at, number_at, good_at, first_bad}

module _ (file : List ℕ) (i at : ℕ) (p : at ≡ event_place i) where
  pub event_there : (kind caller number : ℕ) → kind ≡ get_or file at 0 → caller ≡ get_or file (at + 1) 0 → number ≡ number_at file (at + 4)
      → record { kind = kind; caller = caller; number = number } ≡ event_at file i
  event_there kind caller number k c n = rw (k, c, n, p)

module _ (file : List ℕ) (n : ℕ) where
  module _ (i : ℕ) (h : i < n) (inv : first_bad file 0 n ≡ first_bad file i (n - i)) (g : Bool) (e : g ≡ good_at file i) where
    step : first_bad file 0 n ≡ first_bad file i (suc (n - (i + 1)))
    step = inv ∙ ap (first_bad file i) (omega arith)

    pub good_more : not g ≡ false → first_bad file 0 n ≡ first_bad file (i + 1) (n - (i + 1))
    unfolding first_bad
    good_more k = rw add-one (rw (add-one, ← e, not_false g k) at step)

    pub bad_here : not g ≡ true → Some (i + 1) ≡ first_bad file 0 n
    unfolding first_bad
    bad_here k = rw add-one (sym (rw (← e, not_true g k) at step))

  pub all_good : (i : ℕ) → n ≤ i → first_bad file 0 n ≡ first_bad file i (n - i) → None ≡ first_bad file 0 n
  unfolding first_bad
  all_good i h inv = let z : n - i ≡ 0 = omega arith in sym (rw z at inv)

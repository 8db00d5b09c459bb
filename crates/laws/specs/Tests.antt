-- Bool tests: a choice, an implication, a test at every number of a range.
use Rattle.std.specs.Prelude.{Bool, true, false, ◌&&◌, ℕ, zero, suc}

-- a where the test is true, b where it is false
abbrev pub pick : {A : Type 0} → Bool → A → A → A
pick true a b = a
pick false a b = b

-- where a is true, so is b
abbrev pub implies : Bool → Bool → Bool
implies true b = b
implies false b = true

-- f is true at each of the n numbers from a on
unfoldable pub every : (ℕ → Bool) → ℕ → ℕ → Bool
every f a zero = true
every f a (suc n) = f a && every f (suc a) n

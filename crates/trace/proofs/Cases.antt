-- The file of SPECIFICATION 12 and its neighbours are answered as the table says, and their callers read, by computation.
-- Assumes nothing.
use mathlib.Core.Path.{◌≡◌, refl}
use mathlib.Core.List.{[], ◌∷◌, map}
use lib.ListN.{set, replicate}
use Rattle.trace.specs.Trace.{reading}
use Rattle.trace.specs.Cases.{Case, header, events, example, table, callers, definitions}

pub cases : map (λ (c : Case). reading c.file) table ≡ map (λ (c : Case). c.gives) table
unfolding definitions header events example table
cases = refl

-- W-205: "Old traces read as caller 0"
pub old_callers : callers example ≡ replicate 12 0
unfolding definitions header events example callers
old_callers = refl

-- W-205: caller 3 takes, and caller 2 releases
pub named_callers : callers (set (set example 41 3) 105 2) ≡ 0 ∷ 0 ∷ 3 ∷ 0 ∷ 0 ∷ 0 ∷ 0 ∷ 0 ∷ 0 ∷ 0 ∷ 2 ∷ 0 ∷ []
unfolding definitions header events example callers
named_callers = refl

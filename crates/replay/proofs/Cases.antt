-- The file of SPECIFICATION 12 and the traces of 9.9 and 10.11 have the listings that stand there, and the percentages of 10.10 and the
-- held bytes of 10.11 are those of the tables, computed from the definitions. Assumes nothing.
use mathlib.Core.Path.{◌≡◌, refl}
use mathlib.Core.List.{map}
use Rattle.trace.specs.Cases.{header, events, example}
use Rattle.replay.specs.Listing.{listing}
use Rattle.replay.specs.Percentage.{percent}
use Rattle.replay.specs.Cases.{printed, two_callers, two_callers_printed, PercentCase, percent_table, gap_below, gap_below_printed, slices_of_two, held_table, left_by, run_case, definitions}

example_printed : listing example ≡ printed
unfolding definitions header events example printed
example_printed = refl

-- W-205: a release frees "the live slot with that caller and serial", where two callers have one serial
two_callers_printed_lem : listing two_callers ≡ two_callers_printed
unfolding definitions two_callers two_callers_printed
two_callers_printed_lem = refl

-- W-204
percent_cases : map (λ (c : PercentCase). percent c.part c.all) percent_table ≡ map (λ (c : PercentCase). c.shown) percent_table
unfolding definitions percent_table
percent_cases = refl

-- W-206: "A pool with one live slice of 2 bytes at start 14 holds 16"
gap_below_printed_lem : listing gap_below ≡ gap_below_printed
unfolding definitions gap_below gap_below_printed
gap_below_printed_lem = refl

held_cases : map run_case held_table ≡ held_table
unfolding definitions slices_of_two held_table left_by run_case
held_cases = refl

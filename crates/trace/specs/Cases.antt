-- The file of SPECIFICATION 12, files that differ from it in a byte or two, what reading each must give, and the callers read.
-- proofs/Cases.antt has the theorems.
use Rattle.std.specs.Prelude.{List, [], ◌∷◌, ◌++◌, map, ℕ, set, take, Result, Ok, Err}
use Rattle.laws.specs.Lists.{part}
use Rattle.trace.specs.declared.Event.{Event}
use Rattle.trace.specs.declared.Header.{Header}
use Rattle.trace.specs.declared.Refusal.{Refusal}
use Rattle.trace.specs.declared.Refusal.TheVariants.{WrongHeader, BadEvent}
use Rattle.trace.specs.Trace.{little, number_at, complete, sized, in_order, ended, headed, filler_zero, has_caller, caller_right, right, good_at, first_bad, answer_on, reading}
use Rattle.trace.specs.Content.{content, events_from}

-- capacity 16, overflow 12, twelve events, the events' place 24, ten bytes, the bytes' place 120
unfoldable pub header : List ℕ
header =
    16 ∷ 0 ∷ 0 ∷ 0
    ∷ 12 ∷ 0 ∷ 0 ∷ 0
    ∷ 12 ∷ 0 ∷ 0 ∷ 0
    ∷ 24 ∷ 0 ∷ 0 ∷ 0
    ∷ 10 ∷ 0 ∷ 0 ∷ 0
    ∷ 120 ∷ 0 ∷ 0 ∷ 0
    ∷ []

-- r 6, c 6, t, r 13, r 8, c 9, c 4, r 7, k 3, t, d 1, r 16
unfoldable pub events : List ℕ
events =
    1 ∷ 0 ∷ 0 ∷ 0 ∷ 6 ∷ 0 ∷ 0 ∷ 0
    ∷ 2 ∷ 0 ∷ 0 ∷ 0 ∷ 6 ∷ 0 ∷ 0 ∷ 0
    ∷ 3 ∷ 0 ∷ 0 ∷ 0 ∷ 0 ∷ 0 ∷ 0 ∷ 0
    ∷ 1 ∷ 0 ∷ 0 ∷ 0 ∷ 13 ∷ 0 ∷ 0 ∷ 0
    ∷ 1 ∷ 0 ∷ 0 ∷ 0 ∷ 8 ∷ 0 ∷ 0 ∷ 0
    ∷ 2 ∷ 0 ∷ 0 ∷ 0 ∷ 9 ∷ 0 ∷ 0 ∷ 0
    ∷ 2 ∷ 0 ∷ 0 ∷ 0 ∷ 4 ∷ 0 ∷ 0 ∷ 0
    ∷ 1 ∷ 0 ∷ 0 ∷ 0 ∷ 7 ∷ 0 ∷ 0 ∷ 0
    ∷ 4 ∷ 0 ∷ 0 ∷ 0 ∷ 3 ∷ 0 ∷ 0 ∷ 0
    ∷ 3 ∷ 0 ∷ 0 ∷ 0 ∷ 0 ∷ 0 ∷ 0 ∷ 0
    ∷ 5 ∷ 0 ∷ 0 ∷ 0 ∷ 1 ∷ 0 ∷ 0 ∷ 0
    ∷ 1 ∷ 0 ∷ 0 ∷ 0 ∷ 16 ∷ 0 ∷ 0 ∷ 0
    ∷ []

unfoldable pub example : List ℕ
example = header ++ (events ++ (97 ∷ 98 ∷ 99 ∷ 100 ∷ 101 ∷ 102 ∷ 103 ∷ 104 ∷ 105 ∷ 106 ∷ []))

-- a file, and what reading it must give
pub record Case : Type 0 where
  pub file : List ℕ
  pub gives : Result Header Refusal

infix 4 ◌▸◌
abbrev pub ◌▸◌ : List ℕ → Result Header Refusal → Case
file ▸ gives = record { file = file; gives = gives }

-- the example with these sizes is accepted
abbrev pub accepted : ℕ → ℕ → Result Header Refusal
accepted capacity overflow = Ok (record { capacity = capacity; overflow = overflow; events = 12; bytes = 10 })

unfoldable pub table : List Case
table =
    (example ▸ accepted 16 12)
    -- no file, and half a header
    ∷ ([] ▸ Err WrongHeader)
    ∷ (take 12 header ▸ Err WrongHeader)
    -- sizes of 16,384 (0x4000) and one more
    ∷ (set (set example 0 0) 1 64 ▸ accepted 16384 12)
    ∷ (set (set example 0 1) 1 64 ▸ Err WrongHeader)
    ∷ (set (set example 4 0) 5 64 ▸ accepted 16 16384)
    ∷ (set (set example 4 1) 5 64 ▸ Err WrongHeader)
    -- the two offsets, and the end of the file
    ∷ (set example 12 32 ▸ Err WrongHeader)
    ∷ (set example 20 121 ▸ Err WrongHeader)
    ∷ (set example 16 9 ▸ Err WrongHeader)
    ∷ (example ++ (0 ∷ []) ▸ Err WrongHeader)
    -- kinds 0 and 6, each filler byte, and a take's number
    ∷ (set example 24 0 ▸ Err (BadEvent 1))
    ∷ (set example 112 6 ▸ Err (BadEvent 12))
    ∷ (set example 34 1 ▸ Err (BadEvent 2))
    ∷ (set example 35 1 ▸ Err (BadEvent 2))
    ∷ (set example 47 1 ▸ Err (BadEvent 3))
    -- W-205: callers 3 and 4 of a take and of a release, and caller 1 of a reserve, a commit and a truncate
    ∷ (set example 41 3 ▸ accepted 16 12)
    ∷ (set example 41 4 ▸ Err (BadEvent 3))
    ∷ (set example 105 3 ▸ accepted 16 12)
    ∷ (set example 105 4 ▸ Err (BadEvent 11))
    ∷ (set example 25 1 ▸ Err (BadEvent 1))
    ∷ (set example 33 1 ▸ Err (BadEvent 2))
    ∷ (set example 89 1 ▸ Err (BadEvent 9))
    -- the first of two bad events, and 9 before 10
    ∷ (set (set example 112 6) 47 1 ▸ Err (BadEvent 3))
    ∷ (set (set example 112 6) 12 32 ▸ Err WrongHeader)
    ∷ []

-- the callers of a file's events, in their order
unfoldable pub callers : List ℕ → List ℕ
callers file = map (λ (e : Event). e.caller) (content file).events

-- opens what reading unfolds to, for computing
unfoldable pub definitions : Unit {0}
unfolding part little number_at complete sized in_order ended headed filler_zero has_caller caller_right right good_at first_bad answer_on reading content events_from
definitions = tt

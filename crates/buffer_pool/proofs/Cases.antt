-- The cases of SPECIFICATION 11, by computation: each line of the table shows what the SPECIFICATION says of it, on the definitions
-- and on the Rust's; of callers and slot counts, which the Rust does not have, on the definitions. Assumes nothing.
use mathlib.Core.Path.{◌≡◌, refl}
use mathlib.Core.List.{[], ◌∷◌, ◌++◌, map}
use Prim.Native.Nat.{ℕ}
use Rattle.buffer_pool.specs.Vocabulary.{call}
use Rattle.buffer_pool.specs.AnswerCases.{caller_table, other_counts, created_with, refused_of_eight, slot_table, answers_on, answered, expected}
use Rattle.buffer_pool.specs.Computing.{definitions, rust_definitions}
use Rattle.buffer_pool.specs.Cases.{MoveCase, octet, octet_in_front, table, twice, move_table, play_to, moves_by, rust_play_to, rust_moves_by, observed, letter, play, see, play_all, shown_by, wanted, rust_offer, watched, rust_frame, rust_write_pool, rust_write, reserved', committed, taken, released, rust_play, rust_play_all, rust_shown_by}

pub cases : map shown_by (table ++ (twice ∷ [])) ≡ map wanted (table ++ (twice ∷ []))
unfolding definitions octet octet_in_front table twice observed letter play see play_all shown_by wanted
cases = refl

pub rust_cases : map rust_shown_by table ≡ map wanted table
unfolding rust_definitions octet octet_in_front table observed letter wanted rust_offer watched rust_frame rust_write_pool rust_write reserved' committed taken released rust_play rust_play_all rust_shown_by
rust_cases = refl

-- 11.22 to 11.25
pub move_cases : map moves_by move_table ≡ map (λ (c : MoveCase). c.ours) move_table
unfolding definitions octet octet_in_front move_table play play_to moves_by
move_cases = refl

pub rust_move_cases : map rust_moves_by move_table ≡ map (λ (c : MoveCase). c.rusts) move_table
unfolding rust_definitions octet octet_in_front move_table watched rust_frame reserved' committed taken released rust_play rust_play_to rust_moves_by
rust_move_cases = refl

-- 11.26 to 11.31
pub caller_cases : map answered caller_table ≡ map expected caller_table
unfolding definitions call caller_table answers_on answered expected
caller_cases = refl

-- 11.38
pub count_cases : map created_with other_counts ≡ map (λ (w : ℕ). refused_of_eight) other_counts
unfolding definitions other_counts created_with
count_cases = refl

-- 11.32 to 11.37, 11.39 to 11.41
pub slot_cases : map answered slot_table ≡ map expected slot_table
unfolding definitions call slot_table answers_on answered expected
slot_cases = refl

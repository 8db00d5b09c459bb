-- Tokens for computing: `unfolding definitions` opens every definition of the pool, `unfolding rust_definitions` every one of the
-- Rust's. For cases on concrete numbers; proofs about all records keep the definitions shut.
use Rattle.std.specs.Int.Count.{count_leading_zeros, count_trailing_zeros}
use Rattle.laws.specs.Lists.{part, copied, moved, zeroed}
use Rattle.laws.specs.Tests.{every}
use Rattle.laws.specs.Live.{bit, claimed, released, last_live, first_live, lives}
use Rattle.buffer_pool.specs.Record.{after}
use Rattle.buffer_pool.specs.Moves.{act, perform}
use Rattle.buffer_pool.specs.Placing.{drops, clearable, tail_start, tail_fits, head_fits, back_fits, back_on, front_fits, leave_on, front_on, stays, alloc_on, back_layer, front_layer, alloc_layer, layer, place_of, resets, reset_on, reset_moves, reset, place, is_too_long}
use Rattle.buffer_pool.specs.Soundness.{is_slot_count, shaped, limited, counted, rising, framed_within, back_numbers, back_sound, front_numbers, besides, front_sound, alloc_sound, mode_sound, orderly, sound}
use Rattle.buffer_pool.specs.Values.{refusal}
use Rattle.buffer_pool.specs.Steps.{reserve_on, reserve_step, commit_step, truncate_step, take_on, take_step, take_moves, names, release_step}
use Rattle.buffer_pool.specs.Calls.{misfit, new, reserve, commit, truncate, copied_out, take, release, frame_view, reservation_view, slice_view, bytes_at, written}
use Rattle.buffer_pool.specs.Rust.{resized, system_reserve, system_commit, system_get_data_owned, system_frame, system_truncate, in_bounds, raw_data, raw_offset_from_len, front_end_of, front_end, copy_within, move_raw_on, move_raw_at_offset, try_change_len, prepend_raw_data, copy_into_buffer, has_tail_capacity, has_capacity_until_offset, reserve_raw, commit_raw, get_data_owned_on, memory_get_data_owned, tail_is_clearable, back_offset, clear_tail_to, try_clear_tail_on, try_clear_tail_unchecked, boundary, try_clear_head_on, try_clear_head, clear_unchecked, back_cleared, back_reserve, front_drop_to, front_try_clear_tail_on, front_try_clear_tail, rust_front_cleared, front_clear, front_reserve, rust_to_alloc, front_to_back, change_mode, from_system, system_cleared, reserve_from_system_memory, offered, reserve_, rust_reset_on, rust_reset, resets_now, rust_reserve, rust_commit_on, rust_commit, rust_truncate_on, rust_truncate, rust_take_on, rust_take, rust_release, rust_frame_on, rust_frame_bytes, rust_new}
use Rattle.buffer_pool.specs.RustMoves.{try_clear_tail_moves, back_reserve_moves, front_reserve_moves, front_to_back_moves, change_mode_moves, system_cleared_moves, reserve_from_system_memory_moves, offered_moves, reserve_moves, rust_reset_moves, rust_reserve_moves}

unfoldable pub laws : Unit {0}
unfolding part copied moved zeroed every bit claimed released last_live first_live lives count_leading_zeros count_trailing_zeros
laws = tt

unfoldable pub definitions : Unit {0}
unfolding laws after act perform drops clearable tail_start tail_fits head_fits back_fits back_on front_fits leave_on front_on stays alloc_on back_layer front_layer alloc_layer layer place_of resets reset_on reset_moves reset place is_too_long is_slot_count shaped limited counted rising framed_within back_numbers back_sound front_numbers besides front_sound alloc_sound mode_sound orderly sound refusal reserve_on reserve_step commit_step truncate_step take_on take_step take_moves names release_step misfit new reserve commit truncate copied_out take release frame_view reservation_view slice_view bytes_at written
definitions = tt

unfoldable pub rust_definitions : Unit {0}
unfolding laws try_clear_tail_moves back_reserve_moves front_reserve_moves front_to_back_moves change_mode_moves system_cleared_moves reserve_from_system_memory_moves offered_moves reserve_moves rust_reset_moves rust_reserve_moves resized system_reserve system_commit system_get_data_owned system_frame system_truncate in_bounds raw_data raw_offset_from_len front_end_of front_end copy_within move_raw_on move_raw_at_offset try_change_len prepend_raw_data copy_into_buffer has_tail_capacity has_capacity_until_offset reserve_raw commit_raw get_data_owned_on memory_get_data_owned tail_is_clearable back_offset clear_tail_to try_clear_tail_on try_clear_tail_unchecked boundary try_clear_head_on try_clear_head clear_unchecked back_cleared back_reserve front_drop_to front_try_clear_tail_on front_try_clear_tail rust_front_cleared front_clear front_reserve rust_to_alloc front_to_back change_mode from_system system_cleared reserve_from_system_memory offered reserve_ rust_reset_on rust_reset resets_now rust_reserve rust_commit_on rust_commit rust_truncate_on rust_truncate rust_take_on rust_take rust_release rust_frame_on rust_frame_bytes rust_new
rust_definitions = tt

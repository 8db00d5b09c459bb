-- `walk::put_trace` meets its contract. An accepted file's sizes are within the memories, and the first bytes of zeros are zeros. Assumes nothing.
use Rattle.replay.proofs.ListingLaws.{trace_capacity, trace_overflow, trace_length, trace_events, part_long, trace_listed}
use native.Mathlib.Omega.{arith}
use Rattle.replay.proofs.walk.put_trace.Goals as goal

pub slice_bounds-pool-end : goal.slice_bounds-pool-end
slice_bounds-pool-end c = omega (arith, trace_capacity _ _ c.requires, c.zeros-pool.ensures.0)

pub slice_bounds-lent-end : goal.slice_bounds-lent-end
slice_bounds-lent-end c = part_long _ _ c.zeros-pool.ensures.0 (trace_capacity _ _ c.requires)

pub slice_bounds-overflow-end : goal.slice_bounds-overflow-end
slice_bounds-overflow-end c = omega (arith, trace_overflow _ _ c.requires, c.zeros-overflow.ensures.0)

pub slice_bounds-lent-end-2 : goal.slice_bounds-lent-end-2
slice_bounds-lent-end-2 c = part_long _ _ c.zeros-overflow.ensures.0 (trace_overflow _ _ c.requires)

pub slice_bounds-destination-end : goal.slice_bounds-destination-end
slice_bounds-destination-end c = omega (arith, trace_overflow _ _ c.requires, c.zeros-destination.ensures.0)

pub slice_bounds-lent-end-3 : goal.slice_bounds-lent-end-3
slice_bounds-lent-end-3 c = part_long _ _ c.zeros-destination.ensures.0 (trace_overflow _ _ c.requires)

pub put_run-requires-clause-file_bound : goal.put_run-requires-clause-file_bound
put_run-requires-clause-file_bound c = omega (arith, trace_length _ _ c.requires)

pub put_run-requires-clause-events_value : goal.put_run-requires-clause-events_value
put_run-requires-clause-events_value c = trace_events _ _ c.requires

pub returns : goal.returns
returns c = trace_listed _ _ c.requires _ _ _ c.zeros-pool.ensures.1 c.zeros-overflow.ensures.1 c.zeros-destination.ensures.1 _ _ c.put_run.ensures

-- `walk::put_event` meets its contract. Assumes nothing.
use Rattle.replay.proofs.WalkLaws.{few_slots, small_live, small_before, small_after}
use borrow.Author.Rules.{rules}
use Rattle.replay.proofs.walk.put_event.Goals as goal

pub run_event-step-requires-clause-next_in_bounds : goal.run_event-step-requires-clause-next_in_bounds
run_event-step-requires-clause-next_in_bounds c = search (few_slots, rules)

pub put_line-requires : goal.put_line-requires
put_line-requires c =
    let h = c.requires.at_bound in
    let e = c.run_event-step.ensures in
    (h.0, small_live _ _ _ _ _ _ _ _ e h.1, small_before _ _ _ _ _ _ _ _ e h.1, small_after _ _ _ _ _ _ _ _ e h.1)

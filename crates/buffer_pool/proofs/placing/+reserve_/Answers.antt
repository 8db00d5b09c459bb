-- `placing::reserve_` meets its contract. Assumes nothing.
use borrow.Author.Rules.{rules}
use Rattle.buffer_pool.proofs.DecidingLaws.{no_change_left, step_placeable, reaches_again, places_here, places_again, places_out}
use Rattle.buffer_pool.proofs.placing.+reserve_.Goals as goal

pub returns-then-left-eq0 : goal.returns-then-left-eq0
returns-then-left-eq0 t c = search no_change_left

pub reserve_-requires : goal.reserve_-requires
reserve_-requires t c =
    let a = c.args in
    let step = c.mode_step-step.result in (
      search rules,
      (
        search (step_placeable, rules),
        search rules,
        λ j.
            reaches_again a.n a.entries.now.starts a.entries.now.lengths a.len step (search rules) a.route a.changes (search rules) c.on-on.result (search rules)
            (search rules) j,
      ),
    )

pub returns-in-Stays : goal.returns-in-Stays
returns-in-Stays t c = search places_here

pub returns-in-Changes : goal.returns-in-Changes
returns-in-Changes t c = search places_again

pub returns-in-GoesOut : goal.returns-in-GoesOut
returns-in-GoesOut t c = search places_out

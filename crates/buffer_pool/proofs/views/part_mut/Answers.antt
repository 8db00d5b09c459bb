-- `views::part_mut` meets its contract. Assumes nothing.
use mathlib.Core.Path.{refl}
use Rattle.buffer_pool.proofs.ViewLaws.{part_as}
use Rattle.buffer_pool.proofs.views.part_mut.Goals as goal

pub returns : goal.returns
returns c =
    record {
      result_value = search part_as;
      ref_ptr_value = refl;
    }

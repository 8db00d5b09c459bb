-- `views::view` meets its contract. Assumes nothing.
use Rattle.buffer_pool.proofs.ViewLaws.{bytes_pool, pointer_pool, bytes_overflow, pointer_overflow}
use Rattle.buffer_pool.proofs.views.view.Goals as goal

pub returns-in-Pool : goal.returns-in-Pool
returns-in-Pool c =
    record {
      result_value = search bytes_pool;
      ref_ptr_value = search pointer_pool;
    }

pub returns-in-Overflow : goal.returns-in-Overflow
returns-in-Overflow c =
    record {
      result_value = search bytes_overflow;
      ref_ptr_value = search pointer_overflow;
    }

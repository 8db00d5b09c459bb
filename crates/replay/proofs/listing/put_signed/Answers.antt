-- `listing::put_signed` meets its contract. Assumes nothing.
use Rattle.replay.proofs.Size.{signed_minus, signed_plus}
use Rattle.replay.proofs.listing.put_signed.Goals as goal

pub returns-then-v-lt0-clause-text : goal.returns-then-v-lt0-clause-text
returns-then-v-lt0-clause-text c = signed_minus _ c.ranges.v _ c.unsigned_abs-size.ensures.value c.if-v-lt0.true c.put_letter.ensures.text c.put_decimal.ensures.text

pub returns-clause-text : goal.returns-clause-text
returns-clause-text c = signed_plus _ c.ranges.v _ c.unsigned_abs-size.ensures.value c.if-v-lt0.false c.put_number.ensures.text

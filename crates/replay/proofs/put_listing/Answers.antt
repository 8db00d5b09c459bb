-- `put_listing` meets its contract. Assumes nothing.
use Rattle.replay.proofs.ListingLaws.{listing_trace, listing_refused}
use Rattle.replay.proofs.put_listing.Goals as goal

pub returns-in-Ok : goal.returns-in-Ok
returns-in-Ok c = search listing_trace

pub returns-in-Err : goal.returns-in-Err
returns-in-Err c = search listing_refused

-- `listing::most_bytes` meets its contract: accepted chains are bounded.
use Rattle.listing.proofs.most_bytes.Goals as goal

pub returns-in-Records : goal.returns-in-Records
returns-in-Records c db chain b = rw c.in-Records.is b.record_bytes

pub returns-in-Texts : goal.returns-in-Texts
returns-in-Texts c db chain b = rw c.in-Texts.is b.flat-bytes

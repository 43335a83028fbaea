-- `listing::write_chain` meets its contract: refused, or written where there is room.
use mathlib.Core.Path.{◌∙◌, sym}
use Rattle.spec.specs.Files.{files, contents}
use Rattle.listing.specs.Answers.{whole_of}
use Rattle.listing.proofs.Delivering.{put-none, put_all}
use Rattle.listing.proofs.write_chain.Goals as goal

pub returns-then-not-fits : goal.returns-then-not-fits
returns-then-not-fits c = put-none _ _ _ (sym c.fits.ensures ∙ c.if-not-fits.true)

pub returns : goal.returns
returns c =
    let a = c.args in
    let room = sym c.fits.ensures ∙ c.if-not-fits.false in
    let put = c.put_chain.ensures in
    rw put.0 (put_all (whole_of a.form (contents (files a.db.now a.ends.now)) a.c) _ a.out.now _ room put.1)

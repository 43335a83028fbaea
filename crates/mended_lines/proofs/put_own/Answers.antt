-- `mended_lines::put_own` meets its contract.
use Rattle.mended_lines.proofs.MendedLine.{put_own}
use Rattle.mended_lines.proofs.put_own.Goals as goal

pub returns : goal.returns
returns c =
    let end = c.after_line-end in
    put_own c.args.db.now c.args.at c.requires _ end.ensures _ _ _ c.put_bytes.ensures

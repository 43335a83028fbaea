-- `removal_notes::advance` meets its contract.
use mathlib.Core.Path.{refl, ap, ◌∙◌}
use Rattle.removal_notes.specs.Notes.{text_from}
use Rattle.removal_notes.proofs.Texts.{lines_and_bytes}
use Rattle.removal_notes.proofs.advance.Goals as goal

pub returns : goal.returns
returns c =
    let l = c.skip_lines-start.ensures in
    let b = c.skip_bytes-at.ensures in
    let pre = c.requires in
    let lines = c.args.lines in
    let bytes = c.args.bytes in (
      record {
        inside = b.2;
        text = b.0 ∙ ap (text_from 0 bytes) (l.0 ∙ ap (text_from lines 0) pre.db_len_bound.1.text) ∙ lines_and_bytes lines bytes _ ∙ pre.db_value;
        position = c.move_on-position.ensures;
      },
      refl,
      refl,
    )

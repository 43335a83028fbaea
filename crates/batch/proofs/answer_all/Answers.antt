-- `batch::answer_all` meets its contract: the tables start empty.
use Rattle.spec.specs.Files.{files, contents}
use Rattle.spec.specs.Chain.{resolve as resolved}
use Rattle.capability_table.proofs.Answering.{no_answers}
use Rattle.batch.proofs.answer_all.Goals as goal

pub returns : goal.returns
returns c = c.put_answers.ensures (resolved (contents (files c.args.db.now c.args.ends.now)) c.args.name.now) (c.note_terminal-walked.ensures no_answers)

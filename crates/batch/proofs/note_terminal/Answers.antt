-- `batch::note_terminal` meets its contract: the tables that start empty are then about the chain.
use mathlib.Core.List.{[]}
use Rattle.std.proofs.lemmas.Result.{err_from_is_err_and}
use Rattle.batch.proofs.Answered.{known, known_refused}
use Rattle.batch.proofs.note_terminal.Goals as goal

pub note_chain-requires : goal.note_chain-requires
note_chain-requires c = c.in_ok-chain.ensures.2

pub returns-in_err-chain : goal.returns-in_err-chain
returns-in_err-chain c empty =
    let r = err_from_is_err_and c.from_residual.result c.from_residual.ensures.1 in
    rw (r.1, r.2) (known_refused _ _ c.requires.0 c.requires.1 c.requires.2 _ c.in_err-chain.ensures)

pub returns : goal.returns
returns c empty =
    known _ _ c.requires.0 c.requires.1 c.requires.2 _ _ c.in_ok-chain.ensures (c.note_chain.ensures [] empty)

-- `questions::write_text` meets its contract.
use native.Mathlib.Omega.{arith}
use Rattle.questions.proofs.WrittenStrings.{text_full, text-fits, decoded_stored}
use Rattle.questions.proofs.write_text.Goals as goal

pub returns-then-n-out : goal.returns-then-n-out
returns-then-n-out c = let p = c.requires.1 in text_full _ _ _ _ _ p.1 p.2 c.if-n-out.true

pub returns : goal.returns
returns c =
    let a = c.args in
    let p = c.requires.1 in
    let d = c.decode_text in
    text-fits _ _ _ _ _ p.1 p.2 _ (omega arith) (decoded_stored a.s.now a.text a.out.now _ p.0 d.result p.1 d.ensures)

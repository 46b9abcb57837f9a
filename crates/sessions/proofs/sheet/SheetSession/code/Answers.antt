use Rattle.std.proofs.Common.{sym, ◌∙◌, ⊎_elim, arith, w8, SFits, rules}
use Rattle.std.proofs.lemmas.Int.{to_z-of_z}
use Rattle.sessions.proofs.Sheets.{length_states, code_here, code_past, code_above}
use Rattle.sessions.proofs.sheet.SheetSession.code.Goals as goal

pub returns-then-position-count : goal.returns-then-position-count
returns-then-position-count c =
    let bytes = c.args.self.now.bytes.now in
    let i = c.args.position in
    ⊎_elim
    (λ past. sym (code_past bytes i c.args.number (omega (arith, length_states bytes, c.len-count.ensures))))
    (λ high. sym (code_above bytes i c.args.number high.1))
    c.then-position-count.either

pub returns : goal.returns
returns c =
    let bytes = c.args.self.now.bytes.now in
    let fits : SFits w8 c.from_be_bytes.result = search rules in
    to_z-of_z w8 c.from_be_bytes.result fits
    ∙ code_here bytes c.args.position c.args.number c.from_be_bytes.ensures c.byte_at.ensures
    (omega (arith, length_states bytes, c.len-count.ensures, c.from.ensures, c.from-2.ensures, c.from-3.ensures))
    (omega (arith, length_states bytes, c.len-count.ensures))
    (omega arith)

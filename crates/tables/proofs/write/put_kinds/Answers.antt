use Rattle.std.proofs.Common.{[], ◌∷◌, ◌++◌, map, take, sym, ap, ◌∙◌, arith}
use Rattle.std.proofs.lemmas.List.{length-map, length-take-le, map_more}
use Rattle.rows.specs.Rows.{blank}
use Rattle.tables.specs.Format.{kind_number}
use Rattle.tables.proofs.Laid.{laid_more}
use Rattle.tables.proofs.write.put_kinds.Goals as goal

pub loop-i-preserved : goal.loop-i-preserved
loop-i-preserved c =
    let rows = c.args.rows.now in
    let i = c.loop-i.i in
    let done = map kind_number (take i rows) in
    laid_more c.args.at i done _ _ c.args.buffer.now c.loop-i.buffer c.put.new.buffer (omega arith)
    (length-map (take i rows) kind_number ∙ length-take-le i rows (omega arith))
    (ap (λ n. done ++ (n ∷ [])) c.into.ensures ∙ sym (map_more kind_number rows i blank c.loop-i-test.true))
    c.loop-i.invariant c.put.ensures

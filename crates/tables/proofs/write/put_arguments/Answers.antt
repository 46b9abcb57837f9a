use Rattle.std.proofs.Common.{◌*◌, [], ◌++◌, take, sym, ap, ◌∙◌, arith}
use Rattle.std.specs.List.{flat_map}
use Rattle.std.proofs.lemmas.List.{length-take-le, take_more, flat_map_more}
use Rattle.rows.specs.Rows.{blank}
use Rattle.tables.specs.Format.{half_bytes}
use Rattle.tables.proofs.Laid.{laid_more}
use Rattle.tables.proofs.Written.{length_halves}
use Rattle.tables.proofs.write.put_arguments.Goals as goal

pub loop-i-preserved : goal.loop-i-preserved
loop-i-preserved c =
    let rows = c.args.rows.now in
    let i = c.loop-i.i in
    let done = flat_map half_bytes (take i rows) in
    laid_more c.args.at (4 * i) done _ _ c.args.buffer.now c.loop-i.buffer c.put.new.buffer (omega arith)
    (length_halves (take i rows) ∙ ap (λ n. 4 * n) (length-take-le i rows (omega arith)))
    (ap (λ bytes. done ++ bytes) c.argument.ensures ∙ flat_map_more half_bytes [] (take i rows) _ ∙ ap (flat_map half_bytes) (sym (take_more rows i blank c.loop-i-test.true)))
    c.loop-i.invariant c.put.ensures

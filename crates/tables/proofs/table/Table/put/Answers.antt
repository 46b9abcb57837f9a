use Rattle.std.proofs.Common.{◌+◌, ◌*◌, [], ◌∷◌, ◌++◌, length, get_or, drop, ap, ◌∙◌, arith}
use Rattle.tables.specs.Format.{table_bytes}
use Rattle.tables.specs.Reading.{bytes_of}
use Rattle.tables.specs.Writing.{laid}
use Rattle.tables.proofs.Laid.{table_laid}
use Rattle.tables.proofs.table.Table.put.Goals as goal

pub returns : goal.returns
unfolding bytes_of
returns c =
    let table = c.args.self.now in
    let old = c.args.buffer.now in
    let rows_is = c.as_slice-rows.ensures.value in
    let sized = c.put.ensures ∙ ap (λ l. laid 0 (get_or l 0 0 ∷ get_or l 1 0 ∷ table.flags ∷ table.codes ∷ []) old) c.to_be_bytes.ensures in
    table_laid table.flags table.codes c.as_slice-rows.result.now old _ _ _ (omega (arith, c.requires.room, ap length rows_is)) (omega (arith, c.requires.few, ap length rows_is)) sized c.put_kinds.ensures c.put_arguments.ensures
    ∙ ap (λ rows. table_bytes table.flags table.codes rows ++ drop (4 + 5 * length rows) old) rows_is

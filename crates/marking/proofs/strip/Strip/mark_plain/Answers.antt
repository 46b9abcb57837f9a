use Rattle.std.proofs.Common.{◌≡◌, length, drop, None, vec_items, ap, subst}
use Rattle.meaning.specs.Meaning.{row_mark}
use Rattle.marking.specs.Marks.{Filled}
use Rattle.marking.specs.Strips.{strip_fault}
use Rattle.marking.proofs.Filling.{long_enough, strip_is}
use Rattle.marking.proofs.Plain.{rows_are, rows_sound, some_rows}
use Rattle.marking.proofs.strip.Strip.mark_plain.Goals as goal

pub mark_rows-requires-clause-sound : goal.mark_rows-requires-clause-sound
mark_rows-requires-clause-sound g c =
    let plain = c.args.table.now in
    let slice_is = c.as_slice-rows.ensures.value in
    let sound = rows_sound plain _ _ slice_is c.table.ensures in (sound.0, (sound.1, some_rows plain _ _ slice_is c.table.ensures))

pub returns-clause-strip : goal.returns-clause-strip
returns-clause-strip g c =
    let rows = vec_items c.args.table.now.table.rows in
    let L = g.M.Scale.ops in
    let w = g.S.Session.states c.args.session.now in
    let old = c.args.self.now.marks.now in
    let now = c.mark_rows.new.strip in
    let is = rows_are c.args.table.now _ _ c.as_slice-rows.ensures.value c.table.ensures in
    let fine : strip_fault (length rows) (length old) ≡ None = subst (λ n. strip_fault n (length old) ≡ None) (ap length is) c.in_ok-check_len.ensures in
    let filled = subst (λ r. Filled L (length r) (row_mark L r) w (drop 1 w) (length r) old now) is c.mark_rows.ensures.filled in
    strip_is L rows w old now (long_enough (length rows) (length old) fine) filled

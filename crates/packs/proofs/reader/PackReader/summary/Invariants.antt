use Rattle.std.proofs.Common.{◌≡◌, ◌-◌, ◌*◌, ◌≤◌, sum_by, count_by}
use Rattle.packs.specs.Format.{rule_count}
use Rattle.packs.specs.Summary.{lawful_rows_in, is_refused, tables_from}
use Rattle.packs.proofs.reader.PackReader.summary.Given as goal

abbrev pub invariant-loop-table : goal.invariant-loop-table
invariant-loop-table l =
    let bytes = l.pack.bytes.now in
    let start = l.initial.look.start in
    let seen = l.look.place.now - start in
    (l.look.start ≡ start)
    × (l.look.place.ghost_name ≡ l.initial.look.place.ghost_name)
    × (start ≤ l.look.place.now)
    × (seen ≤ rule_count bytes - start)
    × (l.rows ≡ sum_by lawful_rows_in (tables_from bytes start seen))
    × (l.refused ≡ count_by is_refused (tables_from bytes start seen))
    × (l.rows ≤ 1024 * seen)
    × (l.refused ≤ seen)

abbrev pub decreases-loop-table : goal.decreases-loop-table
decreases-loop-table l = rule_count l.pack.bytes.now - l.look.place.now

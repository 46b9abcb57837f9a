use Rattle.std.proofs.Common.{◌≡◌, ◌++◌, drop, string_bytes}
use Rattle.report.specs.Plain.{row_lines, table_lines}
use Rattle.report.proofs.plain.lines.Given as goal

abbrev pub invariant-loop-number : goal.invariant-loop-number
invariant-loop-number l =
    string_bytes l.text ++ row_lines l.number (drop l.number l.row-items) ≡ table_lines l.table.flags l.table.codes l.row-items

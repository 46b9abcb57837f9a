use Rattle.std.proofs.Common.{◌≡◌, ◌-◌, ◌≤◌, ◌++◌, string_bytes}
use Rattle.std.specs.List.{range_with_len, flat_map}
use Rattle.packs.specs.Format.{rule_count}
use Rattle.packs.specs.Summary.{summary_of}
use Rattle.report.specs.Lines.{summary_text}
use Rattle.report.specs.Listing.{line_at}
use Rattle.report.proofs.listing.lines.Given as goal

abbrev pub invariant-loop-label : goal.invariant-loop-label
invariant-loop-label l =
    let bytes = l.initial.reader.pack.bytes.now in
    (l.reader.pack ≡ l.initial.reader.pack)
    × (l.reader.place ≤ rule_count bytes)
    × (string_bytes l.text ≡ summary_text (summary_of bytes 0) ++ flat_map (line_at bytes) (range_with_len 0 l.reader.place))

abbrev pub decreases-loop-label : goal.decreases-loop-label
decreases-loop-label l = rule_count l.initial.reader.pack.bytes.now - l.reader.place

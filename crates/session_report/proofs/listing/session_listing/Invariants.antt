use Rattle.std.proofs.Common.{◌≡◌, ◌++◌, drop, string_bytes}
use Rattle.report.specs.Lines.{numbered}
use Rattle.session_report.specs.Listing.{state_line, session_lines}
use Rattle.session_report.proofs.listing.session_listing.Given as goal

abbrev pub invariant-loop-number : goal.invariant-loop-number
invariant-loop-number g l =
    let w = g.S.Session.states l.session in
    string_bytes l.text ++ numbered state_line l.number (drop l.number w) ≡ session_lines w

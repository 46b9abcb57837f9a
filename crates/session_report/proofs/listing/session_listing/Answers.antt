use Rattle.std.proofs.Common.{◌+◌, ◌++◌, get_or, drop, ap, ◌∙◌, arith}
use Rattle.sessions.specs.States.{no_state}
use Rattle.report.specs.Lines.{numbered}
use Rattle.report.proofs.Lines.{numbered_more, numbered_done}
use Rattle.session_report.specs.Listing.{state_line}
use Rattle.session_report.proofs.Texts.{alike_line}
use Rattle.session_report.proofs.listing.session_listing.Goals as goal

pub loop-number-preserved : goal.loop-number-preserved
loop-number-preserved g c =
    let w = g.S.Session.states c.args.session.now in
    let i = c.loop-number.number in
    ap (λ text. text ++ numbered state_line (i + 1) (drop (i + 1) w)) c.in_ok-append_state_line.ensures
    ∙ numbered_more state_line _ _ _ i w no_state (omega (arith, c.len-number-end.ensures))
    (alike_line i c.state_at-state.result (get_or w i no_state) c.state_at-state.ensures)
    c.loop-number.invariant

pub returns : goal.returns
returns g c =
    let w = g.S.Session.states c.args.session.now in
    numbered_done state_line _ _ c.loop-number.number w (omega (arith, c.len-number-end.ensures)) c.loop-number.invariant

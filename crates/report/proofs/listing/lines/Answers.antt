use Rattle.std.proofs.Common.{◌≡◌, ℕ, List, ◌++◌, ap, ◌∙◌, arith}
use Rattle.std.specs.List.{range_with_len, flat_map}
use Rattle.packs.specs.Format.{rule_count, label_if}
use Rattle.packs.specs.Summary.{summary_of}
use Rattle.report.specs.Lines.{summary_text}
use Rattle.report.specs.Listing.{line_at, lines_of}
use Rattle.report.proofs.Lines.{label_there, no_label, lines_by_more}
use Rattle.report.proofs.listing.lines.Goals as goal

pub loop-label-preserved : goal.loop-label-preserved
loop-label-preserved c =
    let bytes : List ℕ = c.summary.new.self.pack.bytes.now in
    let place = c.loop-label.reader.place in
    let inv = c.loop-label.invariant in
    let told = c.in_ok-append_next.ensures in
    let same : c.loop-label.reader.pack.bytes.now ≡ bytes = λ d. (inv.0 d).bytes.now in
    let at = label_there bytes place c.in-Some.label (c.in-Some.ensures ∙ ap (λ b. label_if b place) same) in (
      told.pack ∙ inv.0,
      omega (arith, told.place, at.0),
      told.value ∙ lines_by_more (line_at bytes) (summary_text (summary_of bytes 0)) _ _ place _ inv.2 (ap (λ b. line_at b place) same) told.place,
    )

pub returns : goal.returns
unfolding lines_of
returns c =
    let bytes : List ℕ = c.summary.new.self.pack.bytes.now in
    let place = c.loop-label.reader.place in
    let inv = c.loop-label.invariant in
    let same : c.loop-label.reader.pack.bytes.now ≡ bytes = λ d. (inv.0 d).bytes.now in
    let past = no_label bytes place (c.in_default.ensures ∙ ap (λ b. label_if b place) same) in
    let done : place ≡ rule_count bytes = omega (arith, past, inv.1) in
    inv.2
    ∙ ap (λ n. summary_text (summary_of bytes 0) ++ flat_map (line_at bytes) (range_with_len 0 n)) done
    ∙ (λ d. lines_of ((c.in_ok-summary.ensures.pack ∙ c.new-reader.ensures.pack) d).bytes.now)

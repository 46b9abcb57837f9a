use Rattle.std.proofs.Common.{◌≡◌, [], ◌∷◌, ◌++◌, map, sym, ap, ◌∙◌, arith}
use Rattle.std.specs.List.{range_with_len}
use Rattle.std.proofs.lemmas.List.FromFn.{map-range_with_len_more}
use Rattle.tables.specs.Format.{row_at, rows_in}
use Rattle.refusals.proofs.Exits.{exit}
use Rattle.refusals.proofs.First.{first_step, first_here, first_end}
use Rattle.tables.proofs.read.Head.read_rows.Goals as goal

pub returns-in_err-read_row : goal.returns-in_err-read_row
returns-in_err-read_row g c =
    exit _ _ c.from_residual.result c.from_residual.ensures.1
    (sym c.loop-i.invariant.3 ∙ first_here _ c.loop-i.i c.args.self.rows c.loop-i-test.true c.in_err-read_row.ensures)

pub loop-i-preserved : goal.loop-i-preserved
loop-i-preserved g c =
    let inv = c.loop-i.invariant in
    let read = c.in_ok-read_row.ensures in
    let row = row_at c.args.rest.now c.args.self.rows in (
      c.push_reserved.ensures.items ∙ (λ d. inv.0 d ++ (read.1 d ∷ [])) ∙ sym (map-range_with_len_more row 0 c.loop-i.i c.loop-i.i (omega arith)),
      omega (arith, c.push_reserved.ensures.len),
      omega (arith, c.push_reserved.ensures.capacity),
      sym (first_step _ c.loop-i.i c.args.self.rows c.loop-i-test.true read.0) ∙ inv.3,
    )

pub returns : goal.returns
unfolding rows_in
returns g c =
    let inv = c.loop-i.invariant in
    let done : c.loop-i.i ≡ c.args.self.rows = omega (arith, c.loop-i-test.false, c.loop-i.auto.i-end) in (
      sym inv.3 ∙ first_end _ c.loop-i.i c.args.self.rows c.loop-i-test.false,
      inv.0 ∙ ap (λ n. map (row_at c.args.rest.now c.args.self.rows) (range_with_len 0 n)) done,
    )

use Rattle.std.proofs.Common.{◌≡◌, ℕ, ◌+◌, ◌≤◌, cond, ap, ◌∙◌, arith}
use Rattle.packs.specs.Summary.{lawful_rows_in, is_refused}
use Rattle.packs.proofs.Loads.{there}
use Rattle.packs.proofs.Sums.{moved_is, sum_more}
use Rattle.packs.proofs.reader.PackReader.summary.Goals as goal
use Rattle.packs.proofs.reader.PackReader.summary.Goals.{in-Some-2, in-None}

-- the rows and the refusals that one rule adds
added : (c : goal.After-skip) → (c.match-branch-2.rows ≡ c.loop-table.rows + lawful_rows_in c.in-Some.table.now)
    × (c.match-branch-2.refused ≡ c.loop-table.refused + cond (is_refused c.in-Some.table.now) 1 0)
    × (c.match-branch-2.rows ≤ c.loop-table.rows + 1024)
    × (c.match-branch-2.refused ≤ c.loop-table.refused + 1)
added c =
    elim c.match-branch-2.branch [
      | in-Some-2 w ↦
          let told = rw w.in-Some-2.is at c.in_ok-more.ensures in
          let one = ap {B = ℕ} (λ b. cond b 1 0) told.0 in
          (omega (arith, w.rows-is, told.1), omega (arith, w.refused-is, one), omega (arith, w.rows-is, told.2), omega (arith, w.refused-is))
      | in-None w ↦
          let told = rw w.in-None.is at c.in_ok-more.ensures in
          let one = ap {B = ℕ} (λ b. cond b 1 0) told.0 in
          (omega (arith, w.rows-is, told.1), omega (arith, w.refused-is, one), omega (arith, w.rows-is), omega (arith, w.refused-is))
    ]

pub loop-table-preserved : goal.loop-table-preserved
loop-table-preserved c =
    let bytes = c.args.self.now.pack.bytes.now in
    let start = c.new-look.result.start in
    let place = c.loop-table.look.place.now in
    let inv = c.loop-table.invariant in
    let at = there bytes c.in-Some.table.now place c.in-Some.ensures in
    let next : c.skip.new.self.place.now ≡ place + 1 = moved_is bytes place _ at.0 c.skip.ensures.place in
    let more = added c in (
      c.skip.ensures.start ∙ inv.0,
      c.skip.ensures.name ∙ inv.1,
      omega (arith, inv.2, next),
      omega (arith, inv.2, next, at.0),
      sum_more lawful_rows_in bytes _ start place _ _ _ inv.2 next at.1 inv.4 more.0,
      sum_more (λ t. cond (is_refused t) 1 0) bytes _ start place _ _ _ inv.2 next at.1 inv.5 more.1,
      omega (arith, inv.2, inv.6, next, more.2),
      omega (arith, inv.2, inv.7, next, more.3),
    )

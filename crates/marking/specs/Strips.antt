-- What a strip holds after a marking by a plain table.
use Rattle.std.specs.Prelude.{ℕ, ◌*◌, cond, List, ◌++◌, map, length, drop, Some, None, Option, nat_lt}
use Rattle.rows.specs.declared.row.Row.{Row}
use Rattle.scales.specs.Lattice.{Lattice}
use Rattle.sessions.specs.declared.state.State.{State}
use Rattle.meaning.specs.Formulas.{formulas}
use Rattle.meaning.specs.Meaning.{mark}
use Rattle.marking.specs.declared.fault.MarkingFault.{MarkingFault}
use Rattle.marking.specs.declared.fault.MarkingFault.TheVariants.{StripShort}

-- the marks of all rows of a table on a session
unfoldable pub row_marks : {M : Type 0} → Lattice M → List Row → List State → List M
row_marks L rows w = map (λ f. mark L f w) (formulas rows)

-- a strip has to have two marks for each row
abbrev pub strip_fault : ℕ → ℕ → Option MarkingFault
strip_fault rows marks = cond (nat_lt marks (2 * rows)) (Some (StripShort (2 * rows))) None

-- Each row's mark on the session, then each row's mark on the session from 1, then the further marks as they were. A strip that
-- is too short stays as it was.
abbrev pub marked : {M : Type 0} → Lattice M → List Row → List State → List M → List M
marked L rows w old = row_marks L rows w ++ (row_marks L rows (drop 1 w) ++ drop (2 * length rows) old)

abbrev pub after_marking : {M : Type 0} → Lattice M → List Row → List State → List M → List M
after_marking L rows w old = cond (nat_lt (length old) (2 * length rows)) old (marked L rows w old)

-- What the homes that the checks speak of are, by what is reached from the halves of in rows.
use Rattle.std.specs.Prelude.{◌≡◌, ℕ, ◌<◌, List, length, None}
use Rattle.rows.specs.Homes.{home}
use Rattle.rows.specs.Reach.{Scoped, Stands}
use Rattle.tables.specs.Faults.{table_fault, one_use_fault, scope_kinds_fault}
use Rattle.tables.specs.Format.{rows_of}
use Rattle.tables.specs.declared.form.Form.TheVariants.{Rule}

-- Where the kinds of scope rows are checked, the rows that stand in a scope are those that are reached from the right half of
-- an in row. Where the sizes of scopes are checked, and in every rule, a row stands in the scope from whose in row's right half
-- it is reached, or else in the nearest body, or outside.
abbrev pub Places : List ℕ → Type 0
Places bytes =
    (i : ℕ) → i < length (rows_of bytes) → table_fault Rule bytes ≡ None → one_use_fault (rows_of bytes) ≡ None →
    Scoped (rows_of bytes) i (home (rows_of bytes) i) × (scope_kinds_fault (rows_of bytes) ≡ None → Stands (rows_of bytes) i (home (rows_of bytes) i))

-- How many rows are written for a row in a body, by the kind of the row.
use Rattle.std.specs.Prelude.{ℕ, List, [], ◌∷◌, length}
use Rattle.rows.specs.Rows.{blank}
use Rattle.rows.specs.declared.kind.Kind.{Kind}
use Rattle.translation.specs.Translation.{body_rows}

-- the same for every row of the kind, so for this one
abbrev pub rows_in_body : Kind → ℕ
rows_in_body kind = length (body_rows kind blank 0 0 0 0 0)

-- as a table, in the order of the kinds' numbers
abbrev pub body_counts : List ℕ
body_counts = 1 ∷ 3 ∷ 3 ∷ 1 ∷ 1 ∷ 1 ∷ 5 ∷ 3 ∷ 2 ∷ 2 ∷ 0 ∷ []

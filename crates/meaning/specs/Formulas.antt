-- Formulas, and the rows of a table unfolded to formulas.
use Rattle.std.specs.Prelude.{ℕ, List, [], ◌∷◌, ◌++◌, slice_index_or}
use Rattle.rows.specs.declared.kind.Kind.{Kind}
use Rattle.rows.specs.declared.kind.Kind.TheVariants.{Top, Flag, Code, Not, And, Or, Next, Until, Always, Eventually, In}
use Rattle.rows.specs.declared.row.Row.{Row}

pub data Formula : Type 0 where
  top : Formula
  flag : ℕ → Formula
  code : ℕ → Formula
  not : Formula → Formula
  and : Formula → Formula → Formula
  or : Formula → Formula → Formula
  next : Formula → Formula
  until : Formula → Formula → Formula
  always : Formula → Formula
  eventually : Formula → Formula
  -- a body and its scope
  inside : Formula → Formula → Formula

-- one value for each row, made from the values of the rows below it
unfoldable pub built : {R X : Type 0} → (List X → R → X) → List X → List R → List X
built step below [] = below
built step below (row ∷ rows) = built step (below ++ (step below row ∷ [])) rows

-- a row of this kind with these halves, whose operands are the formulas a and b
abbrev pub formula_by : Kind → ℕ → ℕ → Formula → Formula → Formula
formula_by Top left right a b = top
formula_by Flag left right a b = flag left
formula_by Code left right a b = code left
formula_by Not left right a b = not a
formula_by And left right a b = and a b
formula_by Or left right a b = or a b
formula_by Next left right a b = next a
formula_by Until left right a b = until a b
formula_by Always left right a b = always a
formula_by Eventually left right a b = eventually a
formula_by In left right a b = inside a b

abbrev pub formula_of : List Formula → Row → Formula
formula_of below row = formula_by row.kind row.left row.right (slice_index_or below row.left top) (slice_index_or below row.right top)

-- the formulas of all rows
unfoldable pub formulas : List Row → List Formula
formulas rows = built formula_of [] rows

-- the formula of row i
abbrev pub formula_at : List Row → ℕ → Formula
formula_at rows i = slice_index_or (formulas rows) i top

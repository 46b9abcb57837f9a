-- The draft that a program holds, as a draft of the definition.
use Rattle.std.specs.Prelude.{ℕ, List, [], ◌∷◌, ◌++◌, map, length, vec_items, slice_index, slice_set}
use Rattle.rows.specs.declared.kind.Kind.TheVariants.{And, Until}
use Rattle.rows.specs.declared.row.Row.{Row}
use Rattle.translation.specs.Translation.{Draft, place_of, moved, two_operands, body_rows}
use Rattle.translator.specs.declared.draft.Draft.{Draft as Held}
use Rattle.translator.specs.declared.standing.Standing.{Standing}

abbrev pub drafted : Held → Draft
drafted d = record {
  written = vec_items d.written;
  places = map (λ (s : Standing). s.place) (vec_items d.standings);
  gates = map (λ (s : Standing). s.gate) (vec_items d.standings);
  bars = map (λ (s : Standing). s.bar) (vec_items d.standings);
}

-- where row i stands
abbrev pub standing_of : Draft → ℕ → Standing
standing_of d i = record { place = place_of d i; gate = slice_index d.gates i; bar = slice_index d.bars i }

-- these rows are written too
abbrev pub added : List Row → Draft → Draft
added rows d = record { written = d.written ++ rows; places = d.places; gates = d.gates; bars = d.bars }

-- a copy of a row with its operands at their places
abbrev pub copy_of : Row → Draft → Row
copy_of r d = moved r (place_of d r.left) (place_of d r.right)

-- where n rows are written, the rows that read the row at a at the first position from here on at which the gate is true
abbrev pub first_rows : (n gate bar a : ℕ) → List Row
first_rows n gate bar a = two_operands And gate a ∷ two_operands Until bar n ∷ []

-- what is written for a row in the body of in row k
abbrev pub rows_for : ℕ → Row → Draft → List Row
rows_for k r d = body_rows r.kind r (length d.written) (slice_index d.gates k) (slice_index d.bars k) (place_of d r.left) (place_of d r.right)

-- row i has its result at this place
abbrev pub placed : ℕ → ℕ → Draft → Draft
placed i place d = record { written = d.written; places = slice_set d.places i place; gates = d.gates; bars = d.bars }

-- row i has its gate and its bar at these places
abbrev pub gated : ℕ → ℕ → ℕ → Draft → Draft
gated i gate bar d = record { written = d.written; places = d.places; gates = slice_set d.gates i gate; bars = slice_set d.bars i bar }

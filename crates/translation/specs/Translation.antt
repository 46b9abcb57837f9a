-- The plain table of a rule, in three steps: the rows of scopes are copied; each in row gets a gate and a bar; all other rows are
-- written one after the other, inside a body with its gate and bar.
use Rattle.std.specs.Prelude.{ℕ, zero, suc, ◌+◌, ◌-◌, cond, List, [], ◌∷◌, ◌++◌, length, replicate, slice_index, slice_index_or, slice_set}
use Rattle.rows.specs.Homes.{home, in_scope}
use Rattle.rows.specs.Kinds.{is_in, left_use, right_use}
use Rattle.rows.specs.Rows.{blank}
use Rattle.rows.specs.declared.home.Home.{Home}
use Rattle.rows.specs.declared.home.Home.TheVariants.{Outside, Body, Scope}
use Rattle.rows.specs.declared.kind.HalfUse.{HalfUse}
use Rattle.rows.specs.declared.kind.HalfUse.TheVariants.{Zero, FlagNumber, CodeNumber, Operand}
use Rattle.rows.specs.declared.kind.Kind.{Kind}
use Rattle.rows.specs.declared.kind.Kind.TheVariants.{Top, Flag, Code, Not, And, Or, Next, Until, Always, Eventually, In}
use Rattle.rows.specs.declared.row.Row.{Row}

-- What is known while a rule is translated: the rows written so far, and for each rule row where its result, its gate and its bar
-- stand among them. What is not known yet is 0.
pub record Draft : Type 0 where
  pub written : List Row
  pub places : List ℕ
  pub gates : List ℕ
  pub bars : List ℕ

abbrev pub place_of : Draft → ℕ → ℕ
place_of d i = slice_index d.places i

-- a half that names an operand names the place where the operand stands now
abbrev pub moved_half : HalfUse → ℕ → ℕ → ℕ
moved_half Zero half at = half
moved_half FlagNumber half at = half
moved_half CodeNumber half at = half
moved_half Operand half at = at

-- a copy of a row whose operands stand at a and c
abbrev pub moved : Row → ℕ → ℕ → Row
moved r a c = record {
  kind = r.kind;
  left = moved_half (left_use r.kind) r.left a;
  right = moved_half (right_use r.kind) r.right c;
}

abbrev pub one_operand : Kind → ℕ → Row
one_operand kind a = record { kind = kind; left = a; right = 0 }

abbrev pub two_operands : Kind → ℕ → ℕ → Row
two_operands kind a c = record { kind = kind; left = a; right = c }

-- What is written for a row in a body with gate g and bar b, whose operands stand at a and c, where n rows are written already.
abbrev pub body_rows : Kind → Row → (n g b a c : ℕ) → List Row
body_rows Top r n g b a c = moved r a c ∷ []
body_rows Flag r n g b a c = moved r a c ∷ two_operands And g n ∷ two_operands Until b (n + 1) ∷ []
body_rows Code r n g b a c = moved r a c ∷ two_operands And g n ∷ two_operands Until b (n + 1) ∷ []
body_rows Not r n g b a c = moved r a c ∷ []
body_rows And r n g b a c = moved r a c ∷ []
body_rows Or r n g b a c = moved r a c ∷ []
body_rows Next r n g b a c =
    two_operands And g a ∷ two_operands Until b n ∷ one_operand Next (n + 1) ∷ two_operands And g (n + 2) ∷ two_operands Until b (n + 3) ∷ []
body_rows Until r n g b a c = two_operands Or b a ∷ two_operands And g c ∷ two_operands Until n (n + 1) ∷ []
body_rows Always r n g b a c = two_operands Or b a ∷ one_operand Always n ∷ []
body_rows Eventually r n g b a c = two_operands And g a ∷ one_operand Eventually n ∷ []
body_rows In r n g b a c = []

-- these rows are written, and the last of them is the result of row i
abbrev pub wrote : ℕ → List Row → Draft → Draft
wrote i rows d = record {
  written = d.written ++ rows;
  places = slice_set d.places i (length (d.written ++ rows) - 1);
  gates = d.gates;
  bars = d.bars;
}

-- a copy of row i with its operands at their places
abbrev pub copied : ℕ → Row → Draft → Draft
copied i r d = wrote i (moved r (place_of d r.left) (place_of d r.right) ∷ []) d

-- the first step at row i
abbrev pub scope_step : Home → ℕ → Row → Draft → Draft
scope_step h i r d = cond (in_scope h) (copied i r d) d

-- the gate of in row i is at g, and its bar is written
abbrev pub barred : ℕ → ℕ → Draft → Draft
barred i g d = record {
  written = d.written ++ (one_operand Not g ∷ []);
  places = d.places;
  gates = slice_set d.gates i g;
  bars = slice_set d.bars i (length d.written);
}

-- in a body, the gate is the gate around it and the scope
abbrev pub gated_by : ℕ → ℕ → ℕ → Draft → Draft
gated_by i outer scope d = barred i (length d.written) (record {
  written = d.written ++ (two_operands And outer scope ∷ []);
  places = d.places;
  gates = d.gates;
  bars = d.bars;
})

-- the second step at in row i
abbrev pub gate_at : Home → ℕ → Row → Draft → Draft
gate_at Outside i r d = barred i (place_of d r.right) d
gate_at (Body k) i r d = gated_by i (slice_index d.gates k) (place_of d r.right) d
gate_at (Scope k) i r d = d

abbrev pub gate_step : Home → ℕ → Row → Draft → Draft
gate_step h i r d = cond (is_in r.kind) (gate_at h i r d) d

-- an in row stands for the result of its body
abbrev pub passed_on : ℕ → Row → Draft → Draft
passed_on i r d = record {
  written = d.written;
  places = slice_set d.places i (place_of d r.left);
  gates = d.gates;
  bars = d.bars;
}

abbrev pub in_body : ℕ → ℕ → Row → Draft → Draft
in_body k i r d =
    wrote i (body_rows r.kind r (length d.written) (slice_index d.gates k) (slice_index d.bars k) (place_of d r.left) (place_of d r.right)) d

-- the third step at row i
abbrev pub write_step : Home → ℕ → Row → Draft → Draft
write_step Outside i r d = cond (is_in r.kind) (passed_on i r d) (copied i r d)
write_step (Body k) i r d = cond (is_in r.kind) (passed_on i r d) (in_body k i r d)
write_step (Scope k) i r d = d

-- a step at every row, rising from row i on
unfoldable pub rising : (ℕ → Row → Draft → Draft) → ℕ → List Row → Draft → Draft
rising step i [] d = d
rising step i (r ∷ rows) d = rising step (i + 1) rows (step i r d)

-- a step at every row below n, falling
unfoldable pub falling : (ℕ → Row → Draft → Draft) → List Row → ℕ → Draft → Draft
falling step rows zero d = d
falling step rows (suc n) d = falling step rows n (step n (slice_index_or rows n blank) d)

abbrev pub empty_draft : ℕ → Draft
empty_draft n = record { written = []; places = replicate n 0; gates = replicate n 0; bars = replicate n 0 }

unfoldable pub after_scopes : List Row → Draft
after_scopes rows = rising (λ i. scope_step (home rows i) i) 0 rows (empty_draft (length rows))

unfoldable pub after_gates : List Row → Draft
after_gates rows = falling (λ i. gate_step (home rows i) i) rows (length rows) (after_scopes rows)

unfoldable pub after_rows : List Row → Draft
after_rows rows = rising (λ i. write_step (home rows i) i) 0 rows (after_gates rows)

-- the rows of the plain table of a rule with these rows
unfoldable pub translated : List Row → List Row
translated rows = (after_rows rows).written

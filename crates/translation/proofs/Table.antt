-- The table of the numbers of rows in a body: its entries are right, and one test over the whole table says that they are small.
use Rattle.std.proofs.Common.{◌≡◌, ℕ, zero, suc, ◌≤◌, Bool, true, ◌&&◌, leb, List, [], ◌∷◌, length, get_or, refl, arith}
use Rattle.std.proofs.lemmas.Bool.{and_parts, leb-true}
use Rattle.rows.specs.declared.kind.Kind.{Kind}
use Rattle.rows.specs.declared.kind.Kind.TheVariants.{Top, Flag, Code, Not, And, Or, Next, Until, Always, Eventually, In}
use Rattle.rows.specs.declared.row.Row.{Row}
use Rattle.translation.specs.Counts.{rows_in_body}
use Rattle.translation.specs.Translation.{body_rows}

pub body_length : (kind : Kind) (r : Row) (n g b a c : ℕ) → length (body_rows kind r n g b a c) ≡ rows_in_body kind
body_length Top r n g b a c = refl
body_length Flag r n g b a c = refl
body_length Code r n g b a c = refl
body_length Not r n g b a c = refl
body_length And r n g b a c = refl
body_length Or r n g b a c = refl
body_length Next r n g b a c = refl
body_length Until r n g b a c = refl
body_length Always r n g b a c = refl
body_length Eventually r n g b a c = refl
body_length In r n g b a c = refl

-- no entry of a table is above n
abbrev pub at_most : ℕ → List ℕ → Bool
at_most n [] = true
at_most n (x ∷ xs) = leb x n && at_most n xs

pub entry_at_most : (n : ℕ) (xs : List ℕ) → at_most n xs ≡ true → (i : ℕ) → get_or xs i 0 ≤ n
entry_at_most n [] test i = omega arith
entry_at_most n (x ∷ xs) test zero = leb-true x n (and_parts (leb x n) (at_most n xs) test).0
entry_at_most n (x ∷ xs) test (suc i) = entry_at_most n xs (and_parts (leb x n) (at_most n xs) test).1 i

-- The bytes of the lines that programs print: decimal numbers, with single spaces, and a newline.
use Rattle.std.specs.Prelude.{ℕ, ◌+◌, List, [], ◌∷◌, ◌++◌, codes, decimal}
use Rattle.refusals.specs.Printed.{refusal_text}
use Rattle.packs.specs.Summary.{printed}
use Rattle.packs.specs.declared.summary.Summary.{Summary}

abbrev pub summary_text : Summary → List ℕ
summary_text s = printed s ++ codes "\n"

-- the number of rows of a table, its flags used and its codes used
abbrev pub head_text : ℕ → ℕ → ℕ → List ℕ
head_text rows flags used = decimal rows ++ (codes " " ++ (decimal flags ++ (codes " " ++ decimal used)))

abbrev pub rule_line : ℕ → ℕ → ℕ → ℕ → List ℕ
rule_line label rows flags used = decimal label ++ (codes " " ++ (head_text rows flags used ++ codes "\n"))

abbrev pub refused_line : ℕ → ℕ → ℕ → List ℕ
refused_line label number place = decimal label ++ (codes " " ++ (refusal_text number place ++ codes "\n"))

abbrev pub file_line : ℕ → ℕ → List ℕ
file_line number place = refusal_text number place ++ codes "\n"

-- the lines of things that are numbered from i on
unfoldable pub numbered : {X : Type 0} → (ℕ → X → List ℕ) → ℕ → List X → List ℕ
numbered line i [] = []
numbered line i (x ∷ xs) = line i x ++ numbered line (i + 1) xs

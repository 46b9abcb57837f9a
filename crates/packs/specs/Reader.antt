-- What a pack reader does at its place.
use Rattle.std.specs.Prelude.{ℕ, ◌+◌, ◌<◌, ◌≤◌, cond, List, Some, None, Option, nat_lt}
use Rattle.tables.specs.Faults.{rule_bytes_fault}
use Rattle.tables.specs.Reading.{Reads}
use Rattle.tables.specs.declared.rule.Rule.{Rule}
use Rattle.packs.specs.Format.{rule_count, table_of}
use Rattle.packs.specs.Told.{at_rule}
use Rattle.packs.specs.declared.fault.PackFault.{PackFault}

-- the place after it went on by one rule, if there was one
abbrev pub moved : List ℕ → ℕ → ℕ
moved bytes k = cond (nat_lt k (rule_count bytes)) (k + 1) k

-- the fault that loading meets
abbrev pub load_fault : List ℕ → ℕ → Option PackFault
load_fault bytes k = cond (nat_lt k (rule_count bytes)) (at_rule k (rule_bytes_fault (table_of bytes k))) None

-- the place after loading: a refusal leaves it
abbrev pub loaded_by : List ℕ → ℕ → Option PackFault → ℕ
loaded_by bytes k None = moved bytes k
loaded_by bytes k (Some fault) = k

abbrev pub loaded : List ℕ → ℕ → ℕ
loaded bytes k = loaded_by bytes k (load_fault bytes k)

-- what was loaded: the rule at the place, and nothing where there are no more
abbrev pub Loaded : List ℕ → ℕ → Option Rule → Type 0
Loaded bytes k None = rule_count bytes ≤ k
Loaded bytes k (Some rule) = (k < rule_count bytes) × Reads (table_of bytes k) rule.table

-- The format of a pack: the number of rules, their labels, the lengths of their tables, and the tables.
use Rattle.std.specs.Prelude.{ℕ, zero, suc, ◌+◌, ◌*◌, cond, ◌||◌, List, length, Some, None, Option, ◌==◌, nat_lt, slice_index}
use Rattle.std.specs.List.{between}
use Rattle.tables.specs.Format.{word}
use Rattle.packs.specs.declared.fault.PackFault.{PackFault}
use Rattle.packs.specs.declared.fault.PackFault.TheVariants.{RuleCount, Length}

-- the number of two bytes that stands at a place
abbrev pub word_at : List ℕ → ℕ → ℕ
word_at bytes p = word (slice_index bytes p) (slice_index bytes (p + 1))

abbrev pub rule_count : List ℕ → ℕ
rule_count bytes = word_at bytes 0

-- the label of rule k, and the length of its table
abbrev pub label_of : List ℕ → ℕ → ℕ
label_of bytes k = word_at bytes (2 + 2 * k)

abbrev pub length_of : List ℕ → ℕ → ℕ
length_of bytes k = word_at bytes (2 + 2 * rule_count bytes + 2 * k)

-- where the table of rule k begins: after the sizes and the tables of the rules before
unfoldable pub start_of : List ℕ → ℕ → ℕ
start_of bytes zero = 2 + 4 * rule_count bytes
start_of bytes (suc k) = start_of bytes k + length_of bytes k

abbrev pub table_of : List ℕ → ℕ → List ℕ
table_of bytes k = between (start_of bytes k) (start_of bytes k + length_of bytes k) bytes

abbrev pub pack_fault : List ℕ → Option PackFault
pack_fault bytes =
    cond (nat_lt (length bytes) 2) (Some RuleCount)
    (cond (rule_count bytes == 0 || nat_lt 64 (rule_count bytes)) (Some RuleCount)
    (cond (nat_lt (length bytes) (2 + 4 * rule_count bytes)) (Some Length)
    (cond (length bytes == start_of bytes (rule_count bytes)) None (Some Length))))

-- the label and the table of rule k, if there is a rule k
abbrev pub label_if : List ℕ → ℕ → Option ℕ
label_if bytes k = cond (nat_lt k (rule_count bytes)) (Some (label_of bytes k)) None

abbrev pub table_if : List ℕ → ℕ → Option (List ℕ)
table_if bytes k = cond (nat_lt k (rule_count bytes)) (Some (table_of bytes k)) None

-- Which fault a table has: the first that applies, in one fixed order.
use Rattle.std.specs.Prelude.{ℕ, ◌-◌, ◌*◌, cond, not, ◌&&◌, ◌||◌, List, length, get_or, drop, Some, None, Option, ◌==◌, nat_lt, slice_index, slice_index_or}
use Rattle.refusals.specs.First.{then, first_from}
use Rattle.rows.specs.Kinds.{kind_of, left_use, right_use, is_in, may_scope, zero_kept, number_kept, order_kept}
use Rattle.rows.specs.declared.kind.Kind.{Kind}
use Rattle.rows.specs.Rows.{uses, blank}
use Rattle.rows.specs.Homes.{homes, in_scope, scope_size}
use Rattle.rows.specs.declared.row.Row.{Row}
use Rattle.rows.specs.declared.home.Home.{Home}
use Rattle.rows.specs.declared.home.Home.TheVariants.{Outside}
use Rattle.tables.specs.Format.{limit, knows, stated_rows, stated_flags, stated_codes, left_at, right_at, rows_of}
use Rattle.tables.specs.declared.form.Form.{Form}
use Rattle.tables.specs.declared.form.Form.TheVariants.{Rule, Plain}
use Rattle.tables.specs.declared.fault.TableFault.{TableFault}
use Rattle.tables.specs.declared.fault.TableFault.TheVariants.{Short, RowCount, FlagsUsed, CodesUsed, Length, UnknownKind, HalfNotZero, NumberNotUsed, OperandNotBelow, NotOneUse, ScopeKind, ScopeSize}

-- the sizes of a table with n rows
abbrev pub size_fault : Form → ℕ → ℕ → ℕ → Option TableFault
size_fault form n flags codes =
    cond (n == 0 || nat_lt (limit form) n) (Some RowCount)
    (cond (nat_lt 32 flags) (Some FlagsUsed) (cond (nat_lt 4 codes) (Some CodesUsed) None))

-- the number of bytes after the sizes
abbrev pub length_fault : ℕ → ℕ → Option TableFault
length_fault n bytes = cond (bytes == 5 * n) None (Some Length)

-- row i
abbrev pub row_fault : Form → ℕ → ℕ → ℕ → Row → Option TableFault
row_fault form flags codes i r =
    cond (knows form r.kind)
    (cond (zero_kept (left_use r.kind) r.left && zero_kept (right_use r.kind) r.right)
    (cond (number_kept flags codes (left_use r.kind) r.left && number_kept flags codes (right_use r.kind) r.right)
    (cond (order_kept i (left_use r.kind) r.left && order_kept i (right_use r.kind) r.right) None (Some (OperandNotBelow i)))
    (Some (NumberNotUsed i)))
    (Some (HalfNotZero i)))
    (Some (UnknownKind i))

-- row i, where its kind is what a byte says
abbrev pub byte_row_fault : Form → ℕ → ℕ → ℕ → Option Kind → ℕ → ℕ → Option TableFault
byte_row_fault form flags codes i None left right = Some (UnknownKind i)
byte_row_fault form flags codes i (Some k) left right = row_fault form flags codes i (record { kind = k; left = left; right = right })

-- row i of n in the bytes after the sizes
abbrev pub fault_at : Form → ℕ → ℕ → ℕ → List ℕ → ℕ → Option TableFault
fault_at form n flags codes rest i =
    byte_row_fault form flags codes i (kind_of (slice_index rest i)) (left_at rest n i) (right_at rest n i)

-- the bytes after the sizes: their number, then row by row
abbrev pub rest_fault : Form → ℕ → ℕ → ℕ → List ℕ → Option TableFault
rest_fault form n flags codes rest = then (length_fault n (length rest)) (first_from (fault_at form n flags codes rest) 0 n)

-- what a rule and a plain table have in common
abbrev pub table_fault : Form → List ℕ → Option TableFault
table_fault form bytes =
    cond (nat_lt (length bytes) 4) (Some Short)
    (then (size_fault form (stated_rows bytes) (stated_flags bytes) (stated_codes bytes))
    (rest_fault form (stated_rows bytes) (stated_flags bytes) (stated_codes bytes) (drop 4 bytes)))

-- What only a rule can have, at row i: below the last row, it is not an operand exactly once; it stands in a scope, and its
-- kind may not; it is an in row, and its scope has more than 64 rows.
abbrev pub use_fault : List Row → ℕ → Option TableFault
use_fault rows i = cond (uses rows i == 1) None (Some (NotOneUse i))

abbrev pub scope_kind_fault : List Row → List Home → ℕ → Option TableFault
scope_kind_fault rows hs i =
    cond (in_scope (slice_index_or hs i Outside) && not (may_scope (get_or rows i blank).kind)) (Some (ScopeKind i)) None

abbrev pub scope_size_fault : List Row → List Home → ℕ → Option TableFault
scope_size_fault rows hs i = cond (is_in (get_or rows i blank).kind && nat_lt 64 (scope_size i hs)) (Some (ScopeSize i)) None

abbrev pub one_use_fault : List Row → Option TableFault
one_use_fault rows = first_from (use_fault rows) 0 (length rows - 1)

abbrev pub scope_kinds_fault : List Row → Option TableFault
scope_kinds_fault rows = first_from (scope_kind_fault rows (homes rows)) 0 (length rows)

abbrev pub scope_sizes_fault : List Row → Option TableFault
scope_sizes_fault rows = first_from (scope_size_fault rows (homes rows)) 0 (length rows)

-- what only a rule can have
unfoldable pub rule_fault : List Row → Option TableFault
rule_fault rows = then (one_use_fault rows) (then (scope_kinds_fault rows) (scope_sizes_fault rows))

-- the fault of a rule, and of a plain table, of these bytes
abbrev pub rule_bytes_fault : List ℕ → Option TableFault
rule_bytes_fault bytes = then (table_fault Rule bytes) (rule_fault (rows_of bytes))

abbrev pub plain_bytes_fault : List ℕ → Option TableFault
plain_bytes_fault bytes = table_fault Plain bytes

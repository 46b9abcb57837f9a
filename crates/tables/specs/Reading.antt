-- The bytes of a table, and what reading them answers.
use Rattle.std.specs.Prelude.{◌≡◌, ℕ, ◌+◌, ◌*◌, ◌<◌, List, length, None, vec_items, Option, slice_index}
use Rattle.tables.specs.Format.{stated_flags, stated_codes, rows_of, table_bytes}
use Rattle.tables.specs.declared.fault.TableFault.{TableFault}
use Rattle.tables.specs.declared.table.Table.{Table}

-- the bytes of a table
unfoldable pub bytes_of : Table → List ℕ
bytes_of t = table_bytes t.flags t.codes (vec_items t.rows)

abbrev pub needed : Table → ℕ
needed t = 4 + 5 * length (vec_items t.rows)

-- a table's rows, flags used and codes used are those of the bytes
pub record Reads (bytes : List ℕ) (t : Table) : Type 0 where
  pub flags : t.flags ≡ stated_flags bytes
  pub codes : t.codes ≡ stated_codes bytes
  pub rows : vec_items t.rows ≡ rows_of bytes

-- two tables with the same rows, flags used and codes used
pub record Same (s t : Table) : Type 0 where
  pub flags : s.flags ≡ t.flags
  pub codes : s.codes ≡ t.codes
  pub rows : vec_items s.rows ≡ vec_items t.rows

-- Both ways between tables and bytes. The bytes of a table are as many as it needs, have no fault, and are read as this table.
-- Bytes that have no fault, and are read as this table, are its bytes.
pub record Both (fault : List ℕ → Option TableFault) (t : Table) : Type 0 where
  pub long : length (bytes_of t) ≡ needed t
  pub accepted : fault (bytes_of t) ≡ None
  pub back : Reads (bytes_of t) t
  pub again : (bytes : List ℕ) → ((i : ℕ) → slice_index bytes i < 256) → fault bytes ≡ None → Reads bytes t → bytes ≡ bytes_of t

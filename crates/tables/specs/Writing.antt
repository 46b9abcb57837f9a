-- What writing a table into a buffer leaves there.
use Rattle.std.specs.Prelude.{ℕ, cond, List, ◌++◌, length, take, drop, Some, None, Option, nat_lt}
use Rattle.tables.specs.declared.fault.TableFault.{TableFault}
use Rattle.tables.specs.declared.fault.TableFault.TheVariants.{BufferShort}

-- a buffer after some bytes were laid over it from a place on
abbrev pub laid : ℕ → List ℕ → List ℕ → List ℕ
laid at bytes old = take at old ++ (bytes ++ drop (length bytes) (drop at old))

-- a buffer is too short for this many bytes
abbrev pub buffer_fault : ℕ → List ℕ → Option TableFault
buffer_fault needed old = cond (nat_lt (length old) needed) (Some (BufferShort needed)) None

-- a buffer after these bytes, of this number, were written to its start: as it was, if it is too short
abbrev pub written : ℕ → List ℕ → List ℕ → List ℕ
written needed bytes old = cond (nat_lt (length old) needed) old (bytes ++ drop needed old)

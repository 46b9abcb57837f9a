-- What is listed of a file that holds a sheet.
use Rattle.std.specs.Prelude.{ℕ, cond, List, ◌++◌, length, Some, None, codes, decimal, Option, nat_lt}
use Rattle.sessions.specs.Faults.{sheet_fault}
use Rattle.sessions.specs.Sheets.{sheet_states}
pub use Rattle.sessions.specs.Printed.{flag_text, flags_text, flags_or_none, codes_text}
use Rattle.sessions.specs.Printed.{state_text}
use Rattle.sessions.specs.Told.{told}
use Rattle.sessions.specs.declared.fault.SessionFault.{SessionFault}
use Rattle.sessions.specs.declared.fault.SessionFault.TheVariants.{SheetLength}
use Rattle.sessions.specs.declared.state.State.{State}
use Rattle.report.specs.Lines.{file_line, numbered}

-- the line of the state of this number
abbrev pub state_line : ℕ → State → List ℕ
state_line i state = decimal i ++ (codes " " ++ (state_text state ++ codes "\n"))

abbrev pub session_lines : List State → List ℕ
session_lines w = numbered state_line 0 w

abbrev pub refused_sheet : SessionFault → List ℕ
refused_sheet fault = file_line (told fault).number (told fault).place

abbrev pub listing_by : List ℕ → Option SessionFault → List ℕ
listing_by bytes None = session_lines (sheet_states bytes)
listing_by bytes (Some fault) = refused_sheet fault

-- a file of more than 65,536 bytes is refused as a sheet of a wrong length
abbrev pub listing : List ℕ → List ℕ
listing file = cond (nat_lt 65536 (length file)) (refused_sheet SheetLength) (listing_by file (sheet_fault file))

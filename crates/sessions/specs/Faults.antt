-- Which sheets and switch logs are refused.
use Rattle.std.specs.Prelude.{ℕ, ◌+◌, ◌-◌, ◌*◌, cond, not, ◌&&◌, ◌||◌, List, length, Some, None, Option, ◌==◌, nat_lt, slice_index}
use Rattle.refusals.specs.First.{then, first_from}
use Rattle.sessions.specs.Sheets.{sheet_count}
use Rattle.sessions.specs.declared.fault.SessionFault.{SessionFault}
use Rattle.sessions.specs.declared.fault.SessionFault.TheVariants.{SheetLength, LogLengths, LogFlag, LogTick}

abbrev pub sheet_fault : List ℕ → Option SessionFault
sheet_fault bytes =
    cond (nat_lt (length bytes) 2) (Some SheetLength)
    (cond (length bytes == 2 + 8 * sheet_count bytes) None (Some SheetLength))

-- the flag of entry k
abbrev pub flag_fault : List ℕ → ℕ → Option SessionFault
flag_fault flags k = cond (nat_lt 31 (slice_index flags k)) (Some (LogFlag k)) None

-- the tick of entry k: not below the one before, and below the number of states
abbrev pub tick_fault : ℕ → List ℕ → ℕ → Option SessionFault
tick_fault count ticks k =
    cond ((nat_lt 0 k && nat_lt (slice_index ticks k) (slice_index ticks (k - 1))) || not (nat_lt (slice_index ticks k) count)) (Some (LogTick k)) None

-- the lengths first, then all flags, then all ticks
abbrev pub log_fault : ℕ → List ℕ → List ℕ → Option SessionFault
log_fault count ticks flags =
    cond (length ticks == length flags)
    (then (first_from (flag_fault flags) 0 (length flags)) (first_from (tick_fault count ticks) 0 (length ticks)))
    (Some LogLengths)

-- What is told of each fault of a session: its number, its place and its layer.
use Rattle.refusals.specs.declared.Layer.TheVariants.{Session}
use Rattle.refusals.specs.declared.Refusal.{Refusal}
use Rattle.sessions.specs.declared.fault.SessionFault.{SessionFault}
use Rattle.sessions.specs.declared.fault.SessionFault.TheVariants.{SheetLength, LogLengths, LogFlag, LogTick}

abbrev pub told : SessionFault → Refusal
told SheetLength = record { number = 14; place = 0; layer = Session }
told LogLengths = record { number = 15; place = 0; layer = Session }
told (LogFlag entry) = record { number = 16; place = entry; layer = Session }
told (LogTick entry) = record { number = 17; place = entry; layer = Session }

-- What is told of each fault of a table: its number, its place and its layer.
use Rattle.refusals.specs.declared.Layer.TheVariants.{Table}
use Rattle.refusals.specs.declared.Refusal.{Refusal}
use Rattle.tables.specs.declared.fault.TableFault.{TableFault}
use Rattle.tables.specs.declared.fault.TableFault.TheVariants.{Short, RowCount, FlagsUsed, CodesUsed, Length, UnknownKind, HalfNotZero, NumberNotUsed, OperandNotBelow, NotOneUse, ScopeKind, ScopeSize, BufferShort}

abbrev pub told : TableFault → Refusal
told Short = record { number = 1; place = 0; layer = Table }
told RowCount = record { number = 2; place = 0; layer = Table }
told FlagsUsed = record { number = 3; place = 2; layer = Table }
told CodesUsed = record { number = 3; place = 3; layer = Table }
told Length = record { number = 4; place = 4; layer = Table }
told (UnknownKind row) = record { number = 5; place = row; layer = Table }
told (HalfNotZero row) = record { number = 6; place = row; layer = Table }
told (NumberNotUsed row) = record { number = 7; place = row; layer = Table }
told (OperandNotBelow row) = record { number = 8; place = row; layer = Table }
told (NotOneUse row) = record { number = 9; place = row; layer = Table }
told (ScopeKind row) = record { number = 10; place = row; layer = Table }
told (ScopeSize row) = record { number = 11; place = row; layer = Table }
told (BufferShort needed) = record { number = 22; place = needed; layer = Table }

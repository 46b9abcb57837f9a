-- What is told of each fault of a pack: its number, its place and its layer. A table's fault tells what it tells by itself.
use Rattle.std.specs.Prelude.{ℕ, Some, None, Option}
use Rattle.refusals.specs.declared.Layer.TheVariants.{Pack}
use Rattle.refusals.specs.declared.Refusal.{Refusal}
use Rattle.tables.specs.Told as table
use Rattle.tables.specs.declared.fault.TableFault.{TableFault}
use Rattle.packs.specs.declared.fault.PackFault.{PackFault}
use Rattle.packs.specs.declared.fault.PackFault.TheVariants.{RuleCount, Length, InRule}

abbrev pub told : PackFault → Refusal
told RuleCount = record { number = 12; place = 0; layer = Pack }
told Length = record { number = 13; place = 0; layer = Pack }
told (InRule fault number) = table.told fault

-- a table's fault, if there is one, beside the number of its rule
abbrev pub at_rule : ℕ → Option TableFault → Option PackFault
at_rule number None = None
at_rule number (Some fault) = Some (InRule fault number)

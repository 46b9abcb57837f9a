-- What is told of each fault of a marking: its number, its place and its layer.
use Rattle.refusals.specs.declared.Layer.TheVariants.{Marking}
use Rattle.refusals.specs.declared.Refusal.{Refusal}
use Rattle.marking.specs.declared.fault.MarkingFault.{MarkingFault}
use Rattle.marking.specs.declared.fault.MarkingFault.TheVariants.{StripShort}

abbrev pub told : MarkingFault → Refusal
told (StripShort needed) = record { number = 20; place = needed; layer = Marking }

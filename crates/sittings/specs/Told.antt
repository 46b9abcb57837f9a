-- What is told of each fault of a call on a sitting: its number, its place and its layer.
use Rattle.refusals.specs.declared.Layer.TheVariants.{Sitting}
use Rattle.refusals.specs.declared.Refusal.{Refusal}
use Rattle.sittings.specs.declared.fault.SittingFault.{SittingFault}
use Rattle.sittings.specs.declared.fault.SittingFault.TheVariants.{Full, NoState}

abbrev pub told : SittingFault → Refusal
told Full = record { number = 18; place = 1024; layer = Sitting }
told NoState = record { number = 19; place = 0; layer = Sitting }

-- The three-way scale: a code reads by its sign.
use Rattle.std.specs.Prelude.{cond, ℤ, pos, int_lt}
use Rattle.std.proofs.Common.{rules}
use Rattle.scales.specs.Lattice.{Lattice, Laws}
use Rattle.scales.specs.declared.three_way.ThreeWay.{ThreeWay}
use Rattle.scales.specs.declared.three_way.ThreeWay.TheVariants.{No, Unknown, Yes}

abbrev pub opposite : ThreeWay → ThreeWay
opposite No = Yes
opposite Unknown = Unknown
opposite Yes = No

abbrev pub lower : ThreeWay → ThreeWay → ThreeWay
lower No b = No
lower Unknown No = No
lower Unknown Unknown = Unknown
lower Unknown Yes = Unknown
lower Yes b = b

abbrev pub higher : ThreeWay → ThreeWay → ThreeWay
higher No b = b
higher Unknown No = Unknown
higher Unknown Unknown = Unknown
higher Unknown Yes = Yes
higher Yes b = Yes

abbrev pub by_sign : ℤ → ThreeWay
by_sign code = cond (int_lt (pos 0) code) Yes (cond (int_lt code (pos 0)) No Unknown)

abbrev pub three_way : Lattice ThreeWay
three_way = record {
  bottom = No;
  top = Yes;
  complement = opposite;
  meet = lower;
  join = higher;
  reading = by_sign;
}

pub three_way_laws : Laws three_way
three_way_laws = search rules

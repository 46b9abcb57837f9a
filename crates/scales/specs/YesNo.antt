-- The yes/no scale: a code above 0 reads yes.
use Rattle.std.specs.Prelude.{Bool, true, false, cond, pos, int_lt}
use Rattle.std.proofs.Common.{rules}
use Rattle.scales.specs.Lattice.{Lattice, Laws}
use Rattle.scales.specs.declared.yes_no.YesNo.{YesNo}
use Rattle.scales.specs.declared.yes_no.YesNo.TheVariants.{No, Yes}

abbrev pub opposite : YesNo → YesNo
opposite No = Yes
opposite Yes = No

abbrev pub both : YesNo → YesNo → YesNo
both No b = No
both Yes b = b

abbrev pub either : YesNo → YesNo → YesNo
either No b = b
either Yes b = Yes

abbrev pub answer : Bool → YesNo
answer b = cond b Yes No

abbrev pub is_yes : YesNo → Bool
is_yes No = false
is_yes Yes = true

abbrev pub yes_no : Lattice YesNo
yes_no = record {
  bottom = No;
  top = Yes;
  complement = opposite;
  meet = both;
  join = either;
  reading = λ code. answer (int_lt (pos 0) code);
}

pub yes_no_laws : Laws yes_no
yes_no_laws = search rules

use Rattle.std.proofs.Common.{◌≡◌, ◌≤◌, List, length, sym, ap, ◌∙◌, arith}
use Rattle.rows.specs.Homes.{homes}
use Rattle.rows.specs.declared.row.Row.{Row}
use Rattle.tables.specs.declared.form.Form.TheVariants.{Rule}
use Rattle.tables.specs.Lawful.{none_found, lawful_rule}
use Rattle.tables.proofs.Sound.{fine_sizes}
use Rattle.tables.proofs.rule.Rule.from_table.Goals as goal

few_rows : {xs ys : List Row} → xs ≡ ys → length ys ≤ 1024 → length xs ≤ 1024
few_rows same few = omega (arith, ap length same)

pub find_homes-homes-requires : goal.find_homes-homes-requires
find_homes-homes-requires g c =
    let few = few_rows c.as_slice.ensures.value (fine_sizes Rule _ _ _ c.requires.fine).1 in
    (omega arith, (few, omega (arith, few, c.requires.room)))

pub check_rule-requires : goal.check_rule-requires
check_rule-requires g c =
    let sizes = fine_sizes Rule _ _ _ c.requires.fine in
    let long = ap length c.as_slice-2.ensures.value in
    record {
      some = omega (arith, long, sizes.0);
      few = omega (arith, long, sizes.1);
      known = c.as_slice-3.ensures.value ∙ c.find_homes-homes.ensures ∙ ap homes (c.as_slice.ensures.value ∙ sym c.as_slice-2.ensures.value);
    }

pub invariant_of-result : goal.invariant_of-result
unfolding lawful_rule
invariant_of-result g c =
    let checked = rw c.as_slice-2.ensures.value at c.in_ok-check_rule.ensures in
    record {
      lawful = c.requires.fine;
      checked = ap none_found checked;
      few = (fine_sizes Rule _ _ _ c.requires.fine).1;
      placed = c.find_homes-homes.ensures ∙ ap homes c.as_slice.ensures.value;
    }

-- Scores are equal where their values are, so that the laws of scores are those of their values.
use Rattle.std.specs.Prelude.{◌≡◌, pos, negsuc, ◌≤ℤ◌}
use Rattle.std.proofs.Common.{arith, ap}
use Rattle.std.proofs.Props.{props}
use Rattle.std.proofs.lemmas.Int.{ints, clamps}
use mathlib.Core.HLevel.{is_prop→PathP}
use Rattle.scales.specs.Lattice.{Laws}
use Rattle.scales.specs.Scores.{scores}
use Rattle.scales.specs.declared.score.Score.{Score}

pub same_score : (a b : Score) → a.value ≡ b.value → a ≡ b
same_score a b e i = record {
  value = e i;
  low = is_prop→PathP (λ j. negsuc 99 ≤ℤ e j) (λ j. Prim.hlevel props) a.low b.low i;
  high = is_prop→PathP (λ j. e j ≤ℤ pos 100) (λ j. Prim.hlevel props) a.high b.high i;
}

pub score_laws : Laws scores
score_laws = record {
  apart = λ e. let v = ap (λ s. s.value) e in omega (arith, ints);
  meet_comm = λ a b. same_score _ _ (omega (arith, ints, clamps));
  join_comm = λ a b. same_score _ _ (omega (arith, ints, clamps));
  meet_assoc = λ a b c. same_score _ _ (omega (arith, ints, clamps));
  join_assoc = λ a b c. same_score _ _ (omega (arith, ints, clamps));
  meet_absorbs = λ a b. same_score _ _ (omega (arith, ints, clamps));
  join_absorbs = λ a b. same_score _ _ (omega (arith, ints, clamps));
  meet_over_join = λ a b c. same_score _ _ (omega (arith, ints, clamps));
  join_over_meet = λ a b c. same_score _ _ (omega (arith, ints, clamps));
  meet_top = λ a. same_score _ _ (omega (arith, ints, clamps));
  join_bottom = λ a. same_score _ _ (omega (arith, ints, clamps));
  twice = λ a. same_score _ _ (omega (arith, ints));
  turns = λ a b. same_score _ _ (omega (arith, ints, clamps));
}

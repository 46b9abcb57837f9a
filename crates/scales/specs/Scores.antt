-- The scale of scores: whole numbers from -100 to 100, and a code is held to that range.
use Rattle.std.proofs.Common.{arith}
use Rattle.std.specs.Prelude.{ℤ, pos, negsuc, neg_ℤ, ◌≤ℤ◌}
use Rattle.std.specs.Int.{int_min, int_max}
use Rattle.std.proofs.lemmas.Int.{ints, clamps}
use Rattle.scales.specs.Lattice.{Lattice}
use Rattle.scales.specs.declared.score.Score.{Score}

-- the number of the range that is nearest to z
abbrev pub held : ℤ → ℤ
held z = int_max (negsuc 99) (int_min z (pos 100))

pub held_low : (z : ℤ) → negsuc 99 ≤ℤ held z
held_low z = omega (arith, ints, clamps)

pub held_high : (z : ℤ) → held z ≤ℤ pos 100
held_high z = omega (arith, ints, clamps)

pub min_low : (a b : ℤ) → negsuc 99 ≤ℤ a → negsuc 99 ≤ℤ b → negsuc 99 ≤ℤ int_min a b
min_low a b p q = omega (arith, ints, clamps)

pub min_high : (a b : ℤ) → a ≤ℤ pos 100 → int_min a b ≤ℤ pos 100
min_high a b p = omega (arith, ints, clamps)

pub max_low : (a b : ℤ) → negsuc 99 ≤ℤ a → negsuc 99 ≤ℤ int_max a b
max_low a b p = omega (arith, ints, clamps)

pub max_high : (a b : ℤ) → a ≤ℤ pos 100 → b ≤ℤ pos 100 → int_max a b ≤ℤ pos 100
max_high a b p q = omega (arith, ints, clamps)

pub neg_low : (a : ℤ) → a ≤ℤ pos 100 → negsuc 99 ≤ℤ neg_ℤ a
neg_low a p = omega (arith, ints)

pub neg_high : (a : ℤ) → negsuc 99 ≤ℤ a → neg_ℤ a ≤ℤ pos 100
neg_high a p = omega (arith, ints)

abbrev pub held_score : ℤ → Score
held_score z = record { value = held z; low = held_low z; high = held_high z }

abbrev pub smaller : Score → Score → Score
smaller a b = record {
  value = int_min a.value b.value;
  low = min_low a.value b.value a.low b.low;
  high = min_high a.value b.value a.high;
}

abbrev pub larger : Score → Score → Score
larger a b = record {
  value = int_max a.value b.value;
  low = max_low a.value b.value a.low;
  high = max_high a.value b.value a.high b.high;
}

abbrev pub negated : Score → Score
negated a = record {
  value = neg_ℤ a.value;
  low = neg_low a.value a.high;
  high = neg_high a.value a.low;
}

abbrev pub lowest : Score
lowest = record { value = negsuc 99; low = held_low (negsuc 99); high = held_high (negsuc 99) }

abbrev pub highest : Score
highest = record { value = pos 100; low = held_low (pos 100); high = held_high (pos 100) }

abbrev pub scores : Lattice Score
scores = record {
  bottom = lowest;
  top = highest;
  complement = negated;
  meet = smaller;
  join = larger;
  reading = held_score;
}

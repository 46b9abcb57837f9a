-- The scale of pairs: each operation goes part by part, and a code is read in both parts.
use Rattle.scales.specs.Lattice.{Lattice}
use Rattle.scales.specs.declared.pair.Pair.{Pair}

module _ {A B : Type 0} where
  abbrev pub pair_of : A → B → Pair A B
  pair_of a b = record { first = a; second = b }

  abbrev pub pairs : Lattice A → Lattice B → Lattice (Pair A B)
  pairs K L = record {
    bottom = pair_of K.bottom L.bottom;
    top = pair_of K.top L.top;
    complement = λ p. pair_of (K.complement p.first) (L.complement p.second);
    meet = λ p q. pair_of (K.meet p.first q.first) (L.meet p.second q.second);
    join = λ p q. pair_of (K.join p.first q.first) (L.join p.second q.second);
    reading = λ code. pair_of (K.reading code) (L.reading code);
  }

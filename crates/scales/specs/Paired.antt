-- A pair of scales keeps the laws of a scale, since each part does.
use Rattle.std.specs.Prelude.{◌≡◌}
use Rattle.std.proofs.Common.{ap}
use Rattle.scales.specs.Lattice.{Lattice, Laws}
use Rattle.scales.specs.Pairs.{pair_of, pairs}

module _ {A B : Type 0} where
  same_pair : {a c : A} {b d : B} → a ≡ c → b ≡ d → pair_of a b ≡ pair_of c d
  same_pair p q i = pair_of (p i) (q i)

  pub pair_laws : {K : Lattice A} {L : Lattice B} → Laws K → Laws L → Laws (pairs K L)
  pair_laws k l = record {
    apart = λ e. k.apart (ap (λ p. p.first) e);
    meet_comm = λ p q. same_pair (k.meet_comm p.first q.first) (l.meet_comm p.second q.second);
    join_comm = λ p q. same_pair (k.join_comm p.first q.first) (l.join_comm p.second q.second);
    meet_assoc = λ p q r. same_pair (k.meet_assoc p.first q.first r.first) (l.meet_assoc p.second q.second r.second);
    join_assoc = λ p q r. same_pair (k.join_assoc p.first q.first r.first) (l.join_assoc p.second q.second r.second);
    meet_absorbs = λ p q. same_pair (k.meet_absorbs p.first q.first) (l.meet_absorbs p.second q.second);
    join_absorbs = λ p q. same_pair (k.join_absorbs p.first q.first) (l.join_absorbs p.second q.second);
    meet_over_join = λ p q r. same_pair (k.meet_over_join p.first q.first r.first) (l.meet_over_join p.second q.second r.second);
    join_over_meet = λ p q r. same_pair (k.join_over_meet p.first q.first r.first) (l.join_over_meet p.second q.second r.second);
    meet_top = λ p. same_pair (k.meet_top p.first) (l.meet_top p.second);
    join_bottom = λ p. same_pair (k.join_bottom p.first) (l.join_bottom p.second);
    twice = λ p. same_pair (k.twice p.first) (l.twice p.second);
    turns = λ p q. same_pair (k.turns p.first q.first) (l.turns p.second q.second);
  }

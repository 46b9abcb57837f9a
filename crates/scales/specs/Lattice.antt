-- A mark scale: marks with a bottom, a top, a complement, a meet and a join, and a reading of codes.
use Rattle.std.specs.Prelude.{◌≡◌, ℤ}

pub record Lattice (M : Type 0) : Type 0 where
  pub bottom : M
  pub top : M
  pub complement : M → M
  pub meet : M → M → M
  pub join : M → M → M
  -- the mark that a code is read as
  pub reading : ℤ → M

-- what every scale keeps: a distributive lattice whose complement is its own inverse and turns a meet into a join
pub record Laws {M : Type 0} (L : Lattice M) : Type 0 where
  pub apart : L.top ≡ L.bottom → ⊥
  pub meet_comm : (a b : M) → L.meet a b ≡ L.meet b a
  pub join_comm : (a b : M) → L.join a b ≡ L.join b a
  pub meet_assoc : (a b c : M) → L.meet (L.meet a b) c ≡ L.meet a (L.meet b c)
  pub join_assoc : (a b c : M) → L.join (L.join a b) c ≡ L.join a (L.join b c)
  pub meet_absorbs : (a b : M) → L.meet a (L.join a b) ≡ a
  pub join_absorbs : (a b : M) → L.join a (L.meet a b) ≡ a
  pub meet_over_join : (a b c : M) → L.meet a (L.join b c) ≡ L.join (L.meet a b) (L.meet a c)
  pub join_over_meet : (a b c : M) → L.join a (L.meet b c) ≡ L.meet (L.join a b) (L.join a c)
  pub meet_top : (a : M) → L.meet L.top a ≡ a
  pub join_bottom : (a : M) → L.join L.bottom a ≡ a
  pub twice : (a : M) → L.complement (L.complement a) ≡ a
  pub turns : (a b : M) → L.complement (L.meet a b) ≡ L.join (L.complement a) (L.complement b)

-- Two formulas that differ only in the order of scopes that are piled directly on one another, wherever a pile stands.
use Rattle.meaning.specs.Formulas.{Formula, not, and, or, next, until, always, eventually, inside}

pub data Reordered : Formula → Formula → Type 0 where
  swapped : {a s t : Formula} → Reordered (inside (inside a s) t) (inside (inside a t) s)
  same : {a : Formula} → Reordered a a
  back : {a b : Formula} → Reordered a b → Reordered b a
  then : {a b c : Formula} → Reordered a b → Reordered b c → Reordered a c
  in_not : {a b : Formula} → Reordered a b → Reordered (not a) (not b)
  in_and : {a b c d : Formula} → Reordered a b → Reordered c d → Reordered (and a c) (and b d)
  in_or : {a b c d : Formula} → Reordered a b → Reordered c d → Reordered (or a c) (or b d)
  in_next : {a b : Formula} → Reordered a b → Reordered (next a) (next b)
  in_until : {a b c d : Formula} → Reordered a b → Reordered c d → Reordered (until a c) (until b d)
  in_always : {a b : Formula} → Reordered a b → Reordered (always a) (always b)
  in_eventually : {a b : Formula} → Reordered a b → Reordered (eventually a) (eventually b)
  -- in the body and in the scope
  in_inside : {a b s t : Formula} → Reordered a b → Reordered s t → Reordered (inside a s) (inside b t)

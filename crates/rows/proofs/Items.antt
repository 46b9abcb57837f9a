-- What stands at a place of a list, if anything does.
use Rattle.std.proofs.Common.{◌≡◌, ℕ, ◌<◌, ◌≤◌, Bool, true, false, cond, ltb, List, length, get_or, Some, None, refl, arith, ltb-false, ltb-true}
use Rattle.rows.specs.Rows.{item_of}

pub item_there : {X : Type 0} (xs : List X) (i : ℕ) (d x : X) → Some x ≡ item_of xs i d → (i < length xs) × (x ≡ get_or xs i d)
item_there xs i d x = go (ltb i (length xs)) refl
  where
    go : (b : Bool) → ltb i (length xs) ≡ b → Some x ≡ cond b (Some (get_or xs i d)) None → (i < length xs) × (x ≡ get_or xs i d)
    go true is e = (ltb-true i (length xs) is, cc)
    go false is e = let z : ◌≡◌ {A = ℕ} 0 1 = cc in absurd (omega arith)

pub item_past : {X : Type 0} (xs : List X) (i : ℕ) (d : X) → None ≡ item_of xs i d → length xs ≤ i
item_past xs i d = go (ltb i (length xs)) refl
  where
    go : (b : Bool) → ltb i (length xs) ≡ b → None ≡ cond b (Some (get_or xs i d)) None → length xs ≤ i
    go true is e = let z : ◌≡◌ {A = ℕ} 0 1 = cc in absurd (omega arith)
    go false is e = ltb-false i (length xs) is

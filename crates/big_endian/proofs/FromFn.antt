-- The items of an array that a pure function of the index makes.
use Rattle.std.proofs.Common.{◌≡◌, ℕ, zero, suc, ◌+◌, ◌<◌, ◌≤◌, List, get_or, ◌∙◌, subst, ⊎_elim, arith}
use Rattle.std.specs.Array.{IsFromFnResultFrom}
use Rattle.std.specs.Fn.{Called}
use Rattle.std.proofs.lemmas.Bool.{cases_lt}
use denote.Param.Members.{Mut}

module _ {F : Type 0} (g : Mut F (ℕ × Unit {0}) ℕ) (f : F) (made : ℕ → ℕ) (pure : (i y : ℕ) (q : F) → Called g f (i, tt) y q → (q ≡ f) × (y ≡ made i)) where
  pub made_at : (ys : List ℕ) (n i : ℕ) (at : F) → at ≡ f → IsFromFnResultFrom g at ys i n → (j : ℕ) → i ≤ j → j < i + n → get_or ys j 0 ≡ made j
  made_at ys zero i at same each j from upto = absurd (omega arith)
  made_at ys (suc n) i at same (q, y, here, call, rest) j from upto =
      let told = pure i y q (subst (λ (h : F). Called g h (i, tt) y q) same call) in
      ⊎_elim
      (λ (below : i < j). made_at ys n (i + 1) q told.0 rest j (omega arith) (omega arith))
      (λ (upto_i : j ≤ i). let same_place : i ≡ j = omega arith in subst (λ k. get_or ys k 0 ≡ made k) same_place (here.1 0 ∙ told.1))
      (cases_lt i j)

-- The part of a session that a statement holds of is what a test keeps that passes exactly where the statement holds.
use Rattle.std.proofs.Common.{◌≡◌, Bool, true, false, cond, List, [], ◌∷◌, filter, sym, refl, ap, ◌∙◌, ⊎_elim}
use Rattle.std.proofs.lemmas.Bool.{false≢true, cases_Bool, cond-true, cond-false}
use Rattle.sessions.specs.declared.state.State.{State}
use Rattle.meaning.specs.Logic.{Part, none, kept, left}

module _ {P : State → Type 0} {p : State → Bool} (there : (state : State) → P state → p state ≡ true) (back : (state : State) → p state ≡ true → P state) where
  pub kept_part : (w : List State) → Part P w (filter p w)
  kept_part [] = none
  kept_part (state ∷ w) = go (p state) (there state) (back state) (kept_part w)
    where
      go : (b : Bool) → (P state → b ≡ true) → (b ≡ true → P state) → Part P w (filter p w) → Part P (state ∷ w) (cond b (state ∷ filter p w) (filter p w))
      go true to from rest = kept (from refl) rest
      go false to from rest = left (λ holds. false≢true (to holds)) rest

  pub part_kept : {w v : List State} → Part P w v → v ≡ filter p w
  part_kept none = refl
  part_kept (kept {state = state} {w = w} holds rest) = ap (λ u. state ∷ u) (part_kept rest) ∙ sym (cond-true (p state) (state ∷ filter p w) (filter p w) (there state holds))
  part_kept (left {state = state} {w = w} fails rest) = part_kept rest ∙ sym (cond-false (p state) (state ∷ filter p w) (filter p w) (⊎_elim (λ passes. absurd (fails (back state passes))) (λ e. e) (cases_Bool (p state))))

-- The states at picked positions.
use Rattle.std.proofs.Common.{◌≡◌, ℕ, ◌+◌, ◌<◌, ◌≤◌, Bool, true, false, cond, List, [], ◌∷◌, ◌++◌, length, get_or, take, ℤ, pos, Some, None, Option, MatchOption, filter, sym, ap, ◌∙◌, append-nil, arith}
use Rattle.std.proofs.lemmas.List.Elements.{filter_more}
use Rattle.std.proofs.lemmas.List.{length-map, map-append, get_or-map}
use Rattle.rows.specs.Rows.{item_of}
use Rattle.rows.proofs.Items.{item_there, item_past}
use Rattle.sessions.specs.States.{no_state, code_of, code_at}
use Rattle.sessions.specs.declared.state.State.{State}
use Rattle.sessions.proofs.Positions.{code_beyond}
use Rattle.thinning.specs.Thinned.{states_at}

module _ (w : List State) (p : State → Bool) where
  -- one more position, and one that is passed over
  pub picked : (positions more : List ℕ) (i : ℕ) {b : Bool} → states_at w positions ≡ filter p (take i w) → more ≡ positions ++ (i ∷ []) → i < length w → b ≡ p (get_or w i no_state) → b ≡ true → states_at w more ≡ filter p (take (i + 1) w)
  picked positions more i sofar is within told holds =
      ap (states_at w) is
      ∙ map-append (λ k. get_or w k no_state) positions (i ∷ [])
      ∙ ap (λ l. l ++ (get_or w i no_state ∷ [])) sofar
      ∙ sym (filter_more p w i no_state within ∙ ap (λ c. filter p (take i w) ++ cond c (get_or w i no_state ∷ []) []) (sym told ∙ holds))

  pub passed : (positions more : List ℕ) (i : ℕ) {b : Bool} → states_at w positions ≡ filter p (take i w) → more ≡ positions → i < length w → b ≡ p (get_or w i no_state) → b ≡ false → states_at w more ≡ filter p (take (i + 1) w)
  passed positions more i sofar is within told fails =
      ap (states_at w) is
      ∙ sofar
      ∙ sym (append-nil (filter p (take i w)))
      ∙ sym (filter_more p w i no_state within ∙ ap (λ c. filter p (take i w) ++ cond c (get_or w i no_state ∷ []) []) (sym told ∙ fails))

-- what a position of the thinned session has below
module _ (w : List State) (positions : List ℕ) (i : ℕ) where
  here : i < length positions → get_or (states_at w positions) i no_state ≡ get_or w (get_or positions i 0) no_state
  here within = get_or-map (λ k. get_or w k no_state) positions i 0 no_state within

  past : length positions ≤ i → length (states_at w positions) ≤ i
  past end = omega (arith, length-map positions (λ k. get_or w k no_state))

  pub code_here : (number : ℕ) {k : ℕ} {z : ℤ} → i < length positions → k ≡ get_or positions i 0 → z ≡ code_at w k number → z ≡ code_at (states_at w positions) i number
  code_here number within at told = told ∙ ap (λ n. code_at w n number) at ∙ sym (ap (code_of number) (here within))

  pub code_told : (number : ℕ) (below : Option ℕ) {z : ℤ} → below ≡ item_of positions i 0 → MatchOption below (z ≡ pos 0) (λ k. z ≡ code_at w k number) → z ≡ code_at (states_at w positions) i number
  code_told number None is told = told ∙ sym (code_beyond (states_at w positions) i (past (item_past positions i 0 is)) number)
  code_told number (Some k) is told = let at = item_there positions i 0 k is in code_here number at.0 at.1 told

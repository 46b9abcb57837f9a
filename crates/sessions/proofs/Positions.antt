-- What is told past the end of a session.
use Rattle.std.proofs.Common.{◌≡◌, ℕ, zero, suc, ◌≤◌, List, length, pos, refl, ap, ◌∙◌, arith}
use Rattle.std.proofs.lemmas.List.{get_or_past}
use Rattle.std.proofs.lemmas.Bool.Decides.{nat_tests}
use Rattle.sessions.specs.States.{no_state, code_of, flags_at, code_at}
use Rattle.sessions.specs.declared.state.State.{State}

pub no_code : (k : ℕ) → code_of k no_state ≡ pos 0
no_code zero = refl
no_code (suc zero) = refl
no_code (suc (suc zero)) = refl
no_code (suc (suc (suc zero))) = refl
no_code (suc (suc (suc (suc k)))) = grind (arith, nat_tests)

module _ (w : List State) (i : ℕ) (end : length w ≤ i) where
  pub flags_beyond : flags_at w i ≡ 0
  flags_beyond = ap (λ (s : State). s.flags) (get_or_past w i no_state end)

  pub code_beyond : (k : ℕ) → code_at w i k ≡ pos 0
  code_beyond k = ap (code_of k) (get_or_past w i no_state end) ∙ no_code k

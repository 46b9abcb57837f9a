-- What the exit of a `?` answers.
use Rattle.std.proofs.Common.{◌≡◌, IsErrAnd, Some, Ok, Err, Option, Result, sym, ap, ◌∙◌, subst}
use Rattle.std.proofs.lemmas.Result.{err_from_is_err_and}
use Rattle.refusals.specs.Answers.{Answers}

pub exit : {X F : Type 0} (P : X → Type 0) (fault : Option F) {f : F} (r : Result X F) → IsErrAnd r (λ y. y ≡ f) → fault ≡ Some f → Answers fault r P
exit P fault {f} r by e =
    let p = err_from_is_err_and r by in
    subst (λ s. Answers fault s P) (sym p.1) (e ∙ ap Some (sym p.2))

-- what holds of the value, and so another thing
pub weaker : {X F : Type 0} {P Q : X → Type 0} (fault : Option F) (r : Result X F) → ((x : X) → P x → Q x) → Answers fault r P → Answers fault r Q
weaker fault (Ok x) so (fine, p) = (fine, so x p)
weaker fault (Err f) so e = e

-- The line of a state.
use Rattle.std.proofs.Common.{◌≡◌, ℕ, ◌++◌, codes, decimal, ap}
use Rattle.std.specs.Fmt.{signed_decimal}
use Rattle.sessions.specs.States.{Alike}
use Rattle.sessions.specs.Printed.{flags_text, flags_or_none, codes_text}
use Rattle.sessions.specs.declared.state.State.{State}
use Rattle.session_report.specs.Listing.{state_line}

-- states that are alike have the same line
pub alike_line : (i : ℕ) (s t : State) → Alike s t → state_line i s ≡ state_line i t
unfolding flags_text
alike_line i s t alike =
    let flags_same : flags_or_none s ≡ flags_or_none t = ap (λ word. flags_or_none (record { flags = word; codes = s.codes })) alike.flags in
    let codes_same : codes_text s ≡ codes_text t = λ d. signed_decimal (alike.codes 0 d) ++ (codes " " ++ (signed_decimal (alike.codes 1 d) ++ (codes " " ++ (signed_decimal (alike.codes 2 d) ++ (codes " " ++ signed_decimal (alike.codes 3 d)))))) in
    λ d. decimal i ++ (codes " " ++ ((codes "flags" ++ (flags_same d ++ (codes " codes " ++ codes_same d))) ++ codes "\n"))

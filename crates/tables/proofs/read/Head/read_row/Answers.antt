use Rattle.std.proofs.Common.{◌≡◌, ℕ, ◌+◌, ◌-◌, ◌*◌, ◌<◌, List, get_or, take, drop, Some, ap, ◌∙◌, arith}
use Rattle.std.proofs.lemmas.Grind.{common_steps}
use Rattle.std.proofs.lemmas.List.{get_or-drop, get_or-take}
use Rattle.rows.specs.Kinds.{kind_of}
use Rattle.refusals.proofs.Exits.{exit}
use Rattle.tables.proofs.Bytes.{known_fault}
use Rattle.tables.proofs.read.Head.read_row.Goals as goal

-- a byte of the four from a place on
of_four : (bytes : List ℕ) (at n k j : ℕ) → n ≡ 4 → k < 4 → j ≡ at + k → get_or (take n (drop at bytes)) k 0 ≡ get_or bytes j 0
of_four bytes at n k j four below is =
    let there : at + k ≡ j = omega arith in
    get_or-take n (drop at bytes) k 0 (omega arith) ∙ get_or-drop at bytes k 0 ∙ ap (λ m. get_or bytes m 0) there

pub returns-in_err-check_row : goal.returns-in_err-check_row
returns-in_err-check_row c =
    let rest = c.args.rest.now in
    let at = c.args.self.rows + 4 * c.args.i in
    let byte = of_four rest at (at + 4 - at) in
    let kind : Some c.in_ok-kind.kind ≡ kind_of (get_or rest c.args.i 0) = grind (arith, common_steps) in
    let left_high = byte 0 at (omega arith) (omega arith) (omega arith) in
    let left_low = byte 1 (at + 1) (omega arith) (omega arith) (omega arith) in
    let right_high = byte 2 (at + 2) (omega arith) (omega arith) (omega arith) in
    let right_low = byte 3 (at + 3) (omega arith) (omega arith) (omega arith) in
    exit _ _ c.from_residual-in_err-check_row.result c.from_residual-in_err-check_row.ensures.1
    (known_fault _ _ _ _ kind (c.word_at-left.ensures ∙ (λ d. left_high d * 256 + left_low d)) (c.word_at-right.ensures ∙ (λ d. right_high d * 256 + right_low d)) c.in_err-check_row.ensures)

-- A formula holds of a session exactly where its yes/no mark there is yes.
use Rattle.std.proofs.Common.{◌≡◌, ℕ, ◌<◌, true, ltb, List, [], ◌∷◌, length, drop, ℤ, pos, ◌<ℤ◌, sym, refl, ap, ◌∙◌, arith}
use lib.Signed.{lt_z}
use Rattle.std.proofs.lemmas.Int.{ints}
use Rattle.std.proofs.lemmas.Bool.{ltb-true, lt-ltb}
use Rattle.rows.specs.declared.row.Row.{Row}
use Rattle.scales.specs.YesNo.{yes_no, both}
use Rattle.sessions.specs.States.{has_flag, code_of}
use Rattle.sessions.specs.declared.state.State.{State}
use Rattle.meaning.specs.Formulas.{Formula, top, flag, code, not, and, or, next, until, always, eventually, inside, formula_at}
use Rattle.meaning.specs.Logic.{Holds, Agrees, Satisfaction}
use Rattle.meaning.specs.Meaning.{mark, in_scope, thinned}
use Rattle.meaning.specs.Operators.{meets}
use Rattle.meaning.proofs.Matches.{is_yes_true, matches_answer, matches_never, matches_opposite, matches_both, matches_either, matches_cond, matches_same, matches_meets, matches_joins}
use Rattle.meaning.proofs.Parts.{kept_part, part_kept}

-- a code is above 0 exactly where the test of it passes
above_test : (z : ℤ) → pos 0 <ℤ z → lt_z (pos 0) z ≡ true
above_test z above = grind (arith, ints)

test_above : (z : ℤ) → lt_z (pos 0) z ≡ true → pos 0 <ℤ z
test_above z e = grind (arith, ints)

module _ (a s : Formula) (agree_a : (w : List State) → Agrees a w) (agree_s : (w : List State) → Agrees s w) where
  in_there : (state : State) → Holds s (state ∷ []) → in_scope s state ≡ true
  in_there state holds = (is_yes_true (mark yes_no s (state ∷ []))).1 ((agree_s (state ∷ [])).0 holds)

  in_back : (state : State) → in_scope s state ≡ true → Holds s (state ∷ [])
  in_back state passes = (agree_s (state ∷ [])).1 ((is_yes_true (mark yes_no s (state ∷ []))).0 passes)

  agrees_inside : (w : List State) → Agrees (inside a s) w
  unfolding Holds mark
  agrees_inside w = (
    (λ some. ap (mark yes_no a) (sym (part_kept in_there in_back some.1)) ∙ (agree_a some.0).0 some.2),
    (λ e. (thinned s w, kept_part in_there in_back w, (agree_a (thinned s w)).1 e)),
  )

pub agrees : (f : Formula) (w : List State) → Agrees f w
unfolding Holds mark
agrees top w = ((λ holds. refl), (λ e. tt))
agrees (flag p) [] = matches_never (λ holds. holds)
agrees (flag p) (state ∷ w) = matches_answer (has_flag p state)
agrees (code k) [] = matches_never (λ holds. holds)
agrees (code k) (state ∷ w) = matches_same (test_above (code_of k state)) (above_test (code_of k state)) (matches_answer (lt_z (pos 0) (code_of k state)))
agrees (not a) w = matches_opposite (mark yes_no a w) (agrees a w)
agrees (and a b) w = matches_both (mark yes_no a w) (mark yes_no b w) (agrees a w) (agrees b w)
agrees (or a b) w = matches_either (mark yes_no a w) (mark yes_no b w) (agrees a w) (agrees b w)
agrees (next a) w = matches_cond (ltb 1 (length w)) (mark yes_no a (drop 1 w)) (λ more. lt-ltb 1 (length w) more) (λ e. ltb-true 1 (length w) e) (agrees a (drop 1 w))
agrees (until a b) w =
    matches_same (λ some. (some.0, some.1, some.2.0, some.2.1)) (λ some. (some.0, some.1, (some.2, some.3)))
    (matches_joins (λ i. Holds b (drop i w) × ((j : ℕ) → j < i → Holds a (drop j w))) (length w) (λ i. both (mark yes_no b (drop i w)) (meets yes_no i (λ j. mark yes_no a (drop j w))))
    (λ i. matches_both (mark yes_no b (drop i w)) (meets yes_no i (λ j. mark yes_no a (drop j w))) (agrees b (drop i w))
    (matches_meets (λ j. Holds a (drop j w)) i (λ j. mark yes_no a (drop j w)) (λ j. agrees a (drop j w)))))
agrees (always a) w = matches_meets (λ i. Holds a (drop i w)) (length w) (λ i. mark yes_no a (drop i w)) (λ i. agrees a (drop i w))
agrees (eventually a) w = matches_joins (λ i. Holds a (drop i w)) (length w) (λ i. mark yes_no a (drop i w)) (λ i. agrees a (drop i w))
agrees (inside a s) w = agrees_inside a s (agrees a) (agrees s) w

pub satisfaction : (rows : List Row) (w : List State) → Satisfaction rows w
satisfaction rows w i = agrees (formula_at rows i) w

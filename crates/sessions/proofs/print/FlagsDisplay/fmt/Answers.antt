use Rattle.std.proofs.Common.{◌≡◌, ℕ, ◌+◌, Bool, true, false, cond, [], ◌∷◌, ◌++◌, codes, decimal, sym, ap, ◌∙◌, append-nil, arith, rules}
use Rattle.std.specs.List.{range_with_len, flat_map}
use Rattle.std.proofs.Output.{has_written_append, has_written_of_eq}
use Rattle.std.proofs.lemmas.Bool.{ne_eqb}
use Rattle.std.proofs.lemmas.List.{flat_map_more, map-id}
use Rattle.std.proofs.lemmas.List.FromFn.{map-range_with_len_more}
use Rattle.sessions.specs.States.{has_flag}
use Rattle.sessions.specs.Printed.{flag_text, flags_text}
use Rattle.sessions.specs.declared.state.State.{State}
use Rattle.sessions.proofs.print.FlagsDisplay.fmt.Goals as goal
use Rattle.sessions.proofs.print.FlagsDisplay.fmt.Goals.{then-has_flag+in_ok-write, else-has_flag}

-- one flag more, by whether the state has it
flag_more : (state : State) (k : ℕ) {b : Bool} (has : Bool) → b ≡ has_flag k state → b ≡ has → flat_map (flag_text state) (range_with_len 0 k) ++ cond has (codes " " ++ decimal k) [] ≡ flat_map (flag_text state) (range_with_len 0 (k + 1))
flag_more state k has told is =
    let counted : range_with_len 0 (k + 1) ≡ range_with_len 0 k ++ (k ∷ []) =
    sym (map-id (range_with_len 0 (k + 1))) ∙ map-range_with_len_more (λ (n : ℕ). n) 0 k k (omega arith) ∙ ap (λ l. l ++ (k ∷ [])) (map-id (range_with_len 0 k)) in
    ap (λ v. flat_map (flag_text state) (range_with_len 0 k) ++ cond v (codes " " ++ decimal k) []) (sym is ∙ told)
    ∙ flat_map_more (flag_text state) [] (range_with_len 0 k) k
    ∙ ap (flat_map (flag_text state)) (sym counted)

pub loop-flag-preserved : goal.loop-flag-preserved
loop-flag-preserved g c plain =
    let state = c.args.self.now.0.now in
    let k = c.loop-flag.flag-counter in
    elim c.if-has_flag.branch [
      | then-has_flag+in_ok-write w ↦ rw w.f-is (has_written_of_eq _ _ _ _ _ (flag_more state k true c.has_flag.ensures w.if-has_flag.true) (has_written_append _ _ _ _ _ _ (c.loop-flag.invariant plain) (search rules)))
      | else-has_flag w ↦ rw w.f-is (has_written_of_eq _ _ _ _ _ (sym (append-nil _) ∙ flag_more state k false c.has_flag.ensures w.if-has_flag.false) (c.loop-flag.invariant plain))
    ]

pub returns-clause-writes : goal.returns-clause-writes
unfolding flags_text
returns-clause-writes g c plain fine =
    let state = c.args.self.now.0.now in
    let all : c.loop-flag.flag-counter ≡ 32 = omega arith in
    has_written_of_eq _ _ _ _ _ (ap (λ n. flat_map (flag_text state) (range_with_len 0 n)) all ∙ sym (ap (λ b. cond b (codes " none") (flags_text state)) (ne_eqb state.flags 0 c.if-state-eq0.false))) (c.loop-flag.invariant plain)

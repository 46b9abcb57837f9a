-- The states that a sheet tells.
use Rattle.std.proofs.Common.{◌≡◌, ℕ, zero, suc, ◌+◌, ◌*◌, ◌<◌, ◌≤◌, List, length, get_or, ℤ, pos, sym, refl, ap, ◌∙◌, ⊎_elim, arith, w8, to_z}
use Rattle.std.proofs.lemmas.List.FromFn.{length-map-range_with_len, get_or-map-range_with_len}
use Rattle.std.proofs.lemmas.Bool.Decides.{nat_tests}
use Rattle.std.proofs.lemmas.Bool.{cases_lt}
use Rattle.big_endian.specs.Numbers.{long_at}
use Rattle.sessions.specs.States.{no_state, code_of, flags_at, code_at}
use Rattle.sessions.specs.Sheets.{sheet_count, sheet_flags, sheet_code, sheet_state, sheet_states}
use Rattle.sessions.specs.declared.state.State.{State}
use Rattle.sessions.proofs.Positions.{flags_beyond, code_beyond}

pub length_states : (bytes : List ℕ) → length (sheet_states bytes) ≡ sheet_count bytes
unfolding sheet_states
length_states bytes = length-map-range_with_len (sheet_state bytes) 0 (sheet_count bytes)

module _ (bytes : List ℕ) (i : ℕ) where
  here : i < sheet_count bytes → get_or (sheet_states bytes) i no_state ≡ sheet_state bytes i
  unfolding sheet_states
  here within = get_or-map-range_with_len (sheet_state bytes) 0 (sheet_count bytes) i i no_state within (omega arith)

  pub flags_here : {n word : ℕ} → word ≡ long_at bytes (2 + 4 * n) → n ≡ i → i < sheet_count bytes → word ≡ flags_at (sheet_states bytes) i
  flags_here read same within = read ∙ ap (sheet_flags bytes) same ∙ sym (ap (λ (s : State). s.flags) (here within))

  pub flags_past : sheet_count bytes ≤ i → flags_at (sheet_states bytes) i ≡ 0
  flags_past end = flags_beyond (sheet_states bytes) i (omega (arith, length_states bytes))

  pub code_here : (k : ℕ) {at byte : ℕ} {z : ℤ} → z ≡ to_z w8 byte → byte ≡ get_or bytes at 0 → at ≡ 2 + 4 * sheet_count bytes + 4 * i + k → i < sheet_count bytes → k < 4 → z ≡ code_at (sheet_states bytes) i k
  code_here k cast read place within small =
      cast
      ∙ ap (to_z w8) (read ∙ ap (λ n. get_or bytes n 0) place)
      ∙ sym (ap (code_of k) (here within) ∙ go k small)
    where
      go : (k : ℕ) → k < 4 → code_of k (sheet_state bytes i) ≡ sheet_code bytes i k
      go zero h = refl
      go (suc zero) h = refl
      go (suc (suc zero)) h = refl
      go (suc (suc (suc zero))) h = refl
      go (suc (suc (suc (suc k)))) h = absurd (omega arith)

  pub code_past : (k : ℕ) → sheet_count bytes ≤ i → code_at (sheet_states bytes) i k ≡ pos 0
  code_past k end = code_beyond (sheet_states bytes) i (omega (arith, length_states bytes)) k

  pub code_above : (k : ℕ) → 4 ≤ k → code_at (sheet_states bytes) i k ≡ pos 0
  code_above k high =
      ⊎_elim
      (λ within. ap (code_of k) (here within) ∙ grind (arith, nat_tests))
      (λ end. code_past k end)
      (cases_lt i (sheet_count bytes))

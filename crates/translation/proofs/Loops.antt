-- What each turn keeps, a whole loop over the rows keeps.
use Rattle.std.proofs.Common.{◌≡◌, ℕ, zero, suc, ◌+◌, ◌<◌, List, [], ◌∷◌, length, get_or, sym, subst, add-one, arith}
use Rattle.rows.specs.Rows.{blank}
use Rattle.rows.specs.declared.row.Row.{Row}
use Rattle.translation.specs.Translation.{Draft, rising, falling}

module _ (step : ℕ → Row → Draft → Draft) (P : ℕ → Draft → Type 0) where
  rising_from : (rows : List Row) (i n : ℕ) (d : Draft) → i + length rows ≡ n → ((k j : ℕ) (e : Draft) → k ≡ i + j → j < length rows → P k e → P (k + 1) (step k (get_or rows j blank) e)) → P i d → P n (rising step i rows d)
  unfolding rising
  rising_from [] i n d end keeps start = let here : i ≡ n = omega arith in subst (λ m. P m d) here start
  rising_from (r ∷ rows) i n d end keeps start =
      rising_from rows (i + 1) n (step i r d) (omega arith)
      (λ k j e at within. keeps k (suc j) e (omega arith) (omega arith))
      (keeps i 0 d (omega arith) (omega arith) start)

  pub rising_keeps : (rows : List Row) (d : Draft) → ((k : ℕ) (e : Draft) → k < length rows → P k e → P (k + 1) (step k (get_or rows k blank) e)) → P 0 d → P (length rows) (rising step 0 rows d)
  rising_keeps rows d keeps start =
      rising_from rows 0 (length rows) d (omega arith)
      (λ k j e at within p. let same : k ≡ j = omega arith in subst (λ m. P (k + 1) (step k (get_or rows m blank) e)) same (keeps k e (omega arith) p))
      start

  pub falling_keeps : (rows : List Row) (n : ℕ) (d : Draft) → ((k : ℕ) (e : Draft) → k < n → P (k + 1) e → P k (step k (get_or rows k blank) e)) → P n d → P 0 (falling step rows n d)
  unfolding falling
  falling_keeps rows zero d keeps start = start
  falling_keeps rows (suc n) d keeps start =
      falling_keeps rows n (step n (get_or rows n blank) d) (λ k e low. keeps k e (omega arith))
      (keeps n d (omega arith) (subst (λ m. P m d) (sym (add-one n)) start))

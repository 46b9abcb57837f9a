-- Bytes laid over a buffer, piece after piece.
use Rattle.std.proofs.Common.{◌≡◌, ℕ, ◌+◌, ◌*◌, ◌/◌, ◌%◌, ◌<◌, ◌≤◌, List, [], ◌∷◌, ◌++◌, map, length, take, drop, sym, refl, ap, ◌∙◌, append_assoc, zero-add, arith, length-append}
use Rattle.std.specs.List.{flat_map}
use Rattle.std.proofs.lemmas.List.{take_at, drop_at, drop-drop, length-take-le, length-map}
use Rattle.rows.specs.declared.row.Row.{Row}
use Rattle.tables.specs.Format.{half_bytes, kind_number, body_bytes, table_bytes}
use Rattle.tables.specs.Writing.{laid}
use Rattle.tables.proofs.Written.{length_bytes}

module _ (at : ℕ) (xs ys old : List ℕ) (within : at ≤ length old) where
  front : List ℕ
  front = take at old ++ xs

  front_long : length front ≡ at + length xs
  unfolding front
  front_long = length-append (take at old) xs ∙ ap (λ n. n + length xs) (length-take-le at old within)

  join : laid (at + length xs) ys (laid at xs old) ≡ laid at (xs ++ ys) old
  unfolding front
  join =
      let back = drop (length xs) (drop at old) in
      let past = drop-drop (length ys) (length xs) (drop at old) ∙ ap (λ n. drop n (drop at old)) (sym (length-append xs ys)) in
      ap (laid (at + length xs) ys) (sym (append_assoc (take at old) xs back))
      ∙ (λ d. take_at front back (at + length xs) front_long d ++ (ys ++ drop (length ys) (drop_at front back (at + length xs) front_long d)))
      ∙ append_assoc (take at old) xs (ys ++ drop (length ys) back)
      ∙ ap (λ l. take at old ++ l) (sym (append_assoc xs ys (drop (length ys) back)) ∙ ap (λ l. (xs ++ ys) ++ l) past)

-- one piece more
pub laid_more : (at i : ℕ) (xs ys zs old sofar now : List ℕ) → at ≤ length old → length xs ≡ i → xs ++ ys ≡ zs → sofar ≡ laid at xs old → now ≡ laid (at + i) ys sofar → now ≡ laid at zs old
laid_more at i xs ys zs old sofar now within long whole before after =
    after ∙ (λ d. laid (at + sym long d) ys (before d)) ∙ join at xs ys old within ∙ ap (λ l. laid at l old) whole

-- the sizes, the kinds and the arguments of a table, one after the other
pub table_laid : (flags codes : ℕ) (rows : List Row) (old sized kinded whole : List ℕ) → 4 + 5 * length rows ≤ length old → length rows < 65536 → sized ≡ laid 0 ((length rows / 256 % 256) ∷ (length rows % 256) ∷ flags ∷ codes ∷ []) old → kinded ≡ laid 4 (map kind_number rows) sized → whole ≡ laid (4 + length rows) (flat_map half_bytes rows) kinded → whole ≡ table_bytes flags codes rows ++ drop (4 + 5 * length rows) old
unfolding table_bytes body_bytes
table_laid flags codes rows old sized kinded whole room few first second third =
    let n = length rows in
    let high : n / 256 % 256 ≡ n / 256 = omega arith in
    let sizes : List ℕ = (n / 256) ∷ (n % 256) ∷ flags ∷ codes ∷ [] in
    let kinds = map kind_number rows in
    let bytes = table_bytes flags codes rows in
    let one : sized ≡ laid 0 sizes old = first ∙ ap (λ h. laid 0 (h ∷ (n % 256) ∷ flags ∷ codes ∷ []) old) high in
    let two : kinded ≡ laid 0 (sizes ++ kinds) old = laid_more 0 4 sizes kinds (sizes ++ kinds) old sized kinded (omega arith) refl refl one second in
    let three : whole ≡ laid 0 bytes old = laid_more 0 (4 + n) (sizes ++ kinds) (flat_map half_bytes rows) bytes old kinded whole (omega arith) (omega (arith, length-map rows kind_number)) (append_assoc sizes kinds (flat_map half_bytes rows)) two (third ∙ ap (λ m. laid m (flat_map half_bytes rows) kinded) (sym (zero-add (4 + n)))) in
    three ∙ ap (λ m. bytes ++ drop m old) (length_bytes flags codes rows)

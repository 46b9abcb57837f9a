-- The bytes of a table, and reading them back.
use Rattle.std.proofs.Common.{◌≡◌, ℕ, zero, suc, ◌+◌, ◌-◌, ◌*◌, ◌/◌, ◌%◌, ◌<◌, ◌≤◌, cond, List, [], ◌∷◌, map, length, get_or, drop, Some, None, Option, unwrap_or, sym, refl, ap, ◌∙◌, subst, ⊎_elim, arith, eq-eqb}
use Rattle.std.specs.List.{range_with_len, flat_map}
use Rattle.std.proofs.lemmas.List.{length-append, length-map, get_or_append_left, get_or-append_right, get_or-map, get_or-drop, ext_get_or}
use Rattle.std.proofs.lemmas.List.FromFn.{length-map-range_with_len, get_or-map-range_with_len}
use Rattle.std.proofs.lemmas.Bool.{cases_lt}
use Rattle.std.proofs.lemmas.Bool.Decides.{nat_tests}
use Rattle.refusals.proofs.First.{then_first, then_second, first_none, each_none}
use Rattle.rows.specs.Kinds.{number, kind_of}
use Rattle.rows.specs.Rows.{blank}
use Rattle.rows.specs.declared.kind.Kind.{Kind}
use Rattle.rows.specs.declared.kind.Kind.TheVariants.{Top, Flag, Code, Not, And, Or, Next, Until, Always, Eventually, In}
use Rattle.rows.specs.declared.row.Row.{Row}
use Rattle.tables.specs.Faults.{size_fault, row_fault, byte_row_fault, fault_at, table_fault}
use Rattle.tables.specs.Format.{stated_rows, stated_flags, stated_codes, left_at, right_at, row_at, rows_in, rows_of, half_bytes, kind_number, body_bytes, table_bytes}
use Rattle.tables.specs.Lawful.{rows_fault}
use Rattle.tables.specs.declared.form.Form.{Form}
use Rattle.tables.specs.declared.fault.TableFault.TheVariants.{Length}
use Rattle.tables.proofs.Bytes.{known_fault, sized_fault}
use Rattle.tables.proofs.Sound.{length_rows, four_bytes, rest_long, rows_fine}

-- a number of two bytes from its two bytes
word_again : (n : ℕ) → n / 256 * 256 + n % 256 ≡ n
word_again n = omega arith

high_again : (high low : ℕ) → low < 256 → (high * 256 + low) / 256 ≡ high
high_again high low small = omega arith

low_again : (high low : ℕ) → low < 256 → (high * 256 + low) % 256 ≡ low
low_again high low small = omega arith

pub length_halves : (rows : List Row) → length (flat_map half_bytes rows) ≡ 4 * length rows
length_halves [] = refl
length_halves (r ∷ rows) = omega (arith, length_halves rows)

pub length_body : (rows : List Row) → length (body_bytes rows) ≡ 5 * length rows
unfolding body_bytes
length_body rows = simp (length-append, length-map) (omega (arith, length_halves rows))

pub length_bytes : (flags codes : ℕ) (rows : List Row) → length (table_bytes flags codes rows) ≡ 4 + 5 * length rows
unfolding table_bytes
length_bytes flags codes rows = omega (arith, length_body rows)

-- the bytes of row i
pub kind_there : (rows : List Row) (i : ℕ) → i < length rows → get_or (body_bytes rows) i 0 ≡ number (get_or rows i blank).kind
unfolding body_bytes
kind_there rows i within =
    get_or_append_left (map kind_number rows) (flat_map half_bytes rows) 0 i (subst (λ n. i < n) (sym (length-map rows kind_number)) within)
    ∙ get_or-map kind_number rows i blank 0 within

halves_there : (rows : List Row) (i j : ℕ) → i < length rows → j < 4 → get_or (flat_map half_bytes rows) (4 * i + j) 0 ≡ get_or (half_bytes (get_or rows i blank)) j 0
halves_there [] i j within small = absurd (omega arith)
halves_there (r ∷ rows) zero j within small =
    let at : 4 * 0 + j ≡ j = omega arith in
    ap (λ p. get_or (flat_map half_bytes (r ∷ rows)) p 0) at ∙ get_or_append_left (half_bytes r) (flat_map half_bytes rows) 0 j (omega arith)
halves_there (r ∷ rows) (suc i) j within small =
    let at : 4 * suc i + j - 4 ≡ 4 * i + j = omega arith in
    get_or-append_right (half_bytes r) (flat_map half_bytes rows) 4 (4 * suc i + j) 0 refl (omega arith)
    ∙ ap (λ p. get_or (flat_map half_bytes rows) p 0) at
    ∙ halves_there rows i j (omega arith) small

pub half_there : (rows : List Row) (i j p : ℕ) → i < length rows → j < 4 → p ≡ length rows + 4 * i + j → get_or (body_bytes rows) p 0 ≡ get_or (half_bytes (get_or rows i blank)) j 0
unfolding body_bytes
half_there rows i j p within small at =
    let back : p - length rows ≡ 4 * i + j = omega arith in
    get_or-append_right (map kind_number rows) (flat_map half_bytes rows) (length rows) p 0 (length-map rows kind_number) (omega arith)
    ∙ ap (λ q. get_or (flat_map half_bytes rows) q 0) back
    ∙ halves_there rows i j within small

-- Reading what was written: the kinds, the rows, the sizes.
kind_back : (k : Kind) → kind_of (number k) ≡ Some k
kind_back Top = refl
kind_back Flag = refl
kind_back Code = refl
kind_back Not = refl
kind_back And = refl
kind_back Or = refl
kind_back Next = refl
kind_back Until = refl
kind_back Always = refl
kind_back Eventually = refl
kind_back In = refl

module _ (rows : List Row) (i : ℕ) (within : i < length rows) where
  known_back : kind_of (get_or (body_bytes rows) i 0) ≡ Some (get_or rows i blank).kind
  known_back = ap kind_of (kind_there rows i within) ∙ kind_back (get_or rows i blank).kind

  left_back : left_at (body_bytes rows) (length rows) i ≡ (get_or rows i blank).left
  left_back =
      (λ d. half_there rows i 0 (length rows + 4 * i) within (omega arith) (omega arith) d * 256 + half_there rows i 1 (length rows + 4 * i + 1) within (omega arith) (omega arith) d)
      ∙ word_again (get_or rows i blank).left

  right_back : right_at (body_bytes rows) (length rows) i ≡ (get_or rows i blank).right
  right_back =
      (λ d. half_there rows i 2 (length rows + 4 * i + 2) within (omega arith) (omega arith) d * 256 + half_there rows i 3 (length rows + 4 * i + 3) within (omega arith) (omega arith) d)
      ∙ word_again (get_or rows i blank).right

  row_back : row_at (body_bytes rows) (length rows) i ≡ get_or rows i blank
  row_back = λ d. record { kind = ap (λ o. unwrap_or o Top) known_back d; left = left_back d; right = right_back d }

pub rows_back : (rows : List Row) → rows_in (body_bytes rows) (length rows) ≡ rows
unfolding rows_in
rows_back rows =
    let row = row_at (body_bytes rows) (length rows) in
    ext_get_or blank (map row (range_with_len 0 (length rows))) rows (length-map-range_with_len row 0 (length rows))
    (λ i below. let within : i < length rows = omega (arith, length-map-range_with_len row 0 (length rows)) in
    get_or-map-range_with_len row 0 (length rows) i i blank within (omega arith) ∙ row_back rows i within)

pub rows_of_back : (flags codes : ℕ) (rows : List Row) → rows_of (table_bytes flags codes rows) ≡ rows
unfolding table_bytes
rows_of_back flags codes rows = ap (rows_in (body_bytes rows)) (word_again (length rows)) ∙ rows_back rows

-- the bytes of a lawful table have no fault
pub written_fine : (form : Form) (flags codes : ℕ) (rows : List Row) → rows_fault form flags codes rows ≡ None → table_fault form (table_bytes flags codes rows) ≡ None
unfolding table_bytes rows_fault
written_fine form flags codes rows fine =
    let n = length rows in
    let sizes = then_first (size_fault form n flags codes) _ fine in
    let each : (k : ℕ) → 0 ≤ k → k < 0 + n → fault_at form n flags codes (body_bytes rows) k ≡ None = λ k low high.
    let within : k < n = omega arith in
    known_fault form flags codes k (sym (known_back rows k within)) (sym (left_back rows k within)) (sym (right_back rows k within))
    (each_none (λ i. row_fault form flags codes i (get_or rows i blank)) 0 n (then_second (size_fault form n flags codes) _ fine) k low high) in
    sized_fault form (table_bytes flags codes rows) (body_bytes rows) n None (omega (arith, length_body rows)) (sym (word_again n)) refl sizes
    (ap (λ b. cond b None (Some Length)) (eq-eqb (length (body_bytes rows)) (5 * n) (length_body rows)))
    (first_none (fault_at form n flags codes (body_bytes rows)) 0 n each)

-- Writing what was read: the kinds, the halves, all bytes.
number_back : (b : ℕ) (o : Option Kind) → kind_of b ≡ o → (k : Kind) → o ≡ Some k → number k ≡ b
number_back b o is k e = grind (arith, nat_tests)

-- byte j of the halves of row i is the byte that they were read from
half_byte : (rest : List ℕ) (n i j p : ℕ) → ((q : ℕ) → get_or rest q 0 < 256) → j < 4 → p ≡ n + 4 * i + j → get_or (half_bytes (row_at rest n i)) j 0 ≡ get_or rest p 0
half_byte rest n i zero p small within at =
    let same : n + 4 * i ≡ p = omega arith in
    high_again (get_or rest (n + 4 * i) 0) (get_or rest (n + 4 * i + 1) 0) (small (n + 4 * i + 1)) ∙ ap (λ q. get_or rest q 0) same
half_byte rest n i (suc zero) p small within at =
    let same : n + 4 * i + 1 ≡ p = omega arith in
    low_again (get_or rest (n + 4 * i) 0) (get_or rest (n + 4 * i + 1) 0) (small (n + 4 * i + 1)) ∙ ap (λ q. get_or rest q 0) same
half_byte rest n i (suc (suc zero)) p small within at =
    let same : n + 4 * i + 2 ≡ p = omega arith in
    high_again (get_or rest (n + 4 * i + 2) 0) (get_or rest (n + 4 * i + 3) 0) (small (n + 4 * i + 3)) ∙ ap (λ q. get_or rest q 0) same
half_byte rest n i (suc (suc (suc zero))) p small within at =
    let same : n + 4 * i + 3 ≡ p = omega arith in
    low_again (get_or rest (n + 4 * i + 2) 0) (get_or rest (n + 4 * i + 3) 0) (small (n + 4 * i + 3)) ∙ ap (λ q. get_or rest q 0) same
half_byte rest n i (suc (suc (suc (suc j)))) p small within at = absurd (omega arith)

-- a row with no fault has a kind byte that is its kind's number
kind_byte : (form : Form) (flags codes i b l r : ℕ) → byte_row_fault form flags codes i (kind_of b) l r ≡ None → number (unwrap_or (kind_of b) Top) ≡ b
kind_byte form flags codes i b l r = go (kind_of b) refl
  where
    go : (o : Option Kind) → kind_of b ≡ o → byte_row_fault form flags codes i o l r ≡ None → number (unwrap_or o Top) ≡ b
    go None is e = let z : ◌≡◌ {A = ℕ} 0 1 = cc in absurd (omega arith)
    go (Some k) is e = number_back b (Some k) is k refl

body_again : (form : Form) (flags codes n : ℕ) (rest : List ℕ) → ((q : ℕ) → get_or rest q 0 < 256) → length rest ≡ 5 * n → ((k : ℕ) → k < n → fault_at form n flags codes rest k ≡ None) → body_bytes (rows_in rest n) ≡ rest
unfolding rows_in
body_again form flags codes n rest small long fine =
    ext_get_or 0 (body_bytes rows) rest (length_body rows ∙ ap (λ m. 5 * m) count ∙ sym long)
    (λ p below. ⊎_elim (kinds p) (halves p (omega (arith, length_body rows, count))) (cases_lt p n))
  where
    rows : List Row
    rows = rows_in rest n

    count : length rows ≡ n
    count = length-map-range_with_len (row_at rest n) 0 n

    row_is : (i : ℕ) → i < n → get_or rows i blank ≡ row_at rest n i
    row_is i within = get_or-map-range_with_len (row_at rest n) 0 n i i blank within (omega arith)

    kinds : (p : ℕ) → p < n → get_or (body_bytes rows) p 0 ≡ get_or rest p 0
    kinds p within =
        kind_there rows p (subst (λ m. p < m) (sym count) within)
        ∙ ap kind_number (row_is p within)
        ∙ kind_byte form flags codes p (get_or rest p 0) (left_at rest n p) (right_at rest n p) (fine p within)

    halves : (p : ℕ) → p < 5 * n → n ≤ p → get_or (body_bytes rows) p 0 ≡ get_or rest p 0
    halves p below past =
        let i = (p - n) / 4 in
        let j = (p - n) % 4 in
        let within : i < n = omega arith in
        let at : p ≡ n + 4 * i + j = omega arith in
        half_there rows i j p (subst (λ m. i < m) (sym count) within) (omega arith) (at ∙ ap (λ m. m + 4 * i + j) (sym count))
        ∙ ap (λ r. get_or (half_bytes r) j 0) (row_is i within)
        ∙ half_byte rest n i j p small (omega arith) at

-- the four size bytes, and the bytes after them
four : (bytes : List ℕ) → 4 ≤ length bytes → bytes ≡ get_or bytes 0 0 ∷ get_or bytes 1 0 ∷ get_or bytes 2 0 ∷ get_or bytes 3 0 ∷ drop 4 bytes
four [] long = absurd (omega arith)
four (a ∷ []) long = absurd (omega arith)
four (a ∷ b ∷ []) long = absurd (omega arith)
four (a ∷ b ∷ c ∷ []) long = absurd (omega arith)
four (a ∷ b ∷ c ∷ d ∷ rest) long = refl

pub bytes_again : (form : Form) (bytes : List ℕ) → ((q : ℕ) → get_or bytes q 0 < 256) → table_fault form bytes ≡ None → table_bytes (stated_flags bytes) (stated_codes bytes) (rows_of bytes) ≡ bytes
unfolding table_bytes
bytes_again form bytes small fine =
    let n = stated_rows bytes in
    let rest = drop 4 bytes in
    let high : length (rows_of bytes) / 256 ≡ get_or bytes 0 0 = ap (λ m. m / 256) (length_rows bytes) ∙ high_again (get_or bytes 0 0) (get_or bytes 1 0) (small 1) in
    let low : length (rows_of bytes) % 256 ≡ get_or bytes 1 0 = ap (λ m. m % 256) (length_rows bytes) ∙ low_again (get_or bytes 0 0) (get_or bytes 1 0) (small 1) in
    let check = fault_at form n (stated_flags bytes) (stated_codes bytes) rest in
    let body : body_bytes (rows_of bytes) ≡ rest = body_again form (stated_flags bytes) (stated_codes bytes) n rest (λ q. subst (λ b. b < 256) (sym (get_or-drop 4 bytes q 0)) (small (4 + q))) (rest_long form bytes fine) (λ k within. each_none check 0 n (rows_fine form bytes fine) k (omega arith) (omega arith)) in
    (λ d. high d ∷ low d ∷ get_or bytes 2 0 ∷ get_or bytes 3 0 ∷ body d) ∙ sym (four bytes (four_bytes form bytes fine))

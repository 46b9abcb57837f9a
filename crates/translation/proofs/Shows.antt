-- What the rows that are written show.
use Rattle.std.proofs.Common.{◌≡◌, ℕ, ◌+◌, ◌-◌, ◌<◌, false, List, [], ◌∷◌, ◌++◌, length, sym, refl, ap, ◌∙◌, subst, ap₂, arith}
use Rattle.std.proofs.lemmas.List.{append_assoc, length-append, length_push}
use Rattle.std.proofs.lemmas.Bool.{false≢true}
use Rattle.meaning.specs.Formulas.{Formula, not, or, formula_by, formula_of, formulas, formula_at}
use Rattle.meaning.specs.Gated.{gated, first_in}
use Rattle.rows.specs.Kinds.{is_in, left_use, right_use}
use Rattle.rows.specs.declared.kind.HalfUse.TheVariants.{Operand}
use Rattle.rows.specs.declared.kind.Kind.{Kind}
use Rattle.rows.specs.declared.kind.Kind.TheVariants.{Top, Flag, Code, Not, And, Or, Next, Until, Always, Eventually, In}
use Rattle.rows.specs.declared.row.Row.{Row}
use Rattle.translation.specs.Translation.{moved, one_operand, two_operands, body_rows}
use Rattle.meaning.proofs.Formulas.{formula_kept, formula_new, formula_by_same}

-- at place p of these rows stands formula f
pub record Shows (w : List Row) (p : ℕ) (f : Formula) : Type 0 where
  pub low : p < length w
  pub is : formula_at w p ≡ f

-- what the first rows show, the second show
abbrev pub Grown : List Row → List Row → Type 0
Grown w v = (p : ℕ) (f : Formula) → Shows w p f → Shows v p f

pub grown : (w ys : List Row) → Grown w (w ++ ys)
grown w ys p f s = record { low = omega (arith, s.low, length-append w ys); is = formula_kept w ys p s.low ∙ s.is }

pub shows_new : (w : List Row) (r : Row) (n : ℕ) {f : Formula} → length w ≡ n → formula_of (formulas w) r ≡ f → Shows (w ++ (r ∷ [])) n f
shows_new w r n here is = record { low = omega (arith, length_push w r); is = formula_new w r n here ∙ is }

pub shows_two : (kind : Kind) {w : List Row} {a c : ℕ} {x y : Formula} (n : ℕ) → length w ≡ n → Shows w a x → Shows w c y → Shows (w ++ (two_operands kind a c ∷ [])) n (formula_by kind a c x y)
shows_two kind {w} {a} {c} n here p q = shows_new w (two_operands kind a c) n here (ap₂ (formula_by kind a c) p.is q.is)

pub shows_one : (kind : Kind) {w : List Row} {a : ℕ} {x : Formula} (n : ℕ) → length w ≡ n → Shows w a x → Shows (w ++ (one_operand kind a ∷ [])) n (formula_by kind a 0 x (formula_at w 0))
shows_one kind {w} {a} n here p = shows_new w (one_operand kind a) n here (ap (λ x. formula_by kind a 0 x (formula_at w 0)) p.is)

-- the last row shows formula f
abbrev pub Ends : List Row → Formula → Type 0
Ends w f = Shows w (length w - 1) f

pub ends : (w : List Row) (r : Row) {f : Formula} → Shows (w ++ (r ∷ [])) (length w) f → Ends (w ++ (r ∷ [])) f
ends w r {f} s = let last : length w ≡ length (w ++ (r ∷ [])) - 1 = omega (arith, length_push w r) in subst (λ p. Shows (w ++ (r ∷ [])) p f) last s

more : (w : List Row) (r : Row) (rs : List Row) {f : Formula} → Ends ((w ++ (r ∷ [])) ++ rs) f → Ends (w ++ (r ∷ rs)) f
more w r rs {f} s = subst (λ l. Ends l f) (append_assoc w (r ∷ []) rs) s

-- a copy of a row shows what the row shows of the formulas where its operands stand now
pub ends_moved : (kind : Kind) (l r : ℕ) (w : List Row) (a c : ℕ) {x y : Formula} → (left_use kind ≡ Operand → Shows w a x) → (right_use kind ≡ Operand → Shows w c y) → Ends (w ++ (moved (record { kind = kind; left = l; right = r }) a c ∷ [])) (formula_by kind l r x y)
ends_moved kind l r w a c p q =
    let row : Row = moved (record { kind = kind; left = l; right = r }) a c in
    ends w row (shows_new w row (length w) refl (same kind ∙ formula_by_same kind l r (λ is. (p is).is) (λ is. (q is).is)))
  where
    same : (k : Kind) → formula_of (formulas w) (moved (record { kind = k; left = l; right = r }) a c) ≡ formula_by k l r (formula_at w a) (formula_at w c)
    same Top = refl
    same Flag = refl
    same Code = refl
    same Not = refl
    same And = refl
    same Or = refl
    same Next = refl
    same Until = refl
    same Always = refl
    same Eventually = refl
    same In = refl

-- the rows of first_in
ends_first : (w : List Row) (n g b a : ℕ) {gate x : Formula} → length w ≡ n → Shows w g gate → Shows w b (not gate) → Shows w a x → Ends (w ++ (two_operands And g a ∷ two_operands Until b n ∷ [])) (first_in gate x)
ends_first w n g b a {gate} long at_g at_b at_a =
    let w1 = w ++ (two_operands And g a ∷ []) in
    let s1 = shows_two And n long at_g at_a in
    more w (two_operands And g a) (two_operands Until b n ∷ [])
    (ends w1 (two_operands Until b n) (shows_two Until (length w1) refl (grown w (two_operands And g a ∷ []) b (not gate) at_b) s1))

-- a row without operands, and first_in of it
ends_atom : (r : Row) (w : List Row) (n g b : ℕ) {gate f : Formula} → length w ≡ n → Shows w g gate → Shows w b (not gate) → formula_of (formulas w) r ≡ f → Ends (w ++ (r ∷ two_operands And g n ∷ two_operands Until b (n + 1) ∷ [])) (first_in gate f)
ends_atom r w n g b {gate} long at_g at_b is =
    let w1 = w ++ (r ∷ []) in
    more w r (two_operands And g n ∷ two_operands Until b (n + 1) ∷ [])
    (ends_first w1 (n + 1) g b n (omega (arith, length_push w r)) (grown w (r ∷ []) g gate at_g) (grown w (r ∷ []) b (not gate) at_b) (shows_new w r n long is))

-- what is written for a row in a body shows the row's formula behind the gate
pub ends_body : (kind : Kind) (l r : ℕ) (w : List Row) (n g b a c : ℕ) (gate x y : Formula) → length w ≡ n → is_in kind ≡ false → Shows w g gate → Shows w b (not gate) → (left_use kind ≡ Operand → Shows w a (gated gate x)) → (right_use kind ≡ Operand → Shows w c (gated gate y)) → Ends (w ++ body_rows kind (record { kind = kind; left = l; right = r }) n g b a c) (gated gate (formula_by kind l r x y))
unfolding gated
ends_body Top l r w n g b a c gate x y long not_in at_g at_b p q = ends_moved Top l r w a c {x = gated gate x} {y = gated gate y} p q
ends_body Flag l r w n g b a c gate x y long not_in at_g at_b p q = ends_atom (moved (record { kind = Flag; left = l; right = r }) a c) w n g b long at_g at_b refl
ends_body Code l r w n g b a c gate x y long not_in at_g at_b p q = ends_atom (moved (record { kind = Code; left = l; right = r }) a c) w n g b long at_g at_b refl
ends_body Not l r w n g b a c gate x y long not_in at_g at_b p q = ends_moved Not l r w a c {y = gated gate y} p q
ends_body And l r w n g b a c gate x y long not_in at_g at_b p q = ends_moved And l r w a c p q
ends_body Or l r w n g b a c gate x y long not_in at_g at_b p q = ends_moved Or l r w a c p q
ends_body Next l r w n g b a c gate x y long not_in at_g at_b p q =
    let r1 = two_operands And g a in
    let r2 = two_operands Until b n in
    let r3 = one_operand Next (n + 1) in
    let r4 = two_operands And g (n + 2) in
    let r5 = two_operands Until b (n + 3) in
    let w1 = w ++ (r1 ∷ []) in
    let w2 = w1 ++ (r2 ∷ []) in
    let w3 = w2 ++ (r3 ∷ []) in
    let l1 : length w1 ≡ n + 1 = omega (arith, length_push w r1) in
    let l2 : length w2 ≡ n + 2 = omega (arith, length_push w1 r2) in
    let l3 : length w3 ≡ n + 3 = omega (arith, length_push w2 r3) in
    let s1 = shows_two And n long at_g (p refl) in
    let s2 = shows_two Until (n + 1) l1 (grown w (r1 ∷ []) b (not gate) at_b) s1 in
    let s3 = shows_one Next (n + 2) l2 s2 in
    let far : (f : Formula) (i : ℕ) → Shows w i f → Shows w3 i f = λ f i at. grown w2 (r3 ∷ []) i f (grown w1 (r2 ∷ []) i f (grown w (r1 ∷ []) i f at)) in
    more w r1 (r2 ∷ r3 ∷ r4 ∷ r5 ∷ []) (more w1 r2 (r3 ∷ r4 ∷ r5 ∷ []) (more w2 r3 (r4 ∷ r5 ∷ []) (ends_first w3 (n + 3) g b (n + 2) l3 (far gate g at_g) (far (not gate) b at_b) s3)))
ends_body Until l r w n g b a c gate x y long not_in at_g at_b p q =
    let r1 = two_operands Or b a in
    let r2 = two_operands And g c in
    let r3 = two_operands Until n (n + 1) in
    let w1 = w ++ (r1 ∷ []) in
    let w2 = w1 ++ (r2 ∷ []) in
    let l1 : length w1 ≡ n + 1 = omega (arith, length_push w r1) in
    let s1 = shows_two Or n long at_b (p refl) in
    let s2 = shows_two And (n + 1) l1 (grown w (r1 ∷ []) g gate at_g) (grown w (r1 ∷ []) c (gated gate y) (q refl)) in
    more w r1 (r2 ∷ r3 ∷ []) (more w1 r2 (r3 ∷ []) (ends w2 r3 (shows_two Until (length w2) refl (grown w1 (r2 ∷ []) n (or (not gate) (gated gate x)) s1) s2)))
ends_body Always l r w n g b a c gate x y long not_in at_g at_b p q =
    let r1 = two_operands Or b a in
    let w1 = w ++ (r1 ∷ []) in
    more w r1 (one_operand Always n ∷ []) (ends w1 (one_operand Always n) (shows_one Always (length w1) refl (shows_two Or n long at_b (p refl))))
ends_body Eventually l r w n g b a c gate x y long not_in at_g at_b p q =
    let r1 = two_operands And g a in
    let w1 = w ++ (r1 ∷ []) in
    more w r1 (one_operand Eventually n ∷ []) (ends w1 (one_operand Eventually n) (shows_one Eventually (length w1) refl (shows_two And n long at_g (p refl))))
ends_body In l r w n g b a c gate x y long not_in at_g at_b p q = absurd (false≢true (sym not_in))

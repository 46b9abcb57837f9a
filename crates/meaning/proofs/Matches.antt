-- A statement matches a yes/no mark if it is true exactly where the mark is yes.
use Rattle.std.proofs.Common.{◌≡◌, ℕ, zero, suc, ◌<◌, Bool, true, false, cond, ◌⊎◌, refl, ap, inl, inr, ⊎_elim, arith}
use Rattle.std.proofs.lemmas.Bool.{false≢true}
use Rattle.scales.specs.YesNo.{yes_no, is_yes, answer, opposite, both, either}
use Rattle.scales.specs.declared.yes_no.YesNo.{YesNo}
use Rattle.scales.specs.declared.yes_no.YesNo.TheVariants.{No, Yes}
use Rattle.meaning.specs.Operators.{meets, joins}

abbrev pub Matches : Type 0 → YesNo → Type 0
Matches P m = (P → m ≡ Yes) × (m ≡ Yes → P)

no_yes : No ≡ Yes → ⊥
no_yes e = false≢true (ap is_yes e)

pub is_yes_true : (m : YesNo) → Matches (is_yes m ≡ true) m
is_yes_true No = ((λ e. absurd (false≢true e)), (λ e. absurd (no_yes e)))
is_yes_true Yes = ((λ e. refl), (λ e. refl))

pub matches_answer : (b : Bool) → Matches (b ≡ true) (answer b)
matches_answer true = ((λ e. refl), (λ e. refl))
matches_answer false = ((λ e. absurd (false≢true e)), (λ e. absurd (no_yes e)))

pub matches_never : {P : Type 0} → (P → ⊥) → Matches P No
matches_never none = ((λ p. absurd (none p)), (λ e. absurd (no_yes e)))

pub matches_opposite : {P : Type 0} (m : YesNo) → Matches P m → Matches (P → ⊥) (opposite m)
matches_opposite No match = ((λ none. refl), (λ e p. no_yes (match.0 p)))
matches_opposite Yes match = ((λ none. absurd (none (match.1 refl))), (λ e. absurd (no_yes e)))

pub matches_both : {P Q : Type 0} (m n : YesNo) → Matches P m → Matches Q n → Matches (P × Q) (both m n)
matches_both No n p q = ((λ pair. p.0 pair.0), (λ e. absurd (no_yes e)))
matches_both Yes n p q = ((λ pair. q.0 pair.1), (λ e. (p.1 refl, q.1 e)))

pub matches_either : {P Q : Type 0} (m n : YesNo) → Matches P m → Matches Q n → Matches (P ⊎ Q) (either m n)
matches_either No n p q = ((λ one. ⊎_elim (λ x. absurd (no_yes (p.0 x))) (λ y. q.0 y) one), (λ e. inr (q.1 e)))
matches_either Yes n p q = ((λ one. refl), (λ e. inl (p.1 refl)))

-- a mark where a test passes, and no where it fails
pub matches_cond : {P Q : Type 0} (b : Bool) (m : YesNo) → (Q → b ≡ true) → (b ≡ true → Q) → Matches P m → Matches (Q × P) (cond b m No)
matches_cond true m there back p = ((λ pair. p.0 pair.1), (λ e. (back refl, p.1 e)))
matches_cond false m there back p = ((λ pair. absurd (false≢true (there pair.0))), (λ e. absurd (no_yes e)))

pub matches_same : {P Q : Type 0} {m : YesNo} → (P → Q) → (Q → P) → Matches P m → Matches Q m
matches_same there back p = ((λ q. p.0 (back q)), (λ e. there (p.1 e)))

-- a meet is yes exactly if each is
pub matches_meets : (P : ℕ → Type 0) (n : ℕ) (f : ℕ → YesNo) → ((i : ℕ) → Matches (P i) (f i)) → Matches ((i : ℕ) → i < n → P i) (meets yes_no n f)
unfolding meets
matches_meets P zero f match = ((λ all. refl), (λ e i below. absurd (omega arith)))
matches_meets P (suc n) f match =
    matches_same there (λ all. (all 0 (omega arith), λ i below. all (suc i) (omega arith)))
    (matches_both (f 0) (meets yes_no n (λ i. f (suc i))) (match 0) (matches_meets (λ i. P (suc i)) n (λ i. f (suc i)) (λ i. match (suc i))))
  where
    there : P 0 × ((i : ℕ) → i < n → P (suc i)) → (i : ℕ) → i < suc n → P i
    there pair zero below = pair.0
    there pair (suc i) below = pair.1 i (omega arith)

-- a join is yes exactly if some is
pub matches_joins : (P : ℕ → Type 0) (n : ℕ) (f : ℕ → YesNo) → ((i : ℕ) → Matches (P i) (f i)) → Matches ((i : ℕ) × (i < n) × P i) (joins yes_no n f)
unfolding joins
matches_joins P zero f match = matches_never (λ some. omega (arith, some.1))
matches_joins P (suc n) f match =
    matches_same there (λ some. back some.0 some.1 some.2)
    (matches_either (f 0) (joins yes_no n (λ i. f (suc i))) (match 0) (matches_joins (λ i. P (suc i)) n (λ i. f (suc i)) (λ i. match (suc i))))
  where
    there : P 0 ⊎ ((i : ℕ) × (i < n) × P (suc i)) → (i : ℕ) × (i < suc n) × P i
    there (inl here) = (0, omega arith, here)
    there (inr some) = (suc some.0, omega (arith, some.1), some.2)

    back : (i : ℕ) → i < suc n → P i → P 0 ⊎ ((i : ℕ) × (i < n) × P (suc i))
    back zero below here = inl here
    back (suc i) below here = inr (i, omega arith, here)

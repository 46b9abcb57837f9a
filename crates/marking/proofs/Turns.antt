-- The mark that each loop over the rows gives a row.
use Rattle.std.proofs.Common.{◌≡◌, ℕ, suc, ◌+◌, ◌-◌, ◌<◌, Bool, ltb, List, [], ◌∷◌, length, get_or, drop, sym, refl, ◌∙◌, subst, arith}
use Rattle.std.proofs.lemmas.List.{length-drop, drop_more}
use Rattle.std.proofs.lemmas.Bool.{lt-ltb}
use Rattle.std.proofs.lemmas.Bool.Decides.{nat_tests}
use Rattle.rows.specs.Rows.{blank}
use Rattle.rows.specs.declared.kind.Kind.{Kind}
use Rattle.rows.specs.declared.row.Row.{Row}
use Rattle.scales.specs.Lattice.{Lattice, Laws}
use Rattle.sessions.specs.States.{no_state, Alike}
use Rattle.sessions.specs.declared.state.State.{State}
use Rattle.meaning.specs.Meaning.{row_mark}
use Rattle.marking.specs.Marks.{Fits, Sound, NoIn, MarksOn, some, empty_by, state_by}
use Rattle.marking.proofs.Single.{fits_left, fits_right, formula_is, empty_row, state_row, empty_same, state_same}

some_is : (w : List State) → ltb 0 (length w) ≡ some w
some_is [] = refl
some_is (s ∷ w) = lt-ltb 0 (suc (length w)) (omega arith)

-- there is a later state
pub later_is : (position count : ℕ) (states : List State) → count ≡ length states → ltb position (count - 1) ≡ some (drop (position + 1) states)
later_is position count states is =
    let long = length-drop (position + 1) states in
    let same : ltb position (count - 1) ≡ ltb 0 (length (drop (position + 1) states)) = grind (arith, nat_tests) in
    same ∙ some_is (drop (position + 1) states)

-- the same of a row and a number that are known by other names
pub mark_by : {M : Type 0} (L : Lattice M) (state : State) (later : Bool) (marks after : List M) (mark : M) {r row : Row} {number i : ℕ} → r ≡ row → number ≡ i → mark ≡ state_by L r.kind r.left state later (get_or marks r.left L.top) (get_or marks r.right L.top) (get_or after r.left L.top) (get_or after number L.top) → mark ≡ state_by L row.kind row.left state later (get_or marks row.left L.top) (get_or marks row.right L.top) (get_or after row.left L.top) (get_or after i L.top)
mark_by L state later marks after mark row_is number_is is =
    is
    ∙ (λ j. state_by L (row_is j).kind (row_is j).left state later (get_or marks (row_is j).left L.top) (get_or marks (row_is j).right L.top) (get_or after (row_is j).left L.top) (get_or after (number_is j) L.top))

-- Row i's mark is worked out from those of the rows below it on the session w, and from all marks on the session without its first
-- state.
module _ {M : Type 0} (L : Lattice M) (meant : ℕ → List State → M) (n i : ℕ) (within : i < n) (w rest : List State) (marks after : List M) (on : MarksOn L meant w i marks) (stored : MarksOn L meant rest n after) where
  pub mark_is : (kind : Kind) (left right : ℕ) (state first : State) (later some_later : Bool) (here : M) → Fits kind i left right → Alike state first → later ≡ some_later → meant i w ≡ state_by L kind left first some_later (meant left w) (meant right w) (meant left rest) (meant i rest) → here ≡ state_by L kind left state later (get_or marks left L.top) (get_or marks right L.top) (get_or after left L.top) (get_or after i L.top) → here ≡ meant i w
  mark_is kind left right state first later some_later here fits alike Later_same meant_is is =
      is
      ∙ (λ d. state_by L kind left state (Later_same d) (get_or marks left L.top) (get_or marks right L.top) (get_or after left L.top) (stored i within d))
      ∙ state_same L kind left state first some_later _ _ _ _ _ _ (meant i rest) alike (λ named. on left (fits_left kind i left right fits named)) (λ named. on right (fits_right kind i left right fits named)) (λ named. stored left (omega (arith, fits_left kind i left right fits named)))
      ∙ sym meant_is

module _ {M : Type 0} (L : Lattice M) (rows : List Row) (sound : Sound rows) (i : ℕ) (within : i < length rows) (marks : List M) where
  pub start_is : (here : M) → MarksOn L (row_mark L rows) [] i marks → here ≡ empty_by L (get_or rows i blank).kind (get_or marks (get_or rows i blank).left L.top) (get_or marks (get_or rows i blank).right L.top) → here ≡ row_mark L rows i []
  start_is here on is =
      let row = get_or rows i blank in
      let fits = sound i within in
      is
      ∙ empty_same L row.kind _ _ _ _ (λ named. on row.left (fits_left row.kind i row.left row.right fits named)) (λ named. on row.right (fits_right row.kind i row.left row.right fits named))
      ∙ sym (empty_row L rows i (formula_is rows i sound within))

  pub step_is : NoIn rows → Laws L → (states : List State) (position count : ℕ) (state : State) (after : List M) (here : M) → position < length states → count ≡ length states → Alike state (get_or states position no_state) → MarksOn L (row_mark L rows) (drop (position + 1) states) (length rows) after → MarksOn L (row_mark L rows) (drop position states) i marks → here ≡ state_by L (get_or rows i blank).kind (get_or rows i blank).left state (ltb position (count - 1)) (get_or marks (get_or rows i blank).left L.top) (get_or marks (get_or rows i blank).right L.top) (get_or after (get_or rows i blank).left L.top) (get_or after i L.top) → here ≡ row_mark L rows i (drop position states)
  step_is no_in laws states position count state after here inside count_is alike stored on is =
      let row = get_or rows i blank in
      let first = get_or states position no_state in
      let rest = drop (position + 1) states in
      let meant_is = subst (λ v. row_mark L rows i v ≡ state_by L row.kind row.left first (some rest) (row_mark L rows row.left v) (row_mark L rows row.right v) (row_mark L rows row.left rest) (row_mark L rows i rest)) (sym (drop_more states position no_state inside)) (state_row L rows i (formula_is rows i sound within) laws first rest (no_in i within)) in
      mark_is L (row_mark L rows) (length rows) i within (drop position states) rest marks after on stored row.kind row.left row.right state first (ltb position (count - 1)) (some rest) here (sound i within) alike (later_is position count states count_is) meant_is is

-- What the lists say of the bodies of a rule's in rows.
use Rattle.std.proofs.Common.{◌≡◌, ℕ, zero, suc, ◌+◌, ◌<◌, ◌≤◌, Bool, true, false, cond, ◌&&◌, ◌||◌, List, [], ◌∷◌, length, get_or, set, replicate, Some, None, vec_items, unwrap_or, sym, refl, ap, ◌∙◌, subst, ap₂, ⊎_elim, arith, below_more}
use Rattle.std.proofs.Math.ListN.{get_or-map}
use Rattle.std.proofs.Math.Seq.{map-set_same}
use Rattle.std.proofs.lemmas.List.{length-map, length-replicate, map-set, get_or-replicate, get_or_past, get_or-set_same, get_or-set_other}
use Rattle.std.proofs.lemmas.Bool.{cases_lt}
use Rattle.rows.specs.Homes.{home}
use Rattle.rows.specs.Reach.{InRow}
use Rattle.rows.specs.declared.row.Row.{Row}
use Rattle.sessions.specs.declared.state.State.{State}
use Rattle.meaning.specs.Meaning.{in_scope, thinned}
use Rattle.scopes.specs.Answered.{scope_of, scope_answer}
use Rattle.scopes.specs.Ruled.{Ruled}
use Rattle.scopes.proofs.Answering.{same_answer}
use Rattle.scopes.proofs.Rules.{ruled}
use Rattle.tables.specs.declared.rule.Rule.{Rule}
use Rattle.marking.specs.Bodies.{body_left, at_home, Bodies, heres, laters}
use Rattle.marking.specs.Marks.{some}
use Rattle.marking.specs.declared.straight.Left.{Left}
use Rattle.marking.proofs.Left.{left_none, body_open, body_more, home_is}

abbrev pub nothing_left : Left
nothing_left = record { here = false; later = false }

-- what is known of the in rows from a number on
abbrev pub PassingFrom : ℕ → List Row → ℕ → List Bool → Type 0
PassingFrom n rows flags bodies = (state : State) → flags ≡ state.flags → (k : ℕ) → n ≤ k → InRow rows k → get_or bodies k false ≡ some (body_left rows k (state ∷ []))

-- the scope of an in row has an answer
answer_is : (rows : List Row) → Ruled rows → (k : ℕ) (s t : State) → InRow rows k → s.flags ≡ t.flags → unwrap_or (scope_answer rows k s) false ≡ in_scope (scope_of rows k) t
answer_is rows ruled k s t in_row same =
    ap (λ o. unwrap_or o false) (same_answer rows ruled k s t same)
    ∙ ap (λ b. unwrap_or (cond b (Some (in_scope (scope_of rows k) t)) None) false) in_row

-- one more in row is known, from those above it
pub passing_more : (rows : List Row) → Ruled rows → (n m : ℕ) (bodies : List Bool) (value : Bool) (state : State) → n ≤ m + 1 → m < length rows → m < length bodies → PassingFrom n rows state.flags bodies → value ≡ (at_home (home rows m) bodies true && unwrap_or (scope_answer rows m state) false) → PassingFrom m rows state.flags (set bodies m value)
passing_more rows ruled n m bodies value state next within room known is t same k low in_row =
    ⊎_elim
    (λ (at : k < m + 1).
    let here : m ≡ k = omega arith in
    let above = home_is ruled m (t ∷ []) bodies true within (λ j higher. known t same j (omega arith)) refl in
    let in-here : InRow rows m = subst (InRow rows) (sym here) in_row in
    subst (λ j. get_or (set bodies m value) j false ≡ some (body_left rows j (t ∷ []))) here
    (get_or-set_same bodies m value false room ∙ is ∙ ap₂ ◌&&◌ above (answer_is rows ruled m state t in-here same) ∙ sym (body_open rows m t)))
    (λ (past : m + 1 ≤ k). get_or-set_other bodies m k value false (omega arith) ∙ known t same k (omega arith) in_row)
    (cases_lt k (m + 1))

-- no body is taken on no state
pub bodies_none : (rows : List Row) (n : ℕ) → Bodies rows [] (replicate n false)
bodies_none rows n k in_row =
    let nothing : get_or (replicate n false) k false ≡ false =
    ⊎_elim (λ low. get_or-replicate n k false false low)
    (λ high. get_or_past (replicate n false) k false (omega (arith, length-replicate n false)))
    (cases_lt k n) in
    nothing ∙ ap (λ l. some (thinned (scope_of rows k) l)) (sym (left_none rows k))

or_swap : (a b : Bool) → (a || b) ≡ (b || a)
or_swap a b = grind arith

-- a state more
pub bodies_more : (rows : List Row) (s : State) (w : List State) (passing seen new : List Bool) → Bodies rows (s ∷ []) passing → Bodies rows w seen → ((k : ℕ) → get_or new k false ≡ (get_or seen k false || get_or passing k false)) → Bodies rows (s ∷ w) new
bodies_more rows s w passing seen new passing_is seen_is both k in_row =
    both k ∙ ap₂ ◌||◌ (seen_is k in_row) (passing_is k in_row) ∙ or_swap (some (body_left rows k w)) (some (body_left rows k (s ∷ []))) ∙ sym (body_more rows k s w)

-- a list of what is left, when an item of it changes
pub heres_set : (bodies : List Left) (i : ℕ) (here later : Bool) → heres (set bodies i (record { here = here; later = later })) ≡ set (heres bodies) i here
heres_set bodies i here later = map-set (λ (left : Left). left.here) bodies i (record { here = here; later = later })

pub laters_kept : (bodies : List Left) (i : ℕ) (here later : Bool) → later ≡ (get_or bodies i nothing_left).later → laters (set bodies i (record { here = here; later = later })) ≡ laters bodies
laters_kept bodies i here later is = map-set_same (λ (left : Left). left.later) bodies i (record { here = here; later = later }) nothing_left is

-- the first i items have what is left here added to what is left later
pub record Added (i : ℕ) (old now : List Left) : Type 0 where
  pub same : heres now ≡ heres old
  pub added : (k : ℕ) → k < i → get_or (laters now) k false ≡ (get_or (laters old) k false || get_or (heres old) k false)
  pub ahead : (k : ℕ) → i ≤ k → get_or (laters now) k false ≡ get_or (laters old) k false

pub added_more : (i : ℕ) (old now : List Left) → i < length now → Added i old now → Added (i + 1) old (set now i (record { here = (get_or now i nothing_left).here; later = (get_or now i nothing_left).later || (get_or now i nothing_left).here }))
added_more i old now within so_far =
    let item = get_or now i nothing_left in
    let laters_now = map-set (λ (left : Left). left.later) now i (record { here = item.here; later = item.later || item.here }) in
    let long = length-map now (λ (left : Left). left.later) in
    let at : (k : ℕ) → get_or (laters (set now i (record { here = item.here; later = item.later || item.here }))) k false ≡ get_or (set (laters now) i (item.later || item.here)) k false = λ k. ap (λ l. get_or l k false) laters_now in
    let was_later : item.later ≡ get_or (laters old) i false = sym (get_or-map (λ (left : Left). left.later) now i nothing_left) ∙ so_far.ahead i (omega arith) in
    let was_here : item.here ≡ get_or (heres old) i false = sym (get_or-map (λ (left : Left). left.here) now i nothing_left) ∙ ap (λ l. get_or l i false) so_far.same in
    record {
      same = map-set_same (λ (left : Left). left.here) now i (record { here = item.here; later = item.later || item.here }) nothing_left refl ∙ so_far.same;
      added =
          below_more _ i
          (λ k h. at k ∙ get_or-set_other (laters now) i k (item.later || item.here) false (omega arith) ∙ so_far.added k h)
          (at i ∙ get_or-set_same (laters now) i (item.later || item.here) false (omega arith) ∙ ap₂ ◌||◌ was_later was_here);
      ahead = λ k h. at k ∙ get_or-set_other (laters now) i k (item.later || item.here) false (omega arith) ∙ so_far.ahead k (omega arith);
    }

pub added_all : (i : ℕ) (old now : List Left) → length now ≡ length old → length now ≤ i → Added i old now → (k : ℕ) → get_or (laters now) k false ≡ (get_or (laters old) k false || get_or (heres old) k false)
added_all i old now same past so_far k =
    ⊎_elim
    (λ low. so_far.added k low)
    (λ high.
    get_or_past (laters now) k false (omega (arith, length-map now (λ (left : Left). left.later)))
    ∙ sym (ap₂ ◌||◌ (get_or_past (laters old) k false (omega (arith, length-map old (λ (left : Left). left.later)))) (get_or_past (heres old) k false (omega (arith, length-map old (λ (left : Left). left.here))))))
    (cases_lt k i)

-- no body is taken yet
pub nothing_taken : (rows : List Row) (n : ℕ) → Bodies rows [] (laters (replicate n nothing_left))
nothing_taken rows n = subst (Bodies rows []) (sym (map_replicate n)) (bodies_none rows n)
  where
    map_replicate : (n : ℕ) → laters (replicate n nothing_left) ≡ replicate n false
    map_replicate zero = refl
    map_replicate (suc n) = ap (λ l. false ∷ l) (map_replicate n)

-- what is known of a rule's rows
pub rule_ruled : (rule : Rule) → Ruled (vec_items rule.table.rows)
rule_ruled rule = ruled rule.table.flags rule.table.codes (vec_items rule.table.rows) rule.lawful rule.checked

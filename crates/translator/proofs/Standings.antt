-- The lists of places, gates and bars, when one rule row's standing changes.
use Rattle.std.proofs.Common.{◌≡◌, ℕ, zero, suc, ◌≤◌, List, [], ◌∷◌, map, get_or, replicate, min, refl, ap, ◌∙◌, set, arith}
use Rattle.std.proofs.lemmas.List.{map-set}
use Rattle.std.proofs.Math.Seq.{map-set_same}
use Rattle.rows.specs.declared.row.Row.{Row}
use Rattle.translation.specs.Translation.{Draft, empty_draft}
use Rattle.translator.specs.Drafts.{placed, gated}
use Rattle.translator.specs.declared.standing.Standing.{Standing}

abbrev draft_of : List Row → List Standing → Draft
draft_of rows ss = record { written = rows; places = map (λ (s : Standing). s.place) ss; gates = map (λ (s : Standing). s.gate) ss; bars = map (λ (s : Standing). s.bar) ss }

module _ (rows : List Row) (ss : List Standing) (i : ℕ) (was : Standing) (is : was ≡ get_or ss i was) where
  pub place_set : (place : ℕ) → draft_of rows (set ss i (record { place = place; gate = was.gate; bar = was.bar })) ≡ placed i place (draft_of rows ss)
  place_set place =
      let new : Standing = record { place = place; gate = was.gate; bar = was.bar } in λ j.
      record {
        written = rows;
        places = map-set (λ (s : Standing). s.place) ss i new j;
        gates = map-set_same (λ (s : Standing). s.gate) ss i new was (ap (λ (s : Standing). s.gate) is) j;
        bars = map-set_same (λ (s : Standing). s.bar) ss i new was (ap (λ (s : Standing). s.bar) is) j;
      }

  pub gate_set : (gate bar : ℕ) → draft_of rows (set ss i (record { place = was.place; gate = gate; bar = bar })) ≡ gated i gate bar (draft_of rows ss)
  gate_set gate bar =
      let new : Standing = record { place = was.place; gate = gate; bar = bar } in λ j.
      record {
        written = rows;
        places = map-set_same (λ (s : Standing). s.place) ss i new was (ap (λ (s : Standing). s.place) is) j;
        gates = map-set (λ (s : Standing). s.gate) ss i new j;
        bars = map-set (λ (s : Standing). s.bar) ss i new j;
      }

map_replicate : {X Y : Type 0} (f : X → Y) (n : ℕ) (x : X) → map f (replicate n x) ≡ replicate n (f x)
map_replicate f zero x = refl
map_replicate f (suc n) x = ap (λ l. f x ∷ l) (map_replicate f n x)

-- before anything is known
pub none_known : (n many : ℕ) (rows : List Row) (ss : List Standing) (none : Standing) → many ≡ n → n ≤ 1024 → rows ≡ [] → ss ≡ replicate (min many 1024) none → (none.place ≡ 0) × ((none.gate ≡ 0) × (none.bar ≡ 0)) → draft_of rows ss ≡ empty_draft n
none_known n many rows ss none told few no_rows filled zeros =
    let long : min many 1024 ≡ n = omega arith in
    let column : (f : Standing → ℕ) → f none ≡ 0 → map f ss ≡ replicate n 0 = λ f zero. ap (map f) filled ∙ map_replicate f (min many 1024) none ∙ ap (λ k. replicate k (f none)) long ∙ ap (replicate n) zero in λ j.
    record {
      written = no_rows j;
      places = column (λ s. s.place) zeros.0 j;
      gates = column (λ s. s.gate) zeros.1.0 j;
      bars = column (λ s. s.bar) zeros.1.1 j;
    }

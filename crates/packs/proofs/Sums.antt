-- Sums over the rules of a pack.
use Rattle.std.proofs.Common.{◌≡◌, ℕ, zero, suc, ◌+◌, ◌-◌, ◌*◌, ◌<◌, ◌≤◌, List, map, length, sum, sum_by, sym, ap, ◌∙◌, arith, add-one}
use Rattle.std.specs.List.{range_with_len}
use Rattle.std.proofs.lemmas.List.FromFn.{sum_by-map-range_with_len_more, length-range_with_len}
use Rattle.packs.specs.Format.{rule_count, table_of, length_of, start_of}
use Rattle.packs.specs.Reader.{moved}
use Rattle.packs.specs.Summary.{tables_from}

pub moved_is : (bytes : List ℕ) (place next : ℕ) → place < rule_count bytes → next ≡ moved bytes place → next ≡ place + 1
moved_is bytes place next within is = grind arith

pub sum_more : (f : List ℕ → ℕ) (bytes table : List ℕ) (start place next sofar total : ℕ) → start ≤ place → next ≡ place + 1 → table ≡ table_of bytes place → sofar ≡ sum_by f (tables_from bytes start (place - start)) → total ≡ sofar + f table → total ≡ sum_by f (tables_from bytes start (next - start))
sum_more f bytes table start place next sofar total low next_is there before now =
    let one : place - start + 1 ≡ next - start = omega arith in
    now
    ∙ (λ d. before d + f (there d))
    ∙ sym (sum_by-map-range_with_len_more f (table_of bytes) start (place - start) place (omega arith))
    ∙ ap (λ n. sum_by f (tables_from bytes start n)) one

-- where a table begins, by the sum of the lengths before it
pub start_is : (bytes : List ℕ) (k : ℕ) → start_of bytes k ≡ 2 + 4 * rule_count bytes + sum (map (length_of bytes) (range_with_len 0 k))
unfolding start_of
start_is bytes zero = omega arith
start_is bytes (suc k) =
    let more = sum_by-map-range_with_len_more (λ (n : ℕ). n) (length_of bytes) 0 k k (omega arith) in
    let here = ap (λ n. sum (map (length_of bytes) (range_with_len 0 n))) (add-one k) in
    omega (arith, start_is bytes k, more, here)

pub few : (k : ℕ) → k ≤ 65536 → length (range_with_len 0 k) ≤ 65536
few k within = omega (arith, length-range_with_len 0 k, within)

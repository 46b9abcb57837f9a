use Rattle.std.proofs.Common.{◌<◌, ◌+◌, ◌*◌, ◌^◌, sym, subst, ◌∙◌, arith, rules}
use Rattle.std.proofs.lemmas.Iterator.{YieldsList-from_range, YieldsList-from_map}
use Rattle.std.proofs.lemmas.Iterator.Adapters.{fits_from_length, at_most_from_yields_List}
use Rattle.std.proofs.lemmas.Iterator.Consumers.{sum_from_yields_List}
use Rattle.packs.specs.Format.{length_of}
use Rattle.packs.proofs.Sums.{start_is, few}
use Rattle.packs.proofs.pack.Pack.start.Goals as goal

pub sum-tables-requires-clause-fits : goal.sum-tables-requires-clause-fits
sum-tables-requires-clause-fits c =
    fits_from_length _ _ 65536 (2 ^ 64) (at_most_from_yields_List (YieldsList-from_range 0 _ _ c.map.ensures.source (omega arith)) (few c.args.rule c.requires)) c.map.ensures.closure (omega arith) (λ x r q k. search rules)

tables_fit : (c : goal.After-count) → c.sum-tables.result < 2 ^ 32
tables_fit c =
    let w = c.sum-tables.ensures.runs tt in
    subst (λ n. n < 2 ^ 32) (sym w.3) (fits_from_length _ _ 65536 (2 ^ 32) (at_most_from_yields_List (YieldsList-from_range 0 c.args.rule c.args.rule c.map.ensures.source (omega arith)) (few c.args.rule c.requires)) c.map.ensures.closure (omega arith) (λ x r q k. search rules) w.0 w.0.seen w.1)

pub overflow_add-result-2 : goal.overflow_add-result-2
overflow_add-result-2 c = omega (arith, tables_fit c)

pub returns-clause-value : goal.returns-clause-value
returns-clause-value c =
    let bytes = c.args.self.now.bytes.now in
    let rule = c.args.rule in
    let total = sum_from_yields_List _ _ c.sum-tables.ensures.ran (YieldsList-from_map _ (length_of bytes) (YieldsList-from_range 0 rule rule c.map.ensures.source (omega arith)) c.map.ensures.closure (λ x r q k. search rules)) in
    (λ d. 2 + 4 * c.count.ensures.value d + total d) ∙ sym (start_is bytes rule)

pub returns-clause-bound : goal.returns-clause-bound
returns-clause-bound c = omega (arith, tables_fit c)

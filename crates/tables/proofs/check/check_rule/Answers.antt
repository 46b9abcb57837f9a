use Rattle.std.proofs.Common.{rules}
use Rattle.rows.proofs.Places.{length_homes}
use Rattle.tables.specs.Faults.{use_fault, scope_kind_fault, scope_size_fault, rule_fault}
use Rattle.tables.proofs.check.check_rule.Goals as goal

pub refuse_first-requires-2 : goal.refuse_first-requires-2
refuse_first-requires-2 c = let long = length_homes _ c.requires.known in λ i within. search rules

pub returns-in_err-refuse_first : goal.returns-in_err-refuse_first
unfolding rule_fault
returns-in_err-refuse_first c =
    let used = c.in_err-refuse_first.ensures (use_fault c.args.rows.now) (λ i fault within is. search rules) in
    search rules

pub returns-in_err-refuse_first-2 : goal.returns-in_err-refuse_first-2
unfolding rule_fault
returns-in_err-refuse_first-2 c =
    let used = c.in_ok-refuse_first.ensures (use_fault c.args.rows.now) (λ i fault within is. search rules) in
    let kinds = c.in_err-refuse_first-2.ensures (scope_kind_fault c.args.rows.now c.args.homes.now) (λ i fault within is. search rules) in
    search rules

pub returns : goal.returns
unfolding rule_fault
returns c =
    let used = c.in_ok-refuse_first.ensures (use_fault c.args.rows.now) (λ i fault within is. search rules) in
    let kinds = c.in_ok-refuse_first-2.ensures (scope_kind_fault c.args.rows.now c.args.homes.now) (λ i fault within is. search rules) in
    let sizes = c.refuse_first-3.ensures (scope_size_fault c.args.rows.now c.args.homes.now) (λ i fault within is. search rules) in
    search rules

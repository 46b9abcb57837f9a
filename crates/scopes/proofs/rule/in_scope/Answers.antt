use Rattle.std.proofs.Common.{◌≡◌, ℕ, true, List, get_or, vec_items, sym, ap, ◌∙◌, subst}
use Rattle.rows.specs.Kinds.{is_in}
use Rattle.rows.specs.Rows.{blank, item_of}
use Rattle.rows.specs.declared.row.Row.{Row}
use Rattle.tables.specs.declared.table.Table.{Table}
use Rattle.rows.proofs.Items.{item_there}
use Rattle.scopes.specs.Ruled.{Ruled, ScopeRoot}
use Rattle.scopes.proofs.Rules.{ruled}
use Rattle.scopes.proofs.Answering.{rule_root}
use Rattle.scopes.proofs.rule.in_scope.Goals as goal

-- the root of the scope, by the rows that the code holds
root : (rows held : List Row) (k n : ℕ) (row : Row) → held ≡ rows → Ruled rows → row ≡ get_or rows k blank → is_in row.kind ≡ true → n ≡ row.right → ScopeRoot held n
root rows held k n row same rule there in_row is =
    let in_there : is_in (get_or rows k blank).kind ≡ true = ap (λ (r : Row). is_in r.kind) (sym there) ∙ in_row in
    let at : n ≡ (get_or rows k blank).right = is ∙ ap (λ (r : Row). r.right) there in
    subst (λ rs. ScopeRoot rs n) (sym same) (subst (ScopeRoot rows) (sym at) (rule_root rows rule k in_there))

pub holds-requires : goal.holds-requires
holds-requires c =
    let rule = c.args.rule.now in
    let rows = vec_items rule.table.rows in
    let k = c.args.in_row in
    let held = c.as_slice-rows.ensures.value ∙ ap (λ (t : Table). vec_items t.rows) c.table.ensures in
    let there = (item_there rows k blank c.in_ok-row.row (c.in_ok-row.ensures ∙ ap (λ (t : Table). item_of (vec_items t.rows) k blank) c.table-2.ensures)).1 in
    root rows _ k _ _ held (ruled rule.table.flags rule.table.codes rows rule.lawful rule.checked) there (sym c.is_in.ensures ∙ c.if-not-is_in.false) c.from.ensures

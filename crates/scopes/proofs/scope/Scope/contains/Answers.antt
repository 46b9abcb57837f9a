use Rattle.std.proofs.Common.{◌-◌, length, vec_items, sym, ap, subst, arith}
use Rattle.tables.specs.declared.form.Form.TheVariants.{Rule}
use Rattle.tables.proofs.Sound.{fine_sizes}
use Rattle.scopes.specs.Ruled.{ScopeRoot}
use Rattle.scopes.proofs.Answering.{scope_root}
use Rattle.scopes.proofs.scope.Scope.contains.Goals as goal

pub overflow_sub-last : goal.overflow_sub-last
overflow_sub-last c =
    let table = c.args.self.now.table in
    omega (arith, (fine_sizes Rule table.flags table.codes (vec_items table.rows) c.args.self.now.lawful).0, ap length c.as_slice-rows.ensures.value)

pub holds-requires : goal.holds-requires
holds-requires c =
    let scope = c.args.self.now in
    let table = scope.table in
    let rows = vec_items table.rows in
    let some = (fine_sizes Rule table.flags table.codes rows scope.lawful).0 in
    subst (λ rs. ScopeRoot rs (length rs - 1)) (sym c.as_slice-rows.ensures.value) (scope_root table.flags table.codes rows scope.lawful scope.kinds (length rows - 1) (omega arith))

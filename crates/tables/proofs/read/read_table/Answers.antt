use Rattle.std.proofs.Common.{length, sym, refl, ◌∙◌, arith, rules}
use Rattle.std.proofs.lemmas.Slice.{between_to_end}
use Rattle.tables.specs.Format.{stated_flags, stated_codes, rows_in}
use Rattle.tables.specs.Reading.{Reads}
use Rattle.tables.specs.declared.table.Table.{Table}
use Rattle.tables.proofs.Bytes.{sized_fault}
use Rattle.tables.proofs.Both.{same_bytes}
use Rattle.tables.proofs.Sound.{read_fine, fine_sizes}
use Rattle.refusals.proofs.Exits.{exit}
use Rattle.tables.proofs.read.read_table.Goals as goal

pub returns-in_err-rows : goal.returns-in_err-rows
returns-in_err-rows g c =
    let rest_is = between_to_end c.args.bytes.now 4 (length c.args.bytes.now) (omega arith) in
    exit _ _ c.from_residual-in_err-rows.result c.from_residual-in_err-rows.ensures.1
    (sized_fault c.args.form c.args.bytes.now _ c.from.result _ (search rules) (c.from.ensures ∙ c.from_be_bytes.ensures) rest_is c.in_ok-check.ensures c.in_ok-check_length.ensures c.in_err-rows.ensures)

pub returns : goal.returns
returns g c =
    let n_is = c.from.ensures ∙ c.from_be_bytes.ensures in
    let rest_is = between_to_end c.args.bytes.now 4 (length c.args.bytes.now) (omega arith) in
    let read = c.in_ok-rows.ensures in
    let fine = sized_fault c.args.form c.args.bytes.now _ c.from.result _ (search rules) n_is rest_is c.in_ok-check.ensures c.in_ok-check_length.ensures read.0 in
    let table : Table = record { flags = stated_flags c.args.bytes.now; codes = stated_codes c.args.bytes.now; rows = c.in_ok-rows.rows } in
    let reads : Reads c.args.bytes.now table = record { flags = refl; codes = refl; rows = read.1 ∙ (λ d. rows_in (rest_is d) (n_is d)) } in
    let lawful = read_fine c.args.form c.args.bytes.now table reads fine in
    (fine, (reads, sym (same_bytes c.args.form table c.args.bytes.now (λ i. (c.type_inv.bytes i).fits) fine reads), lawful, (fine_sizes c.args.form _ _ _ lawful).1))

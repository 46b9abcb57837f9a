-- Loading the rule at a place.
use Rattle.std.proofs.Common.{◌≡◌, ℕ, ◌<◌, cond, ltb, List, Some, None, Option, sym, ap, ◌∙◌, ltb-true, lt-ltb}
use Rattle.std.proofs.lemmas.Option.{cond_some}
use Rattle.tables.specs.Faults.{rule_bytes_fault}
use Rattle.packs.specs.Format.{rule_count, table_of, table_if}
use Rattle.packs.specs.Reader.{load_fault}
use Rattle.packs.specs.Told.{at_rule}
use Rattle.packs.specs.declared.fault.PackFault.{PackFault}

-- a table that is handed out is that of a rule
pub there : (bytes table : List ℕ) (k : ℕ) → Some table ≡ table_if bytes k → (k < rule_count bytes) × (table ≡ table_of bytes k)
there bytes table k e =
    let h = cond_some (ltb k (rule_count bytes)) (table_of bytes k) table (sym e) in
    (ltb-true k (rule_count bytes) h.0, sym h.1)

-- the fault of the rule whose table is handed out
pub load_is : (bytes table : List ℕ) (k : ℕ) (fault : Option PackFault) → Some table ≡ table_if bytes k → at_rule k (rule_bytes_fault table) ≡ fault → load_fault bytes k ≡ fault
load_is bytes table k fault handed says =
    let at = there bytes table k handed in
    ap (λ b. cond b (at_rule k (rule_bytes_fault (table_of bytes k))) None) (lt-ltb k (rule_count bytes) at.0)
    ∙ ap (λ t. at_rule k (rule_bytes_fault t)) (sym at.1)
    ∙ says

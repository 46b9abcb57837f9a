-- Lawful tables and their bytes, both ways.
use Rattle.std.proofs.Common.{◌≡◌, ℕ, ◌-◌, ◌<◌, ◌≤◌, Bool, true, false, cond, ltb, List, ◌++◌, length, get_or, take, drop, Some, None, Ok, Err, vec_items, Option, Result, sym, refl, ap, ◌∙◌, append-nil, arith, ltb-false, le-ltb}
use Rattle.std.proofs.lemmas.List.{take_at, drop_all}
use Rattle.refusals.specs.Answers.{Answers}
use Rattle.refusals.specs.First.{then}
use Rattle.refusals.proofs.First.{then_first}
use Rattle.tables.specs.Faults.{table_fault, rule_fault, rule_bytes_fault, plain_bytes_fault}
use Rattle.tables.specs.Format.{stated_flags, stated_codes, rows_of, table_bytes}
use Rattle.tables.specs.Lawful.{rows_fault, lawful_rows, lawful_rule}
use Rattle.tables.specs.Reading.{Reads, Both, Same, bytes_of, needed}
use Rattle.tables.specs.Writing.{buffer_fault, written}
use Rattle.tables.specs.declared.form.Form.{Form}
use Rattle.tables.specs.declared.form.Form.TheVariants.{Rule, Plain}
use Rattle.tables.specs.declared.fault.TableFault.{TableFault}
use Rattle.tables.specs.declared.fault.TableFault.TheVariants.{BufferShort}
use Rattle.tables.specs.declared.table.Table.{Table}
use Rattle.tables.proofs.Sound.{none_is}
use Rattle.tables.proofs.Written.{length_bytes, rows_of_back, written_fine, bytes_again}

accepted : (form : Form) (t : Table) → lawful_rows form t.flags t.codes (vec_items t.rows) ≡ true → table_fault form (bytes_of t) ≡ None
unfolding bytes_of lawful_rows
accepted form t lawful = written_fine form t.flags t.codes (vec_items t.rows) (none_is (rows_fault form t.flags t.codes (vec_items t.rows)) lawful)

pub reads_back : (t : Table) → Reads (bytes_of t) t
unfolding bytes_of table_bytes
reads_back t = record { flags = refl; codes = refl; rows = sym (rows_of_back t.flags t.codes (vec_items t.rows)) }

pub same_bytes : (form : Form) (t : Table) (bytes : List ℕ) → ((i : ℕ) → get_or bytes i 0 < 256) → table_fault form bytes ≡ None → Reads bytes t → bytes ≡ bytes_of t
unfolding bytes_of
same_bytes form t bytes small fine reads =
    sym (bytes_again form bytes small fine) ∙ sym (λ d. table_bytes (reads.flags d) (reads.codes d) (reads.rows d))

pub plain_both : (t : Table) → lawful_rows Plain t.flags t.codes (vec_items t.rows) ≡ true → Both plain_bytes_fault t
unfolding bytes_of
plain_both t lawful = record {
  long = length_bytes t.flags t.codes (vec_items t.rows);
  accepted = accepted Plain t lawful;
  back = reads_back t;
  again = same_bytes Plain t;
}

pub rule_both : (t : Table) → lawful_rows Rule t.flags t.codes (vec_items t.rows) ≡ true → lawful_rule (vec_items t.rows) ≡ true → Both rule_bytes_fault t
unfolding bytes_of lawful_rule
rule_both t lawful checked = record {
  long = length_bytes t.flags t.codes (vec_items t.rows);
  accepted = (λ d. then (accepted Rule t lawful d) (rule_fault (rows_of_back t.flags t.codes (vec_items t.rows) d))) ∙ none_is (rule_fault (vec_items t.rows)) checked;
  back = reads_back t;
  again = λ bytes small fine reads. same_bytes Rule t bytes small (then_first (table_fault Rule bytes) _ fine) reads;
}

-- reading what was written is not refused, and gives the same table
pub read_again : {X : Type 0} (table : X → Table) (fault : List ℕ → Option TableFault) (t : Table) (part : List ℕ) (short : Option TableFault) (r : Result X TableFault) → Both fault t → part ≡ bytes_of t → short ≡ None → Answers (fault part) r (λ x. Reads part (table x) × (bytes_of (table x) ≡ part)) → Answers short r (λ x. Same (table x) t × Both fault t)
read_again table fault t part short (Ok x) both is fine read =
    let reads = read.1.0 in
    let back = both.back in (
      fine,
      (
        record {
          flags = reads.flags ∙ ap stated_flags is ∙ sym back.flags;
          codes = reads.codes ∙ ap stated_codes is ∙ sym back.codes;
          rows = reads.rows ∙ ap rows_of is ∙ sym back.rows;
        },
        both,
      ),
    )
read_again table fault t part short (Err f) both is fine read =
    let clash : ◌≡◌ {A = Option TableFault} None (Some f) = sym (ap fault is ∙ both.accepted) ∙ read in
    let z : ◌≡◌ {A = ℕ} 0 1 = cc in
    absurd (omega arith)

-- a buffer that is not too short has room
pub room : (needed : ℕ) (old : List ℕ) → buffer_fault needed old ≡ None → needed ≤ length old
room needed old = go (ltb (length old) needed) refl
  where
    go : (b : Bool) → ltb (length old) needed ≡ b → cond b (Some (BufferShort needed)) None ≡ None → needed ≤ length old
    go true is e = let z : ◌≡◌ {A = ℕ} 0 1 = cc in absurd (omega arith)
    go false is e = ltb-false (length old) needed is

-- the front of a buffer to which the bytes were written
pub front_is : (t : Table) (fault : List ℕ → Option TableFault) (old now : List ℕ) (n : ℕ) → Both fault t → n ≡ needed t → buffer_fault (needed t) old ≡ None → now ≡ written (needed t) (bytes_of t) old → take (n - 0) now ≡ bytes_of t
front_is t fault old now n both is fine after =
    let bytes = bytes_of t in
    let fits = room (needed t) old fine in
    ap (λ l. take (n - 0) l) (after ∙ ap (λ b. cond b old (bytes ++ drop (needed t) old)) (le-ltb (length old) (needed t) fits))
    ∙ take_at bytes (drop (needed t) old) (n - 0) (both.long ∙ omega arith)

-- a buffer as long as the bytes holds nothing else
pub whole_is : (t : Table) (fault : List ℕ → Option TableFault) (old now : List ℕ) → Both fault t → length old ≡ needed t → now ≡ written (needed t) (bytes_of t) old → now ≡ bytes_of t
whole_is t fault old now both long after =
    let bytes = bytes_of t in
    after
    ∙ ap (λ b. cond b old (bytes ++ drop (needed t) old)) (le-ltb (length old) (needed t) (omega arith))
    ∙ ap (λ l. bytes ++ l) (drop_all (needed t) old (omega arith))
    ∙ append-nil bytes

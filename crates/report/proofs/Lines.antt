-- One more line of a listing.
use Rattle.std.proofs.Common.{◌≡◌, ℕ, ◌+◌, ◌<◌, ◌≤◌, cond, ltb, List, [], ◌∷◌, ◌++◌, length, get_or, drop, Some, None, vec_items, Option, sym, refl, ap, ◌∙◌, append_assoc, append-nil, arith, ltb-true, lt-ltb}
use Rattle.std.specs.List.{range_with_len, flat_map}
use Rattle.std.proofs.lemmas.List.{flat_map_more, map-id, drop_more, drop_all}
use Rattle.std.proofs.lemmas.Option.{cond_some}
use Rattle.std.proofs.lemmas.List.FromFn.{map-range_with_len_more}
use Rattle.packs.specs.Format.{rule_count, label_of, table_of, label_if}
use Rattle.packs.specs.Reader.{load_fault}
use Rattle.packs.specs.Told.{at_rule}
use Rattle.packs.specs.Told as pack
use Rattle.packs.specs.declared.fault.PackFault.{PackFault}
use Rattle.packs.specs.declared.fault.PackFault.TheVariants.{InRule}
use Rattle.tables.specs.Faults.{rule_bytes_fault}
use Rattle.tables.specs.Reading.{Reads}
use Rattle.tables.specs.declared.fault.TableFault.{TableFault}
use Rattle.tables.specs.declared.table.Table.{Table}
use Rattle.report.specs.Lines.{rule_line, refused_line, numbered}
use Rattle.report.specs.Listing.{line_by, line_of, line_at}

-- a label that is handed out is that of a rule, and where none is handed out there are no more
pub label_there : (bytes : List ℕ) (k label : ℕ) → Some label ≡ label_if bytes k → (k < rule_count bytes) × (label ≡ label_of bytes k)
label_there bytes k label e =
    let h = cond_some (ltb k (rule_count bytes)) (label_of bytes k) label (sym e) in
    (ltb-true k (rule_count bytes) h.0, sym h.1)

pub no_label : (bytes : List ℕ) (k : ℕ) → None ≡ label_if bytes k → rule_count bytes ≤ k
no_label bytes k none = grind arith

-- what loading a rule that is there says of the fault of its table
module _ (bytes : List ℕ) (k : ℕ) (within : k < rule_count bytes) where
  load_at : load_fault bytes k ≡ at_rule k (rule_bytes_fault (table_of bytes k))
  load_at = ap (λ b. cond b (at_rule k (rule_bytes_fault (table_of bytes k))) None) (lt-ltb k (rule_count bytes) within)

  pub lawful_line : (t : Table) → load_fault bytes k ≡ None → Reads (table_of bytes k) t → rule_line (label_of bytes k) (length (vec_items t.rows)) t.flags t.codes ≡ line_at bytes k
  unfolding line_of
  lawful_line t fine reads =
      (λ d. rule_line (label_of bytes k) (length (reads.rows d)) (reads.flags d) (reads.codes d))
      ∙ sym (ap (line_by (label_of bytes k) (table_of bytes k)) (none_at (rule_bytes_fault (table_of bytes k)) (sym load_at ∙ fine)))
    where
      none_at : (o : Option TableFault) → at_rule k o ≡ None → o ≡ None
      none_at None e = refl
      none_at (Some f) e = grind arith

  pub faulty_line : (fault : PackFault) → load_fault bytes k ≡ Some fault → refused_line (label_of bytes k) (pack.told fault).number (pack.told fault).place ≡ line_at bytes k
  unfolding line_of
  faulty_line fault found = go (rule_bytes_fault (table_of bytes k)) (sym load_at ∙ found)
    where
      go : (o : Option TableFault) → at_rule k o ≡ Some fault → refused_line (label_of bytes k) (pack.told fault).number (pack.told fault).place ≡ line_by (label_of bytes k) (table_of bytes k) o
      go None e = absurd (grind arith)
      go (Some f) e = let same : fault ≡ InRule f k = cc in ap (λ x. refused_line (label_of bytes k) (pack.told x).number (pack.told x).place) same

counting_more : (k : ℕ) → range_with_len 0 (k + 1) ≡ range_with_len 0 k ++ (k ∷ [])
counting_more k =
    sym (map-id (range_with_len 0 (k + 1)))
    ∙ map-range_with_len_more (λ (n : ℕ). n) 0 k k (omega arith)
    ∙ ap (λ l. l ++ (k ∷ [])) (map-id (range_with_len 0 k))

-- one more of the lines of all numbers below some number
pub lines_by_more : (of : ℕ → List ℕ) (head text line : List ℕ) (k next : ℕ) → text ≡ head ++ flat_map of (range_with_len 0 k) → line ≡ of k → next ≡ k + 1 → text ++ line ≡ head ++ flat_map of (range_with_len 0 next)
lines_by_more of head text line k next sofar here is =
    (λ d. sofar d ++ here d)
    ∙ flat_map_more of head (range_with_len 0 k) k
    ∙ ap (λ l. head ++ flat_map of l) (sym (counting_more k))
    ∙ ap (λ n. head ++ flat_map of (range_with_len 0 n)) (sym is)

-- one more of things that are numbered, and no more of them
module _ {X : Type 0} (of : ℕ → X → List ℕ) where
  pub numbered_more : (text line whole : List ℕ) (i : ℕ) (xs : List X) (d : X) → i < length xs → line ≡ of i (get_or xs i d) → text ++ numbered of i (drop i xs) ≡ whole → (text ++ line) ++ numbered of (i + 1) (drop (i + 1) xs) ≡ whole
  unfolding numbered
  numbered_more text line whole i xs d within here before =
      append_assoc text line (numbered of (i + 1) (drop (i + 1) xs))
      ∙ ap (λ l. text ++ (l ++ numbered of (i + 1) (drop (i + 1) xs))) here
      ∙ ap (λ l. text ++ numbered of i l) (sym (drop_more xs i d within))
      ∙ before

  pub numbered_done : (text whole : List ℕ) (i : ℕ) (xs : List X) → length xs ≤ i → text ++ numbered of i (drop i xs) ≡ whole → text ≡ whole
  unfolding numbered
  numbered_done text whole i xs past before =
      sym (append-nil text) ∙ ap (λ l. text ++ numbered of i l) (sym (drop_all i xs past)) ∙ before

use Rattle.std.proofs.Common.{◌≡◌, length, sym, ap, ◌∙◌}
use Rattle.std.proofs.lemmas.Slice.Eq.{slice_eq-Decides}
use Rattle.std.proofs.lemmas.List.{take_at}
use Rattle.tables.specs.Faults.{plain_bytes_fault}
use Rattle.tables.proofs.Both.{whole_is}
use Rattle.report.proofs.plain.is_written_as.Goals as goal
use Rattle.std.proofs.lemmas.Bool.Decides.{Decides-eqb}

pub returns-in-Ok : goal.returns-in-Ok
returns-in-Ok c =
    let told = c.in-Ok.ensures in
    let both = told.value.1.1 in
    let made = c.in_ok-buffer.ensures in
    let long = c.deref_mut.ensures.len ∙ made.len ∙ c.written_len.ensures in
    let whole = whole_is c.args.table.now.table plain_bytes_fault _ c.write_and_read.new.buffer both long told.after in
    let as_long : length c.write_and_read.new.buffer ≡ c.in_ok-buffer.buffer.len = ap length whole ∙ both.long ∙ sym (made.len ∙ c.written_len.ensures) in
    let held = c.as_slice.ensures.value ∙ take_at c.write_and_read.new.buffer _ c.in_ok-buffer.buffer.len as_long ∙ whole ∙ c.requires in
    (slice_eq-Decides Decides-eqb _ _ c.eq.result c.eq.ensures).1 held

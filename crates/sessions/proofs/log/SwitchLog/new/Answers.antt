use Rattle.std.proofs.Common.{rules, vec_items, ◌∙◌}
use Rattle.std.proofs.lemmas.List.{length-map}
use Rattle.sessions.specs.Faults.{flag_fault, tick_fault}
use Rattle.sessions.specs.Logs.{state_of}
use Rattle.sessions.proofs.Checked.{small_flags, rising, no_fault}
use Rattle.sessions.proofs.log.SwitchLog.new.Goals as goal

pub words-words-requires : goal.words-words-requires
words-words-requires c = record {
  same = c.if-ticks-flags.false;
  rising = rising c.args.count c.args.ticks.now (c.in_ok-refuse_first-2.ensures (tick_fault c.args.count c.args.ticks.now) (λ k o h p. search rules));
  small = small_flags c.args.flags.now (c.in_ok-refuse_first.ensures (flag_fault c.args.flags.now) (λ k o h p. search rules));
}

pub returns : goal.returns
returns c = (
  no_fault c.args.count c.args.ticks.now c.args.flags.now c.if-ticks-flags.false (c.in_ok-refuse_first.ensures (flag_fault c.args.flags.now) (λ k o h p. search rules)) (c.in_ok-refuse_first-2.ensures (tick_fault c.args.count c.args.ticks.now) (λ k o h p. search rules)),
  (length-map (vec_items c.words-words.result) state_of ∙ c.words-words.ensures.len, c.words-words.ensures.told),
)

pub returns-in_err-refuse_first-2 : goal.returns-in_err-refuse_first-2
returns-in_err-refuse_first-2 c =
    let flags = c.in_ok-refuse_first.ensures (flag_fault c.args.flags.now) (λ k o h p. search rules) in
    let ticks = c.in_err-refuse_first-2.ensures (tick_fault c.args.count c.args.ticks.now) (λ k o h p. search rules) in
    search rules

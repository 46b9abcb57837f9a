use Rattle.std.proofs.Common.{◌≡◌, ℕ, ◌+◌, ◌<◌, ◌≤◌, length, get_or, vec_items, sym, ap, ◌∙◌, subst, arith, below_more}
use lib.Bits.{bit_xor}
use Rattle.std.proofs.lemmas.Nat.{one_shl}
use Rattle.sessions.specs.Logs.{switches, odd}
use Rattle.sessions.specs.States.{flag_of}
use Rattle.sessions.proofs.Logs.{Turned, turned_none, turned_more, turned_here, switched_none, switched_more}
use Rattle.sessions.proofs.log.words.Goals as goal
use Rattle.sessions.proofs.log.words.Goals.{then-loop-done-test+else-ticks-done, else-loop-done-test}

pub loop-position-init : goal.loop-position-init
loop-position-init c = record {
  len = c.into_list-words.ensures.len;
  room = omega (arith, c.into_list-words.ensures.room);
  done = omega arith;
  low = λ k h. absurd (omega arith);
  word = turned_none c.args.flags.now;
  told = switched_none c.args.ticks.now c.args.flags.now _ c.into_list-words.ensures.empty;
}

pub loop-done-preserved : goal.loop-done-preserved
loop-done-preserved c =
    let flags = c.args.flags.now in
    let done = c.loop-done.done in
    let within : done < length flags = omega (arith, c.requires.same) in
    let shifted = one_shl (get_or flags done 0) 32 (c.requires.small done within) in
    record {
      done = omega arith;
      low = below_more _ _ c.loop-done.invariant.low c.if-ticks-done.true;
      word = subst (λ bit. Turned flags (done + 1) (bit_xor c.loop-done.word bit)) (sym shifted) (turned_more flags done c.loop-done.word within c.loop-done.invariant.word);
    }

-- the ticks that are not done yet are above the position
later : (c : goal.After-push_reserved) → (k : ℕ) → c.loop-done.done ≤ k → k < length c.args.ticks.now → c.loop-position.position < get_or c.args.ticks.now k 0
later c k from within =
    elim c.loop-done-test.branch [
      | then-loop-done-test+else-ticks-done w ↦ omega (arith, w.if-ticks-done.false, c.requires.rising c.loop-done.done k from within)
      | else-loop-done-test w ↦ absurd (omega (arith, w.loop-done-test.false))
    ]

pub loop-position-preserved : goal.loop-position-preserved
loop-position-preserved c =
    let ticks = c.args.ticks.now in
    let flags = c.args.flags.now in
    let words = vec_items c.loop-position.words in
    let many : length words ≡ c.loop-position.position = omega arith in
    let left = c.loop-done.invariant in
    let here : (p : ℕ) → p < 32 → flag_of p c.loop-done.word ≡ odd (switches ticks flags p (length words)) =
    λ p small. turned_here ticks flags c.loop-done.done c.loop-position.position c.loop-done.word c.requires.same left.low (later c) left.word p small
    ∙ ap (λ n. odd (switches ticks flags p n)) (sym many)
    in
    record {
      len = omega arith;
      room = omega arith;
      done = left.done;
      low = λ k h. omega (arith, left.low k h);
      word = left.word;
      told = switched_more ticks flags words (vec_items c.push_reserved.new.self) c.loop-done.word c.push_reserved.ensures.items here c.loop-position.invariant.told;
    }

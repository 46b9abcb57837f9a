-- The word is that of the entries done so far, and the states before the position have their words.
use Rattle.std.proofs.Common.{◌≡◌, ℕ, ◌-◌, ◌<◌, ◌≤◌, length, get_or, vec_items, vec_len, vec_capacity}
use Rattle.sessions.specs.Logs.{Switched, log_states}
use Rattle.sessions.proofs.Logs.{Turned}
use Rattle.sessions.proofs.log.words.Given as goal

abbrev pub invariant-loop-position : goal.invariant-loop-position
invariant-loop-position l = record {
  len : vec_len l.words ≡ l.position;
  room : l.count ≤ vec_capacity l.words;
  done : l.done ≤ length l.ticks;
  low : (k : ℕ) → k < l.done → get_or l.ticks k 0 ≤ l.position;
  word : Turned l.flags l.done l.word;
  told : Switched l.ticks l.flags (log_states (vec_items l.words));
}

abbrev pub invariant-loop-done : goal.invariant-loop-done
invariant-loop-done l = record {
  done : l.done ≤ length l.ticks;
  low : (k : ℕ) → k < l.done → get_or l.ticks k 0 ≤ l.position;
  word : Turned l.flags l.done l.word;
}

abbrev pub decreases-loop-done : goal.decreases-loop-done
decreases-loop-done l = length l.ticks - l.done

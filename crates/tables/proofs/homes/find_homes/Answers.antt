use Rattle.std.proofs.Common.{◌≡◌, ◌+◌, ◌++◌, ℕ, List, length, get_or, take, drop, min, replicate, vec_items, sym, ap, ◌∙◌, subst, arith}
use Rattle.std.proofs.Math.Seq.{take-append_seam}
use Rattle.rows.specs.Homes.{handed}
use Rattle.rows.specs.declared.home.Home.TheVariants.{Outside}
use Rattle.rows.proofs.Backward.{front_start, front_more, front_length, front_within, front_item}
use Rattle.rows.proofs.Places.{Known, known_none, known_more, known_all}
use Rattle.tables.proofs.homes.find_homes.Goals as goal

-- a list that was written through a slice of its whole length
stored_whole : {X : Type 0} (n : ℕ) (new old : List X) → length new ≡ n → take n (new ++ drop (length new) old) ≡ new
stored_whole n new old long = ap (λ m. take m (new ++ drop (length new) old)) (sym long) ∙ take-append_seam new (drop (length new) old)

pub loop-number-init : goal.loop-number-init
loop-number-init g c =
    let rows = c.args.rows.now in
    let all : c.into_iter-number-iterator.result.iter.iter.rest.now ≡ rows = cc in
    let few : min (length rows) g.row.N ≡ length rows = omega (arith, c.requires.room) in
    record {
      count = cc;
      front = front_start _ rows all;
      long = c.filled-homes.ensures.len ∙ few;
      known = subst (λ left. Known rows (length left) (vec_items c.filled-homes.result)) (sym all) (subst (Known rows (length rows)) (sym (c.filled-homes.ensures.items ∙ ap (λ n. replicate n Outside) few)) (known_none rows));
    }

pub loop-number-preserved : goal.loop-number-preserved
loop-number-preserved g c =
    let rows = c.args.rows.now in
    let homes = vec_items c.loop-number.homes in
    let inv = c.loop-number.invariant in
    let steps = c.in-Some.ensures.steps in
    let left = c.next.new.self.iter.iter.rest.now in
    let row = front_item _ rows left c.in-Some.row.now inv.front steps.1.0 c.in-Some.row.now in
    let number : c.in-Some.number ≡ length left = omega (arith, steps.1.1, inv.count) in
    let inside = front_within _ rows left c.in-Some.row.now inv.front steps.1.0 in
    let stored : take c.loop-number.homes.len (c.hand_on.new.homes ++ drop (length c.hand_on.new.homes) homes) ≡ c.hand_on.new.homes = stored_whole _ c.hand_on.new.homes homes (c.hand_on.auto.homes ∙ c.deref_mut.ensures.len) in
    let same : handed c.in-Some.row.now c.in-Some.number (get_or c.deref_mut.result.now c.in-Some.number Outside) c.deref_mut.result.now ≡ handed (get_or rows (length left) c.in-Some.row.now) (length left) (get_or homes (length left) Outside) homes =
    λ i. handed (row i) (number i) (get_or (c.deref_mut.ensures.value i) (number i) Outside) (c.deref_mut.ensures.value i) in
    let before : Known rows (length left + 1) homes = subst (λ n. Known rows n homes) (front_length _ rows left c.in-Some.row.now inv.front steps.1.0) inv.known in
    record {
      count = steps.0 ∙ inv.count;
      front = front_more _ rows left c.in-Some.row.now inv.front steps.1.0;
      long = inv.long;
      known = subst (Known rows (length left)) (sym (stored ∙ c.hand_on.ensures ∙ same)) (known_more rows homes (length left) c.in-Some.row.now inside (sym c.loop-number.homes.ok.0 ∙ inv.long) before);
    }

pub returns : goal.returns
returns g c =
    let steps = c.in-None.ensures.steps in
    let long = sym c.loop-number.homes.ok.0 ∙ c.loop-number.invariant.long in
    known_all c.args.rows.now _ _ steps.1.0 long c.loop-number.invariant.known

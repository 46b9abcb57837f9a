use Rattle.std.proofs.Common.{rules, get_or, ◌∙◌, refl, ap, arith}
use Rattle.std.proofs.lemmas.List.{get_or-drop}
use Rattle.big_endian.proofs.FromFn.{made_at}
use Rattle.big_endian.proofs.bytes_from.Goals as goal

pub returns : goal.returns
returns g c i below =
    made_at _ _ (λ k. get_or c.rest_from-rest.result.now k 0) (λ k y q h. search rules) c.from_fn.result g.row.N 0 _ refl c.from_fn.ensures.items.each i (omega arith) (omega arith)
    ∙ ap (λ l. get_or l i 0) c.rest_from-rest.ensures
    ∙ get_or-drop c.args.at c.args.bytes.now i 0

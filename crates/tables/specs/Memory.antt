-- Memory that holds nothing yet.
use Rattle.std.specs.Prelude.{◌≡◌, [], vec_items, vec_len, Vec}
use Rattle.std.specs.declared.alloc.Global.{Global}

abbrev pub Empty : {X : Type 0} → Vec X Global → Type 0
Empty v = (vec_items v ≡ []) × (vec_len v ≡ 0)

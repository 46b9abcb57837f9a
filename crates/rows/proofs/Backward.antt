-- A walk over a list from its end: what is left is a front of the list.
use Rattle.std.proofs.Common.{◌≡◌, ◌+◌, ◌<◌, List, [], ◌∷◌, ◌++◌, length, get_or, sym, ap, ◌∙◌, append-nil, append_assoc, arith}
use Rattle.std.proofs.Math.Seq.{get_or-append_seam}
use Rattle.std.proofs.lemmas.List.{length-append, length_push}
use Rattle.std.specs.List.{push}

-- what a walk from the back has left of a list is its front
pub record Front {X : Type 0} (left xs : List X) : Type 0 where
  pub gone : List X
  pub all : left ++ gone ≡ xs

pub front_start : {X : Type 0} (left xs : List X) → left ≡ xs → Front left xs
front_start left xs is = record { gone = []; all = append-nil left ∙ is }

module _ {X : Type 0} (left xs more : List X) (x : X) (front : Front left xs) (is : left ≡ push more x) where
  pub front_more : Front more xs
  front_more = record { gone = x ∷ front.gone; all = sym (append_assoc more (x ∷ []) front.gone) ∙ ap (λ l. l ++ front.gone) (sym is) ∙ front.all }

  pub front_length : length left ≡ length more + 1
  front_length = ap length is ∙ length_push more x

  pub front_within : length more < length xs
  front_within = omega (arith, ap length front.all, length-append left front.gone, front_length)

  pub front_item : (d : X) → x ≡ get_or xs (length more) d
  unfolding front_more
  front_item d = sym (get_or-append_seam more x front.gone d) ∙ ap (λ l. get_or l (length more) d) front_more.all

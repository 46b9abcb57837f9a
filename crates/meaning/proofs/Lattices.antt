-- What follows from the laws of a scale.
use Rattle.std.proofs.Common.{◌≡◌, Bool, true, false, cond, not, ◌&&◌, ◌||◌, sym, ap, ◌∙◌, ap₂}
use Rattle.scales.specs.Lattice.{Lattice, Laws}

-- top or bottom, by a Bool
abbrev pub sharp : {M : Type 0} → Lattice M → Bool → M
sharp L b = cond b L.top L.bottom

module _ {M : Type 0} (L : Lattice M) (laws : Laws L) where
  pub meet_top_right : (a : M) → L.meet a L.top ≡ a
  meet_top_right a = laws.meet_comm a L.top ∙ laws.meet_top a

  pub join_bottom_right : (a : M) → L.join a L.bottom ≡ a
  join_bottom_right a = laws.join_comm a L.bottom ∙ laws.join_bottom a

  pub meet_bottom : (a : M) → L.meet L.bottom a ≡ L.bottom
  meet_bottom a = ap (L.meet L.bottom) (sym (laws.join_bottom a)) ∙ laws.meet_absorbs L.bottom a

  pub meet_bottom_right : (a : M) → L.meet a L.bottom ≡ L.bottom
  meet_bottom_right a = laws.meet_comm a L.bottom ∙ meet_bottom a

  pub join_top : (a : M) → L.join L.top a ≡ L.top
  join_top a = ap (L.join L.top) (sym (laws.meet_top a)) ∙ laws.join_absorbs L.top a

  pub meet_same : (a : M) → L.meet a a ≡ a
  meet_same a = ap (L.meet a) (sym (join_bottom_right a)) ∙ laws.meet_absorbs a L.bottom

  pub join_same : (a : M) → L.join a a ≡ a
  join_same a = ap (L.join a) (sym (meet_top_right a)) ∙ laws.join_absorbs a L.top

  pub meet_swap : (a b c : M) → L.meet a (L.meet b c) ≡ L.meet b (L.meet a c)
  meet_swap a b c = sym (laws.meet_assoc a b c) ∙ ap (λ x. L.meet x c) (laws.meet_comm a b) ∙ laws.meet_assoc b a c

  pub join_under_meet : (a b c : M) → L.meet (L.join a b) c ≡ L.join (L.meet a c) (L.meet b c)
  join_under_meet a b c =
      laws.meet_comm (L.join a b) c
      ∙ laws.meet_over_join c a b
      ∙ ap₂ L.join (laws.meet_comm c a) (laws.meet_comm c b)

  pub meet_under_join : (a b c : M) → L.join (L.meet a b) c ≡ L.meet (L.join a c) (L.join b c)
  meet_under_join a b c =
      laws.join_comm (L.meet a b) c
      ∙ laws.join_over_meet c a b
      ∙ ap₂ L.meet (laws.join_comm c a) (laws.join_comm c b)

  pub turns_join : (a b : M) → L.complement (L.join a b) ≡ L.meet (L.complement a) (L.complement b)
  turns_join a b =
      ap L.complement (sym (ap₂ L.join (laws.twice a) (laws.twice b)))
      ∙ ap L.complement (sym (laws.turns (L.complement a) (L.complement b)))
      ∙ laws.twice (L.meet (L.complement a) (L.complement b))

  pub complement_top : L.complement L.top ≡ L.bottom
  complement_top =
      sym (join_bottom_right (L.complement L.top))
      ∙ ap (L.join (L.complement L.top)) (sym (laws.twice L.bottom))
      ∙ sym (laws.turns L.top (L.complement L.bottom))
      ∙ ap L.complement (laws.meet_top (L.complement L.bottom))
      ∙ laws.twice L.bottom

  pub complement_bottom : L.complement L.bottom ≡ L.top
  complement_bottom = ap L.complement (sym complement_top) ∙ laws.twice L.top

  pub sharp_not : (b : Bool) → L.complement (sharp L b) ≡ sharp L (not b)
  sharp_not true = complement_top
  sharp_not false = complement_bottom

  pub sharp_and : (b c : Bool) → L.meet (sharp L b) (sharp L c) ≡ sharp L (b && c)
  sharp_and true c = laws.meet_top (sharp L c)
  sharp_and false c = meet_bottom (sharp L c)

  pub sharp_or : (b c : Bool) → L.join (sharp L b) (sharp L c) ≡ sharp L (b || c)
  sharp_or true c = join_top (sharp L c)
  sharp_or false c = laws.join_bottom (sharp L c)

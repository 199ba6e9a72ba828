-- What is still to come of a walk, one dart on.
use Rattle.std.proofs.Common.{◌≡◌, ℕ, zero, suc, ◌≤◌, cond, List, [], ◌∷◌, length, Option, Some, None, refl, sym, ap, subst, ◌∙◌, inl, inr, arith}
use Rattle.plane_graphs.specs.Ascending.{Member}
use Rattle.slab_laws.specs.declared.names.DartId.{DartId}
use Rattle.slab_laws.specs.View.{View, HasDart}
use Rattle.arr_notes.specs.CycleNames.{same_name}
use Rattle.dart_walks.specs.Turns.{onward, turns, to_come, IsTurn, IsOnItsWay}

-- so many steps, or more, give the whole list
turn_is : (after : DartId → Option DartId) (at : Option DartId) (ds : List DartId) (steps : ℕ) → IsTurn after at ds → length ds ≤ steps → turns after steps at ≡ ds
unfolding turns
turn_is after at [] zero t l = rw t refl
turn_is after at [] (suc steps) t l = rw t refl
turn_is after at (d ∷ ds) zero t l = absurd (omega arith)
turn_is after at (d ∷ ds) (suc steps) t l = rw (t.0) (ap (λ es. d ∷ es) (turn_is after (after d) ds steps t.1 (omega arith)))

module _ (v : View) (next : DartId → DartId) (first : DartId) where
  pub whole : (at : Option DartId) (ds : List DartId) → IsTurn (onward next first) at ds → length ds ≤ length v.darts → to_come v next first at ≡ ds
  whole at ds t l = turn_is (onward next first) at ds (length v.darts) t l

  -- at a dart
  record IsStep (d : DartId) (at : Option DartId) : Type 0 where
    has : HasDart v d
    on : IsOnItsWay v next first (onward next first d)
    gives : to_come v next first at ≡ d ∷ to_come v next first (onward next first d)

  step_by : (at : Option DartId) (d : DartId) → at ≡ Some d → (ds : List DartId) → IsTurn (onward next first) at ds → ((e : DartId) → Member e ds → HasDart v e) → length ds ≤ length v.darts → IsStep d at
  step_by at d e [] t h l = let z : Some d ≡ None = sym e ∙ t in absurd (cc)
  step_by at d e (x ∷ xs) t h l =
      let q : x ≡ d = (let z : Some x ≡ Some d = sym t.0 ∙ e in cc) in
      let k : IsOnItsWay v next first (onward next first x) = record { darts = xs; turn = t.1; there = λ y m. h y (inr m); few = omega arith } in
      let g : to_come v next first at ≡ x ∷ to_come v next first (onward next first x) = whole at (x ∷ xs) t l ∙ ap (λ ys. x ∷ ys) (sym (whole (onward next first x) xs t.1 (omega arith))) in
      record {
        has = subst (HasDart v) q (h x (inl refl));
        on = subst (λ y. IsOnItsWay v next first (onward next first y)) q k;
        gives = subst (λ y. to_come v next first at ≡ y ∷ to_come v next first (onward next first y)) q g;
      }

  module _ (at : Option DartId) (w : IsOnItsWay v next first at) where
    pub ended : at ≡ None → to_come v next first at ≡ []
    ended e = subst (λ o. to_come v next first o ≡ []) (sym e) (whole None [] refl (omega arith))

    module _ (d : DartId) (e : at ≡ Some d) where
      step : IsStep d at
      step = step_by at d e w.darts w.turn w.there w.few

      pub has_dart : HasDart v d
      has_dart = step.has

      module _ (o : Option DartId) (n : o ≡ onward next first d) where
        pub still : IsOnItsWay v next first o
        still = subst (IsOnItsWay v next first) (sym n) step.on

        pub gives : to_come v next first at ≡ d ∷ to_come v next first o
        gives = step.gives ∙ ap (λ x. d ∷ to_come v next first x) (sym n)

-- the one after a dart, as it was read
pub after : (next : DartId → DartId) (first d m : DartId) → m ≡ next d → (o : Option DartId) → o ≡ cond (same_name m first) None (Some m) → o ≡ onward next first d
after next first d m e o h = h ∙ ap (λ z. cond (same_name z first) None (Some z)) e

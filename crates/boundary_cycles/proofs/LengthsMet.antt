-- How many darts a walk has met: fewer than the cycle has, until it is back at its start.
use Rattle.std.proofs.Common.{◌≡◌, ℕ, ◌+◌, ◌<◌, Bool, true, false, arith, refl, sym, ap, ◌∙◌, subst, List}
use Rattle.std.specs.Prelude.{◌&&◌}
use Rattle.std.specs.List.{count_by}
use Rattle.slab_laws.specs.declared.names.DartId.{DartId}
use Rattle.slab_laws.specs.FacesSound.{lead_in}
use Rattle.slab_laws.specs.Rotation.{same_dart}
use Rattle.slab_laws.specs.Sound.{IsGraphSound}
use Rattle.slab_laws.specs.View.{View, HasDart, next_in}
use Rattle.slab_faces.proofs.NextLemmas.{darts_exact}
use Rattle.slab_faces.proofs.Sums.{each, sum_by-same, fewer}
use Rattle.arr_notes.specs.CycleNames.{dart_names}
use Rattle.face_changes.proofs.OneToOneMaps.{tally}
use Rattle.boundary_cycles.specs.Counted.{is_on_cycle, cycle_length}
use Rattle.boundary_cycles.proofs.NamedWalks.{IsWalked, more, there_more, goes_on, ends, counted, of_list}

-- how many it has met
abbrev pub met : View → (DartId → Bool) → ℕ
met v seen = count_by seen (dart_names v)

all_pass : (p : DartId → Bool) (xs : List DartId) → count_by (λ x. p x && true) xs ≡ count_by p xs
all_pass p xs = sum_by-same (λ x. tally (p x && true)) (λ x. tally (p x)) xs (each (λ x. tally (p x && true) ≡ tally (p x)) xs (λ x _. ap tally (one (p x))))
  where
    one : (b : Bool) → (b && true) ≡ b
    one true = refl
    one false = refl

module _ (v : View) (s : IsGraphSound v) (d : DartId) (D : HasDart v d) (at : DartId) (seen : DartId → Bool) (w : IsWalked v d at seen) where
  pub one_more : met v (more at seen) ≡ met v seen + 1
  one_more = sym (all_pass (more at seen) (dart_names v)) ∙ counted v s d D at seen w (λ x. true) ∙ ap (λ n. n + 1) (all_pass seen (dart_names v))

  on_it : (x : DartId) → more at seen x ≡ true → is_on_cycle v d x ≡ true
  on_it x h = subst (λ z. same_dart z (lead_in v d) ≡ true) (sym (there_more v s d D at seen w x h).1) (darts_exact.itself (lead_in v d))

  pub fewer_met : met v seen < cycle_length v d
  fewer_met =
      let a = one_more in
      let b = fewer (more at seen) (is_on_cycle v d) (dart_names v) (λ x c h. on_it x h) in
      omega (a, b, arith)

  pub all_met : next_in v at ≡ d → cycle_length v d ≡ met v seen + 1
  all_met e =
      sum_by-same (λ x. tally (is_on_cycle v d x)) (λ x. tally (more at seen x)) (dart_names v)
      (each (λ x. tally (is_on_cycle v d x) ≡ tally (more at seen x)) (dart_names v) (λ x c. ap tally (sym (ends v s d D at seen w e x (of_list v s x c)))))
      ∙ one_more

-- not back, it has another one still before it
pub two_fewer : (v : View) (s : IsGraphSound v) (d : DartId) (D : HasDart v d) (at : DartId) (seen : DartId → Bool) (w : IsWalked v d at seen) → (next_in v at ≡ d → ⊥) → met v seen + 1 < cycle_length v d
two_fewer v s d D at seen w ne =
    subst (λ n. n < cycle_length v d) (one_more v s d D at seen w)
    (fewer_met v s d D (next_in v at) (more at seen) (goes_on v s d D at seen w ne))

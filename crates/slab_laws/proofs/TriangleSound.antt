-- The view of a triangle has the parts of a sound view that its records alone decide, wherever its corners lie.
use Rattle.std.proofs.Common.{◌≡◌, ◌≢◌, ℕ, refl, sym, ap, ◌∙◌, arith}
use Rattle.slab_laws.specs.declared.names.DartId.{DartId}
use Rattle.slab_laws.specs.Tables.{row_at}
use Rattle.slab_laws.specs.View.{HasDart, HasVertex, dart_id, source_in, twin_in, next_in, target_in, line_in}
use Rattle.slab_laws.specs.Sound.{IsTwinned, IsLinked}
use Rattle.slab_laws.specs.Triangle.{Shape, triangle_view}
use Rattle.slab_laws.proofs.TriangleLemmas.{dart_cases}

differ : (m n : ℕ) → m ≢ n → dart_id m ≡ dart_id n → ⊥
differ m n h e = h (ap (λ d. d.0) e)

module _ (t : Shape) where
  twins_line : (d : DartId) → HasDart (triangle_view t) d → line_in (triangle_view t) (twin_in (triangle_view t) d) ≡ line_in (triangle_view t) d
  unfolding row_at
  twins_line d h = dart_cases t (λ n. line_in (triangle_view t) (twin_in (triangle_view t) (dart_id n)) ≡ line_in (triangle_view t) (dart_id n)) refl refl refl refl refl refl d.0 h

  pub next_joins : (d : DartId) → HasDart (triangle_view t) d → source_in (triangle_view t) (next_in (triangle_view t) d) ≡ target_in (triangle_view t) d
  unfolding row_at
  next_joins d h = dart_cases t (λ n. source_in (triangle_view t) (next_in (triangle_view t) (dart_id n)) ≡ target_in (triangle_view t) (dart_id n)) refl refl refl refl refl refl d.0 h

  next_has : (d : DartId) → HasDart (triangle_view t) d → HasDart (triangle_view t) (next_in (triangle_view t) d)
  unfolding row_at
  next_has d h = dart_cases t (λ n. HasDart (triangle_view t) (next_in (triangle_view t) (dart_id n))) refl refl refl refl refl refl d.0 h

  source_has : (d : DartId) → HasDart (triangle_view t) d → HasVertex (triangle_view t) (source_in (triangle_view t) d)
  unfolding row_at
  source_has d h = dart_cases t (λ n. HasVertex (triangle_view t) (source_in (triangle_view t) (dart_id n))) refl refl refl refl refl refl d.0 h

  -- the next of the next of the next is the dart itself, so next is one to one
  next_thrice : (d : DartId) → HasDart (triangle_view t) d → next_in (triangle_view t) (next_in (triangle_view t) (next_in (triangle_view t) d)) ≡ d
  unfolding row_at
  next_thrice d h = dart_cases t (λ n. next_in (triangle_view t) (next_in (triangle_view t) (next_in (triangle_view t) (dart_id n))) ≡ dart_id n) refl refl refl refl refl refl d.0 h

  pub is_linked : IsLinked (triangle_view t)
  is_linked = record {
    source = source_has;
    has = next_has;
    joins = next_joins;
    once = λ d e hd he same. sym (next_thrice d hd) ∙ ap (λ z. next_in (triangle_view t) (next_in (triangle_view t) z)) same ∙ next_thrice e he;
  }

  twin_has : (d : DartId) → HasDart (triangle_view t) d → HasDart (triangle_view t) (twin_in (triangle_view t) d)
  unfolding row_at
  twin_has d h = dart_cases t (λ n. HasDart (triangle_view t) (twin_in (triangle_view t) (dart_id n))) refl refl refl refl refl refl d.0 h

  twin_back : (d : DartId) → HasDart (triangle_view t) d → twin_in (triangle_view t) (twin_in (triangle_view t) d) ≡ d
  unfolding row_at
  twin_back d h = dart_cases t (λ n. twin_in (triangle_view t) (twin_in (triangle_view t) (dart_id n)) ≡ dart_id n) refl refl refl refl refl refl d.0 h

  twin_other : (d : DartId) → HasDart (triangle_view t) d → twin_in (triangle_view t) d ≢ d
  unfolding row_at
  twin_other d h = dart_cases t (λ n. twin_in (triangle_view t) (dart_id n) ≢ dart_id n) (λ e. differ 1 0 (omega arith) e) (λ e. differ 0 1 (omega arith) e) (λ e. differ 3 2 (omega arith) e) (λ e. differ 2 3 (omega arith) e) (λ e. differ 5 4 (omega arith) e) (λ e. differ 4 5 (omega arith) e) d.0 h

  pub is_twinned : IsTwinned (triangle_view t)
  is_twinned = record { has = twin_has; back = twin_back; other = twin_other; line = twins_line }

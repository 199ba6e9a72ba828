-- An edge that spans a point, and of which a look found nothing, is above the point.
use Rattle.std.proofs.Common.{◌≡◌, true, false, arith, refl, sym, ap, ◌∙◌, inl, inr, subst}
use Rattle.std.specs.Prelude.{Option, Some, None}
use Rattle.std.proofs.lemmas.Int.{ints}
use Rattle.std.proofs.lemmas.Bool.{false≢true, and_from, eqb-true, false_from_ne_true, cases_Bool}
use Rattle.exact_plane.specs.Point.{Point}
use Rattle.exact_plane.specs.Span.{Span}
use Rattle.plane_graphs.specs.Graph.{Edge as PlaneEdge}
use Rattle.plane_graphs.specs.Line.{IsProper}
use Rattle.slab_laws.specs.declared.names.DartId.{DartId}
use Rattle.slab_laws.specs.Skeleton.{side, over, under}
use Rattle.slab_laws.specs.Sound.{skeleton_of, edge_in, IsGraphSound}
use Rattle.slab_laws.specs.View.{View, Faces, HasDart, dart_id, twin_in}
use Rattle.slab_faces.proofs.InnerPoints.{no_sign}
use Rattle.slab_faces.proofs.OverUnder.{on_neither, over_out, under_not_over}
use Rattle.sound_views.specs.ForwardDarts.{IsForwardOf}
use Rattle.sound_views.proofs.NamedDarts.{edge_known}
use Rattle.counted_looks.specs.Looks.{IsLookOf}
use Rattle.counted_looks.specs.declared.boundary_part.BoundaryPart.TheVariants.{Dart}
use Rattle.counted_looks.specs.declared.glance.Looked.{Looked}
use Rattle.dcel_records.specs.RecordsView.{tables_of}
use Rattle.dcel_records.specs.declared.spot.Spot.TheVariants.{Edge}
use Rattle.edge_predicates.specs.Highest.{IsSpanning}
use Rattle.locate_walk.specs.Finds.{IsFoundAtDart}
use Rattle.locate_walk.specs.Passages.{IsBetween}
use Rattle.locate_walk.specs.Looks.{HasLooked}
use Rattle.locate_walk.specs.declared.found.Found.TheVariants.{Past}
use Rattle.locate_walk.specs.declared.highest.Highest.{Highest}
use Rattle.locate_walk.proofs.Finds.{drawn, ahead, ahead_off, behind, behind_off, at_source, at_target, spanning_off, aside_outside}
use Rattle.locate_landmarks.specs.Floors.{IsSeenAbove}
use Rattle.locate_landmarks.specs.Lowest.{IsAbove, IsEntry}
use Rattle.locate_landmarks.specs.Walks.{is_dart}

module _ (v : View) (f : Faces) (s : IsGraphSound v) (q : Point) (Q : IsProper q) (d : DartId) (has : HasDart v d) (l : Looked) (look : IsLookOf v (Edge d) l) (past : IsFoundAtDart v f q d Past) where
  -- what spans the point and is past it is above it
  above_there : IsSpanning (edge_in v d) q → over (edge_in v d) q ≡ true
  above_there k = elim (cases_Bool (over (edge_in v d) q)) [
    | inl h ↦ h
    | inr h ↦
        let u : under (edge_in v d) q ≡ false = false_from_ne_true _ (λ u. past.1.unseen (record { in' = edge_known v d has; spanning = k; lies_under = u })) in
        let z = on_neither (edge_in v d) q h u in
        absurd (false≢true (sym past.1.outside ∙ and_from _ _ (and_from _ _ k.from k.to) (no_sign (side (edge_in v d) q) z)))
  ]

  seen_above : (r : DartId) (w : IsForwardOf v d r) → IsSpanning (edge_in v d) q → IsSeenAbove (skeleton_of v) q (edge_in v r)
  seen_above r w k = record {
    in' = edge_known v r w.forward.0;
    spanning = subst (λ (e : PlaneEdge). IsSpanning e q) (sym w.edge) k;
    lies_over = ap (λ (e : PlaneEdge). over e q) w.edge ∙ above_there k;
  }

  pub ahead_above : IsBetween l.source q l.target → (e : Span) → (e.lower ≡ l.source) × (e.upper ≡ l.target) → IsAbove v q (Some (record { dart = d; edge = e }))
  ahead_above b e h =
      let a = ahead v f s q Q d has l look b in
      (a.0.forward, seen_above d a.0 a.1, drawn v f s q Q d has l look d a.0 a.1 (ahead_off v f s q Q d has l look b) e l.source l.target look.0 look.1 h)

  pub behind_above : IsBetween l.target q l.source → (r : DartId) → r ≡ twin_in v d → (e : Span) → (e.lower ≡ l.target) × (e.upper ≡ l.source) → IsAbove v q (Some (record { dart = r; edge = e }))
  behind_above b r i e h =
      let a = behind v f s q Q d has l look b r i in
      (a.0.forward, seen_above r a.0 a.1, drawn v f s q Q d has l look r a.0 a.1 (behind_off v f s q Q d has l look b r i) e l.target l.source (at_source v f s q Q d has l look b r i) (at_target v f s q Q d has l look b r i) h)

-- ---- and of an edge above the point a look finds nothing
above_past : (v : View) (f : Faces) (s : IsGraphSound v) (q : Point) (Q : IsProper q) (d : DartId) → HasDart v d → IsSeenAbove (skeleton_of v) q (edge_in v d) → IsFoundAtDart v f q d Past
above_past v f s q Q d has a =
    let off = aside_outside (edge_in v d) q (λ y z. let o = over_out (edge_in v d) q a.lies_over in absurd (omega (arith, ints))) in
    (spanning_off v s q Q d has a.spanning, record { outside = off; unseen = λ y. false≢true (sym (under_not_over (edge_in v d) q y.lies_under) ∙ a.lies_over) })

at_entry : (v : View) (f : Faces) (s : IsGraphSound v) (q : Point) (Q : IsProper q) (o : Option DartId) (d : DartId) → IsEntry v q o → is_dart o d ≡ true → IsFoundAtDart v f q d Past
at_entry v f s q Q None d k e = absurd (false≢true e)
at_entry v f s q Q (Some x) d k e = subst (λ (y : DartId). IsFoundAtDart v f q y Past) (ap dart_id (eqb-true x.0 d.0 e)) (above_past v f s q Q x k.0 k.1)

pub entry_looked : (h : Highest) (s : IsGraphSound h.glance.now.graph) (Q : IsProper h.point) (o : Option DartId) (d : DartId) → IsEntry h.glance.now.graph h.point o → is_dart o d ≡ true → HasLooked h (Dart d) h
entry_looked h s Q o d k e = record { met = λ m. refl; found = λ n. (Past, λ own. at_entry h.glance.now.graph (tables_of h.glance.now) s h.point Q o d k e, refl) }

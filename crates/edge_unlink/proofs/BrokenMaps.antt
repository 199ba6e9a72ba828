-- A cycle breaks where an edge goes that had it on both sides: v and f are the view and the tables with the edge of d and its twin m, w the view without it;
-- a and b are the darts that d and m come after.
use Rattle.std.proofs.Common.{◌≡◌, ◌≢◌, ◌==◌, ◌⊎◌, cond, Bool, true, false, IsSome, inl, inr, refl, sym, ap, ◌∙◌, subst}
use Rattle.std.specs.Prelude.{not}
use Rattle.slab_laws.specs.declared.names.CycleId.{CycleId}
use Rattle.slab_laws.specs.declared.names.CycleKind.{CycleKind}
use Rattle.slab_laws.specs.declared.names.DartId.{DartId}
use Rattle.slab_laws.specs.declared.names.FaceId.{FaceId}
use Rattle.slab_laws.specs.FaceLists.{Lists, AreDartsOn}
use Rattle.slab_laws.specs.FacesSound.{lead_in, IsSound}
use Rattle.slab_laws.specs.Kinds.{is_outer as bounds_from_outside}
use Rattle.slab_laws.proofs.KindLemmas.{inner_kind, outer_kind}
use Rattle.slab_laws.specs.Sound.{skeleton_of, dart_in}
use Rattle.slab_laws.specs.View.{View, Faces, HasDart, HasCycle, source_in, target_in, twin_in, next_in, line_in, cycle_in, kind_in}
use Rattle.arr_notes.specs.FaceSteps.{step_faces, breaks}
use Rattle.arr_notes.specs.FaceWriters.{off_cycles}
use Rattle.arr_notes.specs.Step.{remove_edge}
use Rattle.arr_notes.proofs.VertexReads.{put_miss}
use Rattle.dcel_records.specs.ListChanges.{dart_listed, cycle_listed}
use Rattle.face_changes.specs.Kinds.{is_outer}
use Rattle.face_steps.specs.EdgePairs.{IsEdgeApart}
use Rattle.face_steps.specs.RowsWritten.{AreDartRows}
use Rattle.face_steps.specs.StepPremises.{IsBetween, FitsBreak}
use Rattle.face_steps.specs.Tabled.{AreTabled}
use Rattle.face_steps.proofs.Choices.{tables_are_sound, choices_of_kinds}
use Rattle.face_steps.proofs.CyclesApart.{cycle_cases}
use Rattle.face_steps.proofs.FaceRows.{cycle_number}
use Rattle.face_steps.proofs.StepBreaks.{on, off, apart as two_orbits, joins, of_orbit}
use Rattle.cycle_writers.proofs.RunSteps.{rows_of, runs_are_steps}
use Rattle.integers.proofs.Tests.{other_number, same_number}
use Rattle.edge_unlink.proofs.TwoParts.{AreBoth, of_first}
use Rattle.edge_unlink.proofs.UnlinkedMaps.{apart, dart_stays, not_after_itself}

-- the edge of d goes, of which one cycle is on both sides and neither end becomes bare
pub record IsBreaking (v w : View) (f : Faces) (d m a b : DartId) : Type 0 where
  pub sound : IsSound v f
  pub dart : HasDart v d
  pub twin : m ≡ twin_in v d
  pub removed : w ≡ remove_edge v d m
  pub first : HasDart v a × (next_in v a ≡ d)
  pub second : HasDart v b × (next_in v b ≡ twin_in v d)
  pub source : next_in v (twin_in v d) ≢ d
  pub target : next_in v d ≢ twin_in v d
  pub one : cycle_in f d ≡ cycle_in f (twin_in v d)

module _ {v w : View} {f : Faces} {d m a b : DartId} (t : IsBreaking v w f d m a b) where
  edge : IsEdgeApart w v d m (source_in v d) (target_in v d) (line_in v d)
  edge = apart v w f d m t.sound t.dart t.twin t.removed

  twin_there : HasDart v (twin_in v d)
  twin_there = t.sound.graph.twinned.has d t.dart

  -- ---- who comes before them stays
  pub first_stays : HasDart w a
  first_stays =
      dart_stays v w f d m t.sound t.dart t.twin t.removed a t.first.0
      (λ e. not_after_itself v d t.sound.graph t.dart (ap (next_in v) (sym e) ∙ t.first.1))
      (λ e. t.source (ap (next_in v) (sym t.twin ∙ sym e) ∙ t.first.1))

  pub second_stays : HasDart w b
  second_stays =
      dart_stays v w f d m t.sound t.dart t.twin t.removed b t.second.0
      (λ e. t.target (ap (next_in v) (sym e) ∙ t.second.1))
      (λ e. not_after_itself v (twin_in v d) t.sound.graph twin_there (ap (next_in v) (sym t.twin ∙ sym e) ∙ t.second.1))

  pub between : IsBetween w v d m (source_in v d) (target_in v d) a b
  between = record { line = line_in v d; edge = edge; first = first_stays; second = second_stays; after_first = t.first.1; after_second = t.second.1 ∙ sym t.twin }

  tabled : AreTabled v f
  tabled = (tables_are_sound v f t.sound.graph).1 t.sound

  one_cycle : cycle_in f d ≡ cycle_in f m
  one_cycle = t.one ∙ ap (cycle_in f) (sym t.twin)

  pub rows_left : AreDartRows w (off_cycles m (off_cycles d f))
  rows_left = runs_are_steps.rows_unlinked w v f d m (source_in v d) (target_in v d) (line_in v d) edge (rows_of v f tabled)

  -- ---- the kinds of the parts
  module _ (was_outer : Bool) (kept : CycleId) (kind : CycleKind) (cycle : kept ≡ cycle_in f d) (its : kind ≡ kind_in f kept) (by : was_outer ≡ bounds_from_outside kind) where
    kind_is : bounds_from_outside (kind_in f (cycle_in f d)) ≡ was_outer
    kind_is = ap (λ z. bounds_from_outside (kind_in f z)) (sym cycle) ∙ ap bounds_from_outside (sym its) ∙ sym by

    pub parts_of_inner : was_outer ≡ false → (is_outer (skeleton_of w) (dart_in w a) ≡ false) × (is_outer (skeleton_of w) (dart_in w b) ≡ false)
    parts_of_inner q = choices_of_kinds.break_inner w v f d m (source_in v d) (target_in v d) a b between tabled one_cycle (inner_kind _ (kind_is ∙ q))

    pub parts_of_outer : was_outer ≡ true → is_outer (skeleton_of w) (dart_in w b) ≡ not (is_outer (skeleton_of w) (dart_in w a))
    parts_of_outer q = choices_of_kinds.break_outer w v f d m (source_in v d) (target_in v d) a b between tabled one_cycle (outer_kind _ (kind_is ∙ q))

  -- ---- the parts, by the darts x, whose orbit is fresh, and y
  module _ (x y : DartId) (both : AreBoth x y a b) where
    pub fresh_there : HasDart w x
    fresh_there = of_first (HasDart w) x y a b both first_stays second_stays

    pub fresh_was : HasDart v x
    fresh_was = of_first (HasDart v) x y a b both t.first.0 t.second.0

    pub fresh_before : (next_in v x ≡ d) ⊎ (next_in v x ≡ twin_in v d)
    fresh_before = elim both [ inl r ↦ inl (ap (next_in v) r.0 ∙ t.first.1) | inr r ↦ inr (ap (next_in v) r.0 ∙ t.second.1) ]

    other_there : HasDart w y
    other_there = elim both [ inl r ↦ subst (HasDart w) (sym r.1) second_stays | inr r ↦ subst (HasDart w) (sym r.1) first_stays ]

    module _ (kept fresh : CycleId) (cycle : kept ≡ cycle_in f d) (new : HasCycle f fresh → ⊥) (inner : is_outer (skeleton_of w) (dart_in w x) ≡ false) (l : Lists) (listed : AreDartsOn v f l) (face : FaceId) where
      abbrev s : Faces
      s = step_faces w f (breaks d m kept fresh x)

      fits : FitsBreak w f d m a b kept fresh x
      fits = record { first = sym cycle; second = sym one_cycle ∙ sym cycle; new = new; ends = elim both [ inl r ↦ inl r.0 | inr r ↦ inr r.0 ]; inner = inner }

      on_fresh : (k : DartId) → HasDart w k → lead_in w k ≡ lead_in w x → cycle_in s k ≡ fresh
      on_fresh = on w v d m (source_in v d) (target_in v d) (line_in v d) edge a b first_stays second_stays t.first.1 between.after_second f kept fresh x fits tabled

      off_fresh : (k : DartId) → HasDart w k → lead_in w k ≢ lead_in w x → cycle_in s k ≡ cycle_in f k
      off_fresh = off w v d m (source_in v d) (target_in v d) (line_in v d) edge a b first_stays second_stays t.first.1 between.after_second f kept fresh x fits tabled

      two : lead_in w a ≢ lead_in w b
      two = two_orbits w v d m (source_in v d) (target_in v d) (line_in v d) edge a b first_stays second_stays t.first.1 between.after_second f kept fresh x fits tabled

      on_kept : (k : DartId) → HasDart w k → (lead_in w k ≡ lead_in w a) ⊎ (lead_in w k ≡ lead_in w b) → cycle_in f k ≡ kept
      on_kept = joins w v d m (source_in v d) (target_in v d) (line_in v d) edge a b first_stays second_stays t.first.1 between.after_second f kept fresh x fits tabled

      was_kept : (k : DartId) → HasDart w k → lead_in w k ≡ lead_in w x → cycle_in f k ≡ kept
      was_kept = of_orbit w v d m (source_in v d) (target_in v d) (line_in v d) edge a b first_stays second_stays t.first.1 between.after_second f kept fresh x fits tabled

      other_apart : lead_in w y ≢ lead_in w x
      other_apart e = elim both [
        | inl r ↦ two (ap (lead_in w) (sym r.0) ∙ sym e ∙ ap (lead_in w) r.1)
        | inr r ↦ two (ap (lead_in w) (sym r.1) ∙ e ∙ ap (lead_in w) r.0)
      ]

      other_kept : cycle_in s y ≡ kept
      other_kept = off_fresh y other_there other_apart ∙ on_kept y other_there (elim both [ inl r ↦ inr (ap (lead_in w) r.1) | inr r ↦ inl (ap (lead_in w) r.1) ])

      -- the dart of a cycle that was neither
      elsewhere : (c : CycleId) → HasCycle f c → c ≢ kept → HasDart w (l.dart_on c) × (cycle_in s (l.dart_on c) ≡ c)
      elsewhere c o n =
          let k = listed c o in
          let there = dart_stays v w f d m t.sound t.dart t.twin t.removed (l.dart_on c) k.0 (λ e. n (sym k.1 ∙ ap (cycle_in f) e ∙ sym cycle)) (λ e. n (sym k.1 ∙ ap (cycle_in f) e ∙ sym one_cycle ∙ sym cycle)) in
          (there, off_fresh (l.dart_on c) there (λ r. n (sym k.1 ∙ was_kept (l.dart_on c) there r)) ∙ k.1)

      pub darts_on_parts : AreDartsOn w (step_faces w f (breaks d m kept fresh x)) (dart_listed kept y (cycle_listed fresh face x l))
      darts_on_parts c o = elim (cycle_cases c kept) [
        | inl z ↦ told c y (ap (λ (i : CycleId). cond (i.0 == kept.0) y (cond (c.0 == fresh.0) x (l.dart_on c))) z ∙ ap (λ i. cond i y (cond (c.0 == fresh.0) x (l.dart_on c))) (same_number kept.0)) (other_there, other_kept ∙ sym z)
        | inr n ↦ elim (cycle_cases c fresh) [
          | inl z ↦ told c x (past c n ∙ ap (λ (i : CycleId). cond (i.0 == fresh.0) x (l.dart_on c)) z ∙ ap (λ i. cond i x (l.dart_on c)) (same_number fresh.0)) (fresh_there, on_fresh x fresh_there refl ∙ sym z)
          | inr n' ↦ told c (l.dart_on c) (past c n ∙ ap (λ i. cond i x (l.dart_on c)) (other_number c.0 fresh.0 (cycle_number c fresh n'))) (elsewhere c (subst IsSome (put_miss fresh.0 _ f.cycles c.0 (cycle_number c fresh n')) o) n)
        ]
      ]
        where
          told : (c : CycleId) (k : DartId) → (dart_listed kept y (cycle_listed fresh face x l)).dart_on c ≡ k → HasDart w k × (cycle_in s k ≡ c) → HasDart w ((dart_listed kept y (cycle_listed fresh face x l)).dart_on c) × (cycle_in s ((dart_listed kept y (cycle_listed fresh face x l)).dart_on c) ≡ c)
          told c k e r = subst (λ i. HasDart w i × (cycle_in s i ≡ c)) (sym e) r

          past : (c : CycleId) → c ≢ kept → (dart_listed kept y (cycle_listed fresh face x l)).dart_on c ≡ cond (c.0 == fresh.0) x (l.dart_on c)
          past c n = ap (λ i. cond i y (cond (c.0 == fresh.0) x (l.dart_on c))) (other_number c.0 kept.0 (cycle_number c kept n))

-- Breaks: the tables that the step makes stand.
use Rattle.std.proofs.Common.{◌≡◌, ◌≢◌, ◌↔◌, ◌==◌, cond, Some, None, IsSome, option_map, refl, sym, ap, ◌∙◌, subst, ◌⊎◌, inl, inr}
use Rattle.exact_plane.specs.Line.{Line}
use Rattle.slab_laws.specs.declared.names.CycleId.{CycleId}
use Rattle.slab_laws.specs.declared.names.CycleKind.TheVariants.{Inner}
use Rattle.slab_laws.specs.declared.names.DartId.{DartId}
use Rattle.slab_laws.specs.declared.names.VertexId.{VertexId}
use Rattle.slab_laws.specs.FacesSound.{lead_in, IsCycled, IsComplete}
use Rattle.slab_laws.specs.Sound.{skeleton_of, dart_in}
use Rattle.slab_laws.specs.Tables.{row_at}
use Rattle.slab_laws.specs.View.{View, Faces, HasDart, HasCycle, HasFace, dart_id, next_in, cycle_or, kind_or, face_or, cycle_in, face_in}
use Rattle.arr_notes.specs.CycleNames.{cycle_label}
use Rattle.arr_notes.specs.FaceSteps.{step_faces, breaks}
use Rattle.arr_notes.proofs.Names.{cases_dart}
use Rattle.arr_notes.proofs.RowLaws.{row_at-each, ascend-put, ascend-each, ascend-del}
use Rattle.arr_notes.proofs.Reading.{dart_number, none_there}
use Rattle.arr_notes.proofs.VertexReads.{put_hit, put_miss, del_hit, del_miss}
use Rattle.sound_views.proofs.ListedRows.{is_some_by}
use Rattle.face_changes.specs.FacesByPairs.{AreFacesTold}
use Rattle.face_changes.specs.OneMoreEdge.{JoinsCycles}
use Rattle.face_changes.proofs.CycleParities.{choose}
use Rattle.face_changes.proofs.OneMoreEdge.{cycles_with_one_more_edge}
use Rattle.face_steps.specs.EdgePairs.{IsEdgeApart}
use Rattle.face_steps.specs.OneFace.{AreFacesKept, IsJoinApart, IsInnerOrbit}
use Rattle.face_steps.specs.StepPremises.{FitsBreak}
use Rattle.face_steps.specs.Tabled.{AreTabled}
use Rattle.face_steps.proofs.CyclesApart.{cycle_cases, cycles_apart}
use Rattle.face_steps.proofs.EdgePairs.{up, sorted, bare_below, vertex_above, vertex_below, listed, is_dart, is_more, comes, lead_old}
use Rattle.face_steps.proofs.FaceRows.{map_some, map_cycle, cycle_number, orbit_hit, orbit_miss}
use Rattle.face_steps.proofs.OneFace.{one_face_on_both_sides}
use Rattle.face_steps.proofs.StepJoins.{no_bare_start, no_bare_end, bare_up}
use Rattle.face_steps.proofs.TwoFaces.{two_faces_apart, comes_twin}

module _ (v w : View) (x y : DartId) (p q : VertexId) (l : Line) (m : IsEdgeApart v w x y p q l) (a b : DartId) (A : HasDart v a) (B : HasDart v b) (na : next_in w a ≡ x) (nb : next_in w b ≡ y) (s : Faces) (kept fresh : CycleId) (c : DartId) (t : FitsBreak v s x y a b kept fresh c) (h : AreTabled w s) where
  abbrev f : Faces
  f = step_faces v s (breaks x y kept fresh c)

  abbrev swap : DartId → CycleId → CycleId
  swap k b = cond ((cycle_label v k).0 == (cycle_label v c).0) fresh b

  C : HasDart v c
  C = elim t.ends [ inl e ↦ subst (HasDart v) (sym e) A | inr e ↦ subst (HasDart v) (sym e) B ]

  -- ---- what is read
  row_old : (k : DartId) → k ≢ x → k ≢ y → row_at f.cycle_of k.0 ≡ option_map (swap k) (row_at s.cycle_of k.0)
  row_old k i j =
      row_at-each (λ n. swap (dart_id n)) _ k.0
      ∙ ap (option_map (swap k)) (del_miss y.0 _ k.0 (ascend-del x.0 s.cycle_of h.complete.cycle_of_ascend) (dart_number k y j) ∙ del_miss x.0 s.cycle_of k.0 h.complete.cycle_of_ascend (dart_number k x i))

  row_second : row_at f.cycle_of y.0 ≡ None
  row_second = row_at-each (λ n. swap (dart_id n)) _ y.0 ∙ ap (option_map (swap y)) (del_hit y.0 _ (ascend-del x.0 s.cycle_of h.complete.cycle_of_ascend))

  row_first : row_at f.cycle_of x.0 ≡ None
  row_first =
      row_at-each (λ n. swap (dart_id n)) _ x.0
      ∙ ap (option_map (swap x)) (del_miss y.0 _ x.0 (ascend-del x.0 s.cycle_of h.complete.cycle_of_ascend) (dart_number x y m.more.two_names) ∙ del_hit x.0 s.cycle_of h.complete.cycle_of_ascend)

  not_x : (k : DartId) → HasDart v k → k ≢ x
  not_x k o e = m.more.first_new (subst (HasDart v) e o)

  not_y : (k : DartId) → HasDart v k → k ≢ y
  not_y k o e = m.more.second_new (subst (HasDart v) e o)

  reads : (k : DartId) → HasDart v k → cycle_in f k ≡ swap k (cycle_in s k)
  reads k o = ap cycle_or (row_old k (not_x k o) (not_y k o)) ∙ map_cycle (swap k) (row_at s.cycle_of k.0) ((h.complete.cycle_rows k).0 (up v w x y p q l m k o))

  pub on : (k : DartId) → HasDart v k → lead_in v k ≡ lead_in v c → cycle_in f k ≡ fresh
  on k o e = reads k o ∙ orbit_hit v c fresh (cycle_in s k) k m.sound o C e

  pub off : (k : DartId) → HasDart v k → lead_in v k ≢ lead_in v c → cycle_in f k ≡ cycle_in s k
  off k o n = reads k o ∙ orbit_miss v c fresh (cycle_in s k) k m.sound o C n

  old_cycle : (k : DartId) → HasDart v k → HasCycle s (cycle_in s k)
  old_cycle k o = h.complete.cycle_has k (up v w x y p q l m k o)

  not_fresh : (k : DartId) → HasDart v k → cycle_in s k ≢ fresh
  not_fresh k o e = t.new (subst (HasCycle s) e (old_cycle k o))

  has_kept : HasCycle s kept
  has_kept = subst (HasCycle s) t.first (h.complete.cycle_has x m.more.first)

  two : kept ≢ fresh
  two e = t.new (subst (HasCycle s) e has_kept)

  record_fresh : row_at f.cycles fresh.0 ≡ Some (record { kind = Inner; face = face_in s kept })
  record_fresh = put_hit fresh.0 _ s.cycles

  record_kept : (e : CycleId) → e ≢ fresh → row_at f.cycles e.0 ≡ row_at s.cycles e.0
  record_kept e n = put_miss fresh.0 _ s.cycles e.0 (cycle_number e fresh n)

  -- ---- the two orbits
  one : lead_in w x ≡ lead_in w y
  one = (h.cycled.orbits x y m.more.first m.more.second).0 (t.first ∙ sym t.second)

  pub apart : lead_in v a ≢ lead_in v b
  apart e = (two_faces_apart.within v w x y p q l a b m A B na nb).0 e one

  made_one : JoinsCycles (skeleton_of v) (skeleton_of w) (dart_in w x) (dart_in v a) (dart_in v b)
  made_one =
      cycles_with_one_more_edge.joined (skeleton_of v) (skeleton_of w) (dart_in w x) (dart_in v a) (dart_in v b) (is_more v w x y p q l m)
      (is_dart v w x y p q l m a A) (is_dart v w x y p q l m b B) (comes v w x y p q l m a A na) (comes_twin v w x y p q l m a b A B na nb) apart

  pub joins : (k : DartId) → HasDart v k → (lead_in v k ≡ lead_in v a) ⊎ (lead_in v k ≡ lead_in v b) → cycle_in s k ≡ kept
  joins k o r = (h.cycled.orbits k x (up v w x y p q l m k o) m.more.first).1 (lead_old v w x y p q l m k o ∙ made_one.cycles.within (dart_in v k) (listed v w x y p q l m k o) r) ∙ t.first

  pub of_orbit : (k : DartId) → HasDart v k → lead_in v k ≡ lead_in v c → cycle_in s k ≡ kept
  of_orbit k o e = joins k o (elim t.ends [ inl z ↦ inl (e ∙ ap (lead_in v) z) | inr z ↦ inr (e ∙ ap (lead_in v) z) ])

  -- the end that isn't on the fresh orbit
  other_end : (e : DartId) × HasDart v e × (cycle_in f e ≡ kept)
  other_end = elim t.ends [
    | inl z ↦ (b, B, off b B (λ e. apart (ap (lead_in v) (sym z) ∙ sym e)) ∙ joins b B (inr refl))
    | inr z ↦ (a, A, off a A (λ e. apart (e ∙ ap (lead_in v) z)) ∙ joins a A (inl refl))
  ]

  is_join : IsJoinApart v f s x y a b kept fresh
  is_join = record {
    two = two;
    ends = elim t.ends [
      | inl z ↦ inr (on a A (ap (lead_in v) (sym z)), off b B (λ e. apart (ap (lead_in v) (sym z) ∙ sym e)) ∙ joins b B (inr refl))
      | inr z ↦ inl (off a A (λ e. apart (e ∙ ap (lead_in v) z)) ∙ joins a A (inl refl), on b B (ap (lead_in v) (sym z)))
    ];
    first = t.first;
    second = t.second;
    moved = λ k o e. elim (choose (lead_in v k) (lead_in v c)) [ inl r ↦ of_orbit k o r | inr n ↦ absurd (not_fresh k o (sym (off k o n) ∙ e)) ];
    others = λ k o n. elim (choose (lead_in v k) (lead_in v c)) [ inl r ↦ absurd (n (on k o r)) | inr z ↦ sym (off k o z) ];
    kind = ap kind_or record_fresh;
    kinds = λ k o n. sym (ap kind_or (record_kept (cycle_in f k) n));
  }

  inner : IsInnerOrbit v f fresh c
  inner = record {
    dart = C;
    orbit = λ k o. (λ e. elim (choose (lead_in v k) (lead_in v c)) [ inl r ↦ r | inr n ↦ absurd (not_fresh k o (sym (off k o n) ∙ e)) ], on k o);
    inner = t.inner;
  }

  cycled : IsCycled v f
  cycled = cycles_apart.break v w f s x y p q l a b c kept fresh m A B na nb is_join inner h.cycled

  face_old : (k : DartId) → HasDart v k → face_in s (cycle_in s k) ≡ face_in f (cycle_in f k)
  face_old k o = elim (choose (lead_in v k) (lead_in v c)) [
    | inl r ↦ ap (face_in s) (of_orbit k o r) ∙ sym (ap face_or record_fresh) ∙ ap (face_in f) (sym (on k o r))
    | inr n ↦ sym (ap face_or (record_kept (cycle_in s k) (not_fresh k o))) ∙ ap (face_in f) (sym (off k o n))
  ]

  are_kept : AreFacesKept v w f s x y p q
  are_kept = record { faces = refl; beside = face_old; round = λ u o none. refl; start = λ none. absurd (no_bare_start v w x y p q l m a b A B na nb none); end = λ none. absurd (no_bare_end v w x y p q l m a b A B na nb none) }

  told : AreFacesTold v f
  told = (one_face_on_both_sides v w f s x y p q l m one h.cycled are_kept).1 h.told

  -- ---- every row is there
  rows : (k : DartId) → HasDart v k ↔ IsSome (row_at f.cycle_of k.0)
  rows k = (
    λ o. subst IsSome (sym (row_old k (not_x k o) (not_y k o))) ((map_some (swap k) (row_at s.cycle_of k.0)).0 ((h.complete.cycle_rows k).0 (up v w x y p q l m k o))),
    λ o. elim (cases_dart k x) [
      | inl e ↦ absurd (none_there _ (ap (λ j. row_at f.cycle_of j.0) e ∙ row_first) o)
      | inr n ↦ elim (cases_dart k y) [
        | inl e ↦ absurd (none_there _ (ap (λ j. row_at f.cycle_of j.0) e ∙ row_second) o)
        | inr n' ↦ elim (sorted v w x y p q l m k ((h.complete.cycle_rows k).1 ((map_some (swap k) (row_at s.cycle_of k.0)).1 (subst IsSome (row_old k n n') o)))) [
          | inl z ↦ z
          | inr z ↦ elim z [ inl e ↦ absurd (n e) | inr e ↦ absurd (n' e) ]
        ]
      ]
    ],
  )

  has_still : (e : CycleId) → HasCycle s e → HasCycle f e
  has_still e o = subst IsSome (sym (record_kept e (λ z. t.new (subst (HasCycle s) z o)))) o

  dart_there : (e : CycleId) → HasCycle f e → (d : DartId) × HasDart v d × (cycle_in f d ≡ e)
  dart_there e o = elim (cycle_cases e fresh) [
    | inl z ↦ (c, C, on c C refl ∙ sym z)
    | inr n ↦ elim (cycle_cases e kept) [
      | inl z ↦ let r = other_end in (r.0, r.1, r.2 ∙ sym z)
      | inr n' ↦
          let d = h.complete.dart_has e (subst IsSome (record_kept e n) o) in
          elim (sorted v w x y p q l m d.0 d.1) [
            | inl z ↦ (d.0, z, off d.0 z (λ r. n' (sym d.2 ∙ of_orbit d.0 z r)) ∙ d.2)
            | inr z ↦ absurd (n' (sym d.2 ∙ elim z [ inl r ↦ ap (cycle_in s) r ∙ t.first | inr r ↦ ap (cycle_in s) r ∙ t.second ]))
          ]
    ]
  ]

  complete : IsComplete v f
  complete = record {
    cycles_ascend = ascend-put fresh.0 _ s.cycles h.complete.cycles_ascend;
    faces_ascend = h.complete.faces_ascend;
    cycle_of_ascend = ascend-each _ _ (ascend-del y.0 _ (ascend-del x.0 s.cycle_of h.complete.cycle_of_ascend));
    bare_ascend = h.complete.bare_ascend;
    cycle_rows = rows;
    cycle_has = λ k o. elim (choose (lead_in v k) (lead_in v c)) [
      | inl r ↦ subst (HasCycle f) (sym (on k o r)) (is_some_by _ _ record_fresh)
      | inr n ↦ subst (HasCycle f) (sym (off k o n)) (has_still (cycle_in s k) (old_cycle k o))
    ];
    dart_has = dart_there;
    face_has = λ e o. elim (cycle_cases e fresh) [
      | inl z ↦ subst (HasFace s) (sym (ap (face_in f) z ∙ ap face_or record_fresh)) (h.complete.face_has kept has_kept)
      | inr n ↦ subst (HasFace s) (sym (ap face_or (record_kept e n))) (h.complete.face_has e (subst IsSome (record_kept e n) o))
    ];
    bare = λ u o.
        let r = h.complete.bare u (vertex_above v w x y p q l m u o) in
        (λ k. bare_below v w x y p q l m u (r.0 k), λ k. r.1 (bare_up v w x y p q l m a b A B na nb u k));
    bare_vertex = λ u o. vertex_below v w x y p q l m u (h.complete.bare_vertex u o);
    bare_has = h.complete.bare_has;
  }

  pub broken : AreTabled v (step_faces v s (breaks x y kept fresh c))
  broken = record { complete = complete; cycled = cycled; told = told }

-- An edge that the records unlink: what the laws ask, from who comes before its darts.
use Rattle.std.proofs.Common.{◌≡◌, ◌≢◌, ◌==◌, cond, sym, ap, ◌∙◌, subst, ◌⊎◌, inl, inr}
use Rattle.integers.proofs.Tests.{other_number, same_number}
use Rattle.slab_laws.specs.declared.names.DartId.{DartId}
use Rattle.slab_laws.specs.FacesSound.{lead_in}
use Rattle.slab_laws.specs.Sound.{IsGraphSound}
use Rattle.slab_laws.specs.View.{View, Faces, HasDart, source_in, target_in, twin_in, next_in, line_in, cycle_in}
use Rattle.arr_notes.specs.Step.{remove_edge}
use Rattle.arr_notes.specs.FaceSteps.{step_faces, vanishes, shrinks, breaks, unites}
use Rattle.arr_notes.specs.FacesTold.{unlinked_faces}
use Rattle.arr_notes.specs.declared.faces.Unlinked.{Unlinked}
use Rattle.arr_notes.specs.declared.faces.Unlinked.TheVariants.{Vanishes, Shrinks, Breaks, Unites}
use Rattle.arr_notes.proofs.Reading.{dart_number}
use Rattle.rotation_order.specs.VertexRings.{IsBare}
use Rattle.sound_changes.proofs.RingsKept.{source_old}
use Rattle.face_changes.proofs.CycleNames.{lead_step}
use Rattle.face_steps.specs.EdgePairs.{IsEdgeApart}
use Rattle.face_steps.specs.LinkLaws.{FitsUnlinked, UnlinksKeepTables}
use Rattle.face_steps.specs.StepPremises.{IsBetween}
use Rattle.face_steps.specs.Tabled.{AreTabled}
use Rattle.face_steps.proofs.EdgePairs.{turned_round, up, sorted, start_cases}
use Rattle.face_steps.proofs.RecordsApart.{edge_removed, before_it}
use Rattle.face_steps.proofs.StepLaws.{steps_keep_tables}

-- ---- an edge that goes
module _ (v : View) (f : Faces) (d : DartId) (s : IsGraphSound v) (has : HasDart v d) (h : AreTabled v f) where
  abbrev pub t : DartId
  t = twin_in v d

  abbrev pub less : View
  less = remove_edge v d (twin_in v d)

  e : IsEdgeApart (remove_edge v d (twin_in v d)) v d (twin_in v d) (source_in v d) (target_in v d) (line_in v d)
  e = edge_removed v d s has

  back : IsEdgeApart (remove_edge v d (twin_in v d)) v (twin_in v d) d (target_in v d) (source_in v d) (line_in v d)
  back = turned_round less v d t (source_in v d) (target_in v d) (line_in v d) e

  has_twin : HasDart v (twin_in v d)
  has_twin = s.twinned.has d has

  not_itself : twin_in v d ≢ d
  not_itself = s.twinned.other d has

  -- the end is bare without the edge where the twin comes before the dart, and only there
  bare_first : next_in v (twin_in v d) ≡ d → IsBare less (source_in v d)
  bare_first n = elim (before_it less v d t (source_in v d) (target_in v d) (line_in v d) (twin_in v d) e has_twin n) [ inl r ↦ r.1 | inr o ↦ absurd (e.more.second_new o) ]

  bare_second : next_in v d ≡ twin_in v d → IsBare less (target_in v d)
  bare_second n = elim (before_it less v t d (target_in v d) (source_in v d) (line_in v d) d back has n) [ inl r ↦ r.1 | inr o ↦ absurd (e.more.first_new o) ]

  abbrev pub IsBefore : DartId → Type 0
  IsBefore x = (k : DartId) × HasDart less k × (next_in v k ≡ x)

  pub place_first : next_in v (twin_in v d) ≢ d → IsBefore d
  place_first n = elim (start_cases less v d t (source_in v d) (target_in v d) (line_in v d) e) [
    | inl none ↦ absurd (n (alone none))
    | inr r ↦ r
  ]
    where
      -- at a bare end the dart after the twin leaves that end, and none but d does
      alone : IsBare less (source_in v d) → next_in v (twin_in v d) ≡ d
      alone none =
          let k = next_in v t in
          let K = s.linked.has t has_twin in
          let from : source_in v k ≡ source_in v d = s.linked.joins t has_twin ∙ ap (source_in v) (s.twinned.back d has) in
          elim (sorted less v d t (source_in v d) (target_in v d) (line_in v d) e k K) [
            | inl o ↦ absurd (none k (o, sym (source_old less v d t (source_in v d) (target_in v d) (line_in v d) e.more k o) ∙ from))
            | inr r ↦ elim r [ inl q ↦ q | inr q ↦ absurd (e.more.two_ends (sym from ∙ ap (source_in v) q)) ]
          ]

  pub place_second : next_in v d ≢ twin_in v d → IsBefore (twin_in v d)
  place_second n = elim (start_cases less v t d (target_in v d) (source_in v d) (line_in v d) back) [
    | inl none ↦ absurd (n (alone none))
    | inr r ↦ r
  ]
    where
      alone : IsBare less (target_in v d) → next_in v d ≡ twin_in v d
      alone none =
          let k = next_in v d in
          let K = s.linked.has d has in
          let from : source_in v k ≡ target_in v d = s.linked.joins d has in
          elim (sorted less v d t (source_in v d) (target_in v d) (line_in v d) e k K) [
            | inl o ↦ absurd (none k (o, sym (source_old less v d t (source_in v d) (target_in v d) (line_in v d) e.more k o) ∙ from))
            | inr r ↦ elim r [ inl q ↦ absurd (e.more.two_ends (ap (source_in v) (sym q) ∙ from)) | inr q ↦ q ]
          ]

  pub between : (i : IsBefore d) → (j : IsBefore (twin_in v d)) → IsBetween less v d (twin_in v d) (source_in v d) (target_in v d) i.0 j.0
  between i j = record { line = line_in v d; edge = e; first = i.1; second = j.1; after_first = i.2; after_second = j.2 }

  -- two cycles: then neither end becomes bare
  pub no_follow : (cycle_in f d ≢ cycle_in f t) → (next_in v t ≢ d) × (next_in v d ≢ t)
  no_follow n = (
    λ q. n (sym ((h.cycled.orbits t d has_twin has).1 (lead_step v s t has_twin ∙ ap (lead_in v) q))),
    λ q. n ((h.cycled.orbits d t has has_twin).1 (lead_step v s d has ∙ ap (lead_in v) q)),
  )

  old_up : (z : DartId) → HasDart less z → HasDart v z
  old_up z o = up less v d t (source_in v d) (target_in v d) (line_in v d) e z o

  unlinks : (c : Unlinked) → FitsUnlinked v f d c → AreTabled (remove_edge v d (twin_in v d)) (step_faces (remove_edge v d (twin_in v d)) f (unlinked_faces v d c))
  unlinks (Vanishes c a) k = steps_keep_tables v less f (vanishes d t (source_in v d) (source_in v t) c a) h (line_in v d, e, bare_first k.0, bare_second k.1, k.2, k.3)
  unlinks (Shrinks c a) k = elim k.0 [
    | inl r ↦
        let i = place_second r.1 in
        let at = ap (λ b. cond b (source_in v d) (source_in v t)) (ap (λ (z : DartId). z.0 == d.0) r.0 ∙ same_number d.0) in
        subst (λ z. AreTabled less (step_faces less f (shrinks d t z c a))) (sym at)
        (steps_keep_tables v less f (shrinks d t (source_in v d) c a) h (target_in v d, i.0, inr (record { line = line_in v d; edge = back; place = i.1; after = i.2; bare = bare_first r.0 }), k.1, k.2))
    | inr r ↦
        let i = place_first r.0 in
        let at = ap (λ b. cond b (source_in v d) (source_in v t)) (other_number (next_in v t).0 d.0 (dart_number (next_in v t) d r.0)) in
        subst (λ z. AreTabled less (step_faces less f (shrinks d t z c a))) (sym at)
        (steps_keep_tables v less f (shrinks d t (target_in v d) c a) h (source_in v d, i.0, inl (record { line = line_in v d; edge = e; place = i.1; after = i.2; bare = bare_second r.1 }), k.1, k.2))
  ]
  unlinks (Breaks kept fresh x) k =
      let i = place_first k.0 in
      let j = place_second k.1 in
      let ends : (x ≡ i.0) ⊎ (x ≡ j.0) = elim k.6 [
        | inl q ↦ inl (s.linked.once x i.0 k.5 (old_up i.0 i.1) (q ∙ sym i.2))
        | inr q ↦ inr (s.linked.once x j.0 k.5 (old_up j.0 j.1) (q ∙ sym j.2))
      ] in
      steps_keep_tables v less f (breaks d t kept fresh x) h (source_in v d, target_in v d, i.0, j.0, between i j, record { first = k.2; second = k.3; new = k.4; ends = ends; inner = k.7 })
  unlinks (Unites kept gone a moved) k =
      let n : cycle_in f d ≢ cycle_in f t = λ q. elim k [ inl r ↦ r.two (sym r.second ∙ sym q ∙ r.first) | inr r ↦ r.two (sym r.second ∙ q ∙ r.first) ] in
      let m = no_follow n in
      let i = place_first m.0 in
      let j = place_second m.1 in
      steps_keep_tables v less f (unites d t kept gone a moved.cycles moved.vertices) h (source_in v d, target_in v d, i.0, j.0, between i j, k)

pub unlinks_keep_tables : UnlinksKeepTables
unlinks_keep_tables v f d c s has h k = unlinks v f d s has h c k

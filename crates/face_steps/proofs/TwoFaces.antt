-- An edge with a face on either side: it parts a cycle where it comes; where it goes two cycles become one, and two faces.
use Rattle.std.proofs.Common.{◌≡◌, ◌≢◌, ◌↔◌, Bool, true, false, refl, sym, ap, ◌∙◌, subst, inl, inr}
use Rattle.std.specs.Prelude.{not}
use Rattle.std.proofs.lemmas.Bool.{true≢false}
use Rattle.exact_plane.specs.Line.{Line}
use Rattle.slab_laws.specs.declared.names.CycleId.{CycleId}
use Rattle.slab_laws.specs.declared.names.DartId.{DartId}
use Rattle.slab_laws.specs.declared.names.FaceId.{FaceId}
use Rattle.slab_laws.specs.declared.names.VertexId.{VertexId}
use Rattle.slab_laws.specs.Cycles.{left_of_dart}
use Rattle.slab_laws.specs.FacesSound.{lead_in, IsCycled}
use Rattle.slab_laws.specs.Meets.{SameFace}
use Rattle.slab_laws.specs.Rotation.{twin}
use Rattle.slab_laws.specs.Sound.{skeleton_of, dart_in}
use Rattle.slab_laws.specs.View.{View, Faces, HasDart, HasFace, source_in, twin_in, next_in, cycle_in, kind_in, face_in}
use Rattle.slab_faces.proofs.Turns.{face_trans, face_sym}
use Rattle.sound_views.proofs.NamedDarts.{names_are_darts}
use Rattle.rotation_order.specs.VertexRings.{IsBare}
use Rattle.sound_changes.specs.NextLaws.{ComesBetween}
use Rattle.sound_changes.proofs.RingsKept.{source_old}
use Rattle.face_changes.specs.Kinds.{is_outer}
use Rattle.face_changes.specs.FaceNames.{AreNamesMerged}
use Rattle.face_changes.specs.FacesByPairs.{Item, outside, beside, round, HasItem, cell_at, name_at, first_or, AreFacesTold}
use Rattle.face_changes.specs.OneMoreEdge.{PartsCycle, LiesIn}
use Rattle.face_changes.specs.RecordsAfterSplits.{IsLinkedWithin}
use Rattle.face_changes.proofs.CycleParities.{choose}
use Rattle.face_changes.proofs.FaceNames.{face_names_merge}
use Rattle.face_changes.proofs.LinkedCycles.{there_dart}
use Rattle.face_changes.proofs.OneMoreEdge.{one_kind_each, one_outer_cycle, cycles_with_one_more_edge}
use Rattle.face_changes.proofs.CycleNames.{lead_step}
use Rattle.face_steps.specs.EdgePairs.{IsEdgeApart}
use Rattle.face_steps.specs.TwoFaces.{IsUniteApart, TwoFacesApart}
use Rattle.face_steps.proofs.Alike.{KindsAreTold, kind_at, cycled_by}
use Rattle.face_steps.proofs.CyclesApart.{cycle_cases}
use Rattle.face_steps.proofs.EdgePairs.{turned_round, up, start_dart, sorted, drawn_old, twins, point_is, vertex_above, vertex_below, bare_below, listed, is_dart, lead_old, lead_second, is_more, comes, old_lies, vertex_lies, first_lies}

module _ (v w : View) (x y : DartId) (p q : VertexId) (l : Line) (m : IsEdgeApart v w x y p q l) (a b : DartId) (A : HasDart v a) (B : HasDart v b) (na : next_in w a ≡ x) (nb : next_in w b ≡ y) where
  pub comes_twin : ComesBetween (skeleton_of v) (dart_in v b) (twin (dart_in w x))
  comes_twin = subst (ComesBetween (skeleton_of v) (dart_in v b)) (twins v w x y p q l m) (comes v w y x q p l (turned_round v w x y p q l m) b B nb)

  pub parted : lead_in v a ≡ lead_in v b → PartsCycle (skeleton_of v) (skeleton_of w) (dart_in w x) (dart_in v a)
  parted one =
      cycles_with_one_more_edge.parted (skeleton_of v) (skeleton_of w) (dart_in w x) (dart_in v a) (dart_in v b) (is_more v w x y p q l m)
      (is_dart v w x y p q l m a A) (is_dart v w x y p q l m b B) (comes v w x y p q l m a A na) comes_twin one

  two_above : lead_in v a ≡ lead_in v b → lead_in w x ≢ lead_in w y
  two_above one e = (parted one).cycles.two (e ∙ lead_second v w x y p q l m)

  one_below : lead_in w x ≢ lead_in w y → lead_in v a ≡ lead_in v b
  one_below two = elim (choose (lead_in v a) (lead_in v b)) [
    | inl e ↦ e
    | inr n ↦
        let j = cycles_with_one_more_edge.joined (skeleton_of v) (skeleton_of w) (dart_in w x) (dart_in v a) (dart_in v b) (is_more v w x y p q l m)
        (is_dart v w x y p q l m a A) (is_dart v w x y p q l m b B) (comes v w x y p q l m a A na) comes_twin n in
        absurd (two (j.cycles.one ∙ sym (lead_second v w x y p q l m)))
  ]

module _ (v w : View) (x y : DartId) (p q : VertexId) (l : Line) (m : IsEdgeApart v w x y p q l) (a b : DartId) (A : HasDart v a) (B : HasDart v b) (na : next_in w a ≡ x) (nb : next_in w b ≡ y) where
  back : IsEdgeApart v w y x q p l
  back = turned_round v w x y p q l m

  pub bare_above : (u : VertexId) → IsBare v u → IsBare w u
  bare_above u none k o = elim (sorted v w x y p q l m k o.0) [
    | inl z ↦ none k (z, sym (source_old v w x y p q l m.more k z) ∙ o.1)
    | inr r ↦ elim r [
      | inl z ↦ let d = start_dart v w x y p q l m a A na in none (twin_in v a) (d.0, d.1 ∙ sym m.more.source_first ∙ ap (source_in w) (sym z) ∙ o.1)
      | inr z ↦ let d = start_dart v w y x q p l back b B nb in none (twin_in v b) (d.0, d.1 ∙ sym m.more.source_second ∙ ap (source_in w) (sym z) ∙ o.1)
    ]
  ]

  linked : lead_in v a ≡ lead_in v b → IsLinkedWithin v w x y a
  linked one = record {
    sound = m.sound;
    sound_more = m.sound_more;
    is_more = is_more v w x y p q l m;
    parted = parted v w x y p q l m a b A B na nb one;
    place = A;
    first = m.more.first;
    second = m.more.second;
    first_new = m.more.first_new;
    second_new = m.more.second_new;
    twins = twins v w x y p q l m;
    old = λ k o. (up v w x y p q l m k o, drawn_old v w x y p q l m k o);
    new = sorted v w x y p q l m;
    vertices = λ u o. (vertex_below v w x y p q l m u o, point_is v w x y p q l m u);
    bare = λ u o none. bare_below v w x y p q l m u none;
    bare_up = λ u o none. (vertex_above v w x y p q l m u o, bare_above u none);
  }

  -- ---- the edge goes
  module _ (f s : Faces) (kept gone : CycleId) (gone_face : FaceId) (two : lead_in w x ≢ lead_in w y) (t : IsUniteApart v f s x y kept gone gone_face) (cy : IsCycled w s) where
    one : lead_in v a ≡ lead_in v b
    one = one_below v w x y p q l m a b A B na nb two

    part : PartsCycle (skeleton_of v) (skeleton_of w) (dart_in w x) (dart_in v a)
    part = parted v w x y p q l m a b A B na nb one

    has_up : (k : DartId) → HasDart v k → HasDart w k
    has_up k o = up v w x y p q l m k o

    apart : kept ≢ gone
    apart e = two ((cy.orbits x y m.more.first m.more.second).0 (t.first ∙ sym e ∙ sym t.second))

    lead_a : lead_in w a ≡ lead_in w x
    lead_a = lead_step w m.sound_more a (has_up a A) ∙ ap (lead_in w) na

    lead_b : lead_in w b ≡ lead_in w y
    lead_b = lead_step w m.sound_more b (has_up b B) ∙ ap (lead_in w) nb

    cycle_a : cycle_in s a ≡ gone
    cycle_a = (cy.orbits a x (has_up a A) m.more.first).1 lead_a ∙ t.first

    cycle_b : cycle_in s b ≡ kept
    cycle_b = (cy.orbits b y (has_up b B) m.more.second).1 lead_b ∙ t.second

    out : is_outer (skeleton_of w) (dart_in w x) ≡ true
    out = (kind_at w s x m.sound_more cy m.more.first).0 (ap (kind_in s) t.first ∙ t.outer)

    from_x : (k : DartId) → HasDart v k → lead_in w k ≡ lead_in w x → lead_in v k ≡ lead_in v a
    from_x k o e = part.cycles.from_d (dart_in v k) (listed v w x y p q l m k o) (sym (lead_old v w x y p q l m k o) ∙ e)

    from_y : (k : DartId) → HasDart v k → lead_in w k ≡ lead_in w y → lead_in v k ≡ lead_in v a
    from_y k o e = part.cycles.from_m (dart_in v k) (listed v w x y p q l m k o) (sym (lead_old v w x y p q l m k o) ∙ e ∙ lead_second v w x y p q l m)

    data Sort (k : DartId) : Type 0 where
      on : lead_in v k ≡ lead_in v a → cycle_in f k ≡ kept → Sort k
      off : lead_in v k ≢ lead_in v a → cycle_in s k ≢ gone → cycle_in s k ≢ kept → cycle_in f k ≡ cycle_in s k → Sort k

    sort : (k : DartId) → HasDart v k → Sort k
    sort k o = elim (cycle_cases (cycle_in s k) gone) [
      | inl e ↦ on (from_x k o ((cy.orbits k x (has_up k o) m.more.first).0 (e ∙ sym t.first))) (t.moved k o e)
      | inr n ↦ elim (cycle_cases (cycle_in s k) kept) [
        | inl e ↦ on (from_y k o ((cy.orbits k y (has_up k o) m.more.second).0 (e ∙ sym t.second))) (t.others k o n ∙ e)
        | inr n' ↦ off
            (λ e. elim (part.cycles.within (dart_in v k) (listed v w x y p q l m k o) e) [
              | inl r ↦ n ((cy.orbits k x (has_up k o) m.more.first).1 (lead_old v w x y p q l m k o ∙ r) ∙ t.first)
              | inr r ↦ n' ((cy.orbits k y (has_up k o) m.more.second).1 (lead_old v w x y p q l m k o ∙ r ∙ sym (lead_second v w x y p q l m)) ∙ t.second)
            ]) n n' (t.others k o n)
      ]
    ]

    same : (k j : DartId) → HasDart v k → HasDart v j → Sort k → Sort j → (cycle_in f k ≡ cycle_in f j) ↔ (lead_in v k ≡ lead_in v j)
    same k j o o' (on e c) (on e' c') = (λ z. e ∙ sym e', λ z. c ∙ sym c')
    same k j o o' (on e c) (off n g n' c') = (λ z. absurd (n' (sym c' ∙ sym z ∙ c)), λ z. absurd (n (sym z ∙ e)))
    same k j o o' (off n g n' c) (on e c') = (λ z. absurd (n' (sym c ∙ z ∙ c')), λ z. absurd (n (z ∙ e)))
    same k j o o' (off n g n' c) (off i g' i' c') =
        let r = cy.orbits k j (has_up k o) (has_up j o') in
        let K = listed v w x y p q l m k o in
        let J = listed v w x y p q l m j o' in
        let lk = lead_old v w x y p q l m k o in
        let lj = lead_old v w x y p q l m j o' in
        (λ z. part.cycles.kept (dart_in v k) (dart_in v j) K J (sym lk ∙ r.0 (sym c ∙ z ∙ c') ∙ lj), λ z. c ∙ r.1 (lk ∙ part.cycles.still (dart_in v k) (dart_in v j) K J n z ∙ sym lj) ∙ sym c')

    -- of a cycle that was parted, the part that isn't the outer one kept the kind
    kept_kind : is_outer (skeleton_of w) (dart_in w y) ≡ is_outer (skeleton_of v) (dart_in v a)
    kept_kind = ap (is_outer (skeleton_of w)) (twins v w x y p q l m) ∙ go (is_outer (skeleton_of v) (dart_in v a)) refl
      where
        go : (c : Bool) → is_outer (skeleton_of v) (dart_in v a) ≡ c → is_outer (skeleton_of w) (twin (dart_in w x)) ≡ is_outer (skeleton_of v) (dart_in v a)
        go true e = (part.of_outer e).1 ∙ sym e
        go false e = part.of_inner e ∙ ap not out ∙ sym e

    kind : (k : DartId) → HasDart v k → Sort k → KindsAreTold v f k
    kind k o (on e c) =
        let r = kind_at w s y m.sound_more cy m.more.second in
        let i = ap (kind_in f) (c ∙ sym cycle_b) ∙ t.kinds b B (λ z. apart (sym cycle_b ∙ z)) ∙ ap (kind_in s) (cycle_b ∙ sym t.second) in
        let j = one_kind_each.kind (skeleton_of v) (dart_in v k) (dart_in v a) m.sound.plane e ∙ sym kept_kind in
        (λ z. j ∙ r.0 (sym i ∙ z), λ z. i ∙ r.1 (sym j ∙ z))
    kind k o (off n g n' c) =
        let r = kind_at w s k m.sound_more cy (has_up k o) in
        let i = ap (kind_in f) c ∙ t.kinds k o g in
        let j = sym (part.kinds (dart_in v k) (is_dart v w x y p q l m k o) n) ∙ ap (is_outer (skeleton_of w)) (sym (drawn_old v w x y p q l m k o)) in
        (λ z. j ∙ r.0 (sym i ∙ z), λ z. i ∙ r.1 (sym j ∙ z))

    pub united_cycles : IsCycled v f
    united_cycles = cycled_by v f m.sound (λ k j o o'. same k j o o' (sort k o) (sort j o')) (λ k o. kind k o (sort k o))

    -- ---- faces
    module _ (told : AreFacesTold w s) where
      item_up : (i : Item) → HasItem v i → HasItem w i
      item_up outside h = tt
      item_up (beside k) h = has_up k h
      item_up (round u) h = (vertex_above v w x y p q l m u h.0, bare_above u h.1)

      lies : (i : (i : Item) × HasItem v i) → LiesIn (skeleton_of v) (skeleton_of w) (dart_in w y).edge (cell_at w i.0) (cell_at v i.0)
      lies i = go i.0 i.1
        where
          go : (i : Item) → HasItem v i → LiesIn (skeleton_of v) (skeleton_of w) (dart_in w y).edge (cell_at w i) (cell_at v i)
          go outside h = first_lies v w y x q p l back
          go (beside k) h = old_lies v w y x q p l back k h
          go (round u) h = vertex_lies v w y x q p l back u h.0

      abbrev name : (i : Item) × HasItem v i → FaceId
      name i = name_at s i.0

      abbrev next : (i : Item) × HasItem v i → FaceId
      next i = name_at f i.0

      told_before : (i j : (i : Item) × HasItem v i) → (name_at s i.0 ≡ name_at s j.0) ↔ SameFace (skeleton_of w) (cell_at w i.0) (cell_at w j.0)
      told_before i j = told.same i.0 j.0 (item_up i.0 i.1) (item_up j.0 j.1)

      name_gone : name_at s (beside a) ≡ gone_face
      name_gone = ap (face_in s) cycle_a ∙ t.face_gone

      name_kept : name_at s (beside b) ≡ face_in s kept
      name_kept = ap (face_in s) cycle_b

      -- what is far outside isn't in the face of an outer cycle
      not_far : name_at s outside ≢ gone_face
      not_far e =
          let k = (told.same outside (beside a) tt (has_up a A)).0 (e ∙ sym name_gone) in
          let r = one_kind_each.face (skeleton_of w) (dart_in w a) (dart_in w x) m.sound_more.plane lead_a in
          let z = one_outer_cycle.unbounded (skeleton_of w) (dart_in w x) m.sound_more.plane (there_dart (skeleton_of w) (dart_in w x) (names_are_darts.known w x m.sound_more m.more.first)) (face_sym _ _ _ (face_trans _ _ _ _ k r)) in
          true≢false (sym out ∙ z)

      moved : (i : Item) → HasItem v i → name_at s i ≡ gone_face → name_at f i ≡ face_in s kept
      moved outside h e = absurd (not_far e)
      moved (beside k) h e = elim (cycle_cases (cycle_in s k) gone) [
        | inl z ↦ ap (face_in f) (t.moved k h z) ∙ t.face_kept
        | inr n ↦ ap (face_in f) (t.others k h n) ∙ t.face_moved k h n e
      ]
      moved (round u) h e = t.bare_moved u h e

      others : (i : Item) → HasItem v i → name_at s i ≢ gone_face → name_at f i ≡ name_at s i
      others outside h n = t.first_stays
      others (beside k) h n =
          let g : cycle_in s k ≢ gone = λ z. n (ap (face_in s) z ∙ t.face_gone) in
          ap (face_in f) (t.others k h g) ∙ t.face_off k h g n
      others (round u) h n = t.bare_off u h n

      merged : AreNamesMerged name next (name_at s (beside b)) (name_at s (beside a))
      merged = record {
        moved = λ i e. moved i.0 i.1 (e ∙ name_gone) ∙ sym name_kept;
        others = λ i n. others i.0 i.1 (λ e. n (e ∙ sym name_gone));
      }

      told_after : (i j : (i : Item) × HasItem v i) → (name_at f i.0 ≡ name_at f j.0) ↔ SameFace (skeleton_of v) (cell_at v i.0) (cell_at v j.0)
      told_after =
          face_names_merge ((i : Item) × HasItem v i) (skeleton_of v) (skeleton_of w) (dart_in w y) (dart_in v b) (λ i. cell_at v i.0) (λ i. cell_at w i.0) name next (beside b, B) (beside a, A)
          (is_more v w y x q p l back) (parted v w y x q p l back b a B A nb na (sym one)) lies
          (one_kind_each.face (skeleton_of w) (dart_in w b) (dart_in w y) m.sound_more.plane lead_b)
          (subst (λ z. SameFace (skeleton_of w) (left_of_dart (skeleton_of w) (dart_in w a)) (left_of_dart (skeleton_of w) z)) (twins v w y x q p l back) (one_kind_each.face (skeleton_of w) (dart_in w a) (dart_in w x) m.sound_more.plane lead_a))
          merged told_before

      item_of : (i : Item) → HasItem w i → name_at s i ≢ gone_face → (j : Item) × HasItem v j × (name_at f j ≡ name_at s i)
      item_of outside h n = (outside, tt, t.first_stays)
      item_of (beside k) h n = elim (sorted v w x y p q l m k h) [
        | inl o ↦ (beside k, o, others (beside k) o n)
        | inr z ↦ elim z [
          | inl e ↦ absurd (n (ap (λ j. face_in s (cycle_in s j)) e ∙ ap (face_in s) t.first ∙ t.face_gone))
          | inr e ↦
              let r : name_at s (beside b) ≡ name_at s (beside k) = name_kept ∙ sym (ap (λ j. face_in s (cycle_in s j)) e ∙ ap (face_in s) t.second) in
              (beside b, B, others (beside b) B (λ g. n (sym r ∙ g)) ∙ r)
        ]
      ]
      item_of (round u) h n =
          let o : HasItem v (round u) = (vertex_below v w x y p q l m u h.0, bare_below v w x y p q l m u h.1) in
          (round u, o, others (round u) o n)

      pub united_faces : AreFacesTold v f
      united_faces = record {
        there = subst (HasFace f) (sym t.first_stays) ((t.faces (first_or s.faces)).1 (told.there, not_far));
        same = λ i j hi hj. told_after (i, hi) (j, hj);
        all = λ c h.
            let r = (t.faces c).0 h in
            let i = told.all c r.0 in
            let j = item_of i.0 i.1 (λ e. r.1 (sym i.2 ∙ e)) in
            (j.0, j.1, j.2 ∙ i.2);
      }

pub two_faces_apart : TwoFacesApart
two_faces_apart = record {
  within = λ v w x y p q l a b m A B na nb. (two_above v w x y p q l m a b A B na nb, one_below v w x y p q l m a b A B na nb);
  linked = λ v w x y p q l a b m A B na nb one. linked v w x y p q l m a b A B na nb one;
  united_cycles = λ v w f s x y p q l a b kept gone gone_face m A B na nb two t cy. united_cycles v w x y p q l m a b A B na nb f s kept gone gone_face two t cy;
  united_faces = λ v w f s x y p q l a b kept gone gone_face m A B na nb two t cy told. united_faces v w x y p q l m a b A B na nb f s kept gone gone_face two t cy told;
}

-- Where one more edge parts a cycle: records that are written as `IsSplitInto` says stand for cycles and faces again.
-- v and f are the view and its faces before, w and s after; x is the dart of the fresh cycle, y its twin, a the dart that x comes after; g and h are the graphs that v and w draw.
use Rattle.std.proofs.Common.{◌≡◌, ◌≢◌, ◌↔◌, Bool, true, false, refl, sym, ap, ◌∙◌, subst, ◌⊎◌, inl, inr}
use Rattle.std.specs.Prelude.{not, map}
use Rattle.std.specs.List.{Contains}
use Rattle.std.proofs.lemmas.Bool.{true≢false}
use Rattle.slab_laws.specs.declared.names.CycleId.{CycleId}
use Rattle.slab_laws.specs.declared.names.CycleKind.TheVariants.{Outer}
use Rattle.slab_laws.specs.declared.names.DartId.{DartId}
use Rattle.slab_laws.specs.declared.names.FaceId.{FaceId}
use Rattle.slab_laws.specs.declared.names.VertexId.{VertexId}
use Rattle.slab_laws.specs.declared.slab_cell.SlabCell.{SlabCell}
use Rattle.slab_laws.specs.Skeleton.{Skeleton, IsPlaneSkeleton}
use Rattle.slab_laws.specs.Darts.{Dart, darts}
use Rattle.slab_laws.specs.Meets.{SameFace}
use Rattle.slab_laws.specs.Changes.{merged, IsCell}
use Rattle.slab_laws.specs.Cycles.{left_of_dart}
use Rattle.slab_laws.specs.FacesSound.{lead_in, IsCycled, IsComplete}
use Rattle.slab_laws.specs.Rotation.{twin}
use Rattle.slab_laws.specs.Rows.{least_dart_of}
use Rattle.slab_laws.specs.Slabs.{left_cell}
use Rattle.slab_laws.specs.Sound.{skeleton_of, dart_in, IsGraphSound}
use Rattle.slab_laws.specs.Subdivision.{first_cell}
use Rattle.slab_laws.specs.View.{View, Faces, HasVertex, HasDart, HasCycle, HasFace, point_in, cycle_in, kind_in, face_in}
use Rattle.slab_faces.proofs.Member.{member_in, in_member, map_in}
use Rattle.slab_faces.proofs.Turns.{face_at, face_trans, face_sym}
use Rattle.sound_views.specs.Orders.{vertex_order}
use Rattle.sound_views.proofs.NamedDarts.{names_are_darts}
use Rattle.sound_views.proofs.NamesOrdered.{vertices_in_order, vertices_are_ordered}
use Rattle.sound_changes.specs.NextLaws.{IsDartOf}
use Rattle.face_changes.specs.Kinds.{odd_at, is_outer}
use Rattle.face_changes.specs.OneMoreEdge.{LiesIn}
use Rattle.face_changes.specs.FaceNames.{NamesTellFaces, AreNamesParted}
use Rattle.face_changes.specs.FacesByPairs.{Item, outside, beside, round, HasItem, cell_at, name_at, first_or, AreFacesTold}
use Rattle.face_changes.specs.RecordsAfterSplits.{IsLinkedWithin, IsSplitInto, RecordsAfterSplits}
use Rattle.face_changes.proofs.LinkedCycles.{there_dart}
use Rattle.face_changes.proofs.CycleParities.{choose}
use Rattle.face_changes.proofs.OneMoreEdge.{one_kind_each, one_outer_cycle, cells_with_one_more_edge, faces_with_one_more_edge, sides_of_one_more_edge}
use Rattle.face_changes.proofs.FacesByPairs.{has_name}
use Rattle.face_changes.proofs.FaceNames.{face_cases, face_names_part}

-- the point of a vertex is one of the graph's
pub vertex_known : (v : View) (u : VertexId) → IsGraphSound v → HasVertex v u → Contains (skeleton_of v).vertices (point_in v u)
vertex_known v u s h =
    let m = map_in (point_in v) (vertex_order v) u (in_member (vertex_order v) u ((vertices_are_ordered v u s).0 h)) in
    subst (λ ps. Contains ps (point_in v u)) (vertices_in_order v s) (member_in (map (point_in v) (vertex_order v)) (point_in v u) m)

module _ (v w : View) (f s : Faces) (x y a : DartId) (fresh : CycleId) (fresh_face : FaceId) (l : IsLinkedWithin v w x y a) (full : IsComplete v f) (cy : IsCycled v f) (p : IsSplitInto v w f s x y a fresh fresh_face) (out : is_outer (skeleton_of w) (dart_in w x) ≡ true) where
  abbrev g : Skeleton
  g = skeleton_of v

  abbrev h : Skeleton
  h = skeleton_of w

  abbrev X : Dart
  X = dart_in w x

  plane_h : IsPlaneSkeleton (skeleton_of w)
  plane_h = l.is_more.plane_more

  listed : (k : DartId) → HasDart v k → Contains (darts (skeleton_of v)) (dart_in v k)
  listed k o = names_are_darts.known v k l.sound o

  is_dart : (k : DartId) → HasDart v k → IsDartOf (skeleton_of v) (dart_in v k)
  is_dart k o = there_dart (skeleton_of v) (dart_in v k) (listed k o)

  lead_y : lead_in w y ≡ least_dart_of (skeleton_of w) (twin (dart_in w x))
  lead_y = ap (least_dart_of (skeleton_of w)) l.twins

  -- the label of an old dart with the edge
  lead_old : (k : DartId) → HasDart v k → lead_in w k ≡ least_dart_of (skeleton_of w) (dart_in v k)
  lead_old k o = ap (least_dart_of (skeleton_of w)) (l.old k o).1

  data Sort (k : DartId) : Type 0 where
    on_x : lead_in w k ≡ lead_in w x → cycle_in s k ≡ fresh → (HasDart v k → cycle_in f k ≡ cycle_in f a) → Sort k
    on_y : lead_in w k ≡ lead_in w y → cycle_in s k ≡ cycle_in f a → (HasDart v k → cycle_in f k ≡ cycle_in f a) → Sort k
    off : HasDart v k → lead_in v k ≢ lead_in v a → cycle_in f k ≢ cycle_in f a → cycle_in s k ≡ cycle_in f k → Sort k

  to_a : (k : DartId) → HasDart v k → lead_in v k ≡ lead_in v a → cycle_in f k ≡ cycle_in f a
  to_a k o q = (cy.orbits k a o l.place).1 q

  sort : (k : DartId) → HasDart w k → Sort k
  sort k t = elim (l.new k t) [
    | inl o ↦ elim (choose (lead_in v k) (lead_in v a)) [
      | inl q ↦ elim (l.parted.cycles.within (dart_in v k) (listed k o) q) [
        | inl r ↦ let e = lead_old k o ∙ r in on_x e (p.on_fresh k t e) (λ o'. to_a k o' q)
        | inr r ↦ let e = lead_old k o ∙ r ∙ sym lead_y in on_y e (p.on_kept k t e) (λ o'. to_a k o' q)
      ]
      | inr n ↦ let c : cycle_in f k ≢ cycle_in f a = λ q. n ((cy.orbits k a o l.place).0 q) in off o n c (p.on_other k o c)
    ]
    | inr e ↦ elim e [
      | inl q ↦ let r : lead_in w k ≡ lead_in w x = ap (lead_in w) q in on_x r (p.on_fresh k t r) (λ o. to_a k o (l.parted.cycles.from_d (dart_in v k) (listed k o) (sym (lead_old k o) ∙ r)))
      | inr q ↦ let r : lead_in w k ≡ lead_in w y = ap (lead_in w) q in on_y r (p.on_kept k t r) (λ o. to_a k o (l.parted.cycles.from_m (dart_in v k) (listed k o) (sym (lead_old k o) ∙ r ∙ lead_y)))
    ]
  ]

  not_fresh : (k : DartId) → HasDart v k → cycle_in f k ≢ fresh
  not_fresh k o q = p.new_cycle (subst (HasCycle f) q (full.cycle_has k o))

  two : lead_in w x ≢ lead_in w y
  two q = l.parted.cycles.two (q ∙ lead_y)

  not_on_x : (k : DartId) → HasDart v k → lead_in v k ≢ lead_in v a → lead_in w k ≢ lead_in w x
  not_on_x k o n q = n (l.parted.cycles.from_d (dart_in v k) (listed k o) (sym (lead_old k o) ∙ q))

  not_on_y : (k : DartId) → HasDart v k → lead_in v k ≢ lead_in v a → lead_in w k ≢ lead_in w y
  not_on_y k o n q = n (l.parted.cycles.from_m (dart_in v k) (listed k o) (sym (lead_old k o) ∙ q ∙ lead_y))

  orbits : (k j : DartId) → Sort k → Sort j → (cycle_in s k ≡ cycle_in s j) ↔ (lead_in w k ≡ lead_in w j)
  orbits k j (on_x q c u) (on_x q' c' u') = (λ _. q ∙ sym q', λ _. c ∙ sym c')
  orbits k j (on_x q c u) (on_y q' c' u') = (λ e. absurd (not_fresh a l.place (sym c' ∙ sym e ∙ c)), λ e. absurd (two (sym q ∙ e ∙ q')))
  orbits k j (on_x q c u) (off o n d c') = (λ e. absurd (not_fresh j o (sym c' ∙ sym e ∙ c)), λ e. absurd (not_on_x j o n (sym e ∙ q)))
  orbits k j (on_y q c u) (on_x q' c' u') = (λ e. absurd (not_fresh a l.place (sym c ∙ e ∙ c')), λ e. absurd (two (sym q' ∙ sym e ∙ q)))
  orbits k j (on_y q c u) (on_y q' c' u') = (λ _. q ∙ sym q', λ _. c ∙ sym c')
  orbits k j (on_y q c u) (off o n d c') = (λ e. absurd (d (sym c' ∙ sym e ∙ c)), λ e. absurd (not_on_y j o n (sym e ∙ q)))
  orbits k j (off o n d c) (on_x q' c' u') = (λ e. absurd (not_fresh k o (sym c ∙ e ∙ c')), λ e. absurd (not_on_x k o n (e ∙ q')))
  orbits k j (off o n d c) (on_y q' c' u') = (λ e. absurd (d (sym c ∙ e ∙ c')), λ e. absurd (not_on_y k o n (e ∙ q')))
  orbits k j (off o n d c) (off o' n' d' c') = (
    λ e. lead_old k o ∙ l.parted.cycles.still (dart_in v k) (dart_in v j) (listed k o) (listed j o') n ((cy.orbits k j o o').0 (sym c ∙ e ∙ c')) ∙ sym (lead_old j o'),
    λ e. c ∙ (cy.orbits k j o o').1 (l.parted.cycles.kept (dart_in v k) (dart_in v j) (listed k o) (listed j o') (sym (lead_old k o) ∙ e ∙ lead_old j o')) ∙ sym c',
  )

  -- ---- kinds
  kept_kind : is_outer (skeleton_of w) (twin (dart_in w x)) ≡ is_outer (skeleton_of v) (dart_in v a)
  kept_kind = go (is_outer (skeleton_of v) (dart_in v a)) refl
    where
      go : (b : Bool) → is_outer (skeleton_of v) (dart_in v a) ≡ b → is_outer (skeleton_of w) (twin (dart_in w x)) ≡ is_outer (skeleton_of v) (dart_in v a)
      go true e = (l.parted.of_outer e).1 ∙ sym e
      go false e = l.parted.of_inner e ∙ ap not out ∙ sym e

  old_kind : (k : DartId) → HasDart v k → (kind_in f (cycle_in f k) ≡ Outer) ↔ (is_outer (skeleton_of v) (dart_in v k) ≡ true)
  old_kind k o =
      let e = one_kind_each.lead (skeleton_of v) (dart_in v k) l.is_more.plane in
      (λ q. e ∙ (cy.kind k o).0 q, λ q. (cy.kind k o).1 (sym e ∙ q))

  kinds : (k : DartId) → Sort k → (kind_in s (cycle_in s k) ≡ Outer) ↔ (is_outer (skeleton_of w) (dart_in w k) ≡ true)
  kinds k (on_x q c u) = (λ _. one_kind_each.kind h (dart_in w k) X plane_h q ∙ out, λ _. ap (kind_in s) c ∙ p.kind_fresh)
  kinds k (on_y q c u) =
      let r = one_kind_each.kind h (dart_in w k) (twin X) plane_h (q ∙ lead_y) ∙ kept_kind in
      let t = ap (kind_in s) c ∙ p.kind_old (cycle_in f a) (full.cycle_has a l.place) in
      (λ e. r ∙ (old_kind a l.place).0 (sym t ∙ e), λ e. t ∙ (old_kind a l.place).1 (sym r ∙ e))
  kinds k (off o n d c) =
      let r = ap (is_outer h) (l.old k o).1 ∙ l.parted.kinds (dart_in v k) (is_dart k o) n in
      let t = ap (kind_in s) c ∙ p.kind_old (cycle_in f k) (full.cycle_has k o) in
      (λ e. r ∙ (old_kind k o).0 (sym t ∙ e), λ e. t ∙ (old_kind k o).1 (sym r ∙ e))

  cycled : IsCycled w s
  cycled = record {
    orbits = λ k j t t'. orbits k j (sort k t) (sort j t');
    kind = λ k t.
        let e = one_kind_each.lead h (dart_in w k) plane_h in
        let r = kinds k (sort k t) in
        (λ q. sym e ∙ r.0 q, λ q. r.1 (e ∙ q));
  }

  -- ---- faces
  module _ (t : AreFacesTold v f) where
    abbrev new_cell : (i : Item) × HasItem w i → SlabCell
    new_cell i = cell_at w i.0

    abbrev old_cell : (i : Item) × HasItem w i → SlabCell
    old_cell i = merged (skeleton_of v) (dart_in w x).edge (cell_at w i.0)

    -- what had the same face before: of a new dart the one that it comes after
    abbrev as_dart : (k : DartId) → HasDart v k ⊎ (k ≡ x) ⊎ (k ≡ y) → Item
    as_dart k (inl o) = beside k
    as_dart k (inr e) = beside a

    abbrev rep : (i : Item) → HasItem w i → Item
    rep outside t = outside
    rep (beside k) t = as_dart k (l.new k t)
    rep (round u) t = round u

    dart_rep : (k : DartId) (c : HasDart v k ⊎ (k ≡ x) ⊎ (k ≡ y)) → HasItem v (as_dart k c)
    dart_rep k (inl o) = o
    dart_rep k (inr e) = l.place

    rep_there : (i : Item) (t : HasItem w i) → HasItem v (rep i t)
    rep_there outside t = tt
    rep_there (beside k) t = dart_rep k (l.new k t)
    rep_there (round u) t = ((l.vertices u t.0).0, l.bare u t.0 t.1)

    -- ---- cells
    real_x : IsCell (skeleton_of v) (dart_in w x).edge (left_of_dart (skeleton_of w) (dart_in w x))
    real_x = cells_with_one_more_edge.new g h X l.is_more

    real_y : IsCell (skeleton_of v) (dart_in w x).edge (left_of_dart (skeleton_of w) (twin (dart_in w x)))
    real_y = cells_with_one_more_edge.new g h (twin X) l.is_more

    at_y : left_of_dart (skeleton_of w) (dart_in w y) ≡ left_of_dart (skeleton_of w) (twin (dart_in w x))
    at_y = ap (left_of_dart (skeleton_of w)) l.twins

    old_lies : (k : DartId) → HasDart v k → LiesIn g h X.edge (left_of_dart h (dart_in w k)) (left_of_dart g (dart_in v k))
    old_lies k o = subst (λ d. LiesIn g h X.edge (left_of_dart h d) (left_of_dart g (dart_in v k))) (sym (l.old k o).1) (cells_with_one_more_edge.dart g h X (dart_in v k) l.is_more (is_dart k o))

    vertex_lies : (u : VertexId) → HasVertex w u → LiesIn g h X.edge (left_cell h (point_in w u)) (left_cell g (point_in v u))
    vertex_lies u t =
        let q = l.vertices u t in
        subst (λ z. LiesIn g h X.edge (left_cell h z) (left_cell g (point_in v u))) (sym q.1) (cells_with_one_more_edge.vertex g h X (point_in v u) l.is_more (vertex_known v u l.sound q.0))

    dart_real : (k : DartId) → HasDart v k ⊎ (k ≡ x) ⊎ (k ≡ y) → IsCell g X.edge (left_of_dart h (dart_in w k))
    dart_real k (inl o) = (old_lies k o).real
    dart_real k (inr (inl q)) = subst (λ j. IsCell g X.edge (left_of_dart h (dart_in w j))) (sym q) real_x
    dart_real k (inr (inr q)) = subst (λ j. IsCell g X.edge (left_of_dart h (dart_in w j))) (sym q) (subst (IsCell g X.edge) (sym at_y) real_y)

    real : (i : Item) → HasItem w i → IsCell g X.edge (cell_at w i)
    real outside t = (cells_with_one_more_edge.first g h X l.is_more).real
    real (beside k) t = dart_real k (l.new k t)
    real (round u) t = (vertex_lies u t.0).real

    lies : (i : (i : Item) × HasItem w i) → LiesIn g h X.edge (cell_at w i.0) (merged g X.edge (cell_at w i.0))
    lies i = record { real = real i.0 i.1; in' = refl }

    dart_near : (k : DartId) (c : HasDart v k ⊎ (k ≡ x) ⊎ (k ≡ y)) → SameFace g (merged g X.edge (left_of_dart h (dart_in w k))) (cell_at v (as_dart k c))
    dart_near k (inl o) = face_at g _ _ (old_lies k o).in'
    dart_near k (inr (inl q)) = subst (λ j. SameFace g (merged g X.edge (left_of_dart h (dart_in w j))) (left_of_dart g (dart_in v a))) (sym q) (l.parted.near _ (record { real = real_x; in' = refl }))
    dart_near k (inr (inr q)) =
        subst (λ j. SameFace g (merged g X.edge (left_of_dart h (dart_in w j))) (left_of_dart g (dart_in v a))) (sym q)
        (subst (λ c. SameFace g (merged g X.edge c) (left_of_dart g (dart_in v a))) (sym at_y) (l.parted.near_twin _ (record { real = real_y; in' = refl })))

    near : (i : Item) (t : HasItem w i) → SameFace g (merged g X.edge (cell_at w i)) (cell_at v (rep i t))
    near outside t = face_at g _ _ (cells_with_one_more_edge.first g h X l.is_more).in'
    near (beside k) t = dart_near k (l.new k t)
    near (round u) t = face_at g _ _ (vertex_lies u t.0).in'

    -- ---- names before
    abbrev name : (i : Item) × HasItem w i → FaceId
    name i = name_at f (rep i.0 i.1)

    abbrev next : (i : Item) × HasItem w i → FaceId
    next i = name_at s i.0

    told_before : NamesTellFaces g old_cell name
    told_before i j =
        let q = t.same (rep i.0 i.1) (rep j.0 j.1) (rep_there i.0 i.1) (rep_there j.0 j.1) in (
          λ e. face_trans g _ _ _ (near i.0 i.1) (face_trans g _ _ _ (q.0 e) (face_sym g _ _ (near j.0 j.1))),
          λ k. q.1 (face_trans g _ _ _ (face_sym g _ _ (near i.0 i.1)) (face_trans g _ _ _ k (near j.0 j.1))),
        )

    name_old : (k : DartId) → HasDart v k → (c : HasDart v k ⊎ (k ≡ x) ⊎ (k ≡ y)) → name_at f (as_dart k c) ≡ face_in f (cycle_in f k)
    name_old k o (inl o') = refl
    name_old k o (inr (inl q)) = absurd (l.first_new (subst (HasDart v) q o))
    name_old k o (inr (inr q)) = absurd (l.second_new (subst (HasDart v) q o))

    -- a dart of either half had the face of a
    name_half : (k : DartId) → (HasDart v k → cycle_in f k ≡ cycle_in f a) → (c : HasDart v k ⊎ (k ≡ x) ⊎ (k ≡ y)) → name_at f (as_dart k c) ≡ face_in f (cycle_in f a)
    name_half k u (inl o) = ap (face_in f) (u o)
    name_half k u (inr e) = refl

    abbrev place : (i : Item) × HasItem w i
    place = (beside x, l.first)

    place_name : name (beside x, l.first) ≡ face_in f (cycle_in f a)
    place_name = name_half x (λ o. absurd (l.first_new o)) (l.new x l.first)

    -- ---- what is within the fresh cycle, and what isn't
    odd_on : (c d : SlabCell) → IsCell g X.edge c → IsCell g X.edge d → SameFace h c d → odd_at h X c ≡ odd_at h X d
    odd_on c d C D k = ((faces_with_one_more_edge g h X c d _ _ l.is_more (record { real = C; in' = refl }) (record { real = D; in' = refl })).0 k).1

    odd_y : odd_at h X (left_of_dart h (twin X)) ≡ false
    odd_y = go (odd_at h X (left_of_dart h (twin X))) refl
      where
        go : (b : Bool) → odd_at h X (left_of_dart h (twin X)) ≡ b → odd_at h X (left_of_dart h (twin X)) ≡ false
        go false e = e
        go true e = absurd (true≢false (sym out ∙ sides_of_one_more_edge.two g h X l.is_more l.parted.cycles.two ∙ ap not e))

    within_x : (k : DartId) (t : HasDart w k) → lead_in w k ≡ lead_in w x → odd_at h X (left_of_dart h (dart_in w k)) ≡ true
    within_x k t q = odd_on _ _ (real (beside k) t) real_x (one_kind_each.face h (dart_in w k) X plane_h q) ∙ out

    without_y : (k : DartId) (t : HasDart w k) → lead_in w k ≡ lead_in w y → odd_at h X (left_of_dart h (dart_in w k)) ≡ false
    without_y k t q = odd_on _ _ (real (beside k) t) real_y (one_kind_each.face h (dart_in w k) (twin X) plane_h (q ∙ lead_y)) ∙ odd_y

    -- what is far outside isn't within it, where it was in the same face
    far : first_or f.faces ≡ face_in f (cycle_in f a) → odd_at h X first_cell ≡ true → ⊥
    far e b =
        let q = (t.same outside (beside a) tt l.place).0 e in
        let k = (faces_with_one_more_edge g h X first_cell (left_of_dart h X) first_cell _ l.is_more (cells_with_one_more_edge.first g h X l.is_more) (record { real = real_x; in' = refl })).1
        (face_trans g _ _ _ q (face_sym g _ _ (l.parted.near _ (record { real = real_x; in' = refl }))), b ∙ sym out) in
        true≢false (sym out ∙ one_outer_cycle.unbounded h X plane_h (there_dart h X (names_are_darts.known w x l.sound_more l.first)) (face_sym h _ _ k))

    dart_moved : (k : DartId) (t : HasDart w k) → Sort k → name (beside k, t) ≡ face_in f (cycle_in f a) → odd_at h X (left_of_dart h (dart_in w k)) ≡ true → face_in s (cycle_in s k) ≡ fresh_face
    dart_moved k t (on_x q c u) e b = ap (face_in s) c ∙ p.face_fresh
    dart_moved k t (on_y q c u) e b = absurd (true≢false (sym b ∙ without_y k t q))
    dart_moved k t (off o n d c) e b = ap (face_in s) c ∙ p.moved k o d (sym (name_old k o (l.new k t)) ∙ e) b

    dart_left : (k : DartId) (t : HasDart w k) → Sort k → name (beside k, t) ≡ face_in f (cycle_in f a) → (odd_at h X (left_of_dart h (dart_in w k)) ≡ true → ⊥) → face_in s (cycle_in s k) ≡ face_in f (cycle_in f a)
    dart_left k t (on_x q c u) e b = absurd (b (within_x k t q))
    dart_left k t (on_y q c u) e b = ap (face_in s) c ∙ p.face_kept
    dart_left k t (off o n d c) e b = ap (face_in s) c ∙ p.left k o d (sym (name_old k o (l.new k t)) ∙ e) b

    dart_off : (k : DartId) (t : HasDart w k) → Sort k → (name (beside k, t) ≡ face_in f (cycle_in f a) → ⊥) → face_in s (cycle_in s k) ≡ name (beside k, t)
    dart_off k t (on_x q c u) e = absurd (e (name_half k u (l.new k t)))
    dart_off k t (on_y q c u) e = absurd (e (name_half k u (l.new k t)))
    dart_off k t (off o n d c) e = let r = name_old k o (l.new k t) in ap (face_in s) c ∙ p.off k o (λ z. e (r ∙ z)) ∙ sym r

    moved : (i : Item) (t : HasItem w i) → name (i, t) ≡ face_in f (cycle_in f a) → odd_at h X (cell_at w i) ≡ true → name_at s i ≡ fresh_face
    moved outside t e b = absurd (far e b)
    moved (beside k) t e b = dart_moved k t (sort k t) e b
    moved (round u) t e b = p.bare_moved u ((l.vertices u t.0).0, l.bare u t.0 t.1) e b

    left : (i : Item) (t : HasItem w i) → name (i, t) ≡ face_in f (cycle_in f a) → (odd_at h X (cell_at w i) ≡ true → ⊥) → name_at s i ≡ face_in f (cycle_in f a)
    left outside t e b = p.first_stays ∙ e
    left (beside k) t e b = dart_left k t (sort k t) e b
    left (round u) t e b = p.bare_left u ((l.vertices u t.0).0, l.bare u t.0 t.1) e b

    others : (i : Item) (t : HasItem w i) → (name (i, t) ≡ face_in f (cycle_in f a) → ⊥) → name_at s i ≡ name (i, t)
    others outside t e = p.first_stays
    others (beside k) t e = dart_off k t (sort k t) e
    others (round u) t e = p.bare_off u ((l.vertices u t.0).0, l.bare u t.0 t.1) e

    is_moved : AreNamesParted h X new_cell name next (name place) fresh_face
    is_moved = record {
      fresh_one = λ i q. p.new_face (subst (HasFace f) q (has_name v f full t.there (rep i.0 i.1) (rep_there i.0 i.1)));
      moved = λ i e b. moved i.0 i.1 (e ∙ place_name) b;
      left = λ i e b. left i.0 i.1 (e ∙ place_name) b ∙ sym place_name;
      others = λ i e. others i.0 i.1 (λ q. e (q ∙ sym place_name));
    }

    told_after : NamesTellFaces h new_cell next
    told_after = face_names_part ((i : Item) × HasItem w i) g h X (dart_in v a) old_cell new_cell name next place fresh_face l.is_more l.parted lies (l.parted.near _ (record { real = real_x; in' = refl })) is_moved told_before

    -- ---- each record is that of something
    kept_up : (i : Item) → HasItem v i → (j : (i : Item) × HasItem w i) × (name j ≡ name_at f i)
    kept_up outside k = ((outside, tt), refl)
    kept_up (beside k) o = let u = (l.old k o).0 in ((beside k, u), name_old k o (l.new k u))
    kept_up (round u) o = ((round u, l.bare_up u o.0 o.1), refl)

    told : AreFacesTold w s
    told = record {
      there = subst (HasFace s) (sym p.first_stays) ((p.faces (first_or f.faces)).1 (inl t.there));
      same = λ i j hi hj. told_after (i, hi) (j, hj);
      all = λ b hb. elim ((p.faces b).0 hb) [
        | inr e ↦ (beside x, l.first, ap (face_in s) (p.on_fresh x l.first refl) ∙ p.face_fresh ∙ sym e)
        | inl k ↦ elim (face_cases b (face_in f (cycle_in f a))) [
          | inl e ↦ (beside y, l.second, ap (face_in s) (p.on_kept y l.second refl) ∙ p.face_kept ∙ sym e)
          | inr n ↦
              let i = t.all b k in
              let j = kept_up i.0 i.1 in
              let q = j.1 ∙ i.2 in
              (j.0.0, j.0.1, others j.0.0 j.0.1 (λ e. n (sym q ∙ e)) ∙ q)
        ]
      ];
    }

pub records_after_splits : RecordsAfterSplits
records_after_splits = record {
  cycled = λ v w f s x y a fresh fresh_face l full cy p out. cycled v w f s x y a fresh fresh_face l full cy p out;
  told = λ v w f s x y a fresh fresh_face l full cy t p out. told v w f s x y a fresh fresh_face l full cy p out t;
}

-- The face of a point is that over the highest edge below it.
use Rattle.std.proofs.Common.{◌≡◌, ℕ, ◌+◌, ◌<◌, ◌≤◌, Bool, true, false, cond, arith, refl, sym, ap, ◌∙◌, ◌⊎◌, inl, inr, subst, zero, suc}
use Rattle.std.specs.Prelude.{not, ◌&&◌, ◌||◌, Some, None}
use Rattle.std.specs.List.{Contains}
use Rattle.std.proofs.lemmas.Bool.{false≢true, and_parts, and_from, not-true, false_from_ne_true, cases_Bool}
use Rattle.exact_plane.specs.Point.{Point}
use Rattle.plane_graphs.specs.Graph.{Edge}
use Rattle.slab_laws.specs.declared.slab_cell.SlabCell.{SlabCell}
use Rattle.slab_laws.specs.Skeleton.{Skeleton, HasWeight, left_of, lower_than, side, over, under, below, precedes, same_edge, IsPlaneSkeleton}
use Rattle.slab_laws.specs.Slabs.{spans, place, slab_left, slab_right, reaches_right, left_cell, right_count, forward_cell}
use Rattle.slab_laws.specs.Meets.{SameFace, here, right}
use Rattle.slab_laws.specs.Faces.{walls, wall_links, lowest_link, links}
use Rattle.slab_laws.specs.Darts.{cell_by}
use Rattle.slab_laws.specs.Subdivision.{first_cell}
use Rattle.slab_faces.proofs.OverUnder.{on_neither, under_not_over}
use Rattle.slab_faces.specs.PointLaws.{IsApart}
use Rattle.slab_faces.proofs.Sums.{each, sum_by-same, sum_by-plus, fewer}
use Rattle.slab_faces.proofs.Walls.{left_of-irrefl, left_of-asym, left_of-before, left_of-after, run_positive, over-lower}
use Rattle.slab_faces.proofs.Order.{below_from, below_asym, gap_positive}
use Rattle.slab_faces.proofs.Cells.{both, leb_not, ltb_yes, right_few, right_many, IsSideOf, not_right_trans}
use Rattle.slab_faces.proofs.Slabs.{same_edge_is, same_edge_refl}
use Rattle.slab_faces.proofs.Along.{below_self}
use Rattle.slab_faces.proofs.Turns.{face_trans, face_sym, le_antisym, one_more, wall_before, greatest}
use Rattle.slab_faces.proofs.Outside.{to_first}
use Rattle.slab_faces.proofs.Member.{Member, member_in, in_member, flat_in}
use Rattle.slab_faces.proofs.WallsLemmas.{wall_of_vertex, wall_vertex}
use Rattle.slab_faces.proofs.FacesLemmas.{link_is_meet}
use Rattle.slab_faces.proofs.Searches.{best_of}
use Rattle.slab_faces.proofs.EveryFace.{none_counted, passing}
use Rattle.slab_faces.proofs.InnerPoints.{no_sign}
use Rattle.slab_faces.proofs.PointLemmas.{points_have_one_face}
use Rattle.edge_predicates.specs.Highest.{IsSpanning, none_below, highest}
use Rattle.edge_predicates.specs.FaceLaws.{FaceIsOverHighest}
use Rattle.slab_faces.proofs.Points.{before_left, before_lower, before_weak}
use Rattle.edge_predicates.proofs.Seen.{reaches}

-- ---- the edges in the slab on the right of q, whether q is on a wall or not
pub side_right : (g : Skeleton) (q : Point) → IsPlaneSkeleton g → HasWeight q → IsSideOf g q (slab_right g q) (λ e. reaches_right e q)
side_right g q plane T = record {
  spanned = λ e E.
      let p = plane.proper_edge e E in
      both _ _ _ _
      (leb_not _ _ _ (λ h. right_few g e.low q plane p.0 T h) (λ h. right_many g e.low q plane (plane.lower_in e E) T h))
      (ltb_yes _ _ _ (λ h. right_few g e.high q plane p.1 T h) (λ h. right_many g e.high q plane (plane.upper_in e E) T h));
  passes = λ f e F E rf re.
      let a = and_parts (not (left_of q f.low)) (left_of q f.high) rf in
      let b = and_parts (not (left_of q e.low)) (left_of q e.high) re in
      let a' = not-true _ a.0 in
      let b' = not-true _ b.0 in
      let p = plane.proper_edge f F in
      let r = plane.proper_edge e E in
      record {
        f_from = a';
        f_to = left_of-asym _ _ a.1;
        e_from = b';
        e_to = left_of-asym _ _ b.1;
        f_long = left_of-after f.low q f.high p.0 T p.1 a' a.1;
        e_long = left_of-after e.low q e.high r.0 T r.1 b' b.1;
        f_e = left_of-after f.low q e.high p.0 T r.1 a' b.1;
        e_f = left_of-after e.low q f.high r.0 T p.1 b' a.1;
      };
}

-- ---- at q, off all vertices and edges: what reaches from the right at or below is what spans q below it
module _ (g : Skeleton) (q : Point) (plane : IsPlaneSkeleton g) (T : HasWeight q) (apart : IsApart g q) where
  spanning : (f : Edge) → Contains g.edges f → reaches_right f q ≡ true → over f q ≡ false → IsSpanning f q × (under f q ≡ true)
  spanning f F r o =
      let a = and_parts (not (left_of q f.low)) (left_of q f.high) r in
      let p = plane.proper_edge f F in
      let n = not-true _ a.0 in
      let long = left_of-after f.low q f.high p.0 T p.1 n a.1 in
      let to = before_left q f.high a.1 in
      let from : precedes f.low q ≡ true = elim (cases_Bool (left_of f.low q)) [
        | inl h ↦ before_left f.low q h
        | inr h ↦
            let low = sym (over-lower f q p.0 long h n) ∙ o in
            elim (cases_Bool (lower_than f.low q)) [
              | inl k ↦ before_lower f.low q n k
              | inr k ↦ absurd (apart.from_vertices f.low (plane.lower_in f F) (none (left_of f.low q) (left_of q f.low) (lower_than f.low q) h k) (none (left_of q f.low) (left_of f.low q) (lower_than q f.low) n low))
            ]
      ] in
      let s : IsSpanning f q = record { from = from; to = to } in (
        s,
        elim (cases_Bool (under f q)) [
          | inl h ↦ h
          | inr h ↦ absurd (false≢true (sym (apart.from_edges f F) ∙ and_from _ _ (and_from _ _ from to) (no_sign (side f q) (on_neither f q o h))))
        ],
      )
    where
      none : (a b c : Bool) → a ≡ false → c ≡ false → (a || (not b && c)) ≡ false
      none a true c h k = rw h refl
      none a false c h k = rw (h, k) refl

  reaching : (e : Edge) → Contains g.edges e → IsSpanning e q → under e q ≡ true → reaches_right e q ≡ true
  reaching e E s u =
      let p = plane.proper_edge e E in
      and_from _ _ (ap not (before_weak e.low q s.from)) (reaches e q p.0 p.1 T s u)

  -- all of them but the highest are below it
  counted : (e : Edge) → Contains g.edges e → IsSpanning e q → under e q ≡ true → ((f : Edge) → Contains g.edges f → IsSpanning f q → under f q ≡ true → (f ≡ e) ⊎ (below f e ≡ true)) → right_count g q ≡ place g (slab_right g q) e + 1
  counted e E s u most =
      let side = side_right g q plane T in
      let re = reaching e E s u in
      let now : Edge → ℕ = λ f. cond (reaches_right f q && not (over f q)) 1 0 in
      let old : Edge → ℕ = λ f. cond (spans g (slab_right g q) f && below f e) 1 0 in
      let own : Edge → ℕ = λ f. cond (same_edge e f) 1 0 in
      let pair : (f : Edge) → Contains g.edges f → now f ≡ old f + own f = λ f F.
      subst (λ b. now f ≡ cond (b && below f e) 1 0 + own f) (sym (side.spanned f F)) (one_more (reaches_right f q) (not (over f q)) (below f e) (same_edge e f)
      (λ k. subst (λ x. (reaches_right x q ≡ true) × (not (over x q) ≡ true) × (below x e ≡ false)) (same_edge_is e f k) (re, ap not (under_not_over e q u), below_self g e plane E))
      (λ rf n. elim (cases_Bool (over f q)) [
        | inl o ↦ ap not o ∙ sym (false_from_ne_true (below f e) (λ b.
            let p = side.passes e f E F re rf in
            below_asym g f e plane F E b (below_from e f q p (gap_positive e f q (run_positive e p.f_long) (run_positive f p.e_long) (under_not_over e q u) o))))
        | inr o ↦
            let k = spanning f F rf o in
            ap not o ∙ sym (elim (most f F k.0 k.1) [
              | inl x ↦ absurd (false≢true (sym n ∙ subst (λ y. same_edge e y ≡ true) (sym x) (same_edge_refl e)))
              | inr b ↦ b
            ])
      ])) in
      sum_by-same now (λ f. old f + own f) g.edges (each (λ f. now f ≡ old f + own f) g.edges pair) ∙ sum_by-plus old own g.edges ∙ ap (λ m. place g (slab_right g q) e + m) (plane.edge_once e E)

  none_counts : ((f : Edge) → Contains g.edges f → IsSpanning f q → under f q ≡ false) → right_count g q ≡ 0
  none_counts none = none_counted (λ f. reaches_right f q && not (over f q)) g.edges (λ f F. false_from_ne_true _ (λ h.
      let a = and_parts (reaches_right f q) (not (over f q)) h in
      let k = spanning f F a.0 (not-true _ a.1) in
      false≢true (sym (none f F k.0) ∙ k.1)))

-- ---- the slab on the right of q is the first one, or begins at a wall that isn't on the right of q
pub record IsStart (g : Skeleton) (q w : Point) : Type 0 where
  pub vertex : Contains g.vertices w
  pub slab : slab_right g w ≡ slab_right g q

pub begins : (g : Skeleton) (q : Point) → IsPlaneSkeleton g → HasWeight q → (slab_right g q ≡ 0) ⊎ ((w : Point) × IsStart g q w)
begins g q plane T =
    let P : (u : Point) → Member g.vertices u → HasWeight u = λ u m. plane.proper u (member_in g.vertices u m) in
    elim (best_of (λ u. not (left_of q u)) (λ x y. left_of y x) g.vertices left_of-irrefl (λ x y z a b c h k. left_of-before z y x (P z c) (P y b) (P x a) k (left_of-asym y x h))) [
      | inl none ↦ inl (none_counted (λ v. not (left_of q v)) g.vertices (λ v V. none v (in_member g.vertices v V)))
      | inr b ↦
          let w = b.0 in
          let W = P w b.1.in' in
          inr (
            w,
            record {
              vertex = member_in g.vertices w b.1.in';
              slab = le_antisym _ _
                  (fewer (λ v. not (left_of w v)) (λ v. not (left_of q v)) g.vertices (λ v V k. ap not (not_right_trans v w q (plane.proper v V) W T (not-true _ k) (not-true _ b.1.passes))))
                  (fewer (λ v. not (left_of q v)) (λ v. not (left_of w v)) g.vertices (λ v V k. ap not (b.1.best v (in_member g.vertices v V) k)));
            },
          )
    ]

-- ---- the lowest cells of all slabs are in one face
bottom : ℕ → SlabCell
bottom i = record { slab = i; place = 0 }

bottom_meets : (g : Skeleton) (w : Point) → IsPlaneSkeleton g → Contains g.vertices w → SameFace g (record { slab = slab_left g w; place = 0 }) (record { slab = slab_right g w; place = 0 })
unfolding links wall_links
bottom_meets g w plane W =
    let v = wall_of_vertex g w plane W in
    let V = wall_vertex g v.0 v.1.wall in
    let m = link_is_meet g (lowest_link g v.0) plane (flat_in (wall_links g) (walls g) v.0 (lowest_link g v.0) v.1.wall (inl refl)) in
    let P = plane.proper v.0 V in
    let Q = plane.proper w W in
    let a : slab_left g v.0 ≡ slab_left g w = le_antisym _ _
    (fewer (λ u. left_of u v.0) (λ u. left_of u w) g.vertices (λ u U k. left_of-before u v.0 w (plane.proper u U) P Q k v.1.back))
    (fewer (λ u. left_of u w) (λ u. left_of u v.0) g.vertices (λ u U k. left_of-before u w v.0 (plane.proper u U) Q P k v.1.there)) in
    let b : slab_right g v.0 ≡ slab_right g w = le_antisym _ _ (right_few g v.0 w plane P Q v.1.back) (right_few g w v.0 plane Q P v.1.there) in
    subst (λ (p : ℕ × ℕ). SameFace g (record { slab = p.0; place = 0 }) (record { slab = p.1; place = 0 })) (λ i. (a i, b i)) (right _ _ _ (here _) m)

bottom_step : (g : Skeleton) (w : Point) → IsPlaneSkeleton g → Contains g.vertices w → ((x : Point) → Contains g.vertices x → slab_right g x < slab_right g w → SameFace g first_cell (record { slab = slab_right g x; place = 0 })) → SameFace g first_cell (record { slab = slab_right g w; place = 0 })
bottom_step g w plane in' before =
    let s = bottom_meets g w plane in' in
    let W = plane.proper w in' in
    elim (greatest w g.vertices plane.proper) [
      | inl none ↦
          let z : slab_left g w ≡ 0 = none_counted (λ v. left_of v w) g.vertices none in
          subst (λ n. SameFace g (record { slab = n; place = 0 }) (record { slab = slab_right g w; place = 0 })) z s
      | inr best ↦
          let r = wall_before g best.0 w plane W best.1 best.2 in
          let k = r.1 in
          let less = right_many g w r.0 plane in' (plane.proper r.0 k.is_vertex) k.earlier in
          face_trans g _ _ _ (subst (λ n. SameFace g first_cell (record { slab = n; place = 0 })) (sym k.next) (before r.0 k.is_vertex less)) s
    ]

pub bottom_all : (g : Skeleton) (n : ℕ) (w : Point) → IsPlaneSkeleton g → Contains g.vertices w → slab_right g w ≤ n → SameFace g first_cell (record { slab = slab_right g w; place = 0 })
bottom_all g zero w plane in' h = bottom_step g w plane in' (λ x i l. absurd (omega arith))
bottom_all g (suc n) w plane in' h = bottom_step g w plane in' (λ x i l. bottom_all g n x plane i (omega arith))

-- ---- so the face of q is that over the highest edge below
pub face_is_over_highest : FaceIsOverHighest
face_is_over_highest g q None plane T apart (none_below none) =
    let z = none_counts g q plane T apart none in
    let r : SameFace g first_cell (record { slab = slab_right g q; place = 0 }) = elim (begins g q plane T) [
      | inl e ↦ subst (λ n. SameFace g first_cell (record { slab = n; place = 0 })) (sym e) (here first_cell)
      | inr w ↦ subst (λ n. SameFace g first_cell (record { slab = n; place = 0 })) w.1.slab (bottom_all g (slab_right g w.0) w.0 plane w.1.vertex (omega arith))
    ] in
    face_trans g _ _ _ (subst (λ n. SameFace g first_cell (record { slab = slab_right g q; place = n })) (sym z) r) (face_sym g _ _ (points_have_one_face g q plane T apart))
face_is_over_highest g q (Some e) plane T apart (highest e' E s u most) =
    let z = counted g q plane T apart e E s u most in
    let re = reaching g q plane T apart e E s u in
    let sp = (side_right g q plane T).spanned e E ∙ re in
    elim (begins g q plane T) [
      | inl n ↦ absurd (never g q e plane E (before_weak e.low q s.from) n)
      | inr w ↦
          let t = to_first g e w.0 plane w.1.vertex E (subst (λ n. spans g n e ≡ true) (sym w.1.slab) sp) in
          let P : ℕ → Type 0 = λ n. SameFace g (forward_cell g e) (record { slab = n; place = place g n e + 1 }) in
          let a : P (slab_right g q) = subst P w.1.slab t.1 in
          let b = subst (λ n. SameFace g (forward_cell g e) (record { slab = slab_right g q; place = n })) (sym z) a in
          let c = face_trans g _ _ _ b (face_sym g _ _ (points_have_one_face g q plane T apart)) in
          subst (λ l. SameFace g (cell_by g e l true) (left_cell g q)) (sym t.0) c
    ]
  where
    never : (g : Skeleton) (q : Point) (e : Edge) → IsPlaneSkeleton g → Contains g.edges e → left_of q e.low ≡ false → slab_right g q ≡ 0 → ⊥
    never g q e plane E h n = let k = passing (λ v. not (left_of q v)) g.vertices e.low (plane.lower_in e E) (ap not h) in absurd (omega arith)

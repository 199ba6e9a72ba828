-- The edges below a point, from the lowest up: the next one borders the face over the last.
use Rattle.std.proofs.Common.{◌≡◌, ℕ, ◌+◌, ◌<◌, ◌≤◌, Bool, true, false, arith, sym, ap, ◌∙◌, inl, inr, subst}
use Rattle.std.specs.Prelude.{not, ◌&&◌, Option, Some, None}
use Rattle.std.specs.List.{Contains}
use Rattle.std.proofs.lemmas.Int.{ints}
use Rattle.std.proofs.lemmas.Bool.{and_parts, and_from, not-true, false_from_ne_true, cases_Bool, cases_lt}
use Rattle.exact_plane.specs.Point.{Point}
use Rattle.plane_graphs.specs.Graph.{Edge}
use Rattle.slab_laws.specs.Cycles.{left_of_dart}
use Rattle.slab_laws.specs.Darts.{cell_by, ahead, back}
use Rattle.slab_laws.specs.Meets.{SameFace, here}
use Rattle.slab_laws.specs.Skeleton.{Skeleton, HasWeight, left_of, lower_than, under, IsPlaneSkeleton}
use Rattle.slab_laws.specs.Slabs.{spans, place, slab_right, right_below, right_bottom, reaches_right, forward_cell, backward_cell}
use Rattle.slab_laws.specs.Subdivision.{first_cell}
use Rattle.slab_faces.proofs.Walls.{over-lower, side-lower}
use Rattle.slab_faces.proofs.Cells.{IsSideOf}
use Rattle.slab_faces.proofs.Slabs.{IsSlab}
use Rattle.slab_faces.proofs.Along.{side_level}
use Rattle.slab_faces.proofs.Turns.{face_trans, face_sym, on_own_wall}
use Rattle.slab_faces.proofs.Outside.{to_first}
use Rattle.slab_faces.proofs.Nudge.{right_inside, is_slab_right}
use Rattle.slab_faces.proofs.EveryFace.{none_counted, passing}
use Rattle.edge_predicates.specs.FaceLaws.{cell_over}
use Rattle.slab_faces.proofs.Points.{before_left, before_lower, before_weak}
use Rattle.slab_faces.proofs.OverUnder.{under_out, under_not_over}
use Rattle.edge_predicates.proofs.Seen.{reaches}
use Rattle.edge_predicates.proofs.FaceBelow.{side_right, IsStart, begins, bottom_all}
use Rattle.edge_predicates.specs.Levels.{IsSeen, level, IsSeenAtMost, levels_to}
use Rattle.walk_laws.proofs.Fans.{in_lowers, next_lower}

-- of the edges that q sees and that border the face over o, none is above o
abbrev pub IsNoneAhead : Skeleton → Point → Option Edge → Type 0
IsNoneAhead g q o = (f : Edge) → IsSeen g q f → SameFace g (cell_over g o) (left_of_dart g (back f)) → level g q f < levels_to g q o

module _ (g : Skeleton) (q : Point) (plane : IsPlaneSkeleton g) (T : HasWeight q) where
  abbrev I : ℕ
  I = slab_right g q

  abbrev reach : Edge → Bool
  reach e = reaches_right e q

  abbrev pub S : IsSideOf g q I reach
  S = side_right g q plane T

  -- ---- what is seen is what reaches q's wall from the right below q
  pub seen_reach : (e : Edge) → IsSeen g q e → reach e ≡ true
  seen_reach e h = let p = plane.proper_edge e h.in' in and_from _ _ (ap not (before_weak e.low q h.spanning.from)) (reaches e q p.0 p.1 T h.spanning h.lies_under)

  pub reach_seen : (e : Edge) → Contains g.edges e → reach e ≡ true → under e q ≡ true → IsSeen g q e
  reach_seen e E r u =
      let a = and_parts (not (left_of q e.low)) (left_of q e.high) r in
      let p = plane.proper_edge e E in
      let n = not-true _ a.0 in
      let long = (S.passes e e E E r r).e_long in
      record {
        in' = E;
        spanning = record {
          from = elim (cases_Bool (left_of e.low q)) [
            | inl h ↦ before_left e.low q h
            | inr h ↦
                let lo : lower_than q e.low ≡ false = sym (over-lower e q p.0 long h n) ∙ under_not_over e q u in
                elim (cases_Bool (lower_than e.low q)) [
                  | inl k ↦ before_lower e.low q n k
                  | inr k ↦ let z = side_level e e.low q p.0 (side-lower e) n h k lo in let y = under_out e q u in absurd (omega (arith, ints))
                ]
          ];
          to = before_left q e.high a.1;
        };
        lies_under = u;
      }

  -- ---- the slab on the right of q begins at the wall of w
  module _ (w : Point) (st : IsStart g q w) where
    abbrev M : Point
    M = right_inside g w

    pub slab : IsSlab g I M
    slab = subst (λ n. IsSlab g n M) st.slab (is_slab_right g w plane (on_own_wall g w plane st.vertex))

    first : (e : Edge) → Contains g.edges e → reach e ≡ true → (left_of e.low e.high ≡ true) × SameFace g (forward_cell g e) (record { slab = I; place = level g q e + 1 }) × SameFace g (backward_cell g e) (record { slab = I; place = level g q e })
    first e E r =
        let t = to_first g e w plane st.vertex E (subst (λ n. spans g n e ≡ true) (sym st.slab) (S.spanned e E ∙ r)) in (
          t.0,
          subst (λ n. SameFace g (forward_cell g e) (record { slab = n; place = place g n e + 1 })) st.slab t.1,
          subst (λ n. SameFace g (backward_cell g e) (record { slab = n; place = place g n e })) st.slab t.2,
        )

    -- the cells above and below an edge of the slab are those of its darts
    pub above_cell : (e : Edge) → Contains g.edges e → reach e ≡ true → SameFace g (left_of_dart g (ahead e)) (record { slab = I; place = level g q e + 1 })
    above_cell e E r = let t = first e E r in subst (λ l. SameFace g (cell_by g e l true) (record { slab = I; place = level g q e + 1 })) (sym t.0) t.1

    pub below_cell : (e : Edge) → Contains g.edges e → reach e ≡ true → SameFace g (left_of_dart g (back e)) (record { slab = I; place = level g q e })
    below_cell e E r = let t = first e E r in subst (λ l. SameFace g (cell_by g e l false) (record { slab = I; place = level g q e })) (sym t.0) t.2

    over_started : (o : Option Edge) → IsSeenAtMost g q o → SameFace g (cell_over g o) (record { slab = I; place = levels_to g q o })
    over_started None p = subst (λ n. SameFace g first_cell (record { slab = n; place = 0 })) st.slab (bottom_all g (slab_right g w) w plane st.vertex (omega arith))
    over_started (Some e) p = above_cell e p.in' (seen_reach e p)

    complete_started : (o : Option Edge) → IsSeenAtMost g q o → IsNoneAhead g q o → right_below g q ≤ levels_to g q o
    complete_started o p none =
        elim (cases_lt (levels_to g q o) (right_below g q)) [
          | inr k ↦ k
          | inl k ↦
              let h = next_lower g q I M reach plane S slab (levels_to g q o) k in
              let s = reach_seen h.0 h.1 h.2 h.3 in
              let c = face_trans g _ _ _ (over_started o p) (face_sym g _ _ (subst (λ n. SameFace g (left_of_dart g (back h.0)) (record { slab = I; place = n })) h.4 (below_cell h.0 h.1 h.2))) in
              let l = none h.0 s c in
              let z = h.4 in
              absurd (omega arith)
        ]

    few_started : (o : Option Edge) → IsSeenAtMost g q o → levels_to g q o ≤ right_below g q
    few_started None p = omega arith
    few_started (Some e) p = let k = in_lowers g q I M reach plane S slab e p.in' (seen_reach e p) p.lies_under in omega arith

  -- ---- where no slab begins, nothing is on the left or at q
  no_reach : I ≡ 0 → (e : Edge) → Contains g.edges e → reach e ≡ true → ⊥
  no_reach z e E r = let k = passing (λ v. not (left_of q v)) g.vertices e.low (plane.lower_in e E) (and_parts (not (left_of q e.low)) (left_of q e.high) r).0 in absurd (omega arith)

  none_lower : I ≡ 0 → right_below g q ≡ 0
  none_lower z = none_counted (λ f. reach f && under f q) g.edges (λ f F. false_from_ne_true _ (λ h. no_reach z f F (and_parts (reach f) (under f q) h).0))

  -- ---- for any q
  pub start_of : (e : Edge) → Contains g.edges e → reach e ≡ true → (w : Point) × IsStart g q w
  start_of e E r = elim (begins g q plane T) [ inl z ↦ absurd (no_reach z e E r) | inr w ↦ w ]

  -- where none that borders the face over o is above o, none at all is
  pub complete : (o : Option Edge) → IsSeenAtMost g q o → IsNoneAhead g q o → levels_to g q o ≡ right_below g q
  complete (Some e) p none =
      let w = start_of e p.in' (seen_reach e p) in
      let a = complete_started w.0 w.1 (Some e) p none in
      let b = few_started w.0 w.1 (Some e) p in
      omega arith
  complete None p none = elim (begins g q plane T) [
    | inr w ↦ let a = complete_started w.0 w.1 None p none in let b = few_started w.0 w.1 None p in omega arith
    | inl z ↦ sym (none_lower z)
  ]

  pub at_bottom : (o : Option Edge) → IsSeenAtMost g q o → levels_to g q o ≡ right_below g q → SameFace g (cell_over g o) (right_bottom g q)
  at_bottom o p l = subst (λ n. SameFace g (cell_over g o) (record { slab = I; place = n })) l (over_any o p)
    where
      over_any : (o : Option Edge) → IsSeenAtMost g q o → SameFace g (cell_over g o) (record { slab = I; place = levels_to g q o })
      over_any (Some e) p = let w = start_of e p.in' (seen_reach e p) in over_started w.0 w.1 (Some e) p
      over_any None p = elim (begins g q plane T) [
        | inr w ↦ over_started w.0 w.1 None p
        | inl z ↦ subst (λ n. SameFace g first_cell (record { slab = n; place = 0 })) (sym z) (here first_cell)
      ]

  -- ---- no level passes the count of those below q
  pub in_level : (e : Edge) → IsSeen g q e → level g q e < right_below g q
  in_level e s =
      let r = seen_reach e s in
      let w = start_of e s.in' r in
      in_lowers g q I (right_inside g w.0) reach plane S (slab w.0 w.1) e s.in' r s.lies_under

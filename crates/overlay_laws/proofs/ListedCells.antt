-- A listed cell of the overlay lies in a listed cell of the layer.
use Rattle.std.proofs.Common.{◌≡◌, ℕ, ◌≤◌, Bool, true, cond, arith, refl, sym, ap, ◌∙◌, subst, inl, inr, ⊎_elim, ◌∷◌, map}
use Rattle.std.specs.Prelude.{not, ◌&&◌}
use Rattle.std.specs.List.{Contains, count_by}
use Rattle.std.proofs.lemmas.Bool.{and_parts, and_from, not-true, false_from_ne_true, cases_Bool, leb-true, ltb-true}
use lib.Dec.{ltb, leb}
use Rattle.exact_plane.specs.Point.{Point}
use Rattle.plane_graphs.specs.Graph.{Edge}
use Rattle.slab_laws.specs.declared.slab_cell.SlabCell.{SlabCell}
use Rattle.slab_laws.specs.Skeleton.{Skeleton, HasWeight, left_of, IsPlaneSkeleton}
use Rattle.slab_laws.specs.Slabs.{slab_right, spans, place, width}
use Rattle.slab_laws.specs.Faces.{walls, cells}
use Rattle.slab_faces.proofs.Sums.{each, sum_by-same, fewer}
use Rattle.slab_faces.proofs.Walls.{left_of-irrefl, left_of-asym, left_of-before, left_of-after}
use Rattle.slab_faces.proofs.Member.{Member, member_in, in_member, map_out}
use Rattle.slab_faces.proofs.Searches.{best_of}
use Rattle.slab_faces.proofs.WallsLemmas.{wall_vertex}
use Rattle.slab_faces.proofs.ListedCells.{cell_in as listed_in, cell_out as listed_out, first_listed, vertex_slab}
use Rattle.slab_faces.proofs.EveryFace.{none_counted, passing, first_width}
use Rattle.overlay_laws.proofs.Laid.{IsLaid}
use Rattle.overlay_laws.proofs.Counts.{right_cut, reach, cell_by, slab_cut, cut_side}
use Rattle.overlay_laws.proofs.Cells.{all_counts}

module _ (r g : Skeleton) (own : Edge → Bool) (pr : IsPlaneSkeleton r) (pg : IsPlaneSkeleton g) (laid : IsLaid r g own) where
  -- ---- right of a vertex of the overlay
  module _ (w : Point) (W : Contains g.vertices w) where
    T : HasWeight w
    T = pg.proper w W

    abbrev c : Point → Bool
    c v = not (left_of w v)

    slab_is : count_by (λ v. leb (slab_right g v) (slab_right g w)) r.vertices ≡ slab_right r w
    slab_is =
        let starts : Point → ℕ = λ v. cond (leb (slab_right g v) (slab_right g w)) 1 0 in
        sum_by-same starts (λ v. cond (c v) 1 0) r.vertices (each (λ v. starts v ≡ cond (c v) 1 0) r.vertices (λ v V. ap (λ b. cond {A = ℕ} b 1 0) (slab_cut g pg w T c (right_cut w T) v (laid.vertex v V))))

    -- the slab of the layer there begins at its last wall up to w, or is the first one
    slab_listed : Member (0 ∷ map (slab_right r) (walls r)) (slab_right r w)
    slab_listed =
        let P : (u : Point) → Member r.vertices u → HasWeight u = λ u m. pr.proper u (member_in r.vertices u m) in
        ⊎_elim
        (λ none. inl (sym (none_counted c r.vertices (λ v V. none v (in_member r.vertices v V)))))
        (λ b.
        let u = b.0 in
        let U = P u b.1.in' in
        let same : (v : Point) → Contains r.vertices v → not (left_of u v) ≡ not (left_of w v) = λ v V.
        elim (cases_Bool (left_of w v)) [
          | inl a ↦ ap not (left_of-after u w v U T (pr.proper v V) (not-true _ b.1.passes) a ∙ sym a)
          | inr a ↦ ap not (b.1.best v (in_member r.vertices v V) (ap not a) ∙ sym a)
        ] in
        let e : slab_right r u ≡ slab_right r w = sum_by-same (λ v. cond (not (left_of u v)) 1 0) (λ v. cond (c v) 1 0) r.vertices (each (λ v. cond {A = ℕ} (not (left_of u v)) 1 0 ≡ cond (c v) 1 0) r.vertices (λ v V. ap (λ b. cond {A = ℕ} b 1 0) (same v V))) in
        subst (Member (0 ∷ map (slab_right r) (walls r))) e (vertex_slab r pr u (member_in r.vertices u b.1.in')))
        (best_of c (λ x y. left_of y x) r.vertices left_of-irrefl (λ x y z a b d h k. left_of-before z y x (P z d) (P y b) (P x a) k (left_of-asym y x h)))

    place_within : (j : ℕ) → count_by (λ e. (spans g (slab_right g w) e && ltb (place g (slab_right g w) e) j) && own e) g.edges ≤ width r (slab_right r w)
    unfolding width
    place_within j =
        let i = slab_right g w in
        let a : count_by (λ e. (spans g i e && ltb (place g i e) j) && own e) g.edges ≤ count_by (λ e. (reach c e && true) && own e) g.edges =
        fewer (λ e. (spans g i e && ltb (place g i e) j) && own e) (λ e. (reach c e && true) && own e) g.edges (λ e E h.
        let x = and_parts (spans g i e && ltb (place g i e) j) (own e) h in
        let y = and_parts (spans g i e) (ltb (place g i e) j) x.0 in
        and_from _ _ (and_from (reach c e) true (sym ((cut_side g pg w T c (right_cut w T)).spanned e E) ∙ y.0) refl) x.1) in
        let b = all_counts r g own pr pg laid w T c (right_cut w T) in
        let d : count_by (λ f. reach c f && true) r.edges ≤ count_by (spans r (slab_right r w)) r.edges =
        fewer (λ f. reach c f && true) (spans r (slab_right r w)) r.edges (λ f F h. (cut_side r pr w T c (right_cut w T)).spanned f F ∙ (and_parts (reach c f) true h).0) in
        omega arith

  cell_listed : (i j : ℕ) → Member (0 ∷ map (slab_right g) (walls g)) i → j ≤ width g i → Member (cells r) (cell_by own r g (record { slab = i; place = j }))
  cell_listed i j (inl e) h =
      let z : j ≡ 0 = (let k = first_width g pg in let l = subst (λ n. j ≤ width g n) (sym e) h in omega arith) in
      let a : count_by (λ v. leb (slab_right g v) 0) r.vertices ≡ 0 = none_counted (λ v. leb (slab_right g v) 0) r.vertices (λ v V. false_from_ne_true _ (λ k.
      let l = leb-true _ _ k in
      let p = passing (λ u. not (left_of v u)) g.vertices v (laid.vertex v V) (ap not (left_of-irrefl v)) in
      absurd (omega arith))) in
      let b : count_by (λ e. (spans g 0 e && ltb (place g 0 e) 0) && own e) g.edges ≡ 0 = none_counted (λ e. (spans g 0 e && ltb (place g 0 e) 0) && own e) g.edges (λ e E. false_from_ne_true _ (λ k.
      let x = and_parts (spans g 0 e && ltb (place g 0 e) 0) (own e) k in
      let y = ltb-true _ _ (and_parts (spans g 0 e) (ltb (place g 0 e) 0) x.0).1 in
      absurd (omega arith))) in
      let first : Member (cells r) (cell_by own r g (record { slab = 0; place = 0 })) = subst (Member (cells r)) (λ k. record { slab = sym a k; place = sym b k }) (first_listed r) in
      subst (λ (p : ℕ × ℕ). Member (cells r) (cell_by own r g (record { slab = p.0; place = p.1 }))) (λ k. (e k, sym z k)) first
  cell_listed i j (inr m) h =
      let w = map_out (slab_right g) (walls g) i m in
      let W = wall_vertex g w.0 w.1 in
      let here : Member (cells r) (cell_by own r g (record { slab = slab_right g w.0; place = j })) =
      listed_in r _ (record { slab = subst (Member (0 ∷ map (slab_right r) (walls r))) (sym (slab_is w.0 W)) (slab_listed w.0 W); place = subst (λ n. count_by (λ e. (spans g (slab_right g w.0) e && ltb (place g (slab_right g w.0) e) j) && own e) g.edges ≤ width r n) (sym (slab_is w.0 W)) (place_within w.0 W j) }) in
      subst (λ n. Member (cells r) (cell_by own r g (record { slab = n; place = j }))) w.2 here

  pub stays_listed : (c : SlabCell) → Member (cells g) c → Member (cells r) (cell_by own r g c)
  stays_listed c m = let l = listed_out g c m in cell_listed c.slab c.place l.slab l.place

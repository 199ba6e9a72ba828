-- From far outside every face is reached across edges.
use Rattle.std.proofs.Common.{◌≡◌, ℕ, zero, suc, ◌+◌, ◌<◌, ◌≤◌, Bool, true, false, arith, refl, sym, ◌∙◌, subst, inl, inr, ◌∷◌, map}
use Rattle.std.specs.List.{Contains, range_with_len}
use Rattle.std.proofs.lemmas.Bool.{false≢true, cases_lt}
use Rattle.exact_plane.specs.Point.{Point}
use Rattle.plane_graphs.specs.Graph.{Edge}
use Rattle.slab_laws.specs.declared.slab_cell.SlabCell.{SlabCell}
use Rattle.slab_laws.specs.Skeleton.{Skeleton, left_of, IsPlaneSkeleton}
use Rattle.slab_laws.specs.Slabs.{slab_right, width, top_cell, forward_cell, backward_cell}
use Rattle.slab_laws.specs.Meets.{SameFace}
use Rattle.slab_laws.specs.Darts.{cell_by, ahead, back}
use Rattle.slab_laws.specs.Faces.{cells, slab_cells, walls}
use Rattle.slab_laws.specs.Cycles.{left_of_dart}
use Rattle.slab_faces.proofs.Nudge.{is_slab_right, right_inside}
use Rattle.slab_faces.proofs.Turns.{on_own_wall, face_sym}
use Rattle.slab_faces.proofs.Outside.{to_first, unbounded}
use Rattle.slab_faces.proofs.EveryFace.{edge_at, first_width}
use Rattle.slab_faces.proofs.Member.{Member, in_member, map_out, flat_out}
use Rattle.slab_faces.proofs.WallsLemmas.{wall_vertex}
use Rattle.slab_faces.proofs.Searches.{range_below}
use Rattle.set_laws.specs.EvenOddLaws.{FacesAreReached}

-- what holds far outside, goes over within faces and from above each edge to below it
pub record GoesOver (g : Skeleton) (P : SlabCell → Type 0) : Type 1 where
  pub outside : P (top_cell g 0)
  pub one_face : (c d : SlabCell) → SameFace g c d → P c → P d
  pub down : (e : Edge) → Contains g.edges e → P (left_of_dart g (ahead e)) → P (left_of_dart g (back e))

module _ (g : Skeleton) (P : SlabCell → Type 0) (plane : IsPlaneSkeleton g) (goes : GoesOver g P) where
  abbrev at : ℕ → ℕ → SlabCell
  at i j = record { slab = i; place = j }

  top_is : (i : ℕ) → top_cell g i ≡ at i (width g i)
  unfolding top_cell
  top_is i = refl

  over : (e : Edge) → (b : Bool) → left_of e.low e.high ≡ b → b ≡ true → (P (cell_by g e b true) → P (cell_by g e b false)) → P (forward_cell g e) → P (backward_cell g e)
  over e true h k f = f
  over e false h k f = absurd (false≢true k)

  module _ (w : Point) (W : Contains g.vertices w) where
    abbrev i : ℕ
    i = slab_right g w

    at_top : P (at i (width g i))
    at_top = subst P (top_is i) (goes.one_face (top_cell g 0) (top_cell g i) (unbounded g w plane W) goes.outside)

    step : (j : ℕ) → j < width g i → P (at i (j + 1)) → P (at i j)
    step j h t =
        let slab = is_slab_right g w plane (on_own_wall g w plane W) in
        let e = edge_at g i (right_inside g w) plane slab j h in
        let f = to_first g e.0 w plane W e.1 e.2 in
        let u : P (forward_cell g e.0) = goes.one_face _ _ (face_sym g _ _ f.1) (subst (λ n. P (at i (n + 1))) (sym e.3) t) in
        let d = over e.0 (left_of e.0.low e.0.high) refl f.0 (goes.down e.0 e.1) u in
        subst (λ n. P (at i n)) e.3 (goes.one_face _ _ f.2 d)

    down_by : (j : ℕ) → j ≤ width g i → (j < width g i → P (at i (j + 1))) → P (at i j)
    down_by j l more =
        elim (cases_lt j (width g i)) [
          | inl a ↦ step j a (more a)
          | inr a ↦ let e : width g i ≡ j = omega arith in subst (λ n. P (at i n)) e at_top
        ]

    all_down : (n j : ℕ) → width g i ≤ j + n → j ≤ width g i → P (at i j)
    all_down zero j h l = down_by j l (λ a. absurd (omega arith))
    all_down (suc n) j h l = down_by j l (λ a. all_down n (j + 1) (omega arith) (omega arith))

  any_slab : (i j : ℕ) → Member (0 ∷ map (slab_right g) (walls g)) i → j ≤ width g i → P (at i j)
  any_slab i j (inl e) h = subst (λ n. j ≤ width g n → P (at n j)) e (λ l. let z = first_width g plane in let q : width g 0 ≡ j = omega arith in subst (λ n. P (at 0 n)) q (subst P (top_is 0) goes.outside)) h
  any_slab i j (inr m) h =
      let w = map_out (slab_right g) (walls g) i m in
      subst (λ n. j ≤ width g n → P (at n j)) w.2 (λ l. all_down w.0 (wall_vertex g w.0 w.1) (width g (slab_right g w.0)) j (omega arith) l) h

  -- so it holds in all cells
  pub reached : (c : SlabCell) → Contains (cells g) c → P c
  unfolding cells slab_cells
  reached c in' =
      let r = flat_out (slab_cells g) (0 ∷ map (slab_right g) (walls g)) c (in_member (cells g) c in') in
      let i = r.0 in
      let j = map_out (λ j. record { slab = i; place = j }) (range_with_len 0 (suc (width g i))) c r.2 in
      let l = range_below 0 (suc (width g i)) j.0 j.1 in
      subst P j.2 (any_slab i j.0 r.1 (omega arith))

pub faces_are_reached : FacesAreReached
faces_are_reached g p c plane spread in' = reached g (λ c. p c ≡ true) plane (record { outside = spread.outside; one_face = λ c d h k. sym (spread.one_face c d h) ∙ k; down = spread.down }) c in'

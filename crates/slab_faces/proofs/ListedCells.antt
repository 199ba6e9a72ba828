-- Which cells are listed: the first one, those on the right of points on walls, and those beside darts.
use Rattle.std.proofs.Common.{◌≡◌, ◌<◌, ◌≤◌, Bool, true, false, arith, refl, ap, ◌∙◌, subst, inl, inr, ◌∷◌, map, suc}
use Rattle.std.specs.Prelude.{not, ◌&&◌}
use Rattle.std.specs.List.{Contains, range_with_len}
use Rattle.std.proofs.lemmas.Bool.{and_parts, and_from}
use Rattle.exact_plane.specs.Point.{Point}
use Rattle.plane_graphs.specs.Graph.{Edge}
use Rattle.slab_laws.specs.declared.slab_cell.SlabCell.{SlabCell}
use Rattle.slab_laws.specs.Skeleton.{Skeleton, left_of, over, below, IsPlaneSkeleton}
use Rattle.slab_laws.specs.Meets.{IsOnWall}
use Rattle.slab_laws.specs.Slabs.{slab_right, spans, place, reaches_right, right_count, right_cell, width}
use Rattle.slab_laws.specs.Darts.{cell_by, cell_of}
use Rattle.slab_laws.specs.Faces.{walls, slab_cells, cells}
use Rattle.slab_faces.proofs.Sums.{fewer, fewer_than}
use Rattle.slab_faces.proofs.Walls.{left_of-irrefl, on_wall_parts}
use Rattle.slab_faces.proofs.Cells.{spans_right}
use Rattle.slab_faces.proofs.Along.{below_self}
use Rattle.slab_faces.proofs.AddedUpright.{one_slab_right}
use Rattle.slab_faces.proofs.Turns.{on_own_wall}
use Rattle.slab_faces.proofs.Member.{Member, map_in, map_out, flat_in, flat_out}
use Rattle.slab_faces.proofs.Searches.{in_range, range_below}
use Rattle.slab_faces.proofs.WallsLemmas.{wall_vertex, wall_of_vertex, cell_there}

-- its slab begins at a wall, or is the first, and its place is not above the topmost
pub record IsListed (g : Skeleton) (c : SlabCell) : Type 0 where
  pub slab : Member (0 ∷ map (slab_right g) (walls g)) c.slab
  pub place : c.place ≤ width g c.slab

pub cell_in : (g : Skeleton) (c : SlabCell) → IsListed g c → Member (cells g) c
unfolding cells slab_cells
cell_in g c h =
    flat_in (slab_cells g) (0 ∷ map (slab_right g) (walls g)) c.slab c h.slab
    (map_in (λ j. record { slab = c.slab; place = j }) (range_with_len 0 (suc (width g c.slab))) c.place (in_range 0 (suc (width g c.slab)) c.place (omega arith) (let k = h.place in omega arith)))

pub cell_out : (g : Skeleton) (c : SlabCell) → Member (cells g) c → IsListed g c
unfolding cells slab_cells
cell_out g c h =
    let r = flat_out (slab_cells g) (0 ∷ map (slab_right g) (walls g)) c h in
    let j = map_out (λ j. record { slab = r.0; place = j }) (range_with_len 0 (suc (width g r.0))) c r.2 in
    let l = range_below 0 (suc (width g r.0)) j.0 j.1 in
    subst (IsListed g) j.2 (record { slab = r.1; place = omega arith })

pub first_listed : (g : Skeleton) → Member (cells g) (record { slab = 0; place = 0 })
first_listed g = cell_in g (record { slab = 0; place = 0 }) (record { slab = inl refl; place = omega arith })

module _ (g : Skeleton) (plane : IsPlaneSkeleton g) where
  -- ---- the cells on both sides of a point on a wall
  pub vertex_slab : (v : Point) → Contains g.vertices v → Member (0 ∷ map (slab_right g) (walls g)) (slab_right g v)
  vertex_slab v V =
      let w = wall_of_vertex g v plane V in
      let e = one_slab_right g w.0 v plane.proper (plane.proper w.0 (wall_vertex g w.0 w.1.wall)) (plane.proper v V) w.1.there w.1.back in
      inr (subst (Member (map (slab_right g) (walls g))) e (map_in (slab_right g) (walls g) w.0 w.1.wall))

  right_slab : (t : Point) → IsOnWall g t → Member (0 ∷ map (slab_right g) (walls g)) (slab_right g t)
  right_slab t wall =
      let o = on_wall_parts wall.vertex t wall.same in
      let e = one_slab_right g wall.vertex t plane.proper (plane.proper wall.vertex wall.is_vertex) wall.proper o.0 o.1 in
      subst (Member (0 ∷ map (slab_right g) (walls g))) e (vertex_slab wall.vertex wall.is_vertex)

  pub right_there : (t : Point) → IsOnWall g t → Member (cells g) (right_cell g t)
  unfolding width
  right_there t wall = cell_in g (right_cell g t) (record { slab = right_slab t wall; place = few })
    where
      few : right_count g t ≤ width g (slab_right g t)
      few = unfold width in fewer (λ e. reaches_right e t && not (over e t)) (spans g (slab_right g t)) g.edges (λ e E h. spans_right g t e plane wall E ∙ (and_parts (reaches_right e t) (not (over e t)) h).0)

  -- ---- the cells beside a dart
  below_top : (e : Edge) → Contains g.edges e → left_of e.low e.high ≡ true → place g (slab_right g e.low) e < width g (slab_right g e.low)
  unfolding width
  below_top e E long =
      let i = slab_right g e.low in
      let wall = on_own_wall g e.low plane (plane.lower_in e E) in
      let se : spans g i e ≡ true = spans_right g e.low e plane wall E ∙ and_from _ _ (ap not (left_of-irrefl e.low)) long in
      fewer_than (λ f. spans g i f && below f e) (spans g i) g.edges e E (ap (λ b. spans g i e && b) (below_self g e plane E) ∙ no_more (spans g i e)) se (λ f F h. (and_parts (spans g i f) (below f e) h).0)
    where
      no_more : (b : Bool) → (b && false) ≡ false
      no_more true = refl
      no_more false = refl

  beside : (e : Edge) (b f : Bool) → Contains g.edges e → left_of e.low e.high ≡ b → Member (cells g) (cell_by g e b f)
  beside e true true E long = let k = below_top e E long in cell_in g (cell_by g e true true) (record { slab = vertex_slab e.low (plane.lower_in e E); place = omega arith })
  beside e true false E long = let k = below_top e E long in cell_in g (cell_by g e true false) (record { slab = vertex_slab e.low (plane.lower_in e E); place = omega arith })
  beside e false true E long = cell_there g e.low plane (plane.proper_edge e E).0
  beside e false false E long = right_there e.low (on_own_wall g e.low plane (plane.lower_in e E))

  pub dart_cell : (e : Edge) (f : Bool) → Contains g.edges e → Member (cells g) (cell_of g e f)
  dart_cell e f E = beside e (left_of e.low e.high) f E refl

-- An edge that is split: the cells beside the darts of its parts and of the other edges widen to those beside the old ones.
-- g has the edge e, h its two parts at v; hv and hs are the vertices and edges of h, `rest` the edges of both.
use Rattle.std.proofs.Common.{◌≡◌, ◌+◌, Bool, true, false, refl, ap, ◌∙◌, List}
use Rattle.std.specs.Prelude.{not}
use Rattle.std.specs.List.{Contains}
use Rattle.std.proofs.lemmas.Bool.{and_from}
use Rattle.exact_plane.specs.Point.{Point}
use Rattle.plane_graphs.specs.Graph.{Edge}
use Rattle.slab_laws.specs.Skeleton.{Skeleton, left_of}
use Rattle.slab_laws.specs.Slabs.{slab_right, spans, place}
use Rattle.slab_laws.specs.Darts.{cell_by, cell_of}
use Rattle.slab_laws.specs.Meets.{IsOnWall}
use Rattle.slab_faces.proofs.Walls.{left_of-irrefl}
use Rattle.slab_faces.proofs.Cells.{spans_right}
use Rattle.slab_faces.proofs.Nudge.{right_inside, is_slab_right}
use Rattle.face_changes.proofs.NewWall.{narrow, narrow_right, AreEdgesAlike, left_widened, right_widened}
use Rattle.slab_faces.proofs.Turns.{on_own_wall}
use Rattle.face_changes.specs.OneMoreVertex.{widened}
use Rattle.face_changes.specs.EdgeSplit.{HasEdgeSplit}
use Rattle.rotation_order.specs.EdgeParts.{lower_part}
use Rattle.face_changes.proofs.EdgeSplitFacts.{SplitFacts, split_facts}
use Rattle.face_changes.proofs.EdgeSplitSlabs.{place_rest, place_lower}
use Rattle.face_changes.proofs.EdgeSplitWalls.{alike}

module _ (g : Skeleton) (hv : List Point) (hs : List Edge) (e : Edge) (v : Point) (rest : List Edge) (m : HasEdgeSplit g (record { vertices = hv; edges = hs }) e v rest) where
  abbrev h : Skeleton
  h = record { vertices = hv; edges = hs }

  abbrev facts : SplitFacts g hv hs e v rest
  facts = split_facts g hv hs e v rest m

  abbrev same : AreEdgesAlike g h
  same = alike g hv hs e v rest m

  cell_by_rest : (z : Edge) (b fw : Bool) → Contains rest z → left_of z.low z.high ≡ b → widened g v (cell_by h z b fw) ≡ cell_by g z b fw
  unfolding narrow
  cell_by_rest z true fw Z long = go fw
    where
      slab_of : narrow g v (slab_right h z.low) ≡ slab_right g z.low
      slab_of = narrow_right g h v facts.new z.low (m.plane.proper_edge z (facts.old_edge z Z)).0

      wall_z : IsOnWall h z.low
      wall_z = on_own_wall h z.low m.plane_more (m.plane_more.lower_in z (facts.kept_edge z Z))

      span : spans h (slab_right h z.low) z ≡ true
      span = spans_right h z.low z m.plane_more wall_z (facts.kept_edge z Z) ∙ and_from _ _ (ap not (left_of-irrefl z.low)) long

      place_of : place h (slab_right h z.low) z ≡ place g (slab_right g z.low) z
      place_of = place_rest g hv hs e v rest m (slab_right h z.low) (right_inside h z.low) (is_slab_right h z.low m.plane_more wall_z) z Z span ∙ ap (λ i. place g i z) slab_of

      go : (fw : Bool) → widened g v (cell_by h z true fw) ≡ cell_by g z true fw
      go true = λ k. record { slab = slab_of k; place = place_of k + 1 }
      go false = λ k. record { slab = slab_of k; place = place_of k }
  cell_by_rest z false true Z long = left_widened g h v facts.new same z.low (m.plane.proper_edge z (facts.old_edge z Z)).0
  cell_by_rest z false false Z long = right_widened g h v facts.new same z.low (m.plane.proper_edge z (facts.old_edge z Z)).0

  cell_by_low : (b fw : Bool) → left_of e.low e.high ≡ b → widened g v (cell_by h (lower_part e v) b fw) ≡ cell_by g e b fw
  unfolding narrow
  cell_by_low true fw long = go fw
    where
      slab_of : narrow g v (slab_right h e.low) ≡ slab_right g e.low
      slab_of = narrow_right g h v facts.new e.low facts.low_weight

      wall_e : IsOnWall h e.low
      wall_e = on_own_wall h e.low m.plane_more (m.plane_more.lower_in (lower_part e v) facts.lower_in)

      span : spans h (slab_right h e.low) (lower_part e v) ≡ true
      span = spans_right h e.low (lower_part e v) m.plane_more wall_e facts.lower_in ∙ and_from _ _ (ap not (left_of-irrefl e.low)) (facts.low_slant ∙ long)

      place_of : place h (slab_right h e.low) (lower_part e v) ≡ place g (slab_right g e.low) e
      place_of = place_lower g hv hs e v rest m (slab_right h e.low) (right_inside h e.low) (is_slab_right h e.low m.plane_more wall_e) span ∙ ap (λ i. place g i e) slab_of

      go : (fw : Bool) → widened g v (cell_by h (lower_part e v) true fw) ≡ cell_by g e true fw
      go true = λ k. record { slab = slab_of k; place = place_of k + 1 }
      go false = λ k. record { slab = slab_of k; place = place_of k }
  cell_by_low false true long = left_widened g h v facts.new same e.low facts.low_weight
  cell_by_low false false long = right_widened g h v facts.new same e.low facts.low_weight

  pub cell_low : (fw : Bool) → widened g v (cell_of h (lower_part e v) fw) ≡ cell_of g e fw
  cell_low fw = ap (λ b. widened g v (cell_by h (lower_part e v) b fw)) facts.low_slant ∙ cell_by_low (left_of e.low e.high) fw refl

  pub cell_rest : (z : Edge) → Contains rest z → (fw : Bool) → widened g v (cell_of h z fw) ≡ cell_of g z fw
  cell_rest z Z fw = cell_by_rest z (left_of z.low z.high) fw Z refl

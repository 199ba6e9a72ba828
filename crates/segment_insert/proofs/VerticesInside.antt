-- A point inside a part of an edge is inside the edge, and a point inside the edge above the lower part is inside the upper one.
use Rattle.std.proofs.Common.{◌≡◌, true, sym}
use Rattle.exact_plane.specs.Point.{Point}
use Rattle.plane_graphs.specs.Graph.{Edge}
use Rattle.plane_graphs.specs.Line.{IsProper}
use Rattle.plane_graphs.proofs.Order.{Lt, lt_trans}
use Rattle.slab_laws.specs.Skeleton.{inside, side}
use Rattle.rotation_order.specs.EdgeParts.{lower_part, upper_part}
use Rattle.sound_changes.proofs.PointInside.{IsInside, inside_out, inside_in, MeanOf, mean_of, lower_side, upper_side}
use Rattle.sound_changes.proofs.PlaneParts.{on_whole}

module _ (e : Edge) (q p : Point) (low : IsProper e.low) (high : IsProper e.high) (between : IsProper q) (proper : IsProper p) (i : IsInside e q) where
  m : MeanOf e q
  m = mean_of e q low high between i

  pub from_lower : inside (lower_part e q) p ≡ true → inside e p ≡ true
  from_lower h =
      let j = inside_out (lower_part e q) p low between proper h in
      inside_in e p low high proper (record { after = j.after; before = lt_trans j.before i.before; on = on_whole m.k m.t (side (lower_part e q) p) (side e p) m.t_pos (lower_side e q m p) j.on })

  pub from_upper : inside (upper_part e q) p ≡ true → inside e p ≡ true
  from_upper h =
      let j = inside_out (upper_part e q) p between high proper h in
      inside_in e p low high proper (record { after = lt_trans i.after j.after; before = j.before; on = on_whole m.k m.s (side (upper_part e q) p) (side e p) m.s_pos (upper_side e q m p) j.on })

  pub into_upper : inside e p ≡ true → Lt q p → inside (upper_part e q) p ≡ true
  into_upper h l =
      let j = inside_out e p low high proper h in
      inside_in (upper_part e q) p between high proper (record { after = l; before = j.before; on = on_whole m.s m.k (side e p) (side (upper_part e q) p) m.k_pos (sym (upper_side e q m p)) j.on })

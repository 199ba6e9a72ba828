-- What is least comes before no other point, by walls and heights; and no edge passes strictly below a point before which its lower end doesn't come.
use Rattle.std.proofs.Common.{◌≡◌, ◌≢◌, Bool, true, false, not, ◌&&◌, arith, refl, inl, inr, Less}
use Rattle.std.specs.Prelude.{◌||◌}
use Rattle.std.proofs.lemmas.Bool.{and_parts, not-true, false_from_ne_true, cases_Bool}
use Rattle.std.proofs.lemmas.Int.{ints}
use Rattle.exact_plane.specs.Point.{Point}
use Rattle.exact_plane.specs.PointOrder.{point_cmp}
use Rattle.plane_graphs.specs.Graph.{Edge}
use Rattle.slab_laws.specs.Skeleton.{HasWeight, left_of, lower_than, precedes, under}
use Rattle.slab_laws.specs.Slabs.{reaches_right}
use Rattle.slab_faces.proofs.Along.{side_below, side_level}
use Rattle.slab_faces.proofs.OverUnder.{under_out}
use Rattle.slab_faces.proofs.Walls.{left_of-after, run_positive, side-lower}
use Rattle.face_roots.proofs.PointOrder.{before}

pub not_before : (p q : Point) → HasWeight p → HasWeight q → point_cmp p q ≢ Less → precedes p q ≡ false
not_before p q P Q h = false_from_ne_true (precedes p q) (λ k. h (before p q P Q k).is)

pub neither : (a b : Bool) → (a || b) ≡ false → (a ≡ false) × (b ≡ false)
neither true b h = absurd cc
neither false b h = (refl, h)

pub beside : (c d : Bool) → (not c && d) ≡ false → c ≡ false → d ≡ false
beside true d h k = absurd cc
beside false d h k = h

pub none_below : (e : Edge) (p : Point) → HasWeight p → HasWeight e.low → HasWeight e.high → precedes e.low p ≡ false → (reaches_right e p && under e p) ≡ false
none_below e p P L H n = false_from_ne_true (reaches_right e p && under e p) (λ h.
    let a = and_parts (reaches_right e p) (under e p) h in
    let r = and_parts (not (left_of p e.low)) (left_of p e.high) a.0 in
    let right : left_of p e.low ≡ false = not-true (left_of p e.low) r.0 in
    let w = neither (left_of e.low p) (not (left_of p e.low) && lower_than e.low p) n in
    let level : lower_than e.low p ≡ false = beside (left_of p e.low) (lower_than e.low p) w.1 right in
    let R = run_positive e (left_of-after e.low p e.high L P H right r.1) in
    let up = under_out e p a.1 in
    elim (cases_Bool (lower_than p e.low)) [
      | inl k ↦ (let s = side_below e e.low p L R (side-lower e) right w.0 k in absurd (omega (arith, ints)))
      | inr k ↦ (let s = side_level e e.low p L (side-lower e) right w.0 level k in absurd (omega (arith, ints)))
    ])

-- No two edges of a plane skeleton have one point inside.
use Rattle.std.proofs.Common.{◌≡◌, true, false, arith, refl, sym, ap, inl, inr}
use Rattle.std.specs.Prelude.{ℤ, pos, not, ◌&&◌}
use Rattle.std.specs.List.{Contains}
use Rattle.std.proofs.lemmas.Int.{ints}
use Rattle.std.proofs.lemmas.Bool.{and_parts, and_from, not-true, cases_Bool}
use lib.IntN.{*ℤ-zero}
use lib.Signed.{lt_z}
use Rattle.exact_plane.specs.Point.{Point}
use Rattle.plane_graphs.specs.Graph.{Edge}
use Rattle.slab_laws.specs.Skeleton.{Skeleton, HasWeight, left_of, lower_than, on_wall, run, side, gap, precedes, inside, IsPlaneSkeleton}
use Rattle.slab_laws.specs.Meets.{IsOnWall, covers_above}
use Rattle.slab_faces.specs.LocationLaws.{OneEdgeAtMost}
use Rattle.slab_faces.proofs.Walls.{left_of-before, left_of-after, lower_than-asym, lower_than-before, run_positive, side-lower, side-upper}
use Rattle.slab_faces.proofs.Slabs.{IsThrough, same_edge_from_touch}
use Rattle.slab_faces.proofs.Along.{IsUpright, side_above, side_below, no_upright}
use Rattle.slab_faces.proofs.Upright.{one_cover}
use Rattle.slab_faces.proofs.Cells.{not_right_trans}

-- p comes before q: it is to the left, or on q's wall and lower
data Order (p q : Point) : Type 0 where
  apart : left_of p q ≡ true → Order p q
  level : left_of p q ≡ false → left_of q p ≡ false → lower_than p q ≡ true → Order p q

order : (p q : Point) → precedes p q ≡ true → Order p q
order p q h = elim (cases_Bool (left_of p q)) [
  | inl a ↦ apart a
  | inr a ↦ (let k = rw a at h in let b = and_parts (not (left_of q p)) (lower_than p q) k in level a (not-true _ b.0) b.1)
]

-- what `inside` says
record IsIn (e : Edge) (q : Point) : Type 0 where
  after : Order e.low q
  before : Order q e.high
  on : side e q ≡ pos 0

is_in : (e : Edge) (q : Point) → inside e q ≡ true → IsIn e q
is_in e q h =
    let a = and_parts (precedes e.low q && precedes q e.high) (not (lt_z (side e q) (pos 0)) && not (lt_z (pos 0) (side e q))) h in
    let b = and_parts (precedes e.low q) (precedes q e.high) a.0 in
    let c = and_parts (not (lt_z (side e q) (pos 0))) (not (lt_z (pos 0) (side e q))) a.1 in
    record { after = order e.low q b.0; before = order q e.high b.1; on = zero (side e q) (not-true _ c.0) (not-true _ c.1) }
  where
    zero : (s : ℤ) → lt_z s (pos 0) ≡ false → lt_z (pos 0) s ≡ false → s ≡ pos 0
    zero s a b = omega (arith, ints)

-- an edge with q inside passes q's abscissa, or is vertical and on q's wall
data Way (e : Edge) (q : Point) : Type 0 where
  through : IsThrough e q → Way e q
  upright : IsUpright e q → lower_than e.low q ≡ true → lower_than q e.high ≡ true → Way e q

way : (e : Edge) (q : Point) → HasWeight e.low → HasWeight e.high → HasWeight q → IsIn e q → Way e q
way e q P H Q i = both i.after i.before
  where
    both : Order e.low q → Order q e.high → Way e q
    both (apart a) (apart b) = through (record { from = a; to = b })
    both (level a a' l) (level b b' k) = upright (record { lower_1 = a; lower_2 = a'; upper_1 = b'; upper_2 = b }) l k
    both (apart a) (level b b' k) =
        let R = run_positive e (left_of-before e.low q e.high P Q H a b') in
        let s = side_above e q e.high Q R i.on b' b k in
        let z = side-upper e in
        absurd (omega (arith, ints))
    both (level a a' l) (apart b) =
        let R = run_positive e (left_of-after e.low q e.high P Q H a' b) in
        let s = side_below e q e.low Q R i.on a a' l in
        let z = side-lower e in
        absurd (omega (arith, ints))

no_gap : (f e : Edge) (q : Point) → side f q ≡ pos 0 → side e q ≡ pos 0 → gap f e q ≡ pos 0
unfolding gap
no_gap f e q a b = let k = *ℤ-zero (run e) in let l = *ℤ-zero (run f) in rw (a, b, k, l) refl

module _ (g : Skeleton) (q : Point) (plane : IsPlaneSkeleton g) (Q : HasWeight q) where
  -- one passes, the other is vertical
  crossing : (e f : Edge) → Contains g.edges e → Contains g.edges f → side e q ≡ pos 0 → IsThrough e q → IsUpright f q → lower_than f.low q ≡ true → lower_than q f.high ≡ true → ⊥
  crossing e f E F z th u l k =
      let wall : IsOnWall g q = record { proper = Q; vertex = f.low; is_vertex = plane.lower_in f F; same = and_from _ _ (ap not u.lower_1) (ap not u.lower_2) } in
      no_upright g e f q (record { plane = plane; wall = wall; E = E; on = z; through = th }) F u l k

  -- both are vertical
  covered : (e f : Edge) → Contains g.edges e → Contains g.edges f → IsUpright e q → lower_than e.low q ≡ true → IsUpright f q → lower_than q f.high ≡ true → lower_than e.low f.low ≡ false → e ≡ f
  covered e f E F u l v k h =
      let p = plane.proper_edge e E in
      let r = plane.proper_edge f F in
      let own : on_wall e.low e.high ≡ true = and_from _ _ (ap not (not_right_trans e.high q e.low p.1 Q p.0 u.upper_2 u.lower_1)) (ap not (not_right_trans e.low q e.high p.0 Q p.1 u.lower_2 u.upper_1)) in
      let a = not_right_trans e.low q f.low p.0 Q r.0 u.lower_2 v.lower_1 in
      let a' = not_right_trans f.low q e.low r.0 Q p.0 v.lower_2 u.lower_1 in
      let b = not_right_trans e.low q f.high p.0 Q r.1 u.lower_2 v.upper_1 in
      let b' = not_right_trans f.high q e.low r.1 Q p.0 v.upper_2 u.lower_1 in
      let up = lower_than-before e.low q f.high p.0 Q r.1 l (lower_than-asym q f.high k) in
      let c : covers_above f e.low ≡ true =
      and_from (on_wall f.low e.low && on_wall f.high e.low && not (lower_than e.low f.low)) _ (and_from (on_wall f.low e.low && on_wall f.high e.low) _ (and_from _ _ (and_from _ _ (ap not a) (ap not a')) (and_from _ _ (ap not b) (ap not b'))) (ap not h)) up in
      one_cover g e f plane E F own c

  one_edge : (e f : Edge) → Contains g.edges e → Contains g.edges f → side e q ≡ pos 0 → side f q ≡ pos 0 → Way e q → Way f q → e ≡ f
  one_edge e f E F y z (through a) (through b) = same_edge_from_touch g e f q (record { plane = plane; F = E; E = F; P = Q; f_through = a; e_through = b; z = no_gap e f q y z })
  one_edge e f E F y z (through a) (upright u l k) = absurd (crossing e f E F y a u l k)
  one_edge e f E F y z (upright u l k) (through b) = absurd (crossing f e F E z b u l k)
  one_edge e f E F y z (upright u l k) (upright v m n) = elim (cases_Bool (lower_than e.low f.low)) [
    | inl h ↦ sym (covered f e F E v m u k (lower_than-asym e.low f.low h))
    | inr h ↦ covered e f E F u l v n h
  ]

pub one_edge_at_most : OneEdgeAtMost
one_edge_at_most g e f q plane Q E F h k =
    let p = plane.proper_edge e E in
    let r = plane.proper_edge f F in
    let i = is_in e q h in
    let j = is_in f q k in
    one_edge g q plane Q e f E F i.on j.on (way e q p.0 p.1 Q i) (way f q r.0 r.1 Q j)

-- A dart that was looked at, or its twin, as a crossing of the way along the horizontal.
use Rattle.std.proofs.Common.{◌≡◌, Bool, true, false, cond, refl, sym, ap, ◌∙◌, inl, inr, subst}
use Rattle.std.specs.Option.{option_map}
use Rattle.std.specs.Prelude.{not, Option, Some, None, IfSome}
use Rattle.std.proofs.Math.Bool.{beq}
use Rattle.exact_plane.specs.Line.{Line}
use Rattle.exact_plane.specs.Point.{Point}
use Rattle.slab_laws.specs.declared.names.DartId.{DartId}
use Rattle.slab_laws.specs.declared.names.VertexId.{VertexId}
use Rattle.slab_laws.specs.Sound.{IsGraphSound}
use Rattle.slab_laws.specs.View.{View, HasDart, point_in, source_in, target_in, twin_in, line_in}
use Rattle.counted_looks.specs.Looks.{IsLookOf}
use Rattle.counted_looks.specs.declared.glance.Looked.{Looked}
use Rattle.dcel_records.specs.declared.spot.Spot.TheVariants.{Edge}
use Rattle.locate_landmarks.specs.Courses.{is_above_level}
use Rattle.locate_landmarks.specs.Crossings.{is_on_way, is_later}
use Rattle.locate_landmarks.specs.Horizontals.{IsCrossed, crossing_of, IsCrossing, IsLater, straight, over, IsLaterOrSame, dart_of_crossing, MayPass}
use Rattle.locate_landmarks.specs.Walks.{dart_towards}
use Rattle.locate_landmarks.specs.declared.course.Course.{Course}
use Rattle.locate_landmarks.specs.declared.crossing.Crossing.{Crossing}
use Rattle.locate_landmarks.specs.declared.horizontal.Ahead.{Ahead}

-- ---- the dart that has on its left what comes before the crossing
module _ (v : View) (c : Course) (s : IsGraphSound v) (d : DartId) (has : HasDart v d) (rises : Bool) (target : is_above_level c (point_in v (target_in v d)) ≡ rises) (source : is_above_level c (point_in v (source_in v d)) ≡ not rises) (on_way : is_on_way c (line_in v d) ≡ true) where
  -- a dart and its twin, by the end that is above
  abbrev upper : Point
  upper = cond rises (point_in v (target_in v d)) (point_in v (source_in v d))

  abbrev Is : DartId → Type 0
  Is e = IsCrossed v c e × (record { dart = e; line = line_in v d; upper = upper } ≡ crossing_of v c e)

  target_of_twin : target_in v (twin_in v d) ≡ source_in v d
  target_of_twin = ap (source_in v) (s.twinned.back d has)

  upper_of : (b : Bool) → cond b (point_in v (target_in v d)) (point_in v (source_in v d)) ≡ point_in v (cond b (target_in v d) (source_in v d))
  upper_of true = refl
  upper_of false = refl

  upper_of_twin : (b : Bool) → cond (not b) (point_in v (target_in v d)) (point_in v (source_in v d)) ≡ point_in v (cond b (target_in v (twin_in v d)) (source_in v (twin_in v d)))
  upper_of_twin true = ap (point_in v) (sym target_of_twin)
  upper_of_twin false = refl

  twice : (b : Bool) → not (not b) ≡ b
  twice true = refl
  twice false = refl

  itself : rises ≡ c.eastward → Is d
  itself e = (
    record { has = has; source = source ∙ ap not e; target = target ∙ e; on_way = on_way },
    ap (λ (p : Point). let x : Crossing = record { dart = d; line = line_in v d; upper = p } in x) (ap (λ b. cond b (point_in v (target_in v d)) (point_in v (source_in v d))) e ∙ upper_of c.eastward),
  )

  other : rises ≡ not c.eastward → Is (twin_in v d)
  other e =
      let line = s.twinned.line d has in (
        record {
          has = s.twinned.has d has;
          source = target ∙ e;
          target = ap (λ (x : VertexId). is_above_level c (point_in v x)) target_of_twin ∙ source ∙ ap not e ∙ twice c.eastward;
          on_way = ap (is_on_way c) line ∙ on_way;
        },
        (λ i. record { dart = twin_in v d; line = sym line i; upper = (ap (λ b. cond b (point_in v (target_in v d)) (point_in v (source_in v d))) e ∙ upper_of_twin c.eastward) i }),
      )

  pub crossed : (b : Bool) → (b ≡ true → rises ≡ c.eastward) → (b ≡ false → rises ≡ not c.eastward) → Is (dart_towards v d b)
  crossed true e n = itself (e refl)
  crossed false e n = other (n refl)

-- what was found of a dart that was looked at
module _ (v : View) (c : Course) (s : IsGraphSound v) (d : DartId) (has : HasDart v d) (l : Looked) (look : IsLookOf v (Edge d) l) (rises : Bool) (target : is_above_level c l.target ≡ rises) (source : is_above_level c l.source ≡ not rises) where
  pub crossing_found : (m : Line) → l.line ≡ Some m → is_on_way c m ≡ true → (b : Bool) → (b ≡ true → rises ≡ c.eastward) → (b ≡ false → rises ≡ not c.eastward) → (e : DartId) → e ≡ dart_towards v d b → (u : Point) → u ≡ cond rises l.target l.source
      → IsCrossing v c (Some (record { dart = e; line = m; upper = u }))
  crossing_found m line on_way b p n e i u j =
      let same : m ≡ line_in v d = some_same m (line_in v d) (sym line ∙ look.2) in
      let k = crossed v c s d has rises (ap (is_above_level c) (sym look.1) ∙ target) (ap (is_above_level c) (sym look.0) ∙ source) (ap (is_on_way c) (sym same) ∙ on_way) b p n in
      let at : u ≡ cond rises (point_in v (target_in v d)) (point_in v (source_in v d)) = j ∙ (λ t. cond rises (look.1 t) (look.0 t)) in
      subst (λ (x : DartId). IsCrossed v c x × (record { dart = x; line = m; upper = u } ≡ crossing_of v c x)) (sym i)
      (k.0, (λ t. record { dart = dart_towards v d b; line = same t; upper = at t }) ∙ k.1)
    where
      some_same : (x y : Line) → Some x ≡ Some y → x ≡ y
      some_same x y e = cc

-- ---- two tests that agree, or don't
pub same_test : (a b : Bool) → beq a b ≡ true → a ≡ b
same_test true true e = refl
same_test true false e = sym e
same_test false true e = e
same_test false false e = refl

pub other_test : (a b : Bool) → beq a b ≡ false → a ≡ not b
other_test true true e = e
other_test true false e = refl
other_test false true e = refl
other_test false false e = sym e

-- ---- later and later
module _ (v : View) (c : Course) where
  later_trans : (o : Option DartId) (d e : DartId) → IsCrossed v c d → IsLater v c o d → IsLater v c (Some d) e → IsLater v c o e
  later_trans o d e k a (straight e0 n) = over d e0 a k n
  later_trans o d e k a (over f e0 b m n) = over f e0 (later_trans o d f k a b) m n

  later_or_same_trans : (o p r : Option Crossing) → IsCrossing v c p → IsLaterOrSame v c o p → IsLaterOrSame v c p r → IsLaterOrSame v c o r
  later_or_same_trans o p r k a (inl e) = subst (IsLaterOrSame v c o) (sym e) a
  later_or_same_trans o p r k (inl e) (inr y) = inr (y.0, y.1, subst (λ (x : Option Crossing). IsLater v c (dart_of_crossing x) y.0.dart) e y.2)
  later_or_same_trans o p r k (inr x) (inr y) =
      let own = subst (IsCrossing v c) x.1 k in
      let next = subst (λ (z : Option Crossing). IsLater v c (dart_of_crossing z) y.0.dart) x.1 y.2 in
      inr (y.0, y.1, later_trans (dart_of_crossing o) x.0.dart y.0.dart own.0 x.2 next)

  pub crossing_has : (o : Option Crossing) → IsCrossing v c o → IfSome (dart_of_crossing o) (HasDart v)
  crossing_has None k = tt
  crossing_has (Some x) k = k.0.has

  kept : (o : Option Crossing) → IsCrossing v c o → o ≡ option_map (crossing_of v c) (dart_of_crossing o)
  kept None k = refl
  kept (Some x) k = ap Some k.1

  pub one_later : (o : Option Crossing) (x : Crossing) → IsCrossing v c o → IsCrossing v c (Some x) → is_later c o x ≡ true → IsLaterOrSame v c o (Some x)
  one_later o x k l e = inr (x, refl, straight x.dart ((λ i. is_later c (sym (kept o k) i) (sym l.1 i)) ∙ e))

pub may_pass : (v : View) (k h l : Ahead) → MayPass v k h → l.course.now ≡ h.course.now → IsCrossing v l.course.now l.last → IsLaterOrSame v l.course.now h.last l.last → MayPass v k l
may_pass v k h l m same last later = record {
  sound = m.sound;
  course = same ∙ m.course;
  last = last;
  later = later_or_same_trans v l.course.now k.last h.last l.last (subst (λ (c : Course). IsCrossing v c h.last) (sym same) m.last) (subst (λ (c : Course). IsLaterOrSame v c k.last h.last) (sym same) m.later) later;
}

-- a looker that has looked at nothing
pub may_begin : (v : View) (k : Ahead) (c : Course) → IsGraphSound v → k.course.now ≡ c → IsCrossing v c k.last → MayPass v k k
may_begin v k c s e last = record { sound = s; course = refl; last = subst (λ (x : Course). IsCrossing v x k.last) (sym e) last; later = inl refl }

-- Two darts that follow each other round a vertex are all that leave it, and two edges along one line go straight through it.
use Rattle.std.proofs.Common.{◌≡◌, ◌≢◌, ◌⊎◌, true, false, not, refl, sym, ap, ◌∙◌, subst, inl, inr}
use Rattle.plane_graphs.proofs.Lists.{clash}
use Rattle.rotation_order.specs.RingOrder.{IsRoundOn, sooner_by}
use Rattle.rotation_order.specs.Ring.{Out, IsApart}
use Rattle.rotation_order.proofs.RingEdits.{apart_of}
use Rattle.rotation_order.proofs.RingOrders.{round_by}
use Rattle.slab_laws.specs.declared.names.DartId.{DartId}
use Rattle.slab_laws.specs.declared.names.VertexId.{VertexId}
use Rattle.slab_laws.specs.Darts.{Dart}
use Rattle.slab_laws.specs.Rotation.{earlier, OutOf}
use Rattle.slab_laws.specs.Sound.{skeleton_of, dart_in, IsGraphSound}
use Rattle.slab_laws.specs.View.{View, HasDart, IsOutOf, dart_id, point_in, source_in, twin_in, line_in}
use Rattle.arr_notes.specs.AfterAround.{after_in}
use Rattle.rotation_order.specs.VertexRings.{turns_in, RingOf}
use Rattle.rotation_order.proofs.RingNames.{out_of}
use Rattle.rotation_order.proofs.SoundRings.{sound_views_have_rings}
use Rattle.rotation_order.proofs.RingTurned.{strict_at}
use Rattle.rotation_order.proofs.Circuits.{after_out}
use Rattle.arr_notes.specs.Curves.{is_forward}
use Rattle.arr_notes.proofs.Names.{cases_dart}
use Rattle.sound_views.proofs.GraphDrawn.{twins_are_directed}
use Rattle.sound_changes.specs.ChangeFits.{FitsMerge}
use Rattle.sound_changes.proofs.MergedRing as merged

-- ---- a follows b and b follows a: they are alone
module _ (v : View) (s : IsGraphSound v) (a b : DartId) (has : HasDart v a) (e : after_in v a ≡ b) (f : after_in v b ≡ a) where
  abbrev w : VertexId
  w = source_in v a

  abbrev P : Dart → Type 0
  P = OutOf (skeleton_of v) (point_in v w)

  ring : RingOf v w
  ring = sound_views_have_rings v w s (s.linked.source a has)

  a_out : Out (turns_in v) w.0 a.0
  a_out = (has, refl)

  round : IsRoundOn (sooner_by earlier) P
  round = round_by earlier P (strict_at (skeleton_of v) (point_in v w) (dart_in v a) s.plane (out_of v s.twinned s.plane w a.0 a_out))

  apart : IsApart P (turns_in v) w.0
  apart = apart_of earlier P (turns_in v) w.0 ring

  by_name : (x : DartId) → IsOutOf v w x → Out (turns_in v) w.0 x.0
  by_name x o = (o.0, ap (λ z. z.0) o.1)

  differ : (x y : DartId) → x ≢ y → x.0 ≢ y.0
  differ x y ne q = ne (ap dart_id q)

  b_out : IsOutOf v w b
  b_out = subst (IsOutOf v w) e (after_out v s a has a (has, refl))

  between : (k : DartId) → IsOutOf v w k → k ≢ a → k ≢ b → ⊥
  between k o na nb =
      let ob = by_name b b_out in
      let ok = by_name k o in
      let inside_a = apart.inside a.0 a_out in
      let inside_b = apart.inside b.0 ob in
      let inside_k = apart.inside k.0 ok in
      let first = subst (λ z. k ≢ z → sooner_by earlier (dart_in v a) (dart_in v z) (dart_in v k) ≡ true) e (λ n. (ring.follows a.0 a_out).first k.0 ok (differ k (after_in v a) n)) nb in
      let second = subst (λ z. k ≢ z → sooner_by earlier (dart_in v b) (dart_in v z) (dart_in v k) ≡ true) f (λ n. (ring.follows b.0 ob).first k.0 ok (differ k (after_in v b) n)) na in
      round.apart (dart_in v b) (dart_in v a) (dart_in v k) inside_b inside_a inside_k second
      (round.turned (dart_in v a) (dart_in v b) (dart_in v k) inside_a inside_b inside_k first (apart.differ k.0 a.0 ok a_out (differ k a na)))

  pub only_two : (k : DartId) → IsOutOf v w k → (k ≡ a) ⊎ (k ≡ b)
  only_two k o = elim (cases_dart k a) [
    | inl q ↦ inl q
    | inr na ↦ elim (cases_dart k b) [ inl q ↦ inr q | inr nb ↦ absurd (between k o na nb) ]
  ]

-- ---- x goes up and y, which follows it and is followed by it, down along the same line
pub through : (v : View) (w : VertexId) (x y : DartId) → IsGraphSound v → IsOutOf v w x → IsOutOf v w y → after_in v x ≡ y → after_in v y ≡ x → line_in v y ≡ line_in v x → is_forward v x ≡ true → is_forward v y ≡ false → FitsMerge v w (twin_in v y) x
through v w x y s ox oy e f l up down =
    let back = s.twinned.back y oy.0 in
    record {
      first = s.twinned.has y oy.0;
      second = ox.0;
      arrives = ap (source_in v) back ∙ oy.1;
      leaves = ox.1;
      first_forward = twins_are_directed v s y oy.0 ∙ ap not down;
      second_forward = up;
      line = s.twinned.line y oy.0 ∙ l;
      only = λ k has at. elim (only_two v s x y ox.0 e f k (has, at ∙ sym ox.1)) [ inl q ↦ inl q | inr q ↦ inr (q ∙ sym back) ];
    }

-- ---- and conversely
module _ (v : View) (w : VertexId) (s : IsGraphSound v) (d n : DartId) (f : FitsMerge v w d n) where
  abbrev t : DartId
  t = twin_in v d

  t_has : HasDart v t
  t_has = merged.t_has v w s d n f

  t_down : is_forward v t ≡ false
  t_down = merged.t_down v w s d n f

  after_n : after_in v n ≡ t
  after_n = merged.after_n v w s d n f

  after_t : after_in v t ≡ n
  after_t = merged.after_t v w s d n f

  -- what goes straight through the vertex, seen from any dart out of it
  pub comes_back : (x : DartId) → IsOutOf v w x → after_in v (after_in v x) ≡ x
  comes_back x o = elim (f.only x o.0 o.1) [
    | inl q ↦ ap (λ z. after_in v (after_in v z)) q ∙ ap (after_in v) after_n ∙ after_t ∙ sym q
    | inr q ↦ ap (λ z. after_in v (after_in v z)) q ∙ ap (after_in v) after_t ∙ after_n ∙ sym q
  ]

  pub one_line_after : (x : DartId) → IsOutOf v w x → line_in v (after_in v x) ≡ line_in v x
  one_line_after x o =
      let l : line_in v t ≡ line_in v n = s.twinned.line d f.first ∙ f.line in
      elim (f.only x o.0 o.1) [
        | inl q ↦ ap (λ z. line_in v (after_in v z)) q ∙ ap (line_in v) after_n ∙ l ∙ sym (ap (line_in v) q)
        | inr q ↦ ap (λ z. line_in v (after_in v z)) q ∙ ap (line_in v) after_t ∙ sym l ∙ sym (ap (line_in v) q)
      ]

  pub turns_back : (x : DartId) → IsOutOf v w x → is_forward v (after_in v x) ≡ not (is_forward v x)
  turns_back x o = elim (f.only x o.0 o.1) [
    | inl q ↦ ap (λ z. is_forward v (after_in v z)) q ∙ ap (is_forward v) after_n ∙ t_down ∙ sym (ap not (ap (is_forward v) q ∙ f.second_forward))
    | inr q ↦ ap (λ z. is_forward v (after_in v z)) q ∙ ap (is_forward v) after_t ∙ f.second_forward ∙ sym (ap not (ap (is_forward v) q ∙ t_down))
  ]

  -- the two darts are told by the vertex
  pub one_first : (e m : DartId) → FitsMerge v w e m → d ≡ e
  one_first e m g =
      elim (g.only t t_has f.arrives) [
        | inl q ↦ clash g.second_forward (ap (is_forward v) (sym q) ∙ t_down)
        | inr q ↦ sym (s.twinned.back d f.first) ∙ ap (twin_in v) q ∙ s.twinned.back e g.first
      ]

  pub one_second : (e m : DartId) → FitsMerge v w e m → n ≡ m
  one_second e m g =
      elim (g.only n f.second f.leaves) [
        | inl q ↦ q
        | inr q ↦ clash f.second_forward (ap (is_forward v) q ∙ twins_are_directed v s e g.first ∙ ap not g.first_forward)
      ]

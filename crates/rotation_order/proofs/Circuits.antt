-- Going once round a vertex of a sound view, from a dart back to it.
use Rattle.std.proofs.Common.{◌≡◌, ◌≢◌, ℕ, ◌<◌, Bool, true, false, inl, inr, eq-eqb, refl, sym, ap, ◌∙◌, subst, is_some}
use Rattle.std.specs.Prelude.{not, ◌&&◌, ◌==◌}
use Rattle.std.proofs.lemmas.Bool.{cases_eq, and_parts, and_from, eqb-true}
use Rattle.plane_graphs.proofs.Lists.{not_out, not_in, clash}
use Rattle.rotation_order.specs.RingOrder.{IsStrictOn, IsRoundOn, sooner_by}
use Rattle.rotation_order.specs.Ring.{Out, IsApart, IsAfter}
use Rattle.rotation_order.proofs.RingEdits.{apart_of}
use Rattle.rotation_order.proofs.RingOrders.{round_by}
use Rattle.rotation_order.proofs.Rings as rings
use Rattle.slab_laws.specs.declared.names.DartId.{DartId}
use Rattle.slab_laws.specs.declared.names.VertexId.{VertexId}
use Rattle.slab_laws.specs.Darts.{Dart}
use Rattle.slab_laws.specs.Rotation.{earlier, OutOf}
use Rattle.slab_laws.specs.Sound.{skeleton_of, dart_in, IsGraphSound}
use Rattle.slab_laws.specs.Tables.{row_at}
use Rattle.slab_laws.specs.View.{View, HasDart, IsOutOf, vertex_id, dart_id, point_in, source_in, twin_in, next_in}
use Rattle.arr_notes.specs.AfterAround.{after_in}
use Rattle.rotation_order.specs.VertexRings.{turns_in, RingOf}
use Rattle.rotation_order.proofs.RingNames.{out_of}
use Rattle.rotation_order.proofs.SoundRings.{sound_views_have_rings}
use Rattle.rotation_order.proofs.RingTurned.{strict_at}
use Rattle.rotation_order.proofs.Walks.{count, fewer}

-- ---- the darts that aren't met before a dart, clockwise from d
abbrev pub is_left : View → DartId → DartId → ℕ → Bool
is_left v d x c = is_some (row_at v.darts c) && (((source_in v (dart_id c)).0 == (source_in v d).0) && not (sooner_by earlier (dart_in v d) (dart_in v (dart_id c)) (dart_in v x)))

abbrev pub left : View → DartId → DartId → ℕ
left v d x = count (is_left v d x) v.darts

module _ (v : View) (s : IsGraphSound v) (d : DartId) (has : HasDart v d) where
  abbrev w : VertexId
  w = source_in v d

  abbrev P : Dart → Type 0
  P = OutOf (skeleton_of v) (point_in v (source_in v d))

  ring : RingOf v w
  ring = sound_views_have_rings v w s (s.linked.source d has)

  out : Out (turns_in v) w.0 d.0
  out = (has, refl)

  strict : IsStrictOn earlier P
  strict = strict_at (skeleton_of v) (point_in v w) (dart_in v d) s.plane (out_of v s.twinned s.plane w d.0 out)

  round : IsRoundOn (sooner_by earlier) P
  round = round_by earlier P strict

  apart : IsApart P (turns_in v) w.0
  apart = apart_of earlier P (turns_in v) w.0 ring

  by_name : (x : DartId) → IsOutOf v w x → Out (turns_in v) w.0 x.0
  by_name x o = (o.0, ap (λ z. z.0) o.1)

  -- what comes after a dart leaves the same vertex
  pub after_out : (x : DartId) → IsOutOf v w x → IsOutOf v w (after_in v x)
  after_out x o = let f = (ring.follows x.0 (by_name x o)).out in (f.0, ap vertex_id f.1)

  -- a dart that comes after itself is the only one
  pub alone : after_in v d ≡ d → (x : DartId) → IsOutOf v w x → x ≡ d
  alone q x o =
      ap dart_id (rings.alone (sooner_by earlier) P round (turns_in v) w.0 apart d.0 x.0 (by_name x o)
      (subst (λ z. IsAfter (sooner_by earlier) (turns_in v) w.0 d.0 z.0) q (ring.follows d.0 out)))

  -- no dart is met before itself
  unlike : (c e : DartId) → IsOutOf v w c → IsOutOf v w e → sooner_by earlier (dart_in v d) (dart_in v c) (dart_in v e) ≡ true → c.0 ≢ e.0
  unlike c e oc oe h q =
      let E = apart.inside e.0 (by_name e oe) in
      let k = subst (λ n. sooner_by earlier (dart_in v d) (dart_in v (dart_id n)) (dart_in v e) ≡ true) q h in
      round.apart (dart_in v d) (dart_in v e) (dart_in v e) (apart.inside d.0 out) E E k k

  -- the dart after d is the first of all, so that none is met before it
  pub first_met : (c : DartId) → IsOutOf v w c → sooner_by earlier (dart_in v d) (dart_in v c) (dart_in v (after_in v d)) ≡ true → ⊥
  first_met c o h =
      let oc = by_name c o in
      let f = ring.follows d.0 out in
      round.apart (dart_in v d) (dart_in v c) (dart_in v (after_in v d)) (apart.inside d.0 out) (apart.inside c.0 oc) (apart.inside (after_in v d).0 f.out) h
      (f.first c.0 oc (unlike c (after_in v d) o (after_out d (has, refl)) h))

  -- d itself is met last
  pub last_met : (c : DartId) → IsOutOf v w c → c ≢ d → sooner_by earlier (dart_in v d) (dart_in v c) (dart_in v d) ≡ true
  last_met c o ne =
      let oc = by_name c o in
      round.last (dart_in v d) (dart_in v c) (apart.inside d.0 out) (apart.inside c.0 oc) (apart.differ c.0 d.0 oc out (λ q. ne (ap dart_id q)))

  module _ (x : DartId) (o : IsOutOf v w x) (other : x ≢ d) where
    ne : x.0 ≢ d.0
    ne q = other (ap dart_id q)

    ox : Out (turns_in v) w.0 x.0
    ox = by_name x o

    follows : IsAfter (sooner_by earlier) (turns_in v) w.0 x.0 (after_in v x).0
    follows = ring.follows x.0 ox

    -- going on from a dart other than d, the next one is met later
    later : sooner_by earlier (dart_in v d) (dart_in v x) (dart_in v (after_in v x)) ≡ true
    later =
        elim (cases_eq (after_in v x).0 d.0) [
          | inl q ↦
              subst (λ n. sooner_by earlier (dart_in v d) (dart_in v x) (dart_in v (dart_id n)) ≡ true) (sym q)
              (round.last (dart_in v d) (dart_in v x) (apart.inside d.0 out) (apart.inside x.0 ox) (apart.differ x.0 d.0 ox out ne))
          | inr na ↦
              rings.further (sooner_by earlier) P round (dart_in v d) (dart_in v x) (dart_in v (after_in v x)) (apart.inside d.0 out) (apart.inside x.0 ox) (apart.inside (after_in v x).0 follows.out)
              (apart.differ d.0 x.0 out ox (λ q. ne (sym q)))
              (apart.differ d.0 (after_in v x).0 out follows.out (λ q. na (sym q)))
              (λ q. round.apart (dart_in v x) (dart_in v d) (dart_in v (after_in v x)) (apart.inside x.0 ox) (apart.inside d.0 out) (apart.inside (after_in v x).0 follows.out) q (follows.first d.0 out (λ r. na (sym r))))
        ]

    -- what is met before that one is x, or is met before x
    pub none_between : (c : DartId) → IsOutOf v w c → c ≢ x → sooner_by earlier (dart_in v d) (dart_in v c) (dart_in v (after_in v x)) ≡ true → sooner_by earlier (dart_in v d) (dart_in v c) (dart_in v x) ≡ true
    none_between c co nc h =
        let oc = by_name c co in
        let D = apart.inside d.0 out in
        let C = apart.inside c.0 oc in
        let X = apart.inside x.0 ox in
        let A = apart.inside (after_in v x).0 follows.out in
        elim (round.either (dart_in v d) (dart_in v c) (dart_in v x) D C X (apart.differ c.0 x.0 oc ox (λ q. nc (ap dart_id q)))) [
          | inl k ↦ k
          | inr k ↦
              absurd (round.apart (dart_in v x) (dart_in v c) (dart_in v (after_in v x)) X C A
              (round.onward (dart_in v d) (dart_in v x) (dart_in v c) (dart_in v (after_in v x)) D X C A k h)
              (follows.first c.0 oc (unlike c (after_in v x) co (after_out x o) h)))
        ]

    hidden : (h a b : Bool) → b ≡ true → (h && (a && not b)) ≡ false
    hidden false a b q = refl
    hidden true false b q = refl
    hidden true true b q = rw q refl

    still : (c : ℕ) → is_left v d (after_in v x) c ≡ true → is_left v d x c ≡ true
    still c h =
        let a = and_parts (is_some (row_at v.darts c)) (((source_in v (dart_id c)).0 == w.0) && not (sooner_by earlier (dart_in v d) (dart_in v (dart_id c)) (dart_in v (after_in v x)))) h in
        let t = and_parts ((source_in v (dart_id c)).0 == w.0) (not (sooner_by earlier (dart_in v d) (dart_in v (dart_id c)) (dart_in v (after_in v x)))) a.1 in
        let oc : Out (turns_in v) w.0 c = (a.0, eqb-true (source_in v (dart_id c)).0 w.0 t.0) in
        and_from _ _ a.0 (and_from _ _ t.0 (not_in (sooner_by earlier (dart_in v d) (dart_in v (dart_id c)) (dart_in v x)) (λ k.
        clash (round.through (dart_in v d) (dart_in v (dart_id c)) (dart_in v x) (dart_in v (after_in v x)) (apart.inside d.0 out) (apart.inside c oc) (apart.inside x.0 ox) (apart.inside (after_in v x).0 follows.out) k later)
        (not_out (sooner_by earlier (dart_in v d) (dart_in v (dart_id c)) (dart_in v (after_in v x))) t.1))))

    -- so fewer are left
    pub nearer : left v d (after_in v x) < left v d x
    nearer =
        fewer (is_left v d (after_in v x)) (is_left v d x) still v.darts x.0 o.0
        (hidden (is_some (row_at v.darts x.0)) ((source_in v x).0 == w.0) (sooner_by earlier (dart_in v d) (dart_in v x) (dart_in v (after_in v x))) later)
        (and_from _ _ o.0 (and_from _ _ (eq-eqb (source_in v x).0 w.0 ox.1) (not_in (sooner_by earlier (dart_in v d) (dart_in v x) (dart_in v x)) (λ h. unlike x x o o h refl))))

-- ---- what is read by two calls
pub read_after : (v : View) (d t n : DartId) → t ≡ twin_in v d → n ≡ next_in v t → n ≡ after_in v d
read_after v d t n e f = f ∙ ap (λ z. next_in v z) e

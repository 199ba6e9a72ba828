-- The dart that follows one, as it is computed, is the first clockwise round the vertex.
use Rattle.std.proofs.Common.{◌≡◌, ℕ, zero, suc, eq-eqb, ◌<◌, Bool, true, false, arith, refl, sym, ap, subst, ◌∙◌, inl, inr}
use Rattle.std.specs.Prelude.{◌&&◌, ◌==◌}
use Rattle.std.specs.List.{Contains}
use Rattle.std.proofs.lemmas.Int.{ints}
use Rattle.std.proofs.lemmas.Bool.{false≢true, and_parts, and_from, or_left, or_right, or_cases, false_from_ne_true, ltb-true, lt-ltb, eqb-true}
use lib.Dec.{ltb}
use Rattle.exact_plane.specs.Point.{Point}
use Rattle.plane_graphs.specs.Graph.{Edge}
use Rattle.slab_laws.specs.Skeleton.{Skeleton, left_of, lower_than, on_wall, below, IsPlaneSkeleton}
use Rattle.slab_laws.specs.Meets.{covers_above}
use Rattle.slab_laws.specs.Slabs.{reaches_left, reaches_right}
use Rattle.slab_laws.specs.Darts.{start, kind, Earlier, by_class, on_left, on_right, Dart}
use Rattle.slab_faces.proofs.Order.{below_asym, gap-swap}
use Rattle.slab_faces.proofs.Slabs.{IsThrough, through, by_gap, below_at, gap_at, gap_trans, run_through, no_order}
use Rattle.slab_faces.proofs.Along.{IsUpright}
use Rattle.slab_faces.proofs.Walls.{on_wall_parts}
use Rattle.slab_faces.proofs.Turns.{on_own_wall}
use Rattle.slab_faces.proofs.Upright.{not_inside, one_cover, covers_self}
use Rattle.slab_faces.proofs.Corners.{IsAt, IsFan, left_fan, right_fan}
use Rattle.slab_faces.proofs.Next.{at_upper, at_lower, kind_zero, kind_two, kind_few}
use Rattle.slab_laws.specs.Rotation.{turn, earlier, OutOf}
use Rattle.slab_faces.proofs.RingLemmas.{IsRound}
use Rattle.slab_faces.proofs.Cells.{not_right_trans}

-- ---- below, among the edges of one fan

fan_through : (g : Skeleton) (t : Point) (i : ℕ) (M : Point) (reach : Edge → Bool) (e : Edge) → IsFan g t i M reach → IsAt g t reach e → IsThrough e M
fan_through g t i M reach e n a = through g i M e n.slab a.in' (n.reaching.sided.spanned e a.in' ∙ a.reaches)

below_on : (g : Skeleton) (t : Point) (i : ℕ) (M : Point) (reach : Edge → Bool) (e f d : Edge) → IsFan g t i M reach → IsAt g t reach e → IsAt g t reach f → IsAt g t reach d → below e f ≡ true → below f d ≡ true → below e d ≡ true
below_on g t i M reach e f d n a b c h k =
    let K = n.slab.proper in
    let te = fan_through g t i M reach e n a in
    let tf = fan_through g t i M reach f n b in
    let td = fan_through g t i M reach d n c in
    below_at g e d M n.plane a.in' c.in' K te td
    (gap_trans e f d M (run_through g e M n.plane a.in' K te) (run_through g f M n.plane b.in' K tf) (run_through g d M n.plane c.in' K td)
    (gap_at g e f M n.plane a.in' b.in' K te tf h) (gap_at g f d M n.plane b.in' c.in' K tf td k))

below_total : (g : Skeleton) (t : Point) (i : ℕ) (M : Point) (reach : Edge → Bool) (e f : Edge) → IsFan g t i M reach → IsAt g t reach e → IsAt g t reach f → below e f ≡ false → below f e ≡ false → e ≡ f
below_total g t i M reach e f n a b h k =
    let K = n.slab.proper in
    let te = fan_through g t i M reach e n a in
    let tf = fan_through g t i M reach f n b in
    by_gap g e f M n.plane a.in' b.in' K te tf
    (λ u. absurd (false≢true (sym h ∙ below_at g e f M n.plane a.in' b.in' K te tf u)))
    (λ u. let w = gap-swap e f M in absurd (false≢true (sym k ∙ below_at g f e M n.plane b.in' a.in' K tf te (omega (arith, ints)))))
    (λ u. u)

-- ---- two vertical edges that go the same way from one vertex are one
edge_path : (e f : Edge) → e.low ≡ f.low → e.high ≡ f.high → e ≡ f
edge_path e f a b = λ i. record { low = a i; high = b i }

same_up : (g : Skeleton) (e f : Edge) → IsPlaneSkeleton g → Contains g.edges e → Contains g.edges f → e.low ≡ f.low → on_wall e.low e.high ≡ true → on_wall f.low f.high ≡ true → e ≡ f
same_up g e f plane E F a h k = one_cover g e f plane E F h (subst (λ p. covers_above f p ≡ true) (sym a) (covers_self g f plane F k))

-- the lower end of one is not strictly inside the other
not_longer : (g : Skeleton) (e f : Edge) → IsPlaneSkeleton g → Contains g.edges e → Contains g.edges f → e.high ≡ f.high → on_wall e.low e.high ≡ true → on_wall f.low f.high ≡ true → lower_than e.low f.low ≡ false
not_longer g e f plane E F a h k =
    let P = plane.lower_in f F in
    let p = on_wall_parts e.low e.high h in
    let q = on_wall_parts f.low f.high k in
    let q0 : left_of f.low e.high ≡ false = subst (λ u. left_of f.low u ≡ false) (sym a) q.0 in
    let q1 : left_of e.high f.low ≡ false = subst (λ u. left_of u f.low ≡ false) (sym a) q.1 in
    let EP = plane.proper_edge e E in
    let FP = plane.proper_edge f F in
    let u : IsUpright e f.low = record {
      lower_1 = not_right_trans f.low e.high e.low FP.0 EP.1 EP.0 q1 p.0;
      lower_2 = not_right_trans e.low e.high f.low EP.0 EP.1 FP.0 p.1 q0;
      upper_1 = q1;
      upper_2 = q0;
    } in
    false_from_ne_true _ (λ l. not_inside g e f.low plane E P u l (subst (λ w. lower_than f.low w ≡ true) (sym a) (plane.upright f F k)))

same_down : (g : Skeleton) (e f : Edge) → IsPlaneSkeleton g → Contains g.edges e → Contains g.edges f → e.high ≡ f.high → on_wall e.low e.high ≡ true → on_wall f.low f.high ≡ true → e ≡ f
same_down g e f plane E F a h k =
    let EP = plane.proper_edge e E in
    let FP = plane.proper_edge f F in
    let p = on_wall_parts e.low e.high h in
    let q = on_wall_parts f.low f.high k in
    let q0 : left_of f.low e.high ≡ false = subst (λ u. left_of f.low u ≡ false) (sym a) q.0 in
    let q1 : left_of e.high f.low ≡ false = subst (λ u. left_of u f.low ≡ false) (sym a) q.1 in
    let x = not_right_trans f.low e.high e.low FP.0 EP.1 EP.0 q1 p.0 in
    let y = not_right_trans e.low e.high f.low EP.0 EP.1 FP.0 p.1 q0 in
    let l = plane.distinct e.low f.low (plane.lower_in e E) (plane.lower_in f F) (no_order e.low f.low x y (not_longer g e f plane E F a h k)) (no_order f.low e.low y x (not_longer g f e plane F E (sym a) k h)) in
    edge_path e f l a

-- ---- the order of the darts out of v
kind_one : (l f : Bool) → kind l f ≡ 1 → (l ≡ false) × (f ≡ true)
kind_one true false h = absurd (omega arith)
kind_one false true h = (refl, refl)
kind_one true true h = absurd (omega arith)
kind_one false false h = absurd (omega arith)

kind_three : (l f : Bool) → kind l f ≡ 3 → (l ≡ false) × (f ≡ false)
kind_three true false h = absurd (omega arith)
kind_three false true h = absurd (omega arith)
kind_three true true h = absurd (omega arith)
kind_three false false h = (refl, refl)

left_at : (g : Skeleton) (v : Point) (d : Dart) → IsPlaneSkeleton g → OutOf g v d → turn d ≡ 0 → IsAt g v (λ e. reaches_left e v) d.edge
left_at g v d plane out z =
    let k = kind_zero (left_of d.edge.low d.edge.high) d.forward z in
    let e : d.edge.high ≡ v = sym (ap (start d.edge) k.1) ∙ out.at in
    subst (λ p. IsAt g p (λ e. reaches_left e p) d.edge) e (at_upper g d.edge plane out.in' k.0)

right_at : (g : Skeleton) (v : Point) (d : Dart) → IsPlaneSkeleton g → OutOf g v d → turn d ≡ 2 → IsAt g v (λ e. reaches_right e v) d.edge
right_at g v d plane out z =
    let k = kind_two (left_of d.edge.low d.edge.high) d.forward z in
    let e : d.edge.low ≡ v = sym (ap (start d.edge) k.1) ∙ out.at in
    subst (λ p. IsAt g p (λ e. reaches_right e p) d.edge) e (at_lower g d.edge plane out.in' k.0)

upright_of : (g : Skeleton) (e : Edge) → IsPlaneSkeleton g → Contains g.edges e → left_of e.low e.high ≡ false → on_wall e.low e.high ≡ true
upright_of g e plane E h = rw (h, plane.forward e E) refl

abbrev pub Early : Dart → Dart → Type 0
Early d e = Earlier d.edge e.edge d.forward e.forward

pub earlier_out : (d e : Dart) → earlier d e ≡ true → Early d e
unfolding earlier
earlier_out d e h =
    elim (or_cases (ltb (turn d) (turn e)) _ h) [
      | inl a ↦ by_class (ltb-true (turn d) (turn e) a)
      | inr a ↦
          let b = and_parts (turn d == turn e) _ a in
          let q : turn d ≡ turn e = eqb-true _ _ b.0 in
          elim (or_cases ((turn d == 0) && below d.edge e.edge) _ b.1) [
            | inl k ↦ (let p = and_parts (turn d == 0) _ k in let z : turn d ≡ 0 = eqb-true _ _ p.0 in on_left z (sym q ∙ z) p.1)
            | inr k ↦ (let p = and_parts (turn d == 2) _ k in let z : turn d ≡ 2 = eqb-true _ _ p.0 in on_right z (sym q ∙ z) p.1)
          ]
    ]

pub earlier_in : (d e : Dart) → Early d e → earlier d e ≡ true
unfolding earlier
earlier_in d e (by_class l) = or_left _ _ (lt-ltb (turn d) (turn e) l)
earlier_in d e (on_left z z' b) = or_right (ltb (turn d) (turn e)) _ (and_from (turn d == turn e) _ (eq-eqb _ _ (z ∙ sym z')) (or_left _ _ (and_from (turn d == 0) _ (eq-eqb _ _ z) b)))
earlier_in d e (on_right z z' b) = or_right (ltb (turn d) (turn e)) _ (and_from (turn d == turn e) _ (eq-eqb _ _ (z ∙ sym z')) (or_right ((turn d == 0) && below d.edge e.edge) _ (and_from (turn d == 2) _ (eq-eqb _ _ z) b)))

module _ (g : Skeleton) (v : Point) (plane : IsPlaneSkeleton g) (in' : Contains g.vertices v) where
  itself : (d : Dart) → OutOf g v d → Early d d → ⊥
  itself d D (by_class l) = absurd (omega arith)
  itself d D (on_left z z' b) = below_asym g d.edge d.edge plane D.in' D.in' b b
  itself d D (on_right z z' b) = below_asym g d.edge d.edge plane D.in' D.in' b b

  asym : (d e : Dart) → OutOf g v d → OutOf g v e → Early d e → Early e d → ⊥
  asym d e D E (by_class l) (by_class m) = absurd (omega arith)
  asym d e D E (by_class l) (on_left z z' b) = absurd (omega arith)
  asym d e D E (by_class l) (on_right z z' b) = absurd (omega arith)
  asym d e D E (on_left z z' b) (by_class m) = absurd (omega arith)
  asym d e D E (on_left z z' b) (on_left y y' c) = below_asym g d.edge e.edge plane D.in' E.in' b c
  asym d e D E (on_left z z' b) (on_right y y' c) = absurd (omega arith)
  asym d e D E (on_right z z' b) (by_class m) = absurd (omega arith)
  asym d e D E (on_right z z' b) (on_left y y' c) = absurd (omega arith)
  asym d e D E (on_right z z' b) (on_right y y' c) = below_asym g e.edge d.edge plane E.in' D.in' b c

  further : (d e f : Dart) → OutOf g v d → OutOf g v e → OutOf g v f → Early d e → Early e f → Early d f
  further d e f D E F (by_class l) (by_class m) = by_class (omega arith)
  further d e f D E F (by_class l) (on_left z z' b) = absurd (omega arith)
  further d e f D E F (by_class l) (on_right z z' b) = by_class (omega arith)
  further d e f D E F (on_left z z' b) (by_class m) = by_class (omega arith)
  further d e f D E F (on_left z z' b) (on_left y y' c) = on_left z y' (below_on g v _ _ (λ e. reaches_left e v) d.edge e.edge f.edge (left_fan g v plane (on_own_wall g v plane in')) (left_at g v d plane D z) (left_at g v e plane E z') (left_at g v f plane F y') b c)
  further d e f D E F (on_left z z' b) (on_right y y' c) = absurd (omega arith)
  further d e f D E F (on_right z z' b) (by_class m) = by_class (omega arith)
  further d e f D E F (on_right z z' b) (on_left y y' c) = absurd (omega arith)
  further d e f D E F (on_right z z' b) (on_right y y' c) = on_right z y' (below_on g v _ _ (λ e. reaches_right e v) f.edge e.edge d.edge (right_fan g v plane (on_own_wall g v plane in')) (right_at g v f plane F y') (right_at g v e plane E z') (right_at g v d plane D z) c b)

  dart_path : (d e : Dart) → d.edge ≡ e.edge → d.forward ≡ e.forward → d ≡ e
  dart_path d e a b = λ i. record { edge = a i; forward = b i }

  same_class : (d e : Dart) → OutOf g v d → OutOf g v e → (n : ℕ) → turn d ≡ n → turn e ≡ n → (Early d e → ⊥) → (Early e d → ⊥) → d ≡ e
  same_class d e D E zero a b no_de no_ed =
      let x = kind_zero _ d.forward a in
      let y = kind_zero _ e.forward b in
      dart_path d e (below_total g v _ _ (λ e. reaches_left e v) d.edge e.edge (left_fan g v plane (on_own_wall g v plane in')) (left_at g v d plane D a) (left_at g v e plane E b)
      (false_from_ne_true _ (λ h. no_de (on_left a b h))) (false_from_ne_true _ (λ h. no_ed (on_left b a h)))) (x.1 ∙ sym y.1)
  same_class d e D E (suc zero) a b no_de no_ed =
      let x = kind_one _ d.forward a in
      let y = kind_one _ e.forward b in
      let p : d.edge.low ≡ e.edge.low = sym (ap (start d.edge) x.1) ∙ D.at ∙ sym E.at ∙ ap (start e.edge) y.1 in
      dart_path d e (same_up g d.edge e.edge plane D.in' E.in' p (upright_of g d.edge plane D.in' x.0) (upright_of g e.edge plane E.in' y.0)) (x.1 ∙ sym y.1)
  same_class d e D E (suc (suc zero)) a b no_de no_ed =
      let x = kind_two _ d.forward a in
      let y = kind_two _ e.forward b in
      dart_path d e (below_total g v _ _ (λ e. reaches_right e v) d.edge e.edge (right_fan g v plane (on_own_wall g v plane in')) (right_at g v d plane D a) (right_at g v e plane E b)
      (false_from_ne_true _ (λ h. no_ed (on_right b a h))) (false_from_ne_true _ (λ h. no_de (on_right a b h)))) (x.1 ∙ sym y.1)
  same_class d e D E (suc (suc (suc zero))) a b no_de no_ed =
      let x = kind_three _ d.forward a in
      let y = kind_three _ e.forward b in
      let p : d.edge.high ≡ e.edge.high = sym (ap (start d.edge) x.1) ∙ D.at ∙ sym E.at ∙ ap (start e.edge) y.1 in
      dart_path d e (same_down g d.edge e.edge plane D.in' E.in' p (upright_of g d.edge plane D.in' x.0) (upright_of g e.edge plane E.in' y.0)) (x.1 ∙ sym y.1)
  same_class d e D E (suc (suc (suc (suc n)))) a b no_de no_ed = let f = kind_few (left_of d.edge.low d.edge.high) d.forward in absurd (omega arith)

  total : (d e : Dart) → OutOf g v d → OutOf g v e → (Early d e → ⊥) → (Early e d → ⊥) → d ≡ e
  total d e D E no_de no_ed =
      let a : turn d ≡ turn e = omega (arith, (λ (h : turn d < turn e). no_de (by_class h)), (λ (h : turn e < turn d). no_ed (by_class h))) in
      same_class d e D E (turn d) refl (sym a) no_de no_ed

  pub round_at : IsRound earlier (OutOf g v)
  round_at = record {
    itself = λ d D h. itself d D (earlier_out d d h);
    asym = λ d e D E h k. asym d e D E (earlier_out d e h) (earlier_out e d k);
    on = λ d e f D E F h k. earlier_in d f (further d e f D E F (earlier_out d e h) (earlier_out e f k));
    total = λ d e D E h k. total d e D E (λ u. false≢true (sym h ∙ earlier_in d e u)) (λ u. false≢true (sym k ∙ earlier_in e d u));
  }

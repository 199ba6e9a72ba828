-- Each dart keeps the whole parts that its twin keeps of its own point: after each write of darts.
use Rattle.std.proofs.Common.{◌≡◌, ◌≢◌, inl, inr, ℕ, Option, Some, None, is_some, IsSome, option_map, refl, sym, ap, subst, ◌∙◌}
use Rattle.std.proofs.lemmas.Bool.{cases_eq, false≢true}
use Rattle.exact_plane.specs.declared.whole_parts.WholeParts.{WholeParts}
use Rattle.slab.specs.Slab.{Slab, get, with_value, Updates}
use Rattle.slab.proofs.SlabLemmas.{Updates-with_value}
use Rattle.slab_laws.specs.declared.names.DartId.{DartId}
use Rattle.slab_laws.specs.Sound.{IsTwinned}
use Rattle.slab_laws.specs.View.{twin_in}
use Rattle.dcel_records.specs.declared.rows.StoredDart.{StoredDart}
use Rattle.dcel_records.specs.declared.rows.StoredVertex.{StoredVertex}
use Rattle.dcel_records.specs.Given.{reaching}
use Rattle.dcel_records.specs.RecordsView.{GraphView}
use Rattle.dcel_records.specs.StoredRows.{graph_view, AreSoundRows, AreTargetsKept}
use Rattle.dcel_records.proofs.Adding.{two_names, first_there, second_free}
use Rattle.dcel_records.proofs.Holding.{dart_has, twin_is, twin_key, twinned}

some_one : {X : Type 0} (x y : X) → Some x ≡ Some y → x ≡ y
some_one x y e = cc

-- ---- a dart that goes
module _ (s t : Slab StoredDart) (k : ℕ) (u : Updates s t k None) where
  was_there : (n : ℕ) (r : StoredDart) → get t n ≡ Some r → get s n ≡ Some r
  was_there n r g = elim (cases_eq n k) [
    | inl q ↦ (let z : None ≡ Some r = sym u.changed ∙ ap (get t) (sym q) ∙ g in absurd (cc))
    | inr ne ↦ sym (u.others n ne) ∙ g
  ]

  pub targets_less : AreTargetsKept s → AreTargetsKept t
  targets_less h n r q g f = h n r q (was_there n r g) (was_there r.twin.0 q f)

-- ---- a dart that keeps its twin and its points
pub record IsAlike (r q : StoredDart) : Type 0 where
  pub twin : q.twin ≡ r.twin
  pub parts : q.parts ≡ r.parts
  pub target_parts : q.target_parts ≡ r.target_parts

record WasAlike (ds : Slab StoredDart) (n : ℕ) (x : StoredDart) : Type 0 where
  old : StoredDart
  there : get ds n ≡ Some old
  alike : IsAlike old x

module _ (ds : Slab StoredDart) (d : ℕ) (r q : StoredDart) (g : get ds d ≡ Some r) (a : IsAlike r q) where
  was_alike : (n : ℕ) (x : StoredDart) → get (with_value ds d q) n ≡ Some x → WasAlike ds n x
  was_alike n x e = elim (cases_eq n d) [
    | inl i ↦ record { old = r; there = ap (get ds) i ∙ g; alike = subst (IsAlike r) (some_one q x (sym u.changed ∙ ap (get (with_value ds d q)) (sym i) ∙ e)) a }
    | inr ne ↦ record { old = x; there = sym (u.others n ne) ∙ e; alike = record { twin = refl; parts = refl; target_parts = refl } }
  ]
    where
      u : Updates ds (with_value ds d q) d (Some q)
      u = Updates-with_value ds d q (ap is_some g)

  pub targets_written : AreTargetsKept ds → AreTargetsKept (with_value ds d q)
  targets_written h n x y e f =
      let z = was_alike n x e in
      let w = was_alike x.twin.0 y f in
      w.alike.parts ∙ h n z.old w.old z.there (ap (λ (t : DartId). get ds t.0) (sym z.alike.twin) ∙ w.there) ∙ sym z.alike.target_parts

-- ---- the twin of a twin
abbrev AreTwins : Slab StoredDart → Type 0
AreTwins ds = (n : ℕ) (x y : StoredDart) → get ds n ≡ Some x → get ds x.twin.0 ≡ Some y → y.twin.0 ≡ n

pub twins_back : (vs : Slab StoredVertex) (ds : Slab StoredDart) (h : GraphView) (is : graph_view vs ds ≡ h) → AreSoundRows vs ds → AreTwins ds
twins_back vs ds h is k n x y e f =
    let d : DartId = record { 0 = n } in
    let t : IsTwinned h.graph = twinned vs ds h is k in
    ap (λ (m : DartId). m.0) (twin_is vs ds h is x.twin y f ∙ ap (twin_in h.graph) (twin_is vs ds h is d x e) ∙ t.back d (dart_has vs ds h is d (ap is_some e)))

pub twins_there : (vs : Slab StoredVertex) (ds : Slab StoredDart) (h : GraphView) (is : graph_view vs ds ≡ h) → AreSoundRows vs ds → (n : ℕ) (x : StoredDart) → get ds n ≡ Some x → IsSome (get ds x.twin.0)
twins_there vs ds h is k n x e = twin_key vs ds h is k (record { 0 = n }) x (dart_has vs ds h is (record { 0 = n }) (ap is_some e)) e

-- ---- a dart that leaves another point, which its twin is told first
module _ (ds es : Slab StoredDart) (d t : ℕ) (r q : StoredDart) (p : WholeParts) (g : get ds d ≡ Some r) (is : r.twin.0 ≡ t) (ne : t ≢ d) (b : AreTwins ds)
    (u : Updates ds es t (option_map (reaching p) (get ds t))) (w : StoredDart) (f : get es d ≡ Some w) (twin : q.twin ≡ w.twin) (parts : q.parts ≡ p) (targets : q.target_parts ≡ w.target_parts) where
  same : r ≡ w
  same = some_one r w (sym g ∙ sym (u.others d (λ e. ne (sym e))) ∙ f)

  put : Updates es (with_value es d q) d (Some q)
  put = Updates-with_value es d q (ap is_some f)

  record WasMoved (n : ℕ) (x : StoredDart) : Type 0 where
    old : StoredDart
    there : get ds n ≡ Some old
    twins : x.twin ≡ old.twin
    moved : n ≡ d → x.parts ≡ p
    stays : n ≢ d → x.parts ≡ old.parts
    told : n ≡ t → x.target_parts ≡ p
    keeps : n ≢ t → x.target_parts ≡ old.target_parts

  of_told : (n : ℕ) (x : StoredDart) (o : Option StoredDart) → get ds n ≡ o → n ≢ d → n ≡ t → option_map (reaching p) o ≡ Some x → WasMoved n x
  of_told n x None a nd i e = absurd (cc)
  of_told n x (Some z) a nd i e =
      let k : reaching p z ≡ x = some_one (reaching p z) x e in
      record {
        old = z;
        there = a;
        twins = ap (λ (y : StoredDart). y.twin) (sym k);
        moved = λ j. absurd (nd j);
        stays = λ j. ap (λ (y : StoredDart). y.parts) (sym k);
        told = λ j. ap (λ (y : StoredDart). y.target_parts) (sym k);
        keeps = λ j. absurd (j i);
      }

  was_moved : (n : ℕ) (x : StoredDart) → get (with_value es d q) n ≡ Some x → WasMoved n x
  was_moved n x e = elim (cases_eq n d) [
    | inl i ↦ (let k : q ≡ x = some_one q x (sym put.changed ∙ ap (get (with_value es d q)) (sym i) ∙ e) in
        record {
          old = r;
          there = ap (get ds) i ∙ g;
          twins = ap (λ (y : StoredDart). y.twin) (sym k) ∙ twin ∙ ap (λ (y : StoredDart). y.twin) (sym same);
          moved = λ j. ap (λ (y : StoredDart). y.parts) (sym k) ∙ parts;
          stays = λ j. absurd (j i);
          told = λ j. absurd (ne (sym j ∙ i));
          keeps = λ j. ap (λ (y : StoredDart). y.target_parts) (sym k) ∙ targets ∙ ap (λ (y : StoredDart). y.target_parts) (sym same);
        })
    | inr nd ↦ elim (cases_eq n t) [
      | inl i ↦ of_told n x (get ds n) refl nd i (ap (λ m. option_map (reaching p) (get ds m)) i ∙ sym u.changed ∙ ap (get es) (sym i) ∙ sym (put.others n nd) ∙ e)
      | inr nt ↦ record { old = x; there = sym (u.others n nt) ∙ sym (put.others n nd) ∙ e; twins = refl; moved = λ j. absurd (nd j); stays = λ j. refl; told = λ j. absurd (nt j); keeps = λ j. refl }
    ]
  ]

  pub targets_moved : AreTargetsKept ds → AreTargetsKept (with_value es d q)
  targets_moved h n x y e f = elim (cases_eq n t) [
    | inl i ↦ (let back : z.old.twin.0 ≡ d = b d r z.old g (ap (get ds) (is ∙ sym i) ∙ z.there) in
        v.moved (ap (λ (m : DartId). m.0) z.twins ∙ back) ∙ sym (z.told i))
    | inr nt ↦ v.stays (λ j. nt (sym (b n z.old r z.there (ap (get ds) (ap (λ (m : DartId). m.0) (sym z.twins) ∙ j) ∙ g)) ∙ is)) ∙ h n z.old v.old z.there (ap (λ (m : DartId). get ds m.0) (sym z.twins) ∙ v.there) ∙ sym (z.keeps nt)
  ]
    where
      z : WasMoved n x
      z = was_moved n x e

      v : WasMoved x.twin.0 y
      v = was_moved x.twin.0 y f

-- ---- two darts put, the first written again once the second's name is known
module _ (ds s t : Slab StoredDart) (d m : ℕ) (a b z q : StoredDart) (free_d : get ds d ≡ None) (free_m : get s m ≡ None) (u : Updates ds s d (Some a)) (w : Updates s t m (Some b)) (g : get t d ≡ Some z)
    (twin : q.twin.0 ≡ m) (back : b.twin.0 ≡ d) (parts : q.parts ≡ z.parts) (targets : q.target_parts ≡ z.target_parts) (ahead : b.parts ≡ a.target_parts) (behind : a.parts ≡ b.target_parts)
    (twins : (n : ℕ) (x : StoredDart) → get ds n ≡ Some x → IsSome (get ds x.twin.0)) where
  abbrev new : Slab StoredDart
  new = with_value t d q

  put_again : Updates t new d (Some q)
  put_again = Updates-with_value t d q (ap is_some g)

  apart : m ≢ d
  apart e = two_names ds s t d m a b free_m u w (sym e)

  first : a ≡ z
  first = some_one a z (sym (first_there ds s t d m a b free_m u w) ∙ g)

  at_m : get new m ≡ Some b
  at_m = put_again.others m apart ∙ w.changed

  old_row : (n : ℕ) → n ≢ d → n ≢ m → get new n ≡ get ds n
  old_row n nd nm = put_again.others n nd ∙ w.others n nm ∙ u.others n nd

  of_first : (x y : StoredDart) → q ≡ x → get new x.twin.0 ≡ Some y → y.parts ≡ x.target_parts
  of_first x y k f =
      let i : b ≡ y = some_one b y (sym at_m ∙ ap (get new) (sym twin ∙ ap (λ (o : StoredDart). o.twin.0) k) ∙ f) in
      ap (λ (o : StoredDart). o.parts) (sym i) ∙ ahead ∙ ap (λ (o : StoredDart). o.target_parts) first ∙ sym targets ∙ ap (λ (o : StoredDart). o.target_parts) k

  of_second : (x y : StoredDart) → b ≡ x → get new x.twin.0 ≡ Some y → y.parts ≡ x.target_parts
  of_second x y k f =
      let i : q ≡ y = some_one q y (sym put_again.changed ∙ ap (get new) (sym back ∙ ap (λ (o : StoredDart). o.twin.0) k) ∙ f) in
      ap (λ (o : StoredDart). o.parts) (sym i) ∙ parts ∙ ap (λ (o : StoredDart). o.parts) (sym first) ∙ behind ∙ ap (λ (o : StoredDart). o.target_parts) k

  -- the twin of an old dart is an old dart
  neither : (n k : ℕ) (x : StoredDart) → get ds n ≡ Some x → get ds k ≡ None → x.twin.0 ≢ k
  neither n k x e free i = false≢true (sym (ap is_some (ap (get ds) i ∙ free)) ∙ twins n x e)

  pub targets_more : AreTargetsKept ds → AreTargetsKept new
  targets_more h n x y e f = elim (cases_eq n d) [
    | inl i ↦ of_first x y (some_one q x (sym put_again.changed ∙ ap (get new) (sym i) ∙ e)) f
    | inr nd ↦ elim (cases_eq n m) [
      | inl i ↦ of_second x y (some_one b x (sym at_m ∙ ap (get new) (sym i) ∙ e)) f
      | inr nm ↦ (let o : get ds n ≡ Some x = sym (old_row n nd nm) ∙ e in
          h n x y o (sym (old_row x.twin.0 (neither n d x o free_d) (neither n m x o (second_free ds s t d m a b free_m u w))) ∙ f))
    ]
  ]

-- Each dart keeps the whole parts of both its points: what keeps that, and what it tells a caller.
use Rattle.std.proofs.Common.{◌≡◌, ◌≢◌, inl, inr, ℕ, [], slice_index_or, Option, Some, None, is_some, IsSome, option_map, refl, sym, ap, ◌∙◌}
use Rattle.std.proofs.lemmas.Bool.{cases_eq, false≢true}
use Rattle.exact_plane.specs.WholeParts.{whole_parts}
use Rattle.exact_plane.specs.declared.whole_parts.WholeParts.{WholeParts}
use Rattle.slab.specs.Slab.{Slab, get, with_value, Updates}
use Rattle.slab.proofs.SlabLemmas.{Updates-with_value}
use Rattle.slab_laws.specs.declared.names.DartId.{DartId}
use Rattle.slab_laws.specs.declared.names.VertexId.{VertexId}
use Rattle.slab_laws.specs.View.{HasDart, IsOutOf, point_in, source_in, target_in}
use Rattle.dcel_records.specs.declared.rows.StoredDart.{StoredDart}
use Rattle.dcel_records.specs.declared.rows.StoredVertex.{StoredVertex}
use Rattle.dcel_records.specs.Given.{given, reaching}
use Rattle.dcel_records.specs.Placing.{vertex_placing, rest_of}
use Rattle.dcel_records.specs.RecordsView.{GraphView}
use Rattle.dcel_records.specs.StoredRows.{graph_view, parts_at, AreSoundRows, AreSourcesKept, AreTargetsKept, AreMarked}
use Rattle.dcel_records.proofs.EachRow.{each_put, each_less, each_write, each_mapped}
use Rattle.dcel_records.proofs.Holding.{dart_has, source_is, target_is, point_is, twin_key}
use Rattle.dcel_records.proofs.Relinked.{through}
use Rattle.dcel_records.proofs.Removing.{twin_other}
use Rattle.dcel_records.proofs.TargetsKept.{targets_less, targets_written, targets_moved, twins_back, IsAlike}
use Rattle.dcel_records.proofs.Writing.{row_out}

abbrev parts_or : Option StoredVertex → Option WholeParts
parts_or o = option_map (λ r. whole_parts r.point) o

-- ---- vertices written
parts_updated : (s t : Slab StoredVertex) (k : ℕ) (o : Option StoredVertex) → Updates s t k o → parts_or o ≡ parts_at s k → (n : ℕ) → parts_at t n ≡ parts_at s n
parts_updated s t k o u e n = elim (cases_eq n k) [
  | inl q ↦ ap (parts_at t) q ∙ ap parts_or u.changed ∙ e ∙ sym (ap (parts_at s) q)
  | inr ne ↦ ap parts_or (u.others n ne)
]

parts_written : (s : Slab StoredVertex) (k : ℕ) (r q : StoredVertex) → get s k ≡ Some r → q.point ≡ r.point → (n : ℕ) → parts_at (with_value s k q) n ≡ parts_at s n
parts_written s k r q g e = parts_updated s (with_value s k q) k (Some q) (Updates-with_value s k q (ap is_some g)) (ap (λ p. Some (whole_parts p)) e ∙ sym (ap parts_or g))

parts_given : (d : DartId) (s t : Slab StoredVertex) (k : ℕ) → Updates s t k (option_map (given d) (get s k)) → (n : ℕ) → parts_at t n ≡ parts_at s n
parts_given d s t k u = parts_updated s t k (option_map (given d) (get s k)) u (by (get s k))
  where
    by : (o : Option StoredVertex) → parts_or (option_map (given d) o) ≡ parts_or o
    by None = refl
    by (Some r) = refl

module _ (vs ws : Slab StoredVertex) (ds : Slab StoredDart) where
  -- points that stay
  marked_same : ((n : ℕ) → parts_at ws n ≡ parts_at vs n) → AreMarked vs ds → AreMarked ws ds
  marked_same e k = record { sources = λ n r g. e r.source.0 ∙ k.sources n r g; targets = k.targets }

  -- all but places stays
  pub marked_relinked : ((n : ℕ) → option_map (rest_of vertex_placing) (get ws n) ≡ option_map (rest_of vertex_placing) (get vs n)) → AreMarked vs ds → AreMarked ws ds
  marked_relinked rests = marked_same (λ n. through (rest_of vertex_placing) (λ r. whole_parts r.point) (λ r. refl) (get ws n) (get vs n) (rests n))

  -- a vertex more
  pub marked_more : (v : ℕ) (o : Option StoredVertex) → get vs v ≡ None → Updates vs ws v o → AreMarked vs ds → AreMarked ws ds
  marked_more v o free u k = record { sources = sources; targets = k.targets }
    where
      sources : AreSourcesKept ws ds
      sources n r g = elim (cases_eq r.source.0 v) [
        | inl q ↦ (let z : None ≡ Some r.parts = sym (ap parts_or free) ∙ sym (ap (parts_at vs) q) ∙ k.sources n r g in absurd (cc))
        | inr ne ↦ ap parts_or (u.others r.source.0 ne) ∙ k.sources n r g
      ]

-- a field written that isn't the point
pub marked_written : (vs : Slab StoredVertex) (ds : Slab StoredDart) (v : ℕ) (r q : StoredVertex) → get vs v ≡ Some r → q.point ≡ r.point → AreMarked vs ds → AreMarked (with_value vs v q) ds
marked_written vs ds v r q g e = marked_same vs (with_value vs v q) ds (parts_written vs v r q g e)

-- a vertex goes that no dart leaves
pub marked_gone : (vs ws : Slab StoredVertex) (ds : Slab StoredDart) (h : GraphView) → graph_view vs ds ≡ h → (v : VertexId) → ((d : DartId) → ¬ IsOutOf h.graph v d) → Updates vs ws v.0 None → AreMarked vs ds → AreMarked ws ds
marked_gone vs ws ds h is v bare u k = record { sources = λ n r g. ap parts_or (u.others r.source.0 (apart n r g)) ∙ k.sources n r g; targets = k.targets }
  where
    apart : (n : ℕ) (r : StoredDart) → get ds n ≡ Some r → r.source.0 ≢ v.0
    apart n r g q = bare (record { 0 = n }) (dart_has vs ds h is (record { 0 = n }) (ap is_some g), sym (source_is vs ds h is (record { 0 = n }) r g) ∙ (λ i. record { 0 = q i }))

-- ---- darts written
abbrev IsMarked : Slab StoredVertex → StoredDart → Type 0
IsMarked vs r = parts_at vs r.source.0 ≡ Some r.parts

-- two darts go, and their sources get other darts out
pub marked_less : (vs : Slab StoredVertex) (ds es bs : Slab StoredDart) (d m u v : ℕ) (a b : Option DartId) (x y : StoredVertex) → Updates ds es d None → Updates es bs m None → get vs u ≡ Some x → get (with_value vs u (row_out a x)) v ≡ Some y → AreMarked vs ds → AreMarked (with_value (with_value vs u (row_out a x)) v (row_out b y)) bs
marked_less vs ds es bs d m u v a b x y p q f g k =
    marked_written (with_value vs u (row_out a x)) bs v y (row_out b y) g refl
    (marked_written vs bs u x (row_out a x) f refl
    (record { sources = each_less (IsMarked vs) es bs m q (each_less (IsMarked vs) ds es d p k.sources); targets = targets_less es bs m q (targets_less ds es d p k.targets) }))

-- a dart that keeps its points and its twin
pub marked_kept : (vs : Slab StoredVertex) (ds : Slab StoredDart) (d : ℕ) (r q : StoredDart) → get ds d ≡ Some r → q.source ≡ r.source → IsAlike r q → AreMarked vs ds → AreMarked vs (with_value ds d q)
marked_kept vs ds d r q g e a k = record {
  sources = each_write (IsMarked vs) ds d r q g (ap (λ (w : VertexId). parts_at vs w.0) e ∙ k.sources d r g ∙ ap Some (sym a.parts)) k.sources;
  targets = targets_written ds d r q g a k.targets;
}

-- a dart leaves another vertex, its twin was told before, and the vertex that it left gets another dart out
pub marked_moved : (vs : Slab StoredVertex) (ds es : Slab StoredDart) (h : GraphView) → graph_view vs ds ≡ h → AreSoundRows vs ds → (d : DartId) (u : ℕ) (o : Option DartId) (r w q : StoredDart) (x y : StoredVertex) → get ds d.0 ≡ Some r → Updates ds es r.twin.0 (option_map (reaching q.parts) (get ds r.twin.0)) → get es d.0 ≡ Some w → q.twin ≡ w.twin → q.target_parts ≡ w.target_parts → get vs q.source.0 ≡ Some x → q.parts ≡ whole_parts x.point → get vs u ≡ Some y → AreMarked vs ds → AreMarked (with_value vs u (row_out o y)) (with_value es d.0 q)
marked_moved vs ds es h is rows d u o r w q x y g v e twin targets f p b k =
    marked_written vs (with_value es d.0 q) u y (row_out o y) b refl
    (record {
      sources = each_write (IsMarked vs) es d.0 w q e (ap parts_or f ∙ ap Some (sym p)) (each_mapped (IsMarked vs) (reaching q.parts) (λ z i. i) ds es r.twin.0 v k.sources);
      targets = targets_moved ds es d.0 r.twin.0 r q q.parts g refl (twin_other vs ds h is rows d r (dart_has vs ds h is d (ap is_some g)) g) (twins_back vs ds h is rows) v w e twin refl targets k.targets;
    })

-- two darts put, the first written again, and their sources offered them
pub marked_pair : (vs ws xs : Slab StoredVertex) (ds es bs : Slab StoredDart) (d m : ℕ) (a b z q : StoredDart) (x y : StoredVertex) → get vs a.source.0 ≡ Some x → a.parts ≡ whole_parts x.point → get vs b.source.0 ≡ Some y → b.parts ≡ whole_parts y.point → Updates ds es d (Some a) → Updates es bs m (Some b) → get bs d ≡ Some z → q.source ≡ z.source → q.parts ≡ z.parts → (i j : DartId) → Updates vs ws a.source.0 (option_map (given i) (get vs a.source.0)) → Updates ws xs b.source.0 (option_map (given j) (get ws b.source.0)) →
    (AreTargetsKept ds → AreTargetsKept (with_value bs d q)) → AreMarked vs ds → AreMarked xs (with_value bs d q)
marked_pair vs ws xs ds es bs d m a b z q x y f p g o u w e s t i j v l targets k =
    marked_same vs xs (with_value bs d q) (λ n. parts_given j ws xs b.source.0 l n ∙ parts_given i vs ws a.source.0 v n)
    (record { sources = each_write (IsMarked vs) bs d z q e (ap (λ (w : VertexId). parts_at vs w.0) s ∙ both d z e ∙ ap Some (sym t)) both; targets = targets k.targets })
  where
    both : AreSourcesKept vs bs
    both = each_put (IsMarked vs) es bs m b w (ap parts_or g ∙ ap Some (sym o)) (each_put (IsMarked vs) ds es d a u (ap parts_or f ∙ ap Some (sym p)) k.sources)

-- ---- slabs as they were, or without darts
pub marked_slots : (vs ws : Slab StoredVertex) (ds es : Slab StoredDart) → ws.slots ≡ vs.slots → es.slots ≡ ds.slots → AreMarked vs ds → AreMarked ws es
marked_slots vs ws ds es a b k = record {
  sources = λ n r e. ap (λ s. parts_or (slice_index_or s r.source.0 None)) a ∙ k.sources n r (there n r e);
  targets = λ n r q e f. k.targets n r q (there n r e) (there r.twin.0 q f);
}
  where
    there : (n : ℕ) (r : StoredDart) → get es n ≡ Some r → get ds n ≡ Some r
    there n r e = ap (λ s. slice_index_or s n None) (sym b) ∙ e

pub marked_none : (vs : Slab StoredVertex) (ds : Slab StoredDart) → ds.slots ≡ [] → AreMarked vs ds
marked_none vs ds a = record { sources = λ n r e. absurd (no n r e); targets = λ n r q e f. absurd (no n r e) }
  where
    no : (n : ℕ) (r : StoredDart) → get ds n ≡ Some r → ⊥
    no n r e = let z : None ≡ Some r = ap (λ s. slice_index_or s n None) (sym a) ∙ e in absurd (cc)

-- ---- what a caller sees
module _ (vs : Slab StoredVertex) (ds : Slab StoredDart) (h : GraphView) (is : graph_view vs ds ≡ h) (k : AreMarked vs ds) where
  marked_point : (w : VertexId) (p : WholeParts) → parts_at vs w.0 ≡ Some p → p ≡ whole_parts (point_in h.graph w)
  marked_point w p e = step (get vs w.0) refl
    where
      step : (o : Option StoredVertex) → get vs w.0 ≡ o → p ≡ whole_parts (point_in h.graph w)
      step None f = let z : None ≡ Some p = sym (ap parts_or f) ∙ e in absurd (cc)
      step (Some x) f = let z : Some p ≡ Some (whole_parts x.point) = sym e ∙ ap parts_or f in let y : p ≡ whole_parts x.point = cc in y ∙ ap whole_parts (point_is vs ds h is w x f)

  row_marked : (d : DartId) (r : StoredDart) → get ds d.0 ≡ Some r → r.parts ≡ whole_parts (point_in h.graph r.source)
  row_marked d r g = marked_point r.source r.parts (k.sources d.0 r g)

  pub source_marked : (d : DartId) (r : StoredDart) → get ds d.0 ≡ Some r → r.parts ≡ whole_parts (point_in h.graph (source_in h.graph d))
  source_marked d r g = row_marked d r g ∙ ap (λ (w : VertexId). whole_parts (point_in h.graph w)) (source_is vs ds h is d r g)

  pub target_marked : AreSoundRows vs ds → (d : DartId) (r : StoredDart) → HasDart h.graph d → get ds d.0 ≡ Some r → r.target_parts ≡ whole_parts (point_in h.graph (target_in h.graph d))
  target_marked rows d r has g = by (get ds r.twin.0) refl (twin_key vs ds h is rows d r has g)
    where
      by : (o : Option StoredDart) → get ds r.twin.0 ≡ o → IsSome o → r.target_parts ≡ whole_parts (point_in h.graph (target_in h.graph d))
      by None f b = absurd (false≢true b)
      by (Some q) f b = sym (k.targets d.0 r q g f) ∙ row_marked r.twin q f ∙ ap (λ (w : VertexId). whole_parts (point_in h.graph w)) (target_is vs ds h is d r q g f)

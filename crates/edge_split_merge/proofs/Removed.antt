-- What the writers of two edges in one make of a view.
use Rattle.std.proofs.Common.{◌≡◌, ◌≢◌, ◌==◌, inl, inr, cond, Some, None, sym, ap, subst, ◌∙◌}
use Rattle.slab_laws.specs.declared.names.DartId.{DartId}
use Rattle.slab_laws.specs.declared.names.VertexId.{VertexId}
use Rattle.slab_laws.specs.Sound.{IsGraphSound, IsNamed}
use Rattle.slab_laws.specs.View.{View, HasVertex, HasDart, IsOutOf, source_in, twin_in, next_in, target_in}
use Rattle.arr_notes.specs.Reads.{IsRelinked, IsPairLess, IsSourceSet}
use Rattle.arr_notes.specs.ViewChanges.{with_next, with_source, without_pair, without_vertex, redirect}
use Rattle.arr_notes.proofs.DartReads.{next_is_set, source_is_set}
use Rattle.arr_notes.proofs.PairReads.{pair_is_removed, names_stay}
use Rattle.arr_notes.proofs.Redirected.{one_is_redirected}
use Rattle.dcel_records.specs.Outs.{IsRest}
use Rattle.arr_notes.specs.Step.{merge_edge}
use Rattle.arr_notes.proofs.Names.{cases_dart}
use Rattle.sound_changes.specs.ChangeFits.{FitsMerge}
use Rattle.edge_split_merge.proofs.Meeting.{vertex_has, two_out, far_apart}

-- but for followers, h is v where t leaves u
pub record IsMoved (v h : View) (t : DartId) (u : VertexId) : Type 0 where
  pub names : IsNamed h
  pub has : (k : DartId) → HasDart v k → HasDart h k
  pub had : (k : DartId) → HasDart h k → HasDart v k
  pub twin : (k : DartId) → twin_in h k ≡ twin_in v k
  pub source : source_in h t ≡ u
  pub others : (k : DartId) → k ≢ t → source_in h k ≡ source_in v k
  pub vertex : (q : VertexId) → HasVertex v q → HasVertex h q

pub moved : (v g1 g2 g3 : View) (x t d b : DartId) (u : VertexId) → IsNamed v → HasDart v t → g1 ≡ with_next v x t → g2 ≡ with_source g1 t u → g3 ≡ with_next g2 d b → IsMoved v g3 t u
moved v g1 g2 g3 x t d b u a ht e1 e2 e3 =
    let r1 : IsRelinked v g1 = subst (λ z. IsRelinked v z) (sym e1) (next_is_set v x t).relinked in
    let r2 : IsSourceSet g1 g2 t u = subst (λ z. IsSourceSet g1 z t u) (sym e2) (source_is_set g1 t u) in
    let r3 : IsRelinked g2 g3 = subst (λ z. IsRelinked g2 z) (sym e3) (next_is_set g2 d b).relinked in
    let a1 : IsNamed g1 = subst (λ z. IsNamed z) (sym e1) ((names_stay v a).next x t) in
    let a2 : IsNamed g2 = subst (λ z. IsNamed z) (sym e2) ((names_stay g1 a1).source t u) in
    record {
      names = subst (λ z. IsNamed z) (sym e3) ((names_stay g2 a2).next d b);
      has = λ k o. r3.has k (r2.has k (r1.has k o));
      had = λ k o. r1.had k (r2.had k (r3.had k o));
      twin = λ k. r3.twin k ∙ r2.twin k ∙ r1.twin k;
      source = r3.source t ∙ r2.source (r1.has t ht);
      others = λ k ne. r3.source k ∙ (r2.others k ne).source ∙ r1.source k;
      vertex = λ q o. (r3.vertices q).has ((r2.vertices q).has ((r1.vertices q).has o));
    }

-- ---- the first write

pub still_out : (v g : View) → IsRelinked v g → (w : VertexId) (k : DartId) → IsOutOf v w k → IsOutOf g w k
still_out v g r w k o = (r.has k o.0, r.source k ∙ o.1)

pub source_kept : (v g h : View) (t d : DartId) (u : VertexId) → IsRelinked v g → h ≡ with_source g t u → HasDart v d → HasDart h d
source_kept v g h t d u r e o = subst (λ z. HasDart z d) (sym e) ((source_is_set g t u).has d (r.has d o))

-- ---- the darts out of w and of the far end

module _ (v : View) (w : VertexId) (d n : DartId) (s : IsGraphSound v) (f : FitsMerge v w d n) (t m : DartId) (u : VertexId) (qt : t ≡ twin_in v d) (qm : m ≡ twin_in v n) (qu : u ≡ source_in v m) where
  pub twin_out : IsOutOf v w t
  twin_out = (subst (HasDart v) (sym qt) (s.twinned.has d f.first), ap (source_in v) qt ∙ f.arrives)

  pub far_out : IsOutOf v u m
  far_out = (subst (HasDart v) (sym qm) (s.twinned.has n f.second), sym qu)

  pub far_there : HasVertex v u
  far_there = subst (HasVertex v) (sym qu) (s.linked.source m far_out.0)

  pub not_twin : n ≢ t
  not_twin q = two_out v w s d n f (sym (q ∙ qt))

  u_w : u ≢ w
  u_w q = far_apart v w s d n f (ap (source_in v) (sym qm) ∙ sym qu ∙ q)

  m_t : m ≢ t
  m_t q = u_w (qu ∙ ap (source_in v) q ∙ twin_out.1)

  module _ (h : View) (i : IsMoved v h t u) where
    n_source : source_in h n ≡ w
    n_source = i.others n not_twin ∙ f.leaves

    m_is : twin_in h n ≡ m
    m_is = i.twin n ∙ sym qm

    m_source : source_in h (twin_in h n) ≡ u
    m_source = ap (source_in h) m_is ∙ i.others m m_t ∙ sym qu

    pub ends_apart : source_in h n ≢ target_in h n
    ends_apart q = u_w (sym m_source ∙ sym q ∙ n_source)

    -- n alone leaves w now
    only_n : (k : DartId) → HasDart h k → source_in h k ≡ w → k ≡ n
    only_n k o q = elim (cases_dart k t) [
      | inl e ↦ absurd (u_w (sym i.source ∙ ap (source_in h) (sym e) ∙ q))
      | inr ne ↦ elim (f.only k (i.had k o) (sym (i.others k ne) ∙ q)) [ inl e ↦ e | inr e ↦ absurd (ne (e ∙ sym qt)) ]
    ]

    pub none_left : IsRest h n None
    none_left = record { some = λ e q. absurd (cc); none = λ _ e o. only_n e o.0 (o.1 ∙ n_source) }

    pub twin_left : IsRest h (twin_in h n) (Some t)
    twin_left = record {
      some = λ e q.
          let r : t ≡ e = cc in
          subst (λ z. IsOutOf h (source_in h (twin_in h n)) z × (z ≢ twin_in h n)) r ((i.has t twin_out.0, i.source ∙ sym m_source), λ p. m_t (sym (p ∙ m_is)));
      none = λ q. absurd (cc);
    }

    -- ---- and without n and its twin
    module _ (g : View) (e : g ≡ without_pair h n (twin_in h n)) where
      less : IsPairLess h g n (twin_in h n)
      less = subst (λ z. IsPairLess h z n (twin_in h n)) (sym e) (pair_is_removed h n (twin_in h n) i.names)

      pub vertex_still : HasVertex g w
      vertex_still = (less.vertices w).has (i.vertex w (vertex_has v w s d n f))

      pub bare : (k : DartId) → IsOutOf g w k → ⊥
      bare k o =
          let a = less.others k (λ q. less.first (subst (HasDart g) q o.0)) (λ q. less.second (subst (HasDart g) q o.0)) in
          less.first (subst (HasDart g) (only_n k (a.had o.0) (sym a.source ∙ o.1)) o.0)

  -- ---- the whole
  pub made : (x b c : DartId) (g1 g2 g3 g4 g5 : View) → HasDart v x → next_in v x ≡ m → c ≡ next_in v n → b ≡ cond (c.0 == m.0) t c
      → g1 ≡ with_next v x t → g2 ≡ with_source g1 t u → g3 ≡ with_next g2 d b → g4 ≡ without_pair g3 n (twin_in g3 n) → g5 ≡ without_vertex g4 w → g5 ≡ merge_edge v w d n
  made x b c g1 g2 g3 g4 g5 hx nx qc qb e1 e2 e3 e4 e5 =
      let i = moved v g1 g2 g3 x t d b u s.named twin_out.0 e1 e2 e3 in
      let into : with_next v x t ≡ redirect v (twin_in v n) (twin_in v d) =
      ap (λ z. with_next v x z) qt ∙ sym (one_is_redirected v (twin_in v n) (twin_in v d) x s.named hx (nx ∙ qm) (λ k o q. s.linked.once k x o hx (q ∙ sym (nx ∙ qm)))) in
      let first : g1 ≡ redirect v (twin_in v n) (twin_in v d) = e1 ∙ into in
      let far : u ≡ source_in v (twin_in v n) = qu ∙ ap (source_in v) qm in
      let beyond : b ≡ cond ((next_in v n).0 == (twin_in v n).0) (twin_in v d) (next_in v n) = qb ∙ (λ j. cond ((qc j).0 == (qm j).0) (qt j) (qc j)) in
      let third : g3 ≡ with_next (with_source (redirect v (twin_in v n) (twin_in v d)) (twin_in v d) (source_in v (twin_in v n))) d (cond ((next_in v n).0 == (twin_in v n).0) (twin_in v d) (next_in v n)) =
      e3 ∙ ap (λ z. with_next z d b) e2 ∙ (λ j. with_next (with_source (first j) (qt j) (far j)) d (beyond j)) in
      e5 ∙ ap (λ z. without_vertex z w) (e4 ∙ ap (λ z. without_pair g3 n z) (i.twin n) ∙ ap (λ z. without_pair z n (twin_in v n)) third)

-- The graph after two darts more, and that the invariant is kept.
use Rattle.std.proofs.Common.{◌≡◌, ◌≢◌, ◌⊎◌, inl, inr, ℕ, ◌==◌, cond, Option, Some, None, is_some, IsSome, option_map, refl, sym, ap, subst, ◌∙◌}
use Rattle.std.proofs.lemmas.Bool.{cases_eq, false≢true}
use Rattle.std.specs.Option.{option_or}
use Rattle.exact_plane.specs.Line.{Line}
use Rattle.exact_plane.specs.declared.whole_parts.WholeParts.{WholeParts}
use Rattle.slab.specs.Slab.{Slab, get, with_value, Updates}
use Rattle.slab.proofs.SlabLemmas.{Updates-with_value}
use Rattle.slab_laws.specs.declared.names.CycleId.{CycleId}
use Rattle.slab_laws.specs.declared.names.DartId.{DartId}
use Rattle.slab_laws.specs.declared.names.VertexId.{VertexId}
use Rattle.slab_laws.specs.Tables.{row_at}
use Rattle.slab_laws.specs.View.{HasDart}
use Rattle.arr_notes.specs.NamedRows.{put}
use Rattle.arr_notes.specs.Reads.{IsPairMore}
use Rattle.arr_notes.proofs.RowLaws.{row_at-put, ascend-put, one_table}
use Rattle.arr_notes.proofs.PairReads.{pair_is_added}
use Rattle.arr_notes.proofs.Reading.{vertex_number}
use Rattle.arr_notes.proofs.Names.{cases_vertex}
use Rattle.chain_laws.specs.Rows.{tabled}
use Rattle.chain_laws.proofs.Tabled.{row-tabled, ascend-tabled}
use Rattle.dcel_records.specs.declared.rows.StoredVertex.{StoredVertex}
use Rattle.dcel_records.specs.declared.rows.StoredDart.{StoredDart}
use Rattle.dcel_records.specs.Edges.{lone_dart, with_edge}
use Rattle.dcel_records.specs.Given.{given}
use Rattle.dcel_records.specs.RecordsView.{GraphView}
use Rattle.dcel_records.specs.StoredRows.{vertex_of, dart_of, graph_in, graph_view, out_or, out_at, AreSoundRows}
use Rattle.dcel_records.specs.Outs.{IsOut}
use Rattle.dcel_records.proofs.Twins.{twinned_more}
use Rattle.dcel_records.proofs.Leaving.{more_apart, more_first, more_second, more_both}
use Rattle.dcel_records.proofs.Holding.{vertices_are, darts_are, twinned, outs, dart_vacant}
use Rattle.dcel_records.proofs.Writing.{kept_by, out_write}
use Rattle.integers.proofs.Tests.{other_number, same_number}

-- ---- a vertex that is offered a dart
given_same : (d : DartId) (o : Option StoredVertex) → option_map vertex_of (option_map (given d) o) ≡ option_map vertex_of o
given_same d None = refl
given_same d (Some r) = refl

given_some : (d : DartId) (o : Option StoredVertex) → is_some (option_map (given d) o) ≡ is_some o
given_some d None = refl
given_some d (Some r) = refl

given_out : (d : DartId) (o : Option StoredVertex) → IsSome o → out_or (option_map (given d) o) ≡ option_or (out_or o) (Some d)
given_out d None h = absurd (false≢true h)
given_out d (Some r) h = refl

module _ (s t : Slab StoredVertex) (v : VertexId) (d : DartId) (u : Updates s t v.0 (option_map (given d) (get s v.0))) where
  pub offered_same : tabled vertex_of t ≡ tabled vertex_of s
  offered_same = one_table _ _ (ascend-tabled vertex_of t) (ascend-tabled vertex_of s) (λ j. row-tabled vertex_of t j ∙ found j ∙ sym (row-tabled vertex_of s j))
    where
      here : option_map vertex_of (get t v.0) ≡ option_map vertex_of (get s v.0)
      here = ap (option_map vertex_of) u.changed ∙ given_same d (get s v.0)

      found : (j : ℕ) → option_map vertex_of (get t j) ≡ option_map vertex_of (get s j)
      found j = elim (cases_eq j v.0) [ inl q ↦ rw q here | inr ne ↦ ap (option_map vertex_of) (u.others j ne) ]

  -- a key stays
  pub offered_key : (j : ℕ) → IsSome (get s j) → IsSome (get t j)
  offered_key j k = elim (cases_eq j v.0) [
    | inl q ↦ ap (λ i. is_some (get t i)) q ∙ ap is_some u.changed ∙ given_some d (get s v.0) ∙ ap (λ i. is_some (get s i)) (sym q) ∙ k
    | inr ne ↦ ap is_some (u.others j ne) ∙ k
  ]

-- ---- two darts put, the first written again once the second's name is known
module _ (ds s t : Slab StoredDart) (d m : ℕ) (r q : StoredDart) (free : get s m ≡ None) (u : Updates ds s d (Some r)) (w : Updates s t m (Some q)) where
  pub two_names : d ≢ m
  two_names e = let f = u.changed in let g = ap (get s) e in absurd (cc)

  pub second_free : get ds m ≡ None
  second_free = sym (u.others m (λ e. two_names (sym e))) ∙ free

  pub first_there : get t d ≡ Some r
  first_there = w.others d two_names ∙ u.changed

  pub pair_rows : (x : StoredDart) → tabled dart_of (with_value t d x) ≡ put m (dart_of q) (put d (dart_of x) (tabled dart_of ds))
  pair_rows x = one_table _ _ (ascend-tabled dart_of (with_value t d x)) (ascend-put m _ _ (ascend-put d _ _ (ascend-tabled dart_of ds)))
      (λ j. row-tabled dart_of (with_value t d x) j ∙ found j (cases_eq j d) (cases_eq j m) ∙ sym (row_at-put m (dart_of q) (put d (dart_of x) (tabled dart_of ds)) j ∙ ap (cond (m == j) (Some (dart_of q))) (row_at-put d (dart_of x) (tabled dart_of ds) j)))
    where
      z : Updates t (with_value t d x) d (Some x)
      z = Updates-with_value t d x (ap is_some first_there)

      at_d : get (with_value t d x) d ≡ Some x
      at_d = z.changed

      at_m : get (with_value t d x) m ≡ Some q
      at_m = z.others m (λ e. two_names (sym e)) ∙ w.changed

      found : (j : ℕ) → (j ≡ d) ⊎ (j ≢ d) → (j ≡ m) ⊎ (j ≢ m) → option_map dart_of (get (with_value t d x) j) ≡ cond (m == j) (Some (dart_of q)) (cond (d == j) (Some (dart_of x)) (row_at (tabled dart_of ds) j))
      found j (inl e) c = rw (e, other_number m d (λ k. two_names (sym k)), same_number d) (ap (option_map dart_of) at_d)
      found j (inr n) (inl e) = rw (e, same_number m) (ap (option_map dart_of) at_m)
      found j (inr n) (inr k) = rw (other_number m j (λ e. k (sym e)), other_number d j (λ e. n (sym e))) (ap (option_map dart_of) (z.others j n ∙ w.others j k ∙ u.others j n) ∙ sym (row-tabled dart_of ds j))

-- a dart as it is put first, and as it is written then
abbrev pub first_row : VertexId → WholeParts → WholeParts → Line → CycleId → StoredDart
first_row u p o l c = record { source = u; twin = record { 0 = 0 }; next = record { 0 = 0 }; parts = p; target_parts = o; line = l; cycle = c }

abbrev pub row_again : DartId → StoredDart → StoredDart
row_again m r = record { source = r.source; twin = m; next = m; parts = r.parts; target_parts = r.target_parts; line = r.line; cycle = r.cycle }

abbrev pub lone_row : VertexId → DartId → WholeParts → WholeParts → Line → CycleId → StoredDart
lone_row u m p o l c = record { source = u; twin = m; next = m; parts = p; target_parts = o; line = l; cycle = c }

module _ (vs : Slab StoredVertex) (ds : Slab StoredDart) (h : GraphView) (is : graph_view vs ds ≡ h) (d m : DartId) (u v : VertexId) (parts_u parts_v : WholeParts) (l : Line) (c : CycleId) (s t : Slab StoredDart) (vs1 vs2 : Slab StoredVertex)
    (free_d : get ds d.0 ≡ None) (free_m : get s m.0 ≡ None) (p : Updates ds s d.0 (Some (first_row u parts_u parts_v l c))) (q : Updates s t m.0 (Some (lone_row v d parts_v parts_u l c)))
    (g1 : Updates vs vs1 u.0 (option_map (given d) (get vs u.0))) (g2 : Updates vs1 vs2 v.0 (option_map (given m) (get vs1 v.0))) where
  abbrev new_rows : Slab StoredDart
  new_rows = with_value t d.0 (lone_row u m parts_u parts_v l c)

  pub edge_graph : graph_in vs2 new_rows ≡ with_edge h.graph d m u v l
  edge_graph =
      let a = offered_same vs1 vs2 v m g2 ∙ offered_same vs vs1 u d g1 ∙ vertices_are vs ds h is in
      let e = pair_rows ds s t d.0 m.0 (first_row u parts_u parts_v l c) (lone_row v d parts_v parts_u l c) free_m p q (lone_row u m parts_u parts_v l c) ∙ ap (λ z. put m.0 (lone_dart v d l) (put d.0 (lone_dart u m l) z)) (darts_are vs ds h is) in
      (λ i. record { vertices = a i; darts = e i })

  -- what is read before it is written again
  first_is : (x : StoredDart) → get t d.0 ≡ Some x → first_row u parts_u parts_v l c ≡ x
  first_is x e = let f = first_there ds s t d.0 m.0 (first_row u parts_u parts_v l c) (lone_row v d parts_v parts_u l c) free_m p q in cc

  pub edge_written : (x : StoredDart) → get t d.0 ≡ Some x → graph_in vs2 (with_value t d.0 (row_again m x)) ≡ with_edge h.graph d m u v l
  edge_written x e = subst (λ y. graph_in vs2 (with_value t d.0 (row_again m y)) ≡ with_edge h.graph d m u v l) (first_is x e) edge_graph

  pub no_d : ¬ HasDart h.graph d
  no_d = dart_vacant vs ds h is d free_d

  pub no_m : ¬ HasDart h.graph m
  no_m = dart_vacant vs ds h is m (second_free ds s t d.0 m.0 (first_row u parts_u parts_v l c) (lone_row v d parts_v parts_u l c) free_m p q)

  pub apart : d ≢ m
  apart e = two_names ds s t d.0 m.0 (first_row u parts_u parts_v l c) (lone_row v d parts_v parts_u l c) free_m p q (ap (λ x. x.0) e)

  module _ (k : AreSoundRows vs ds) (key_u : IsSome (get vs u.0)) (key_v : IsSome (get vs v.0)) where
    more : IsPairMore h.graph (with_edge h.graph d m u v l) d m (lone_dart u m l) (lone_dart v d l)
    more = pair_is_added h.graph d m (lone_dart u m l) (lone_dart v d l) apart

    ou : (w : VertexId) → IsOut h.graph w (out_at vs w)
    ou w = outs vs ds h is k w

    -- what the first end keeps, and what any other vertex keeps, after the first offer
    at_u : out_at vs1 u ≡ option_or (out_at vs u) (Some d)
    at_u = ap out_or g1.changed ∙ given_out d (get vs u.0) key_u

    at_other : (w : VertexId) → w ≢ u → out_at vs1 w ≡ out_at vs w
    at_other w ne = ap out_or (g1.others w.0 (vertex_number w u ne))

    at_v : out_or (option_map (given m) (get vs1 v.0)) ≡ option_or (out_at vs1 v) (Some m)
    at_v = given_out m (get vs1 v.0) (offered_key vs vs1 u d g1 v.0 key_v)

    end_v : (v ≡ u) ⊎ (v ≢ u) → IsOut (with_edge h.graph d m u v l) v (option_or (out_at vs1 v) (Some m))
    end_v (inl e) =
        let kept : out_at vs1 v ≡ option_or (out_at vs v) (Some d) = ap (out_at vs1) e ∙ at_u ∙ ap (λ (w : VertexId). option_or (out_at vs w) (Some d)) (sym e) in
        subst (λ o. IsOut (with_edge h.graph d m u v l) v (option_or o (Some m))) (sym kept) (more_both h.graph (with_edge h.graph d m u v l) d m u v l more no_d no_m (sym e) (out_at vs v) (ou v))
    end_v (inr ne) = subst (λ o. IsOut (with_edge h.graph d m u v l) v (option_or o (Some m))) (sym (at_other v ne)) (more_second h.graph (with_edge h.graph d m u v l) d m u v l more no_d no_m (out_at vs v) (ou v))

    rest : (w : VertexId) → w ≢ v → (w ≡ u) ⊎ (w ≢ u) → IsOut (with_edge h.graph d m u v l) w (out_at vs1 w)
    rest w nv (inl e) = subst (λ (x : VertexId). IsOut (with_edge h.graph d m u v l) x (out_at vs1 x)) (sym e) (subst (λ o. IsOut (with_edge h.graph d m u v l) u o) (sym at_u) (more_first h.graph (with_edge h.graph d m u v l) d m u v l more no_d no_m (out_at vs u) (ou u)))
    rest w nv (inr nu) = subst (λ o. IsOut (with_edge h.graph d m u v l) w o) (sym (at_other w nu)) (more_apart h.graph (with_edge h.graph d m u v l) d m u v l more no_d no_m w (out_at vs w) nu nv (ou w))

    edge_kept : AreSoundRows vs2 new_rows
    edge_kept =
        kept_by vs2 new_rows (with_edge h.graph d m u v l) edge_graph
        (twinned_more h.graph (with_edge h.graph d m u v l) d m u v l more (twinned vs ds h is k) no_d no_m apart)
        (λ w. out_write vs1 vs2 v _ (with_edge h.graph d m u v l) g2 w
        (λ e. subst (λ (x : VertexId). IsOut (with_edge h.graph d m u v l) x (out_or (option_map (given m) (get vs1 v.0)))) (sym e) (subst (λ o. IsOut (with_edge h.graph d m u v l) v o) (sym at_v) (end_v (cases_vertex v u))))
        (λ ne. rest w ne (cases_vertex w u)))

    pub written_kept : (x : StoredDart) → get t d.0 ≡ Some x → AreSoundRows vs2 (with_value t d.0 (row_again m x))
    written_kept x e = subst (λ y. AreSoundRows vs2 (with_value t d.0 (row_again m y))) (first_is x e) edge_kept

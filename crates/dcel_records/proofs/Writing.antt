-- The graph after each writer, and that the invariant is kept.
use Rattle.std.proofs.Common.{◌≡◌, ◌≢◌, ◌⊎◌, inl, inr, Bool, false, Option, Some, None, is_some, refl, sym, ap, subst, ◌∙◌}
use Rattle.exact_plane.specs.Point.{Point}
use Rattle.exact_plane.specs.declared.whole_parts.WholeParts.{WholeParts}
use Rattle.slab.specs.Slab.{Slab, get, with_value, Updates}
use Rattle.slab.proofs.SlabLemmas.{Updates-with_value}
use Rattle.slab_laws.specs.declared.names.DartId.{DartId}
use Rattle.slab_laws.specs.declared.names.VertexId.{VertexId}
use Rattle.slab_laws.specs.Sound.{IsTwinned, IsNamed}
use Rattle.slab_laws.specs.View.{View, HasDart, IsOutOf, source_in, twin_in, target_in}
use Rattle.arr_notes.specs.NamedRows.{put, del, edit}
use Rattle.arr_notes.specs.ViewChanges.{with_vertex, without_vertex, with_pin, without_pair, with_next, with_source, pinned_as, followed_by, leaving}
use Rattle.arr_notes.specs.Reads.{IsSourceSet}
use Rattle.arr_notes.proofs.DartReads.{next_is_set, source_is_set}
use Rattle.arr_notes.proofs.PairReads.{pair_is_removed}
use Rattle.arr_notes.proofs.Reading.{vertex_number}
use Rattle.arr_notes.proofs.Names.{cases_vertex}
use Rattle.dcel_records.specs.declared.rows.StoredVertex.{StoredVertex}
use Rattle.dcel_records.specs.declared.rows.StoredDart.{StoredDart}
use Rattle.dcel_records.specs.RecordsView.{GraphView}
use Rattle.dcel_records.specs.StoredRows.{vertex_of, dart_of, graph_in, graph_view, out_or, out_at, AreSoundRows}
use Rattle.dcel_records.specs.Outs.{IsOut, IsRest}
use Rattle.dcel_records.proofs.Tabled.{tabled_put, tabled_del, tabled_edit, tabled_same}
use Rattle.dcel_records.proofs.Twins.{twinned_relinked, twinned_source, twinned_same, twinned_less}
use Rattle.dcel_records.proofs.Leaving.{out_kept, less_first, less_second, less_apart, moved_from, moved_to, moved_apart}
use Rattle.dcel_records.proofs.Holding.{graph_is, vertices_are, darts_are, twinned, outs, vertex_names, dart_names}

-- a vertex's row written, or gone
pub out_write : (s t : Slab StoredVertex) (k : VertexId) (o : Option StoredVertex) (g : View) → Updates s t k.0 o → (w : VertexId) → (w ≡ k → IsOut g w (out_or o)) → (w ≢ k → IsOut g w (out_at s w)) → IsOut g w (out_at t w)
out_write s t k o g u w hit miss = elim (cases_vertex w k) [
  | inl q ↦ let e : out_at t w ≡ out_or o = ap (λ (x : VertexId). out_at t x) q ∙ ap out_or u.changed in subst (λ x. IsOut g w x) (sym e) (hit q)
  | inr ne ↦ subst (λ x. IsOut g w x) (sym (ap out_or (u.others w.0 (vertex_number w k ne)))) (miss ne)
]

pub kept_by : (vs : Slab StoredVertex) (ds : Slab StoredDart) (g : View) → graph_in vs ds ≡ g → IsTwinned g → ((w : VertexId) → IsOut g w (out_at vs w)) → AreSoundRows vs ds
kept_by vs ds g e t o = record { twinned = subst (λ v. IsTwinned v) (sym e) t; outs = λ w. subst (λ v. IsOut v w (out_at vs w)) (sym e) (o w) }

-- rows with a field written
abbrev pub row_pinned : Bool → StoredVertex → StoredVertex
row_pinned b r = record { point = r.point; pinned = b; out = r.out; place = r.place }

abbrev pub row_out : Option DartId → StoredVertex → StoredVertex
row_out o r = record { point = r.point; pinned = r.pinned; out = o; place = r.place }

abbrev pub row_next : (n : DartId) (r : StoredDart) → StoredDart
row_next n r = record { source = r.source; twin = r.twin; next = n; parts = r.parts; target_parts = r.target_parts; line = r.line; cycle = r.cycle }

abbrev pub row_source : VertexId → WholeParts → StoredDart → StoredDart
row_source w p r = record { source = w; twin = r.twin; next = r.next; parts = p; target_parts = r.target_parts; line = r.line; cycle = r.cycle }

module _ (vs : Slab StoredVertex) (ds : Slab StoredDart) (h : GraphView) (is : graph_view vs ds ≡ h) where
  named : IsNamed h.graph
  named = record { vertices = vertex_names vs ds h is; darts = dart_names vs ds h is }

  -- ---- vertices
  pub vertex_graph : (t : Slab StoredVertex) (w : VertexId) (p : Point) → Updates vs t w.0 (Some (record { point = p; pinned = false; out = None; place = None })) → graph_in t ds ≡ with_vertex h.graph w p
  vertex_graph t w p u =
      let e = tabled_put vertex_of vs t w.0 _ u ∙ ap (put w.0 (record { point = p; pinned = false })) (vertices_are vs ds h is) in
      (λ i. record { vertices = e i; darts = darts_are vs ds h is i })

  pub gone_graph : (t : Slab StoredVertex) (w : VertexId) → Updates vs t w.0 None → graph_in t ds ≡ without_vertex h.graph w
  gone_graph t w u =
      let e = tabled_del vertex_of vs t w.0 u ∙ ap (del w.0) (vertices_are vs ds h is) in
      (λ i. record { vertices = e i; darts = darts_are vs ds h is i })

  pub pin_graph : (w : VertexId) (b : Bool) (r : StoredVertex) → get vs w.0 ≡ Some r → graph_in (with_value vs w.0 (row_pinned b r)) ds ≡ with_pin h.graph w b
  pin_graph w b r g =
      let e = tabled_edit vertex_of vs (with_value vs w.0 (row_pinned b r)) w.0 r (row_pinned b r) (pinned_as b) g refl (Updates-with_value vs w.0 _ (ap is_some g)) ∙ ap (edit w.0 (pinned_as b)) (vertices_are vs ds h is) in
      (λ i. record { vertices = e i; darts = darts_are vs ds h is i })

  -- a pin written as it was
  pub pin_same : (w : VertexId) (b : Bool) (r : StoredVertex) → get vs w.0 ≡ Some r → r.pinned ≡ b → h.graph ≡ with_pin h.graph w b
  pin_same w b r g q =
      let e = tabled_edit vertex_of vs vs w.0 r r (pinned_as b) g (λ i. record { point = r.point; pinned = q i }) (record { changed = g; others = λ j ne. refl }) ∙ ap (edit w.0 (pinned_as b)) (vertices_are vs ds h is) in
      let p : graph_in vs ds ≡ with_pin h.graph w b = (λ i. record { vertices = e i; darts = darts_are vs ds h is i }) in
      sym (graph_is vs ds h is) ∙ p

  -- ---- single fields of darts
  pub next_graph : (d n : DartId) (r : StoredDart) → get ds d.0 ≡ Some r → graph_in vs (with_value ds d.0 (row_next n r)) ≡ with_next h.graph d n
  next_graph d n r g =
      let e = tabled_edit dart_of ds (with_value ds d.0 (row_next n r)) d.0 r (row_next n r) (followed_by n) g refl (Updates-with_value ds d.0 _ (ap is_some g)) ∙ ap (edit d.0 (followed_by n)) (darts_are vs ds h is) in
      (λ i. record { vertices = vertices_are vs ds h is i; darts = e i })

  -- a dart's source and a vertex's dart out
  pub source_graph : (d : DartId) (w u : VertexId) (p : WholeParts) (o : Option DartId) (r : StoredDart) (x : StoredVertex) → get ds d.0 ≡ Some r → get vs u.0 ≡ Some x → graph_in (with_value vs u.0 (row_out o x)) (with_value ds d.0 (row_source w p r)) ≡ with_source h.graph d w
  source_graph d w u p o r x g f =
      let e = tabled_edit dart_of ds (with_value ds d.0 (row_source w p r)) d.0 r (row_source w p r) (leaving w) g refl (Updates-with_value ds d.0 _ (ap is_some g)) ∙ ap (edit d.0 (leaving w)) (darts_are vs ds h is) in
      let a = tabled_same vertex_of vs (with_value vs u.0 (row_out o x)) u.0 x (row_out o x) f refl (Updates-with_value vs u.0 _ (ap is_some f)) ∙ vertices_are vs ds h is in
      (λ i. record { vertices = a i; darts = e i })

  -- two darts gone, and two vertices' darts out
  pub less_graph : (d m : DartId) (u v : VertexId) (a b : Option DartId) (s t : Slab StoredDart) (x y : StoredVertex) → Updates ds s d.0 None → Updates s t m.0 None → get vs u.0 ≡ Some x → get (with_value vs u.0 (row_out a x)) v.0 ≡ Some y → m ≡ twin_in h.graph d → graph_in (with_value (with_value vs u.0 (row_out a x)) v.0 (row_out b y)) t ≡ without_pair h.graph d (twin_in h.graph d)
  less_graph d m u v a b s t x y p q f g z =
      let e = tabled_del dart_of s t m.0 q ∙ ap (del m.0) (tabled_del dart_of ds s d.0 p ∙ ap (del d.0) (darts_are vs ds h is)) ∙ ap (λ (k : DartId). del k.0 (del d.0 h.graph.darts)) z in
      let c = tabled_same vertex_of _ (with_value (with_value vs u.0 (row_out a x)) v.0 (row_out b y)) v.0 y (row_out b y) g refl (Updates-with_value _ v.0 _ (ap is_some g)) ∙ tabled_same vertex_of vs (with_value vs u.0 (row_out a x)) u.0 x (row_out a x) f refl (Updates-with_value vs u.0 _ (ap is_some f)) ∙ vertices_are vs ds h is in
      (λ i. record { vertices = c i; darts = e i })

  -- ---- the invariant
  module _ (k : AreSoundRows vs ds) where
    tw : IsTwinned h.graph
    tw = twinned vs ds h is k

    ou : (w : VertexId) → IsOut h.graph w (out_at vs w)
    ou w = outs vs ds h is k w

    pub vertex_kept : (t : Slab StoredVertex) (w : VertexId) (p : Point) → get vs w.0 ≡ None → Updates vs t w.0 (Some (record { point = p; pinned = false; out = None; place = None })) → AreSoundRows t ds
    vertex_kept t w p n u =
        kept_by t ds (with_vertex h.graph w p) (vertex_graph t w p u)
        (twinned_same h.graph (with_vertex h.graph w p) (λ e o. o) (λ e o. o) (λ e. refl) (λ e. refl) tw)
        (λ x. out_write vs t w _ (with_vertex h.graph w p) u x (λ q. same x (subst (λ o. IsOut h.graph x o) (ap (λ (y : VertexId). out_at vs y) q ∙ ap out_or n) (ou x))) (λ ne. same x (ou x)))
      where
        same : (x : VertexId) {o : Option DartId} → IsOut h.graph x o → IsOut (with_vertex h.graph w p) x o
        same x {o} i = out_kept h.graph (with_vertex h.graph w p) (λ e o. o) (λ e o. o) (λ e. refl) x o i

    pub gone_kept : (t : Slab StoredVertex) (w : VertexId) → ((d : DartId) → ¬ IsOutOf h.graph w d) → Updates vs t w.0 None → AreSoundRows t ds
    gone_kept t w n u =
        kept_by t ds (without_vertex h.graph w) (gone_graph t w u)
        (twinned_same h.graph (without_vertex h.graph w) (λ e o. o) (λ e o. o) (λ e. refl) (λ e. refl) tw)
        (λ x. out_write vs t w None (without_vertex h.graph w) u x (λ q. bare x q) (λ ne. out_kept h.graph (without_vertex h.graph w) (λ e o. o) (λ e o. o) (λ e. refl) x (out_at vs x) (ou x)))
      where
        bare : (x : VertexId) → x ≡ w → IsOut (without_vertex h.graph w) x None
        bare x q = record { some = λ d e. absurd (cc); none = λ e d o. n d (o.0, o.1 ∙ q) }

    pub pin_kept : (w : VertexId) (b : Bool) (r : StoredVertex) → get vs w.0 ≡ Some r → AreSoundRows (with_value vs w.0 (row_pinned b r)) ds
    pin_kept w b r g =
        kept_by _ ds (with_pin h.graph w b) (pin_graph w b r g)
        (twinned_same h.graph (with_pin h.graph w b) (λ e o. o) (λ e o. o) (λ e. refl) (λ e. refl) tw)
        (λ x. out_write vs _ w _ (with_pin h.graph w b) (Updates-with_value vs w.0 (row_pinned b r) (ap is_some g)) x
        (λ q. same x r.out (subst (λ o. IsOut h.graph x o) (ap (λ (y : VertexId). out_at vs y) q ∙ ap out_or g) (ou x)))
        (λ ne. same x (out_at vs x) (ou x)))
      where
        same : (x : VertexId) (o : Option DartId) → IsOut h.graph x o → IsOut (with_pin h.graph w b) x o
        same x o i = out_kept h.graph (with_pin h.graph w b) (λ e o. o) (λ e o. o) (λ e. refl) x o i

    pub next_kept : (d n : DartId) (r : StoredDart) → get ds d.0 ≡ Some r → AreSoundRows vs (with_value ds d.0 (row_next n r))
    next_kept d n r g =
        let l = (next_is_set h.graph d n).relinked in
        kept_by vs _ (with_next h.graph d n) (next_graph d n r g)
        (twinned_relinked h.graph (with_next h.graph d n) l tw)
        (λ x. out_kept h.graph (with_next h.graph d n) l.has l.had l.source x (out_at vs x) (ou x))

    pub source_kept : (d : DartId) (w u : VertexId) (p : WholeParts) (rest e : DartId) (r : StoredDart) (x : StoredVertex) → HasDart h.graph d → get ds d.0 ≡ Some r → get vs u.0 ≡ Some x → u ≡ source_in h.graph d → IsOutOf h.graph (source_in h.graph d) rest → rest ≢ d → IsOutOf h.graph w e → AreSoundRows (with_value vs u.0 (row_out (Some rest) x)) (with_value ds d.0 (row_source w p r))
    source_kept d w u p rest e r x o g f z away ne into =
        kept_by _ _ (with_source h.graph d w) (source_graph d w u p (Some rest) r x g f)
        (twinned_source h.graph (with_source h.graph d w) d w l tw)
        (λ y. out_write vs _ u _ (with_source h.graph d w) (Updates-with_value vs u.0 (row_out (Some rest) x) (ap is_some f)) y
        (λ q. subst (λ (v : VertexId). IsOut (with_source h.graph d w) v (Some rest)) (sym (q ∙ z)) (moved_from h.graph (with_source h.graph d w) d w l o rest away ne))
        (λ nu. other y (λ q. nu (q ∙ sym z)) (cases_vertex y w)))
      where
        l : IsSourceSet h.graph (with_source h.graph d w) d w
        l = source_is_set h.graph d w

        other : (y : VertexId) → y ≢ source_in h.graph d → (y ≡ w) ⊎ (y ≢ w) → IsOut (with_source h.graph d w) y (out_at vs y)
        other y nu (inl q) = subst (λ (v : VertexId). IsOut (with_source h.graph d w) v (out_at vs v)) (sym q) (moved_to h.graph (with_source h.graph d w) d w l o e into (λ s. nu (q ∙ s)) (out_at vs w) (ou w))
        other y nu (inr nw) = moved_apart h.graph (with_source h.graph d w) d w l o y (out_at vs y) nu nw (ou y)

    pub less_kept : (d m : DartId) (u v : VertexId) (a b : Option DartId) (s t : Slab StoredDart) (x y : StoredVertex) → HasDart h.graph d → Updates ds s d.0 None → Updates s t m.0 None → get vs u.0 ≡ Some x → get (with_value vs u.0 (row_out a x)) v.0 ≡ Some y → m ≡ twin_in h.graph d → u ≡ source_in h.graph d → v ≡ target_in h.graph d → source_in h.graph d ≢ target_in h.graph d → IsRest h.graph d a → IsRest h.graph (twin_in h.graph d) b → AreSoundRows (with_value (with_value vs u.0 (row_out a x)) v.0 (row_out b y)) t
    less_kept d m u v a b s t x y o p q f g z eu ev ends ra rb =
        let l = pair_is_removed h.graph d (twin_in h.graph d) named in
        let g1 : View = without_pair h.graph d (twin_in h.graph d) in
        kept_by _ t g1 (less_graph d m u v a b s t x y p q f g z)
        (twinned_less h.graph g1 d tw o l)
        (λ w. out_write (with_value vs u.0 (row_out a x)) _ v _ g1 (Updates-with_value _ v.0 (row_out b y) (ap is_some g)) w
        (λ e. subst (λ (j : VertexId). IsOut g1 j b) (sym (e ∙ ev)) (less_second h.graph g1 d (twin_in h.graph d) l ends b rb))
        (λ nv. out_write vs (with_value vs u.0 (row_out a x)) u _ g1 (Updates-with_value vs u.0 (row_out a x) (ap is_some f)) w
        (λ e. subst (λ (j : VertexId). IsOut g1 j a) (sym (e ∙ eu)) (less_first h.graph g1 d (twin_in h.graph d) l ends a ra))
        (λ nu. less_apart h.graph g1 d (twin_in h.graph d) l ends w (out_at vs w) (λ e. nu (e ∙ sym eu)) (λ e. nv (e ∙ sym ev)) (ou w))))

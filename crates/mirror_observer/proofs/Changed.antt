-- The maps after each change say what the change makes of the view that they said.
use Rattle.std.proofs.Common.{◌≡◌, ◌≢◌, ℕ, List, [], ◌∷◌, Bool, true, false, refl, sym, ap, ◌∙◌, subst, IsSome, Option, Some, None}
use Rattle.std.proofs.lemmas.Bool.{false≢true}
use Rattle.std.specs.Prelude.{not}
use Rattle.std.specs.List.{filter}
use Rattle.std.specs.Ordering.{nat_cmp}
use Rattle.exact_plane.specs.Point.{Point}
use Rattle.exact_plane.specs.Line.{Line}
use Rattle.plane_graphs.specs.Ascending.{place}
use Rattle.plane_graphs.specs.Graph.{same_curve}
use Rattle.slab_laws.specs.declared.names.CurveId.{CurveId}
use Rattle.slab_laws.specs.declared.names.DartId.{DartId}
use Rattle.slab_laws.specs.declared.names.VertexId.{VertexId}
use Rattle.slab_laws.specs.Tables.{row_at, names, NamesAscend}
use Rattle.slab_laws.specs.declared.names.FaceId.{FaceId}
use Rattle.slab_laws.specs.Sound.{IsGraphSound}
use Rattle.slab_laws.specs.View.{View, Faces, DartRecord, HasDart, next_or, next_in, twin_in}
use Rattle.arr_notes.specs.CurvedView.{CurvedView, IsPlaceOut, step_view, curves_or}
use Rattle.arr_notes.specs.FaceSteps.{step_faces, in_two, in_one, cleared}
use Rattle.arr_notes.specs.FaceWriters.{bare_in, not_bare}
use Rattle.arr_notes.specs.NamedRows.{put, del, edit}
use Rattle.arr_notes.specs.Step.{followed, led}
use Rattle.arr_notes.specs.ViewChanges.{pinned_as, no_rows, with_pair}
use Rattle.arr_notes.specs.declared.faces.Linked.{Linked}
use Rattle.arr_notes.specs.declared.faces.Unlinked.{Unlinked}
use Rattle.arr_notes.specs.declared.change.Change.TheVariants.{AddVertex, RemoveVertex, SplitEdge, MergeEdge, AddEdge, RemoveEdge, AddCurve, RemoveCurve, SetPin, ClearPin, Clear}
use Rattle.mirror_observer.specs.declared.tables.Tables.{Tables}
use Rattle.mirror_observer.specs.declared.tables.DartEntry.{DartEntry}
use Rattle.mirror_observer.specs.FaceParts.{linked_first, linked_then, unlinked_first, unlinked_then, before_place, HasEntry}
use Rattle.mirror_observer.specs.FaceTables.{faces_in, AreDartsSound, AreRowsOfDarts}
use Rattle.mirror_observer.specs.Tables.{rows, vertex_of, dart_of, numbers_in, graph_of, darts_of, with_pinned, linked, unlinked, parted, merged}
use Rattle.mirror_observer.specs.Standing.{IsBackLinked, view_in, AreStanding, AreToChange, HaveChanged}
use Rattle.mirror_observer.proofs.Entries.{rows_put, rows_del, rows_edit, ascend_rows}
use Rattle.mirror_observer.proofs.Rewritten.{unlinked_rows, parted_rows, merged_rows, linked_rows, unlinked_back, parted_back, merged_back, linked_back}
use Rattle.mirror_observer.proofs.FaceParts.{linked_both, linked_alike, unlinked_both, unlinked_alike}
use Rattle.mirror_observer.proofs.FaceParts.{linked_rows as on_rows, unlinked_rows as off_rows}
use Rattle.mirror_observer.proofs.Loops.{no_loop, end_of, ends_apart, led_not_first}

-- where rows of darts lead to rows
abbrev AreClosed : List (ℕ × DartRecord) → Type 0
AreClosed rs = (z : DartId) → IsSome (row_at rs z.0) → IsSome (row_at rs (next_or z (row_at rs z.0)).0)

pub nothing_back : IsBackLinked []
unfolding row_at
nothing_back d h = absurd (false≢true h)

pub tables_named : (t : Tables) → AreStanding t → NamesAscend (names t.darts.entries)
tables_named t s = ascend_rows dart_of t.darts.entries s.sound.map.graph.named.darts

-- the twin of a dart doesn't follow itself
pub twin_apart : (t : Tables) (d m : DartId) (told : Unlinked) → AreToChange t (RemoveEdge d m told) → next_in (darts_of t.darts.entries) m ≢ m
twin_apart t d m told c = no_loop (view_in t).graph c.standing.sound.map.graph m (subst (λ z. HasDart (view_in t).graph z) (sym c.fits.1) (c.standing.sound.map.graph.twinned.has d c.fits.0))

led_vertices : (v h : View) (o : Option DartId) (x : DartId) → (led v o x h).vertices ≡ h.vertices
led_vertices v h None x = refl
led_vertices v h (Some a) x = refl

-- ---- the darts with one edge more
module _ (t : Tables) (d m : DartId) (v w : VertexId) (at_v at_w : Option DartId) (l : Line) (curve : CurveId) (told : Linked) (c : AreToChange t (AddEdge d m v w at_v at_w l curve told)) where
  pub added_rows : rows dart_of (linked t.darts.entries d m v w at_v at_w l) ≡ (step_view (view_in t) (AddEdge d m v w at_v at_w l curve told)).graph.darts
  added_rows =
      let s = c.standing.sound.map.graph in
      linked_rows (rows vertex_of t.vertices.entries) t.darts.entries s.named.darts d m v w at_v at_w l c.fits.differ (led_not_first (view_in t).graph s d m v at_v c.fits.differ c.fits.first c.fits.place_at_start)

  added_view : (ds : List (ℕ × DartEntry)) → ds ≡ linked t.darts.entries d m v w at_v at_w l → (step_view (view_in t) (AddEdge d m v w at_v at_w l curve told)).graph ≡ graph_of t.vertices.entries ds
  added_view ds e =
      let g : View = (view_in t).graph in
      let a : View = with_pair g d m (record { source = v; twin = m; next = followed g at_w m; line = l }) (record { source = w; twin = d; next = followed g at_v d; line = l }) in
      let b : View = led g at_v d a in
      let points : (led g at_w m b).vertices ≡ g.vertices = led_vertices g b at_w m ∙ led_vertices g a at_v d in
      let darts : (led g at_w m b).darts ≡ rows dart_of ds = sym added_rows ∙ ap (rows dart_of) (sym e) in
      λ i. record { vertices = points i; darts = darts i }

  -- what a walk along a new cycle asks
  pub added_sound : (ds : List (ℕ × DartEntry)) → ds ≡ linked t.darts.entries d m v w at_v at_w l → AreDartsSound ds
  added_sound ds e = (t.vertices.entries, subst (λ z. IsGraphSound z) (added_view ds e) c.sound.map.graph)

  pub added_on : (ds : List (ℕ × DartEntry)) → ds ≡ linked t.darts.entries d m v w at_v at_w l → (f : Faces) → f ≡ linked_first d m v w at_v told (faces_in t.faces) → AreRowsOfDarts ds f.cycle_of
  added_on ds e f q k h =
      let s : View = (step_view (view_in t) (AddEdge d m v w at_v at_w l curve told)).graph in
      subst (λ z. HasDart z k) (added_view ds e)
      ((c.sound.map.complete.cycle_rows k).1 (subst (λ z. IsSome (row_at z.cycle_of k.0)) (ap (linked_then s told) q ∙ linked_both s d m v w at_v told (faces_in t.faces)) (on_rows s told f k.0 h)))

  pub places_known : HasEntry t.darts.entries (before_place (darts_of t.darts.entries) at_v) × HasEntry t.darts.entries (before_place (darts_of t.darts.entries) at_w)
  places_known = (known v at_v c.fits.place_at_start, known w at_w c.fits.place_at_end)
    where
      known : (u : VertexId) (o : Option DartId) → IsPlaceOut (view_in t).graph u o → HasEntry t.darts.entries (before_place (darts_of t.darts.entries) o)
      known u None h = tt
      known u (Some a) h = c.standing.sound.map.graph.twinned.has a h.0

-- ---- and with one fewer
module _ (t : Tables) (d m : DartId) (told : Unlinked) (c : AreToChange t (RemoveEdge d m told)) where
  less_view : (ds : List (ℕ × DartEntry)) → ds ≡ unlinked t.darts.entries d m → (step_view (view_in t) (RemoveEdge d m told)).graph ≡ graph_of t.vertices.entries ds
  less_view ds e =
      let darts : (step_view (view_in t) (RemoveEdge d m told)).graph.darts ≡ rows dart_of ds = sym (unlinked_rows t.darts.entries d m) ∙ ap (rows dart_of) (sym e) in
      λ i. record { vertices = rows vertex_of t.vertices.entries; darts = darts i }

  pub less_sound : (ds : List (ℕ × DartEntry)) → ds ≡ unlinked t.darts.entries d m → AreDartsSound ds
  less_sound ds e = (t.vertices.entries, subst (λ z. IsGraphSound z) (less_view ds e) c.sound.map.graph)

  pub less_on : (ds : List (ℕ × DartEntry)) → ds ≡ unlinked t.darts.entries d m → (f : Faces) → f ≡ unlinked_first (darts_of t.darts.entries) d told (faces_in t.faces) → AreRowsOfDarts ds f.cycle_of
  less_on ds e f q k h =
      let s : View = (step_view (view_in t) (RemoveEdge d m told)).graph in
      subst (λ z. HasDart z k) (less_view ds e)
      ((c.sound.map.complete.cycle_rows k).1 (subst (λ z. IsSome (row_at z.cycle_of k.0)) (ap (unlinked_then s told) q ∙ unlinked_both (view_in t).graph s d told (faces_in t.faces)) (off_rows s told f k.0 h)))

module _ (t u : Tables) where
  view_is : (w : CurvedView) → rows vertex_of u.vertices.entries ≡ w.graph.vertices → rows dart_of u.darts.entries ≡ w.graph.darts → rows numbers_in u.curves.entries ≡ w.curves → faces_in u.faces ≡ w.faces → view_in u ≡ w
  view_is w a b c f = λ i. record { graph = record { vertices = a i; darts = b i }; faces = f i; curves = c i }

  module _ (same : u.darts.entries ≡ t.darts.entries) where
    back_kept : AreStanding t → IsBackLinked u.darts.entries
    back_kept s = subst (λ ds. IsBackLinked ds) (sym same) s.back

    rows_kept : rows dart_of u.darts.entries ≡ rows dart_of t.darts.entries
    rows_kept = ap (rows dart_of) same

    pub vertex_added : (w : VertexId) (p : Point) (face : FaceId) → AreToChange t (AddVertex w p face) → u.vertices.entries ≡ put w.0 (record { point = p; pinned = false }) t.vertices.entries → u.curves.entries ≡ t.curves.entries → faces_in u.faces ≡ bare_in w face (faces_in t.faces) → HaveChanged t (AddVertex w p face) u
    vertex_added w p face c a e f = record {
      view = view_is (step_view (view_in t) (AddVertex w p face)) (ap (rows vertex_of) a ∙ rows_put vertex_of w.0 _ t.vertices.entries) rows_kept (ap (rows numbers_in) e) f;
      back = back_kept c.standing;
    }

    pub vertex_removed : (w : VertexId) → AreToChange t (RemoveVertex w) → u.vertices.entries ≡ del w.0 t.vertices.entries → u.curves.entries ≡ t.curves.entries → faces_in u.faces ≡ not_bare w (faces_in t.faces) → HaveChanged t (RemoveVertex w) u
    vertex_removed w c a e f = record {
      view = view_is (step_view (view_in t) (RemoveVertex w)) (ap (rows vertex_of) a ∙ rows_del vertex_of w.0 t.vertices.entries) rows_kept (ap (rows numbers_in) e) f;
      back = back_kept c.standing;
    }

    pinned_rows : (w : VertexId) (b : Bool) → u.vertices.entries ≡ edit w.0 (with_pinned b) t.vertices.entries → rows vertex_of u.vertices.entries ≡ edit w.0 (pinned_as b) (rows vertex_of t.vertices.entries)
    pinned_rows w b a = ap (rows vertex_of) a ∙ rows_edit vertex_of w.0 (with_pinned b) (pinned_as b) (λ x. refl) t.vertices.entries

    pub pin_set : (w : VertexId) → AreToChange t (SetPin w) → u.vertices.entries ≡ edit w.0 (with_pinned true) t.vertices.entries → u.curves.entries ≡ t.curves.entries → faces_in u.faces ≡ faces_in t.faces → HaveChanged t (SetPin w) u
    pin_set w c a e f = record {
      view = view_is (step_view (view_in t) (SetPin w)) (pinned_rows w true a) rows_kept (ap (rows numbers_in) e) f;
      back = back_kept c.standing;
    }

    pub pin_cleared : (w : VertexId) → AreToChange t (ClearPin w) → u.vertices.entries ≡ edit w.0 (with_pinned false) t.vertices.entries → u.curves.entries ≡ t.curves.entries → faces_in u.faces ≡ faces_in t.faces → HaveChanged t (ClearPin w) u
    pin_cleared w c a e f = record {
      view = view_is (step_view (view_in t) (ClearPin w)) (pinned_rows w false a) rows_kept (ap (rows numbers_in) e) f;
      back = back_kept c.standing;
    }

    pub curve_added : (d : DartId) (k : CurveId) → AreToChange t (AddCurve d k) → u.vertices.entries ≡ t.vertices.entries → rows numbers_in u.curves.entries ≡ edit d.0 (place nat_cmp k.0) (rows numbers_in t.curves.entries) → faces_in u.faces ≡ faces_in t.faces → HaveChanged t (AddCurve d k) u
    curve_added d k c a e f = record {
      view = view_is (step_view (view_in t) (AddCurve d k)) (ap (rows vertex_of) a) rows_kept e f;
      back = back_kept c.standing;
    }

    pub curve_removed : (d : DartId) (k : CurveId) → AreToChange t (RemoveCurve d k) → u.vertices.entries ≡ t.vertices.entries → rows numbers_in u.curves.entries ≡ edit d.0 (filter (λ n. not (same_curve n k.0))) (rows numbers_in t.curves.entries) → faces_in u.faces ≡ faces_in t.faces → HaveChanged t (RemoveCurve d k) u
    curve_removed d k c a e f = record {
      view = view_is (step_view (view_in t) (RemoveCurve d k)) (ap (rows vertex_of) a) rows_kept e f;
      back = back_kept c.standing;
    }

  pub all_cleared : (face : FaceId) → u.vertices.entries ≡ [] → u.darts.entries ≡ [] → u.curves.entries ≡ [] → faces_in u.faces ≡ step_faces no_rows (faces_in t.faces) (cleared face) → HaveChanged t (Clear face) u
  all_cleared face a b e f = record {
    view = view_is (step_view (view_in t) (Clear face)) (ap (rows vertex_of) a) (ap (rows dart_of) b) (ap (rows numbers_in) e) f;
    back = subst (λ ds. IsBackLinked ds) (sym b) nothing_back;
  }

  -- ---- changes of edges
  pub edge_removed : (d m : DartId) (told : Unlinked) → AreToChange t (RemoveEdge d m told) → u.vertices.entries ≡ t.vertices.entries → u.darts.entries ≡ unlinked t.darts.entries d m → u.curves.entries ≡ del d.0 t.curves.entries → faces_in u.faces ≡ unlinked_then (darts_of u.darts.entries) told (unlinked_first (view_in t).graph d told (faces_in t.faces)) → HaveChanged t (RemoveEdge d m told) u
  edge_removed d m told c a b e f =
      let ds = t.darts.entries in
      let g : View = (view_in t).graph in
      let r : rows dart_of (unlinked ds d m) ≡ (step_view (view_in t) (RemoveEdge d m told)).graph.darts = unlinked_rows ds d m in
      let hm : HasDart g m = subst (λ z. HasDart g z) (sym c.fits.1) (c.standing.sound.map.graph.twinned.has d c.fits.0) in
      record {
        view = view_is (step_view (view_in t) (RemoveEdge d m told)) (ap (rows vertex_of) a) (ap (rows dart_of) b ∙ r) (ap (rows numbers_in) e ∙ rows_del numbers_in d.0 t.curves.entries) (f ∙ unlinked_alike (darts_of u.darts.entries) (step_view (view_in t) (RemoveEdge d m told)).graph (ap (rows dart_of) b ∙ r) told (unlinked_first g d told (faces_in t.faces)) ∙ unlinked_both g (step_view (view_in t) (RemoveEdge d m told)).graph d told (faces_in t.faces));
        back = subst (λ xs. IsBackLinked xs) (sym b) (unlinked_back ds (tables_named t c.standing) c.standing.back d m c.fits.0 hm
            (λ q. c.standing.sound.map.graph.twinned.other d c.fits.0 (sym c.fits.1 ∙ sym q))
            (no_loop g c.standing.sound.map.graph m hm)
            (subst (λ rs. AreClosed rs) (sym r) c.sound.map.graph.linked.has));
      }

  pub edge_split : (d : DartId) (w : VertexId) (p : Point) (n m : DartId) → AreToChange t (SplitEdge d w p n m) → u.vertices.entries ≡ put w.0 (record { point = p; pinned = false }) t.vertices.entries → u.darts.entries ≡ parted t.darts.entries d w n m →
      rows numbers_in u.curves.entries ≡ put n.0 (curves_or (row_at (rows numbers_in t.curves.entries) d.0)) (rows numbers_in t.curves.entries) → faces_in u.faces ≡ step_faces no_rows (faces_in t.faces) (in_two d (twin_in (view_in t).graph d) n m) → HaveChanged t (SplitEdge d w p n m) u
  edge_split d w p n m c a b e f =
      let ds = t.darts.entries in
      let r : rows dart_of (parted ds d w n m) ≡ (step_view (view_in t) (SplitEdge d w p n m)).graph.darts = parted_rows ds d w n m p in
      record {
        view = view_is (step_view (view_in t) (SplitEdge d w p n m)) (ap (rows vertex_of) a ∙ rows_put vertex_of w.0 _ t.vertices.entries) (ap (rows dart_of) b ∙ r) e f;
        back = subst (λ xs. IsBackLinked xs) (sym b) (parted_back ds (tables_named t c.standing) c.standing.back d w n m c.fits.dart
            (c.standing.sound.map.graph.twinned.has d c.fits.dart) c.standing.sound.map.graph.linked.has c.fits.first c.fits.second c.fits.differ
            (subst (λ rs. AreClosed rs) (sym r) c.sound.map.graph.linked.has));
      }

  pub edges_merged : (w : VertexId) (d n : DartId) → AreToChange t (MergeEdge w d n) → u.vertices.entries ≡ del w.0 t.vertices.entries → u.darts.entries ≡ merged t.darts.entries d n → u.curves.entries ≡ del n.0 t.curves.entries → faces_in u.faces ≡ step_faces no_rows (faces_in t.faces) (in_one n (twin_in (view_in t).graph n)) → HaveChanged t (MergeEdge w d n) u
  edges_merged w d n c a b e f =
      let ds = t.darts.entries in
      let g : View = (view_in t).graph in
      let r : rows dart_of (merged ds d n) ≡ (step_view (view_in t) (MergeEdge w d n)).graph.darts = merged_rows ds w d n in
      record {
        view = view_is (step_view (view_in t) (MergeEdge w d n)) (ap (rows vertex_of) a ∙ rows_del vertex_of w.0 t.vertices.entries) (ap (rows dart_of) b ∙ r) (ap (rows numbers_in) e ∙ rows_del numbers_in n.0 t.curves.entries) f;
        back = subst (λ xs. IsBackLinked xs) (sym b) (merged_back ds (tables_named t c.standing) c.standing.back d n c.fits.first c.fits.second
            (c.standing.sound.map.graph.twinned.has n c.fits.second) c.fits.follows c.fits.returns (λ q. c.standing.sound.map.graph.twinned.other n c.fits.second (sym q))
            (subst (λ rs. AreClosed rs) (sym r) c.sound.map.graph.linked.has));
      }

  pub edge_added : (d m : DartId) (v w : VertexId) (at_v at_w : Option DartId) (l : Line) (k : CurveId) (told : Linked) → AreToChange t (AddEdge d m v w at_v at_w l k told) → u.vertices.entries ≡ t.vertices.entries → u.darts.entries ≡ linked t.darts.entries d m v w at_v at_w l →
      rows numbers_in u.curves.entries ≡ put d.0 (k.0 ∷ []) (rows numbers_in t.curves.entries) → faces_in u.faces ≡ linked_then (darts_of u.darts.entries) told (linked_first d m v w at_v told (faces_in t.faces)) → HaveChanged t (AddEdge d m v w at_v at_w l k told) u
  edge_added d m v w at_v at_w l k told c a b e f =
      let ds = t.darts.entries in
      let g : View = (view_in t).graph in
      let s = c.standing.sound.map.graph in
      let r = added_rows t d m v w at_v at_w l k told c in
      record {
        view = view_is (step_view (view_in t) (AddEdge d m v w at_v at_w l k told)) (ap (rows vertex_of) a ∙ sym (led_vertices g _ at_w m ∙ led_vertices g _ at_v d)) (ap (rows dart_of) b ∙ r) e (f ∙ linked_alike (darts_of u.darts.entries) (step_view (view_in t) (AddEdge d m v w at_v at_w l k told)).graph (ap (rows dart_of) b ∙ r) told (linked_first d m v w at_v told (faces_in t.faces)) ∙ linked_both (step_view (view_in t) (AddEdge d m v w at_v at_w l k told)).graph d m v w at_v told (faces_in t.faces));
        back = subst (λ xs. IsBackLinked xs) (sym b) (linked_back ds (tables_named t c.standing) c.standing.back d m v w at_v at_w l c.fits.differ c.fits.first c.fits.second s.linked.has
            (end_of g s v at_v d m c.fits.place_at_start) (end_of g s w at_w m d c.fits.place_at_end)
            (ends_apart g s d m v w at_v at_w c.fits.two_ends c.fits.first c.fits.second c.fits.place_at_start c.fits.place_at_end)
            (subst (λ rs. AreClosed rs) (sym r) c.sound.map.graph.linked.has));
      }

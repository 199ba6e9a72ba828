-- What the writers of an edge in two make of a view.
use Rattle.std.proofs.Common.{◌≡◌, ◌≢◌, ◌==◌, cond, sym, ap, subst, ◌∙◌}
use Rattle.exact_plane.specs.Line.{Line}
use Rattle.exact_plane.specs.Point.{Point}
use Rattle.slab_laws.specs.declared.names.DartId.{DartId}
use Rattle.slab_laws.specs.declared.names.VertexId.{VertexId}
use Rattle.slab_laws.specs.Sound.{IsGraphSound, IsNamed}
use Rattle.slab_laws.specs.View.{View, DartRecord, HasVertex, HasDart, IsOutOf, source_in, twin_in, next_in, line_in}
use Rattle.arr_notes.specs.Reads.{IsVertexMore, IsPairMore, IsRelinked}
use Rattle.arr_notes.specs.ViewChanges.{with_vertex, with_pair, with_next, with_source, redirect}
use Rattle.arr_notes.proofs.DartReads.{next_is_set, source_is_set}
use Rattle.arr_notes.proofs.PairReads.{pair_is_added, names_stay}
use Rattle.arr_notes.proofs.Redirected.{one_is_redirected}
use Rattle.arr_notes.proofs.VertexReads.{vertex_is_added}
use Rattle.dcel_records.specs.Edges.{lone_dart, with_edge}
use Rattle.arr_notes.specs.Step.{split_edge}
use Rattle.arr_notes.proofs.NamesWritten.{first_follows, second_follows, beside_follows}

-- ---- one more vertex
module _ (v g : View) (w : VertexId) (p : Point) (e : g ≡ with_vertex v w p) where
  more : IsVertexMore v g w p
  more = subst (λ z. IsVertexMore v z w p) (sym e) (vertex_is_added v w p)

  pub vertex_there : HasVertex g w
  vertex_there = more.has

  pub vertex_still : ¬ HasVertex v w → (u : VertexId) → HasVertex v u → HasVertex g u
  vertex_still nw u o = (more.others u (λ q. nw (subst (HasVertex v) q o))).has o

-- in h the darts n and m are new beside those of v, and leave w and u
pub record IsPlaced (v h : View) (w u : VertexId) (n m : DartId) : Type 0 where
  pub new_first : ¬ HasDart v n
  pub new_second : ¬ HasDart v m
  pub first : IsOutOf h w n
  pub second : IsOutOf h u m
  pub old : (k : DartId) → HasDart v k → IsOutOf h (source_in v k) k
  pub vertex : HasVertex h w

-- one more vertex and two more darts
module _ (v g h : View) (w u : VertexId) (p : Point) (n m : DartId) (l : Line) (e : g ≡ with_vertex v w p) (f : h ≡ with_edge g n m w u l) (nn : ¬ HasDart g n) (nm : ¬ HasDart g m) (ne : n ≢ m) where
  known : (k : DartId) → HasDart v k → HasDart g k
  known k o = ((more v g w p e).darts k).has o

  pair : IsPairMore g h n m (lone_dart w m l) (lone_dart u n l)
  pair = subst (λ z. IsPairMore g z n m (lone_dart w m l) (lone_dart u n l)) (sym f) (pair_is_added g n m (lone_dart w m l) (lone_dart u n l) ne)

  pub placed : IsPlaced v h w u n m
  placed = record {
    new_first = λ o. nn (known n o);
    new_second = λ o. nm (known m o);
    first = (pair.first.has, pair.first.source);
    second = (pair.second.has, pair.second.source);
    old = λ k o.
        let a = pair.others k (λ q. nn (subst (HasDart g) q (known k o))) (λ q. nm (subst (HasDart g) q (known k o))) in
        (a.has (known k o), a.source ∙ ((more v g w p e).darts k).source);
    vertex = (pair.vertices w).has (more v g w p e).has;
  }

-- a follower written leaves all that
pub followed : (v g h : View) (w u : VertexId) (n m a x : DartId) → h ≡ with_next g a x → IsPlaced v g w u n m → IsPlaced v h w u n m
followed v g h w u n m a x e i =
    let r : IsRelinked g h = subst (λ z. IsRelinked g z) (sym e) (next_is_set g a x).relinked in
    record {
      new_first = i.new_first;
      new_second = i.new_second;
      first = (r.has n i.first.0, r.source n ∙ i.first.1);
      second = (r.has m i.second.0, r.source m ∙ i.second.1);
      old = λ k o. let y = i.old k o in (r.has k y.0, r.source k ∙ y.1);
      vertex = (r.vertices w).has i.vertex;
    }

-- the twin's old end has the second new dart beside it
pub rest_there : (v h : View) (w u : VertexId) (n m t : DartId) → IsPlaced v h w u n m → HasDart v t → u ≡ source_in v t → IsOutOf h (source_in h t) m × (m ≢ t)
rest_there v h w u n m t i o e = ((i.second.0, i.second.1 ∙ e ∙ sym (i.old t o).1), λ q. i.new_second (subst (HasDart v) (sym q) o))

-- a source written takes no dart away
pub dart_kept : (g h : View) (a : DartId) (u : VertexId) → h ≡ with_source g a u → (k : DartId) → HasDart g k → HasDart h k
dart_kept g h a u e k o = subst (λ z. HasDart z k) (sym e) ((source_is_set g a u).has k o)

-- ---- the whole
module _ (v : View) (d x : DartId) (w u : VertexId) (p : Point) (n m : DartId) (l : Line) (s : IsGraphSound v) (hx : HasDart v x) (nx : next_in v x ≡ twin_in v d) (nn : ¬ HasDart v n) (nm : ¬ HasDart v m) (ne : n ≢ m) where
  abbrev base : View
  base = with_vertex v w p

  named : IsNamed base
  named = (names_stay v s.named).vertex w p

  into : redirect base (twin_in v d) m ≡ with_next base x m
  into = one_is_redirected base (twin_in v d) m x named hx nx (λ e o q. s.linked.once e x o hx (q ∙ sym nx))

  named_into : IsNamed (with_next base x m)
  named_into = (names_stay base named).next x m

  abbrev first_row : DartId → DartRecord
  first_row b = record { source = w; twin = m; next = b; line = l }

  abbrev second_row : DartId → DartRecord
  second_row b = record { source = u; twin = n; next = b; line = l }

  -- three followers written
  pub followers : (b t : DartId) → with_next (with_next (with_next (with_edge base n m w u l) x m) n b) m t ≡ with_pair (redirect base (twin_in v d) m) n m (first_row b) (second_row t)
  followers b t =
      ap (λ z. with_next (with_next z n b) m t) (beside_follows base n m (lone_dart w m l) (lone_dart u n l) ne named x m (λ q. nn (subst (HasDart v) q hx)) (λ q. nm (subst (HasDart v) q hx)))
      ∙ ap (λ z. with_next z m t) (first_follows (with_next base x m) n m (lone_dart w m l) (lone_dart u n l) ne named_into b)
      ∙ second_follows (with_next base x m) n m (first_row b) (lone_dart u n l) ne named_into t
      ∙ ap (λ z. with_pair z n m (first_row b) (second_row t)) (sym into)

  -- the rows are those of an edge in two
  pub is_split : (b t f : DartId) → t ≡ twin_in v d → f ≡ next_in v d → u ≡ source_in v t → l ≡ line_in v d → b ≡ cond (f.0 == t.0) m f
      → with_next (with_source (with_next (with_next (with_next (with_edge base n m w u l) x m) n b) m t) t w) d n ≡ split_edge v d w p n m
  is_split b t f qt qf qu ql qb =
      let end : u ≡ source_in v (twin_in v d) = qu ∙ ap (λ z. source_in v z) qt in
      let beyond : b ≡ cond ((next_in v d).0 == (twin_in v d).0) m (next_in v d) = qb ∙ (λ i. cond ((qf i).0 == (qt i).0) m (qf i)) in
      ap (λ z. with_next (with_source z t w) d n) (followers b t)
      ∙ (λ i. with_next (with_source (with_pair (redirect base (twin_in v d) m) n m (record { source = w; twin = m; next = beyond i; line = ql i }) (record { source = end i; twin = n; next = qt i; line = ql i })) (qt i) w) d n)

  -- the views on the way, one by one
  pub chained : (g1 g2 g3 g4 g5 g6 g7 : View) (b t f : DartId) → g1 ≡ with_vertex v w p → g2 ≡ with_edge g1 n m w u l → g3 ≡ with_next g2 x m → g4 ≡ with_next g3 n b → g5 ≡ with_next g4 m t → g6 ≡ with_source g5 t w → g7 ≡ with_next g6 d n
      → t ≡ twin_in v d → f ≡ next_in v d → u ≡ source_in v t → l ≡ line_in v d → b ≡ cond (f.0 == t.0) m f → g7 ≡ split_edge v d w p n m
  chained g1 g2 g3 g4 g5 g6 g7 b t f e1 e2 e3 e4 e5 e6 e7 qt qf qu ql qb =
      e7 ∙ ap (λ z. with_next z d n) (e6 ∙ ap (λ z. with_source z t w) (e5 ∙ ap (λ z. with_next z m t) (e4 ∙ ap (λ z. with_next z n b) (e3 ∙ ap (λ z. with_next z x m) (e2 ∙ ap (λ z. with_edge z n m w u l) e1)))))
      ∙ is_split b t f qt qf qu ql qb

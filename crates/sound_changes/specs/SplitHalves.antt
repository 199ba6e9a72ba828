-- Two views of which one has an edge whole and the other has it in two parts: names and ends of the darts of both.
use Rattle.std.specs.Prelude.{◌≡◌, ◌≢◌}
use Rattle.slab_laws.specs.declared.names.DartId.{DartId}
use Rattle.slab_laws.specs.declared.names.VertexId.{VertexId}
use Rattle.slab_laws.specs.View.{View, HasVertex, HasDart, point_in, source_in, twin_in, line_in}

-- in h the edge of d and t stands in two parts that meet at w; n and m go along the part that d and t have left (CGAL manual, splitting an edge)
pub record IsHalved (g h : View) (d t n m : DartId) (w : VertexId) : Type 0 where
  pub n_new : ¬ HasDart g n
  pub m_new : ¬ HasDart g m
  pub n_m : n ≢ m
  pub has_n : HasDart h n
  pub has_m : HasDart h m
  pub has_d : HasDart g d
  pub has_t : HasDart g t
  pub d_t : d ≢ t
  pub twin_d : twin_in g d ≡ t
  pub twin_t : twin_in g t ≡ d
  pub has_old : (k : DartId) → HasDart g k → HasDart h k
  pub had : (k : DartId) → HasDart h k → k ≢ n → k ≢ m → HasDart g k
  pub source_n : source_in h n ≡ w
  pub source_m : source_in h m ≡ source_in g t
  pub source_t : source_in h t ≡ w
  pub source_old : (k : DartId) → HasDart g k → k ≢ t → source_in h k ≡ source_in g k
  pub twin_n : twin_in h n ≡ m
  pub twin_m : twin_in h m ≡ n
  pub twin_old : (k : DartId) → HasDart g k → twin_in h k ≡ twin_in g k
  pub line_n : line_in h n ≡ line_in g d
  pub line_m : line_in h m ≡ line_in g d
  pub line_old : (k : DartId) → HasDart g k → line_in h k ≡ line_in g k
  pub w_new : ¬ HasVertex g w
  pub w_has : HasVertex h w
  pub vertex_has : (u : VertexId) → HasVertex g u → HasVertex h u
  pub vertex_had : (u : VertexId) → HasVertex h u → u ≢ w → HasVertex g u
  pub vertex_point : (u : VertexId) → HasVertex g u → point_in h u ≡ point_in g u

-- What is read of a vertex or a dart follows from its row.
use Rattle.std.proofs.Common.{◌≡◌, ◌≢◌, Bool, true, false, cond, Option, Some, None, is_some, IsSome, option_map, refl, sym, ap, ◌∙◌}
use Rattle.std.proofs.lemmas.Bool.{false≢true}
use Rattle.slab_laws.specs.declared.names.DartId.{DartId}
use Rattle.slab_laws.specs.declared.names.VertexId.{VertexId}
use Rattle.slab_laws.specs.Tables.{row_at}
use Rattle.slab_laws.specs.View.{View, DartRecord, vertex_id, dart_id, point_or, pin_or, source_or, twin_or, next_or, line_or}
use Rattle.arr_notes.specs.Reads.{IsSameVertex, IsSameDart, HasRow}

-- names that differ have numbers that differ
pub vertex_number : (u w : VertexId) → u ≢ w → u.0 ≢ w.0
vertex_number u w ne e = ne (ap vertex_id e)

pub dart_number : (d e : DartId) → d ≢ e → d.0 ≢ e.0
dart_number d e ne q = ne (ap dart_id q)

module _ (g h : View) where
  pub same_vertex : (w : VertexId) → row_at h.vertices w.0 ≡ row_at g.vertices w.0 → IsSameVertex g h w
  same_vertex w e = record {
    has = λ k. ap is_some e ∙ k;
    had = λ k. sym (ap is_some e) ∙ k;
    point = ap point_or e;
    pinned = ap pin_or e;
  }

  pub same_dart : (d : DartId) → row_at h.darts d.0 ≡ row_at g.darts d.0 → IsSameDart g h d
  same_dart d e = record {
    has = λ k. ap is_some e ∙ k;
    had = λ k. sym (ap is_some e) ∙ k;
    source = ap source_or e;
    twin = ap (twin_or d) e;
    next = ap (next_or d) e;
    line = ap line_or e;
  }

pub has_row : (v : View) (d : DartId) (r : DartRecord) → row_at v.darts d.0 ≡ Some r → HasRow v d r
has_row v d r e = record {
  has = ap is_some e;
  source = ap source_or e;
  twin = ap (twin_or d) e;
  next = ap (next_or d) e;
  line = ap line_or e;
}

-- a field that a test leaves alone
pub keep : {R A : Type 0} (φ : R → A) (b : Bool) (r s : R) → φ s ≡ φ r → φ (cond b s r) ≡ φ r
keep φ true r s e = e
keep φ false r s e = refl

pub some_mapped : {X : Type 0} (f : X → X) (o : Option X) → is_some (option_map f o) ≡ is_some o
some_mapped f None = refl
some_mapped f (Some x) = refl

module _ (f : DartRecord → DartRecord) where
  pub source_same : ((r : DartRecord) → (f r).source ≡ r.source) → (o : Option DartRecord) → source_or (option_map f o) ≡ source_or o
  source_same e None = refl
  source_same e (Some r) = e r

  pub twin_same : (d : DartId) → ((r : DartRecord) → (f r).twin ≡ r.twin) → (o : Option DartRecord) → twin_or d (option_map f o) ≡ twin_or d o
  twin_same d e None = refl
  twin_same d e (Some r) = e r

  pub next_same : (d : DartId) → ((r : DartRecord) → (f r).next ≡ r.next) → (o : Option DartRecord) → next_or d (option_map f o) ≡ next_or d o
  next_same d e None = refl
  next_same d e (Some r) = e r

  pub line_same : ((r : DartRecord) → (f r).line ≡ r.line) → (o : Option DartRecord) → line_or (option_map f o) ≡ line_or o
  line_same e None = refl
  line_same e (Some r) = e r

-- nothing is no record
pub none_there : {X : Type 0} (o : Option X) → o ≡ None → IsSome o → ⊥
none_there o e h = false≢true (sym (ap is_some e) ∙ h)

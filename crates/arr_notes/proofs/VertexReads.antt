-- What is read after one more vertex, one vertex fewer, and a pin.
use Rattle.std.proofs.Common.{◌≡◌, ◌≢◌, ℕ, ◌==◌, Bool, false, cond, List, Option, Some, None, is_some, IsSome, option_map, refl, sym, ap, ◌∙◌}
use Rattle.std.proofs.lemmas.Bool.{false≢true}
use Rattle.exact_plane.specs.Point.{Point}
use Rattle.slab_laws.specs.declared.names.VertexId.{VertexId}
use Rattle.slab_laws.specs.Sound.{IsNamed}
use Rattle.slab_laws.specs.Tables.{row_at, names, NamesAscend}
use Rattle.slab_laws.specs.View.{View, VertexRecord, point_or, pin_or}
use Rattle.arr_notes.specs.NamedRows.{put, del}
use Rattle.arr_notes.specs.ViewChanges.{with_vertex, without_vertex, with_pin, pinned_as}
use Rattle.arr_notes.specs.Reads.{IsVertexMore, IsVertexLess, IsPinSet}
use Rattle.arr_notes.specs.ChangeLaws.{NothingIsThere}
use Rattle.arr_notes.proofs.RowLaws.{row_at-put, row_at-del, row_at-each, edit_hit, edit_miss}
use Rattle.arr_notes.proofs.Reading.{vertex_number, same_vertex, same_dart, keep, some_mapped, none_there}
use Rattle.integers.proofs.Tests.{other_number, same_number}

pub put_hit : {X : Type 0} (k : ℕ) (x : X) (rs : List (ℕ × X)) → row_at (put k x rs) k ≡ Some x
put_hit k x rs = row_at-put k x rs k ∙ ap (λ b. cond b (Some x) (row_at rs k)) (same_number k)

pub put_miss : {X : Type 0} (k : ℕ) (x : X) (rs : List (ℕ × X)) (n : ℕ) → n ≢ k → row_at (put k x rs) n ≡ row_at rs n
put_miss k x rs n ne = row_at-put k x rs n ∙ ap (λ b. cond b (Some x) (row_at rs n)) (other_number k n (λ e. ne (sym e)))

pub del_hit : {X : Type 0} (k : ℕ) (rs : List (ℕ × X)) → NamesAscend (names rs) → row_at (del k rs) k ≡ None
del_hit k rs a = row_at-del k rs k a ∙ ap (λ b. cond b None (row_at rs k)) (same_number k)

pub del_miss : {X : Type 0} (k : ℕ) (rs : List (ℕ × X)) (n : ℕ) → NamesAscend (names rs) → n ≢ k → row_at (del k rs) n ≡ row_at rs n
del_miss k rs n a ne = row_at-del k rs n a ∙ ap (λ b. cond b None (row_at rs n)) (other_number k n (λ e. ne (sym e)))

pub nothing_is_there : NothingIsThere
unfolding row_at
nothing_is_there = (λ w h. false≢true h, λ d h. false≢true h)

pub vertex_is_added : (v : View) (w : VertexId) (p : Point) → IsVertexMore v (with_vertex v w p) w p
vertex_is_added v w p =
    let e : row_at (put w.0 (record { point = p; pinned = false }) v.vertices) w.0 ≡ Some (record { point = p; pinned = false }) = put_hit w.0 _ v.vertices in
    record {
      has = ap is_some e;
      point = ap point_or e;
      pinned = ap pin_or e;
      others = λ u ne. same_vertex v (with_vertex v w p) u (put_miss w.0 _ v.vertices u.0 (vertex_number u w ne));
      darts = λ d. same_dart v (with_vertex v w p) d refl;
    }

pub vertex_is_removed : (v : View) (w : VertexId) → IsNamed v → IsVertexLess v (without_vertex v w) w
vertex_is_removed v w n = record {
  gone = none_there _ (del_hit w.0 v.vertices n.vertices);
  others = λ u ne. same_vertex v (without_vertex v w) u (del_miss w.0 v.vertices u.0 n.vertices (vertex_number u w ne));
  darts = λ d. same_dart v (without_vertex v w) d refl;
}

point_same : (f : VertexRecord → VertexRecord) → ((r : VertexRecord) → (f r).point ≡ r.point) → (o : Option VertexRecord) → point_or (option_map f o) ≡ point_or o
point_same f e None = refl
point_same f e (Some r) = e r

pin_said : (b : Bool) (o : Option VertexRecord) → IsSome o → pin_or (option_map (pinned_as b) o) ≡ b
pin_said b None h = absurd (false≢true h)
pin_said b (Some r) h = refl

pub pin_is_set : (v : View) (w : VertexId) (b : Bool) → IsPinSet v (with_pin v w b) w b
pin_is_set v w b = record {
  has = λ u k. ap is_some (row_at-each _ v.vertices u.0) ∙ some_mapped _ (row_at v.vertices u.0) ∙ k;
  had = λ u k. sym (ap is_some (row_at-each _ v.vertices u.0) ∙ some_mapped _ (row_at v.vertices u.0)) ∙ k;
  point = λ u. ap point_or (row_at-each _ v.vertices u.0) ∙ point_same _ (λ r. keep (λ x. x.point) (u.0 == w.0) r (pinned_as b r) refl) (row_at v.vertices u.0);
  pinned = λ k. ap pin_or (edit_hit w.0 (pinned_as b) v.vertices) ∙ pin_said b (row_at v.vertices w.0) k;
  others = λ u ne. same_vertex v (with_pin v w b) u (edit_miss w.0 (pinned_as b) v.vertices u.0 (vertex_number u w ne));
  darts = λ d. same_dart v (with_pin v w b) d refl;
}

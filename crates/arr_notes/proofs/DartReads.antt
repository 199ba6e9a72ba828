-- What is read after a field of a dart is written.
use Rattle.std.proofs.Common.{◌≡◌, ◌≢◌, ℕ, ◌==◌, cond, Option, Some, None, is_some, IsSome, option_map, refl, sym, ap, ◌∙◌}
use Rattle.std.proofs.lemmas.Bool.{false≢true}
use Rattle.slab_laws.specs.declared.names.DartId.{DartId}
use Rattle.slab_laws.specs.declared.names.VertexId.{VertexId}
use Rattle.slab_laws.specs.Tables.{row_at}
use Rattle.slab_laws.specs.View.{View, DartRecord, source_or, twin_or, next_or, line_or}
use Rattle.arr_notes.specs.NamedRows.{each}
use Rattle.arr_notes.specs.ViewChanges.{with_next, with_source, redirect, followed_by, leaving, turned}
use Rattle.arr_notes.specs.Reads.{IsRelinked, IsNextSet, IsRedirected, IsSourceSet}
use Rattle.arr_notes.proofs.RowLaws.{row_at-each, edit_hit, edit_miss}
use Rattle.arr_notes.proofs.Reading.{dart_number, same_vertex, same_dart, keep, some_mapped, source_same, twin_same, next_same, line_same}
use Rattle.integers.proofs.Tests.{other_number, same_number}

-- a change of followers alone
module _ (v : View) (f : ℕ → DartRecord → DartRecord) where
  at : (k : ℕ) → row_at (each f v.darts) k ≡ option_map (f k) (row_at v.darts k)
  at k = row_at-each f v.darts k

  pub relinked_by : ((k : ℕ) (r : DartRecord) → (f k r).source ≡ r.source) → ((k : ℕ) (r : DartRecord) → (f k r).twin ≡ r.twin) → ((k : ℕ) (r : DartRecord) → (f k r).line ≡ r.line) → IsRelinked v (record { vertices = v.vertices; darts = each f v.darts })
  relinked_by s t l = record {
    has = λ e k. ap is_some (at e.0) ∙ some_mapped (f e.0) (row_at v.darts e.0) ∙ k;
    had = λ e k. sym (ap is_some (at e.0) ∙ some_mapped (f e.0) (row_at v.darts e.0)) ∙ k;
    source = λ e. ap source_or (at e.0) ∙ source_same (f e.0) (s e.0) (row_at v.darts e.0);
    twin = λ e. ap (twin_or e) (at e.0) ∙ twin_same (f e.0) e (t e.0) (row_at v.darts e.0);
    line = λ e. ap line_or (at e.0) ∙ line_same (f e.0) (l e.0) (row_at v.darts e.0);
    vertices = λ w. same_vertex v (record { vertices = v.vertices; darts = each f v.darts }) w refl;
  }

-- ---- another follower of one dart
next_said : (d n : DartId) (o : Option DartRecord) → IsSome o → next_or d (option_map (followed_by n) o) ≡ n
next_said d n None h = absurd (false≢true h)
next_said d n (Some r) h = refl

pub next_is_set : (v : View) (d n : DartId) → IsNextSet v (with_next v d n) d n
next_is_set v d n = record {
  relinked = relinked_by v (λ k r. cond (k == d.0) (followed_by n r) r)
      (λ k r. keep (λ x. x.source) (k == d.0) r (followed_by n r) refl)
      (λ k r. keep (λ x. x.twin) (k == d.0) r (followed_by n r) refl)
      (λ k r. keep (λ x. x.line) (k == d.0) r (followed_by n r) refl);
  next = λ k. ap (next_or d) (edit_hit d.0 (followed_by n) v.darts) ∙ next_said d n (row_at v.darts d.0) k;
  others = λ e ne. same_dart v (with_next v d n) e (edit_miss d.0 (followed_by n) v.darts e.0 (dart_number e d ne));
}

-- ---- another follower wherever one was
turned_said : (e x y : DartId) (o : Option DartRecord) → IsSome o → next_or e o ≡ x → next_or e (option_map (λ r. turned x y r) o) ≡ y
turned_said e x y None h q = absurd (false≢true h)
turned_said e x y (Some r) h q = ap (λ b. (cond b (followed_by y r) r).next) (ap (λ z. z.0 == x.0) q ∙ same_number x.0)

unturned : (e x y : DartId) (o : Option DartRecord) → next_or e o ≢ x → option_map (λ r. turned x y r) o ≡ o
unturned e x y None q = refl
unturned e x y (Some r) q = ap (λ b. Some (cond b (followed_by y r) r)) (other_number r.next.0 x.0 (dart_number r.next x q))

pub darts_are_redirected : (v : View) (x y : DartId) → IsRedirected v (redirect v x y) x y
darts_are_redirected v x y = record {
  relinked = relinked_by v (λ k r. turned x y r)
      (λ k r. keep (λ z. z.source) (r.next.0 == x.0) r (followed_by y r) refl)
      (λ k r. keep (λ z. z.twin) (r.next.0 == x.0) r (followed_by y r) refl)
      (λ k r. keep (λ z. z.line) (r.next.0 == x.0) r (followed_by y r) refl);
  next = λ e k q. ap (next_or e) (row_at-each (λ n r. turned x y r) v.darts e.0) ∙ turned_said e x y (row_at v.darts e.0) k q;
  others = λ e q. same_dart v (redirect v x y) e (row_at-each (λ n r. turned x y r) v.darts e.0 ∙ unturned e x y (row_at v.darts e.0) q);
}

-- ---- another source of one dart
source_said : (w : VertexId) (o : Option DartRecord) → IsSome o → source_or (option_map (leaving w) o) ≡ w
source_said w None h = absurd (false≢true h)
source_said w (Some r) h = refl

pub source_is_set : (v : View) (d : DartId) (w : VertexId) → IsSourceSet v (with_source v d w) d w
source_is_set v d w = record {
  has = λ e k. ap is_some (read e) ∙ some_mapped (λ r. cond (e.0 == d.0) (leaving w r) r) (row_at v.darts e.0) ∙ k;
  had = λ e k. sym (ap is_some (read e) ∙ some_mapped (λ r. cond (e.0 == d.0) (leaving w r) r) (row_at v.darts e.0)) ∙ k;
  source = λ k. ap source_or (edit_hit d.0 (leaving w) v.darts) ∙ source_said w (row_at v.darts d.0) k;
  twin = λ e. ap (twin_or e) (read e) ∙ twin_same (λ r. cond (e.0 == d.0) (leaving w r) r) e (λ r. keep (λ x. x.twin) (e.0 == d.0) r (leaving w r) refl) (row_at v.darts e.0);
  next = λ e. ap (next_or e) (read e) ∙ next_same (λ r. cond (e.0 == d.0) (leaving w r) r) e (λ r. keep (λ x. x.next) (e.0 == d.0) r (leaving w r) refl) (row_at v.darts e.0);
  line = λ e. ap line_or (read e) ∙ line_same (λ r. cond (e.0 == d.0) (leaving w r) r) (λ r. keep (λ x. x.line) (e.0 == d.0) r (leaving w r) refl) (row_at v.darts e.0);
  others = λ e ne. same_dart v (with_source v d w) e (edit_miss d.0 (leaving w) v.darts e.0 (dart_number e d ne));
  vertices = λ u. same_vertex v (with_source v d w) u refl;
}
  where
    read : (e : DartId) → row_at (each (λ k r. cond (k == d.0) (leaving w r) r) v.darts) e.0 ≡ option_map (λ r. cond (e.0 == d.0) (leaving w r) r) (row_at v.darts e.0)
    read e = row_at-each (λ k r. cond (k == d.0) (leaving w r) r) v.darts e.0

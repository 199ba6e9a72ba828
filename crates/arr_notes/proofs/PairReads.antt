-- What is read after two more darts, or two fewer, and that names stay in order.
use Rattle.std.proofs.Common.{◌≡◌, ◌≢◌, Bool, true, false, ◌==◌, cond, Option, None, refl, ap, ◌∙◌}
use Rattle.slab_laws.specs.declared.names.DartId.{DartId}
use Rattle.slab_laws.specs.Sound.{IsNamed}
use Rattle.slab_laws.specs.Tables.{row_at, names, NamesAscend}
use Rattle.slab_laws.specs.View.{View, DartRecord}
use Rattle.arr_notes.specs.NamedRows.{put, del}
use Rattle.arr_notes.specs.ViewChanges.{with_pair, without_pair}
use Rattle.arr_notes.specs.Reads.{IsPairMore, IsPairLess}
use Rattle.arr_notes.specs.ChangeLaws.{AreNamesKept}
use Rattle.arr_notes.proofs.RowLaws.{row_at-del, ascend-put, ascend-del, ascend-each}
use Rattle.arr_notes.proofs.Reading.{dart_number, same_vertex, same_dart, has_row, none_there}
use Rattle.arr_notes.proofs.VertexReads.{put_hit, put_miss, del_hit, del_miss}

pub pair_is_added : (v : View) (d m : DartId) (r s : DartRecord) → d ≢ m → IsPairMore v (with_pair v d m r s) d m r s
pair_is_added v d m r s ne = record {
  first = has_row (with_pair v d m r s) d r (put_miss m.0 s (put d.0 r v.darts) d.0 (dart_number d m ne) ∙ put_hit d.0 r v.darts);
  second = has_row (with_pair v d m r s) m s (put_hit m.0 s (put d.0 r v.darts));
  others = λ e nd nm. same_dart v (with_pair v d m r s) e (put_miss m.0 s (put d.0 r v.darts) e.0 (dart_number e m nm) ∙ put_miss d.0 r v.darts e.0 (dart_number e d nd));
  vertices = λ w. same_vertex v (with_pair v d m r s) w refl;
}

module _ (v : View) (d m : DartId) (n : IsNamed v) where
  rest : NamesAscend (names (del d.0 v.darts))
  rest = ascend-del d.0 v.darts n.darts

  first_gone : row_at (del m.0 (del d.0 v.darts)) d.0 ≡ None
  first_gone = row_at-del m.0 (del d.0 v.darts) d.0 rest ∙ ap (λ o. cond (m.0 == d.0) None o) (del_hit d.0 v.darts n.darts) ∙ either (m.0 == d.0)
    where
      either : (b : Bool) → ◌≡◌ {A = Option DartRecord} (cond b None None) None
      either true = refl
      either false = refl

  pub pair_is_removed : IsPairLess v (without_pair v d m) d m
  pair_is_removed = record {
    first = none_there _ first_gone;
    second = none_there _ (del_hit m.0 (del d.0 v.darts) rest);
    others = λ e nd nm. same_dart v (without_pair v d m) e (del_miss m.0 (del d.0 v.darts) e.0 rest (dart_number e m nm) ∙ del_miss d.0 v.darts e.0 n.darts (dart_number e d nd));
    vertices = λ w. same_vertex v (without_pair v d m) w refl;
  }

pub names_stay : (v : View) → IsNamed v → AreNamesKept v
names_stay v n = record {
  vertex = λ w p. record { vertices = ascend-put w.0 _ v.vertices n.vertices; darts = n.darts };
  vertex_less = λ w. record { vertices = ascend-del w.0 v.vertices n.vertices; darts = n.darts };
  pin = λ w b. record { vertices = ascend-each _ v.vertices n.vertices; darts = n.darts };
  pair = λ d m r s. record { vertices = n.vertices; darts = ascend-put m.0 s _ (ascend-put d.0 r v.darts n.darts) };
  pair_less = λ d m. record { vertices = n.vertices; darts = ascend-del m.0 _ (ascend-del d.0 v.darts n.darts) };
  next = λ d x. record { vertices = n.vertices; darts = ascend-each _ v.darts n.darts };
  source = λ d w. record { vertices = n.vertices; darts = ascend-each _ v.darts n.darts };
  redirected = λ x y. record { vertices = n.vertices; darts = ascend-each _ v.darts n.darts };
}

-- The dart that is met first round a vertex, by one look at each dart.
use Rattle.std.proofs.Common.{◌≡◌, ℕ, ◌+◌, ◌<◌, Bool, true, false, List, map, length, get_or, refl, sym, ap, ◌∙◌, subst, arith, inl, inr}
use Rattle.std.specs.Prelude.{◌==◌, ◌&&◌}
use Rattle.std.proofs.lemmas.Bool.{false≢true, false_from_ne_true, and_parts, eqb-true, eq-eqb, cases_lt}
use Rattle.exact_plane.specs.Point.{Point}
use Rattle.exact_plane.specs.Span.{Span}
use Rattle.slab_laws.specs.declared.rows.ListedDart.{ListedDart}
use Rattle.slab_laws.specs.Skeleton.{Skeleton, IsPlaneSkeleton}
use Rattle.slab_laws.specs.Darts.{source}
use Rattle.slab_laws.specs.SpansDrawn.{drawn, edge_of}
use Rattle.slab_laws.specs.Rotation.{OutOf}
use Rattle.slab_laws.specs.Rows.{dart_at, dart_rows}
use Rattle.slab_faces.proofs.RotationLemmas.{round_at}
use Rattle.dart_orbits.specs.DartRows.{row_dart}
use Rattle.dart_orbits.specs.Turns.{comes_first}
use Rattle.dart_orbits.specs.Ways.{no_row}
use Rattle.dart_orbits.proofs.NextPlaces.{IsFirstOf, within, dart_read, one_source, source_place, out_of, vertex_there}
use Rattle.dart_orbits.proofs.Rounds.{never_itself, sooner_on}

module _ (points : List Point) (edges : List Span) (rows : List ListedDart) (plane : IsPlaneSkeleton (drawn points edges)) (e : rows ≡ dart_rows (drawn points edges)) where
  abbrev G : Skeleton
  G = drawn points edges

  abbrev row : ℕ → ListedDart
  row k = get_or rows k no_row

  pub none_yet : (from : ℕ) → from < length rows → IsFirstOf (drawn points edges) from from 0
  none_yet from l = record { in' = within points edges rows plane e from l; out = refl; none = λ j h. absurd (omega arith) }

  -- what is told of the dart at i
  abbrev Told : ℕ → ℕ → ℕ → Bool → Type 0
  Told from best i b = b ≡ (((row i).source == (row from).source) && comes_first (row_dart (map edge_of edges) (row from)) (row_dart (map edge_of edges) (row i)) (row_dart (map edge_of edges) (row best)))

  read_sooner : (from best i : ℕ) → from < length rows → best < length rows → i < length rows → comes_first (row_dart (map edge_of edges) (get_or rows from no_row)) (row_dart (map edge_of edges) (get_or rows i no_row)) (row_dart (map edge_of edges) (get_or rows best no_row)) ≡ comes_first (dart_at (drawn points edges) from) (dart_at (drawn points edges) i) (dart_at (drawn points edges) best)
  read_sooner from best i f b l = λ j. comes_first (dart_read points edges rows plane e from f j) (dart_read points edges rows plane e i l j) (dart_read points edges rows plane e best b j)

  pub nearer : (from best i : ℕ) (b : Bool) → from < length rows → best < length rows → i < length rows → Told from best i b → b ≡ true → IsFirstOf (drawn points edges) from best i → IsFirstOf (drawn points edges) from i (i + 1)
  nearer from best i b f k l t is h =
      let F = dart_at G from in
      let V = source F in
      let o = round_at G V plane (vertex_there points edges rows plane e from f) in
      let p = and_parts ((row i).source == (row from).source) _ (sym t ∙ is) in
      let s = one_source points edges rows plane e i from l f (eqb-true (row i).source (row from).source p.0) in
      let I = out_of points edges rows plane e i from (within points edges rows plane e i l) s in
      let B = out_of points edges rows plane e best from h.in' h.out in
      let so : comes_first F (dart_at G i) (dart_at G best) ≡ true = sym (read_sooner from best i f k l) ∙ p.1 in
      record {
        in' = within points edges rows plane e i l;
        out = s;
        none = λ j m n q. false_from_ne_true (comes_first F (dart_at G j) (dart_at G i)) (λ u. elim (cases_lt j i) [
          | inl a ↦ false≢true (sym (h.none j a n q) ∙ sooner_on (OutOf G V) o F (dart_at G j) (dart_at G i) (dart_at G best) (out_of points edges rows plane e j from n q) I B u so)
          | inr a ↦ (let same : j ≡ i = omega arith in never_itself (OutOf G V) o F (dart_at G i) I (subst (λ x. comes_first F (dart_at G x) (dart_at G i) ≡ true) same u))
        ]);
      }

  pub no_nearer : (from best i : ℕ) (b : Bool) → from < length rows → best < length rows → i < length rows → Told from best i b → b ≡ false → IsFirstOf (drawn points edges) from best i → IsFirstOf (drawn points edges) from best (i + 1)
  no_nearer from best i b f k l t is h =
      let F = dart_at G from in
      record {
        in' = h.in';
        out = h.out;
        none = λ j m n q. elim (cases_lt j i) [
          | inl a ↦ h.none j a n q
          | inr a ↦
              let same : i ≡ j = omega arith in
              let s : source (dart_at G i) ≡ source F = subst (λ x. source (dart_at G x) ≡ source F) (sym same) q in
              let w : ((row i).source == (row from).source) ≡ true = eq-eqb (row i).source (row from).source (source_place points edges rows plane e i from l f s) in
              subst (λ x. comes_first F (dart_at G x) (dart_at G best) ≡ false) same (sym (read_sooner from best i f k l) ∙ sym (ap (λ x. x && comes_first (row_dart (map edge_of edges) (row from)) (row_dart (map edge_of edges) (row i)) (row_dart (map edge_of edges) (row best))) w) ∙ sym t ∙ is)
        ];
      }

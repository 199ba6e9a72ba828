-- Spans that are the edges of a graph have its lines.
use Rattle.std.proofs.Common.{◌≡◌, ℕ, refl, sym, ap, subst, ◌∙◌, List, [], ◌∷◌, map, length, zero, suc}
use Rattle.std.specs.Prelude.{Some, slice_get, pos}
use Rattle.std.specs.Option.{option_map}
use Rattle.std.proofs.lemmas.List.{length-map}
use Rattle.std.proofs.lemmas.Option.{slice_get-map, get_or_from_slice_get}
use Rattle.exact_plane.specs.Line.{IsOn}
use Rattle.exact_plane.specs.Span.{Span}
use Rattle.plane_graphs.specs.Ascending.{Member}
use Rattle.plane_graphs.specs.Graph.{Graph, Edge, edges}
use Rattle.plane_graphs.specs.Line.{IsProperLine}
use Rattle.slab_laws.specs.SpansDrawn.{edge_of}
use Rattle.subdivision_rows.specs.Listed.{Drawing, line_at, AreLinesOf, IsEdgeAt}
use Rattle.sound_views.proofs.ListedPlaces.{to_in}
use Rattle.sound_views.proofs.ListedRows.{slice_get_member}

-- the span's three numbers are a line's, and it holds both its ends
pub record IsAlongLine (s : Span) : Type 0 where
  pub is_line : IsProperLine s.line
  pub lower_on : IsOn s.line s.lower
  pub upper_on : IsOn s.line s.upper

-- the element that a value in the list is of
map_at : {X Y : Type 0} (f : X → Y) (xs : List X) (k : ℕ) (y : Y) → slice_get (map f xs) k ≡ Some y → (x : X) × (slice_get xs k ≡ Some x) × (f x ≡ y)
map_at f [] k y h = absurd (cc)
map_at f (x ∷ xs) zero y h = (x, refl, (let e : f x ≡ y = cc in e))
map_at f (x ∷ xs) (suc k) y h = map_at f xs k y h

module _ (g : Graph) (ss : List Span) (are : map edge_of ss ≡ edges g) (along : (s : Span) → Member s ss → IsAlongLine s) where
  abbrev D : Drawing
  D = record { graph = g; lines = map (λ s. s.line) ss }

  -- the span of an edge
  record IsSpanOf (k : ℕ) (e : Edge) : Type 0 where
    span : Span
    here : Member span ss
    edge : edge_of span ≡ e
    line : line_at D k ≡ span.line

  span_of : (k : ℕ) (e : Edge) → IsEdgeAt D k e → IsSpanOf k e
  span_of k e at =
      let w = map_at edge_of ss k e (ap (λ (es : List Edge). slice_get es k) are ∙ at) in
      let s : Span = w.0 in
      record {
        span = s;
        here = to_in ss s (slice_get_member ss k s w.1);
        edge = w.2;
        line = get_or_from_slice_get D.lines k s.line (record { a = pos 0; b = pos 0; c = pos 0 }) (slice_get-map (λ (s : Span). s.line) ss k ∙ ap (option_map (λ (s : Span). s.line)) w.1);
      }

  pub lines_by_spans : AreLinesOf D
  lines_by_spans = record {
    as_many = length-map ss (λ (s : Span). s.line) ∙ sym (length-map ss edge_of) ∙ ap length are;
    is_line = λ k e at. let w = span_of k e at in subst IsProperLine (sym w.line) (along w.span w.here).is_line;
    lower_on = λ k e at. let w = span_of k e at in subst (λ (d : Edge). IsOn (line_at D k) d.low) w.edge (subst (λ l. IsOn l w.span.lower) (sym w.line) (along w.span w.here).lower_on);
    upper_on = λ k e at. let w = span_of k e at in subst (λ (d : Edge). IsOn (line_at D k) d.high) w.edge (subst (λ l. IsOn l w.span.upper) (sym w.line) (along w.span w.here).upper_on);
  }

-- Records and history of a layer, a look down among its pieces, and where a point lies that is at no vertex.
use Rattle.std.proofs.Common.{◌≡◌, ◌≢◌, ℕ, pos, [], true, false, arith, refl, sym, ap, ◌∙◌, subst}
use Rattle.std.specs.Prelude.{ℤ, negsuc, ◌≤ℤ◌, ◌==◌, map, Option, Some, None, IfSome, Contains}
use Rattle.std.specs.List.{IsDistinct}
use Rattle.std.specs.Int.{int_max, int_min}
use Rattle.std.proofs.lemmas.Int.{ints, by_lt_z, int_max_is, int_min_is}
use Rattle.std.proofs.lemmas.List.Elements.{All-contains, All-contains_itself, All-weaker}
use Rattle.exact_plane.specs.Boxes.{ray_below}
use Rattle.exact_plane.specs.Line.{side_of}
use Rattle.exact_plane.specs.Point.{Point}
use Rattle.exact_plane.specs.WholeParts.{whole_parts}
use Rattle.exact_plane.specs.declared.whole_parts.BoundingBox.{BoundingBox}
use Rattle.plane_graphs.specs.Ascending.{Member, ascending}
use Rattle.plane_graphs.specs.Line.{IsProper}
use Rattle.plane_graphs.specs.Piece.{Piece}
use Rattle.plane_graphs.specs.Strands.{strand_piece, strands}
use Rattle.plane_graphs.proofs.Ascending.{from_member, to_member}
use Rattle.plane_graphs.proofs.Lists.{in_map, of_map}
use Rattle.plane_graphs.proofs.Strands.{strands_fit, strands_one_side}
use Rattle.slab_laws.specs.declared.names.DartId.{DartId}
use Rattle.slab_laws.specs.declared.names.VertexId.{VertexId}
use Rattle.slab_laws.specs.declared.present.Piece.{Piece as PieceInMemory}
use Rattle.slab_laws.specs.Pieces.{piece_of}
use Rattle.slab_laws.specs.Tables.{names}
use Rattle.slab_laws.specs.View.{View, HasVertex, point_in}
use Rattle.sound_views.proofs.GraphDrawn.{twins_are_directed}
use Rattle.dcel_records.specs.declared.spot.Met.TheVariants.{Edge as InEdge}
use Rattle.dcel_records.specs.Spots.{IsInFace, IsMet}
use Rattle.face_location.specs.Below.{IsHighestDart}
use Rattle.box_tree.specs.Entries.{is_met, AllAbove, AreKnown, AreSeen}
use Rattle.curve_pieces.specs.PieceRows.{entries_of, entry_of}
use Rattle.curve_history.specs.Cuts.{modelled}
use Rattle.curve_history.specs.DrawnRecords.{IsPassed, IsTold}
use Rattle.curve_history.specs.Past.{Past, curves_of, curves_on, strands_on}
use Rattle.piece_location.specs.declared.highest.Highest.{Highest}
use Rattle.piece_location.specs.declared.highest.PieceBelow.{PieceBelow}
use Rattle.piece_location.specs.Drawn.{IsAlongPiece, IsDrawnFrom}
use Rattle.piece_location.specs.Found.{IsOffPieces}
use Rattle.piece_location.specs.Heights.{is_higher, line_of, IsPieceSeen, IsPieceThrough, IsSpanned}
use Rattle.piece_location.specs.Layers.{present_of, IsBestOf, IsEdgeOfName, IsLookedDown, IsPastOf}
use Rattle.piece_location.specs.Looks.{AreFitRows, HasSeen, IsBelowIn, IsCleared, IsFloor, IsPassedBy, IsPieceNamed, Knows, MayVisit}
use Rattle.piece_location.proofs.Boxes.{met_row}
use Rattle.piece_location.proofs.DrawnPieces.{piece_has_edge}
use Rattle.piece_location.proofs.Located.{highest_dart, in_face, through_edge}
use Rattle.piece_location.proofs.Rows.{same_row}

-- ---- rows
module _ (p : Past) (is : p.pieces ≡ modelled p.rows) where
  pub row_piece : (r : ℕ × PieceInMemory) → Member r p.rows → Member (piece_of r.1) p.pieces
  row_piece r m = subst (Member (piece_of r.1)) (sym is) (in_map piece_of r.1 (map (λ (z : ℕ × PieceInMemory). z.1) p.rows) (in_map (λ (z : ℕ × PieceInMemory). z.1) r p.rows m))

  pub piece_row : (k : Piece) → Member k p.pieces → (r : ℕ × PieceInMemory) × Member r p.rows × (k ≡ piece_of r.1)
  piece_row k m =
      let a = of_map piece_of k (map (λ (z : ℕ × PieceInMemory). z.1) p.rows) (subst (Member k) is m) in
      let b = of_map (λ (z : ℕ × PieceInMemory). z.1) a.0 p.rows a.1 in
      (b.0, b.1, a.2 ∙ ap piece_of b.2)

-- ---- pieces and their sides
through_side : (q : Point) (k : Piece) → IsPieceThrough q k → IsPieceThrough q (strand_piece k)
through_side q k t = record { spanning = t.spanning; on_line = t.on_line }

side_through : (q : Point) (k : Piece) → IsPieceThrough q (strand_piece k) → IsPieceThrough q k
side_through q k t = record { spanning = t.spanning; on_line = t.on_line }

seen_side : (q : Point) (k : Piece) → IsPieceSeen q k → IsPieceSeen q (strand_piece k)
seen_side q k t = record { spanning = t.spanning; over_line = t.over_line }

side_seen : (q : Point) (k : Piece) → IsPieceSeen q (strand_piece k) → IsPieceSeen q k
side_seen q k t = record { spanning = t.spanning; over_line = t.over_line }

none_of_none : curves_of [] ≡ []
unfolding curves_of ascending
none_of_none = refl

module _ (v : View) (p : Past) (w : IsPastOf v p) (is : p.pieces ≡ modelled p.rows) where
  none_along : (d : DartId) → strands_on p d ≡ [] → curves_on p d ≡ []
  unfolding curves_on
  none_along d e = ap curves_of e ∙ none_of_none

  pub told : IsTold v p
  told = record { curves = w.curves; directed = twins_are_directed v w.sound }

  pub fit_rows : AreFitRows p
  fit_rows r m = w.fit.piece (piece_of r.1) (row_piece p is r m)

  pub drawn : IsDrawnFrom v (strands_on p) (strands (present_of v p))
  drawn = record { sound = w.sound; some = λ d f e. w.curves.some d f (none_along d e); fit = strands_fit (present_of v p) w.fit; one_side = strands_one_side (present_of v p) w.fit; stands = w.strands }

  pub side_in : (r : ℕ × PieceInMemory) → Member r p.rows → Member (strand_piece (piece_of r.1)) (strands (present_of v p)).pieces
  side_in r m = in_map strand_piece (piece_of r.1) p.pieces (row_piece p is r m)

  pub side_out : (k : Piece) → Member k (strands (present_of v p)).pieces → (r : ℕ × PieceInMemory) × Member r p.rows × (k ≡ strand_piece (piece_of r.1))
  side_out k m =
      let a = of_map strand_piece k p.pieces m in
      let b = piece_row p is a.0 a.1 in
      (b.0, b.1, a.2 ∙ ap strand_piece b.2)

  along : (q : Point) (k : PieceInMemory) (d : DartId) → IsPassed v p k q d → IsAlongPiece v (strands_on p) (strand_piece (piece_of k)) q d
  along q k d a = record { forward = a.forward; runs = a.runs; from = a.from; to = a.to }

  module _ (q : Point) (Q : IsProper q) where
    -- a piece that has the point between its ends has an edge that has it so
    pub edge_there : ((u : VertexId) → HasVertex v u → point_in v u ≢ q) → (n : ℕ) (k : PieceInMemory) → Member (n, k) p.rows → IsSpanned q (piece_of k) → (d : DartId) × IsPassed v p k q d
    edge_there free n k m s =
        let e = piece_has_edge v (strands_on p) (strands (present_of v p)) drawn q Q free (strand_piece (piece_of k)) (side_in (n, k) m) s in
        (e.0, record { forward = e.1.forward; runs = e.1.runs; from = e.1.from; to = e.1.to })

    pub never_none : IsDistinct ◌==◌ (names p.rows) → ((u : VertexId) → HasVertex v u → point_in v u ≢ q) → (n : ℕ) → IsPieceNamed p (IsSpanned q) n → (k : PieceInMemory) → Member (n, k) p.rows → ((d : DartId) → ¬ IsPassed v p k q d) → ⊥
    never_none once free n (j, here, s) k m none =
        let e = edge_there free n k m (subst (λ z. IsSpanned q (piece_of z)) (same_row p.rows n j k once here m) s) in none e.0 e.1

    -- the edge of a piece through the point has it inside
    pub met_through : IsDistinct ◌==◌ (names p.rows) → (n : ℕ) → IsPieceNamed p (IsPieceThrough q) n → (d : DartId) → IsEdgeOfName v p q n d → IsMet v q (InEdge d)
    met_through once n (j, here, t) d (k, m, a) =
        through_edge v (strands_on p) (strands (present_of v p)) drawn q Q (strand_piece (piece_of k)) (side_in (n, k) m)
        (through_side q (piece_of k) (subst (λ z. IsPieceThrough q (piece_of z)) (same_row p.rows n j k once here m) t)) d (along q k d a)

    module _ (o : Option PieceBelow) (best : IsBestOf p q o) where
      off_sides : IsOffPieces (strands (present_of v p)) q
      off_sides k m t = let r = side_out k m in best.off r.0 r.1 (side_through q (piece_of r.0.1) (subst (IsPieceThrough q) r.2 t))

      pub met_nothing : ((u : VertexId) → HasVertex v u → point_in v u ≢ q) → IsInFace v q
      met_nothing free = in_face v (strands_on p) (strands (present_of v p)) drawn q Q free off_sides

    pub none_below : IsBestOf p q None → IsHighestDart v q None
    none_below best = highest_dart v (strands_on p) (strands (present_of v p)) drawn q Q None (λ k m s. let r = side_out k m in best.passed r.0 r.1 (side_seen q (piece_of r.0.1) (subst (IsPieceSeen q) r.2 s)))

    pub best_below : IsDistinct ◌==◌ (names p.rows) → (b : PieceBelow) → IsBestOf p q (Some b) → (d : DartId) → IsEdgeOfName v p q b.name d → IsHighestDart v q (Some d)
    best_below once b best d (k, m, a) =
        let f = best.found in
        let same = same_row p.rows b.name f.0 k once f.1 m in
        let seen : IsPieceSeen q (piece_of k) = subst (λ z. IsPieceSeen q (piece_of z)) same f.2.0 in
        let line : b.line ≡ line_of (piece_of k) = subst (λ z. b.line ≡ line_of (piece_of z)) same f.2.1 in
        highest_dart v (strands_on p) (strands (present_of v p)) drawn q Q (Some d) (
          strand_piece (piece_of k),
          record {
            here = side_in (b.name, k) m;
            seen = seen_side q (piece_of k) seen;
            highest = λ j i s.
                let r = side_out j i in
                let h : is_higher q (line_of (piece_of r.0.1)) b.line ≡ false = best.passed r.0 r.1 (side_seen q (piece_of r.0.1) (subst (IsPieceSeen q) r.2 s)) in
                subst (λ z. is_higher q (line_of z) (line_of (piece_of k)) ≡ false) (sym r.2) (subst (λ l. is_higher q (line_of (piece_of r.0.1)) l ≡ false) line h);
          },
          along q k d a,
        )

-- ---- the look down
least_first : (x y z : ℤ) → z ≤ℤ int_min x y → z ≤ℤ int_max x y
least_first x y z h = omega (arith, ints, h, int_min_is x y, int_max_is x y)

pub first_known : (k : Highest) (p : Past) (area : BoundingBox) → k.history.now ≡ p → AreKnown (Knows k) area (entries_of p.rows)
first_known k p area e =
    All-weaker (Contains (entries_of p.rows)) (λ x. is_met area x ≡ true → Knows k x)
    (λ x c met. subst (λ (z : Past). Member x (entries_of z.rows)) (sym e) (to_member (entries_of p.rows) x c))
    (entries_of p.rows) (All-contains_itself (entries_of p.rows))

-- no box is below the least number
pub lowest_floor : (l : Highest) → l.floor ≡ negsuc 2147483647 → IsFloor l
lowest_floor l e = λ m f s low b. absurd (omega (arith, ints))

module _ (p : Past) (q : Point) (Q : IsProper q) (once : IsDistinct ◌==◌ (names p.rows)) (fit : AreFitRows p) (low : AllAbove (negsuc 2147483647) (entries_of p.rows)) (l : Highest) (history : l.history.now ≡ p) (point : l.point ≡ q)
    (seen : AreSeen (HasSeen l) (ray_below (whole_parts q)) l.floor (entries_of p.rows)) (own : l.through ≡ None) (under : IsFloor l) where
  low_row : (r : ℕ × PieceInMemory) → Member r p.rows → negsuc 2147483647 ≤ℤ (entry_of r).bounds.least.y
  low_row r m = All-contains (λ e. negsuc 2147483647 ≤ℤ e.bounds.least.y) (entries_of p.rows) (entry_of r) low (from_member (entries_of p.rows) (entry_of r) (in_map entry_of r p.rows m))

  -- a piece that the point sees, or that goes through it, was looked at
  cleared : (r : ℕ × PieceInMemory) → Member r p.rows → IsSpanned q (piece_of r.1) → pos 0 ≤ℤ side_of (line_of (piece_of r.1)) q → IsCleared l (piece_of r.1)
  cleared r m s w =
      let up = least_first (whole_parts r.1.from).y (whole_parts r.1.to).y (negsuc 2147483647) (low_row r m) in
      let met = met_row q Q r (fit r m) s w up in
      by_lt_z (entry_of r).bounds.greatest.y l.floor
      (λ b. under (piece_of r.1) (fit r m) (subst (λ x. IsSpanned x (piece_of r.1)) (sym point) s) up b)
      (λ b.
      let c = All-contains (λ e. is_met (ray_below (whole_parts q)) e ≡ true → l.floor ≤ℤ e.bounds.greatest.y → HasSeen l e) (entries_of p.rows) (entry_of r) seen (from_member (entries_of p.rows) (entry_of r) (in_map entry_of r p.rows m)) met b own in
      subst (λ k. IsCleared l (piece_of k)) (same_row p.rows r.0 c.0 r.1 once (subst (λ (z : Past). Member (r.0, c.0) z.rows) history c.1) m) c.2)

  off : (r : ℕ × PieceInMemory) → Member r p.rows → IsPieceThrough q (piece_of r.1) → ⊥
  off r m t = let z = t.on_line in (cleared r m t.spanning (omega (arith, ints))).off (subst (λ x. IsPieceThrough x (piece_of r.1)) (sym point) t)

  passed_by : (o : Option PieceBelow) (k : Piece) → (IsPieceSeen q k → IsPassedBy q o k) → IsPassedBy q o k
  passed_by None k f = λ s. f s s
  passed_by (Some b) k f = λ s. f s s

  passed : (r : ℕ × PieceInMemory) → Member r p.rows → IsPassedBy q l.best (piece_of r.1)
  passed r m = passed_by l.best (piece_of r.1) (λ s. let z = s.over_line in subst (λ x. IsPassedBy x l.best (piece_of r.1)) point (cleared r m s.spanning (omega (arith, ints))).passed)

pub looked_down : (k l : Highest) (p : Past) (q : Point) → IsProper q → IsDistinct ◌==◌ (names p.rows) → AreFitRows p → AllAbove (negsuc 2147483647) (entries_of p.rows) → k.history.now ≡ p → k.point ≡ q → MayVisit k l → AreSeen (HasSeen l) (ray_below (whole_parts q)) l.floor (entries_of p.rows) → IsLookedDown p q l
looked_down k l p q Q once fit low a b m seen =
    let history = m.history ∙ a in
    let point = m.point ∙ b in
    record {
      through = subst (λ (z : Past). IfSome l.through (IsPieceNamed z (IsPieceThrough q))) history (subst (λ x. IfSome l.through (IsPieceNamed l.history.now (IsPieceThrough x))) point m.through);
      best = λ own. record {
        found = subst (λ (z : Past). IfSome l.best (IsBelowIn z q)) history (subst (λ x. IfSome l.best (IsBelowIn l.history.now x)) point m.best);
        off = off p q Q once fit low l history point seen own (m.floor own);
        passed = passed p q Q once fit low l history point seen own (m.floor own);
      };
    }

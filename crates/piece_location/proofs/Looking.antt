-- What looks at pieces keep, and what they find.
use Rattle.std.proofs.Common.{◌≡◌, ℕ, ℤ, pos, ◌<ℤ◌, ◌≤ℤ◌, List, true, false, cond, arith, refl, sym, ap, ◌∙◌, ◌⊎◌, inl, inr, subst, Ordering, Less, Equal, Greater}
use Rattle.std.specs.Prelude.{◌==◌, Option, Some, None, IfSome, IsSome}
use Rattle.std.specs.List.{IsDistinct}
use Rattle.std.specs.Int.{int_max}
use Rattle.std.specs.Cmp.{IsTotalOrder, tied_itself}
use Rattle.std.specs.Ordering.{is_gt, ordering_reverse}
use Rattle.std.proofs.lemmas.Bool.{cases_Bool}
use Rattle.std.proofs.lemmas.Int.{ints, by_lt_z, int_max_is}
use Rattle.integers.proofs.Tests.{not_true}
use Rattle.exact_plane.specs.Line.{Line}
use Rattle.exact_plane.specs.Point.{Point, IsPoint}
use Rattle.exact_plane.specs.declared.whole_parts.BoundingBox.{BoundingBox}
use Rattle.plane_graphs.specs.Ascending.{Member}
use Rattle.plane_graphs.specs.Fit.{IsFitPiece}
use Rattle.plane_graphs.specs.Line.{IsProper}
use Rattle.plane_graphs.specs.Piece.{Piece}
use Rattle.plane_graphs.proofs.Lines.{along_out, point_is_proper, segment_runs}
use Rattle.plane_graphs.proofs.Lists.{clash, in_map, not_none, of_map}
use Rattle.plane_graphs.proofs.Order.{lt_out}
use Rattle.plane_graphs.proofs.Vertices.{proper_piece}
use Rattle.slab_laws.specs.declared.present.Piece.{Piece as PieceInMemory}
use Rattle.slab_laws.specs.Pieces.{piece_of}
use Rattle.slab_laws.specs.Tables.{names}
use Rattle.slab_faces.proofs.InnerPoints.{before_in}
use Rattle.slab_faces.proofs.Walls.{run_positive}
use Rattle.edge_predicates.proofs.Seen.{slanted}
use Rattle.box_tree.specs.declared.entry.Entry.{Entry}
use Rattle.curve_pieces.specs.PieceRows.{entries_of, entry_of}
use Rattle.curve_history.specs.Past.{Past}
use Rattle.piece_location.specs.declared.highest.Highest.{Highest}
use Rattle.piece_location.specs.declared.highest.PieceBelow.{PieceBelow}
use Rattle.piece_location.specs.declared.lies.Lie.{Lie}
use Rattle.piece_location.specs.declared.lies.Lie.TheVariants.{Below, Through, Apart}
use Rattle.piece_location.specs.Heights.{ends_of, line_of, is_higher, IsOnLine, IsPieceSeen, IsPieceThrough}
use Rattle.piece_location.specs.Lies.{IsLie}
use Rattle.piece_location.specs.Looks.{box_of, higher_piece, taken, AreFitRows, HasSeen, IsBelowIn, IsFloor, IsLooked, IsPassedBy, IsReady, MayVisit}
use Rattle.piece_location.proofs.Lower.{lower_not_higher, lower_off}
use Rattle.piece_location.proofs.Rows.{same_row}
use Rattle.piece_location.proofs.OnLines.{leant_total, line_slanted, zero_on_line}

-- ---- the line of a piece that a point sees isn't vertical
pub seen_slanted : (q : Point) (k : Piece) → IsFitPiece k → IsProper q → IsPieceSeen q k → pos 0 <ℤ (line_of k).b
seen_slanted q k f Q s =
    let e = ends_of k in
    let on : IsOnLine (line_of k) (ends_of k) = record { low_on = along_out k k.from f.from_on; high_on = along_out k k.to f.to_on } in
    let F = before_in k.from k.to f.from f.to (lt_out k.from k.to f.forward) in
    let long = slanted e q f.from.positive f.to.positive Q.positive s.spanning (λ z. let y = zero_on_line (line_of k) e on q F z in let o = s.over_line in absurd (omega (arith, ints))) in
    line_slanted (line_of k) e on (segment_runs k (proper_piece k f)) (run_positive e long)

below_slanted : (p : Past) (q : Point) → AreFitRows p → IsPoint q → (b : PieceBelow) → IsBelowIn p q b → pos 0 <ℤ b.line.b
below_slanted p q fit Q b (k, here, (seen, line)) = subst (λ (l : Line). pos 0 <ℤ l.b) (sym line) (seen_slanted q (piece_of k) (fit (b.name, k) here) (point_is_proper q Q) seen)

some_slanted : (p : Past) (q : Point) → AreFitRows p → IsPoint q → (o : Option PieceBelow) → IfSome o (IsBelowIn p q) → IfSome o (λ b. pos 0 <ℤ b.line.b)
some_slanted p q fit Q None m = tt
some_slanted p q fit Q (Some b) m = below_slanted p q fit Q b m

pub ready : (k h : Highest) → MayVisit k h → IsReady h
ready k h m = some_slanted h.history.now h.point m.fit m.place h.best m.best

-- ---- the order of lines
greater_is : (o : Ordering) → is_gt o ≡ true → o ≡ Greater
greater_is Less h = cc
greater_is Equal h = cc
greater_is Greater h = refl

module _ {K : Type 0} {R : K → K → Ordering} (o : IsTotalOrder R) where
  not_over_itself : (x : K) → is_gt (R x x) ≡ false
  not_over_itself x = ap is_gt (tied_itself o x)

  -- what isn't over another isn't over what is over that one
  not_over_higher : (x y z : K) → is_gt (R x y) ≡ false → is_gt (R z y) ≡ true → is_gt (R x z) ≡ false
  not_over_higher x y z h k =
      not_true (is_gt (R x z)) (λ g.
      let yz : R y z ≡ Less = o.antisymm y z ∙ ap ordering_reverse (greater_is (R z y) k) in
      let zx : R z x ≡ Less = o.antisymm z x ∙ ap ordering_reverse (greater_is (R x z) g) in
      let xy : R x y ≡ Greater = o.antisymm x y ∙ ap ordering_reverse (o.trans y z x yz zx) in
      clash (ap is_gt xy) h)

  -- what isn't over another isn't over what that one isn't over
  not_over_trans : (x y z : K) → is_gt (R x y) ≡ false → is_gt (R y z) ≡ false → is_gt (R x z) ≡ false
  not_over_trans x y z h k = at (R x y) refl
    where
      at : (p : Ordering) → R x y ≡ p → is_gt (R x z) ≡ false
      at Less e =
          not_true (is_gt (R x z)) (λ g.
          let zx : R z x ≡ Less = o.antisymm z x ∙ ap ordering_reverse (greater_is (R x z) g) in
          let yz : R y z ≡ Greater = o.antisymm y z ∙ ap ordering_reverse (o.trans z x y zx e) in
          clash (ap is_gt yz) k)
      at Equal e = ap is_gt (o.congr x y z e) ∙ k
      at Greater e = clash (ap is_gt e) h

-- ---- the highest so far and one more
module _ (q : Point) (b : PieceBelow) where
  best_kept : (p : Past) (o : Option PieceBelow) → IfSome o (IsBelowIn p q) → IsBelowIn p q b → IsBelowIn p q (higher_piece q o b)
  best_kept p None x y = y
  best_kept p (Some o) x y = elim (cases_Bool (is_higher q b.line o.line)) [
    | inl h ↦ subst (IsBelowIn p q) (sym (ap (λ c. cond c b o) h)) y
    | inr h ↦ subst (IsBelowIn p q) (sym (ap (λ c. cond c b o) h)) x
  ]

  itself : (k : Piece) → b.line ≡ line_of k → IsPassedBy q (Some b) k
  itself k e s = subst (λ l. is_higher q l b.line ≡ false) e (not_over_itself (leant_total q) b.line)

  passed_new : (o : Option PieceBelow) (k : Piece) → b.line ≡ line_of k → IsPassedBy q (Some (higher_piece q o b)) k
  passed_new None k e = itself k e
  passed_new (Some o) k e = elim (cases_Bool (is_higher q b.line o.line)) [
    | inl h ↦ subst (λ z. IsPassedBy q (Some z) k) (sym (ap (λ c. cond c b o) h)) (itself k e)
    | inr h ↦ subst (λ z. IsPassedBy q (Some z) k) (sym (ap (λ c. cond c b o) h)) (λ s. subst (λ l. is_higher q l o.line ≡ false) e h)
  ]

  passed_still : (o : Option PieceBelow) (k : Piece) → IsPassedBy q o k → IsPassedBy q (Some (higher_piece q o b)) k
  passed_still None k f = λ s. absurd (f s)
  passed_still (Some o) k f = elim (cases_Bool (is_higher q b.line o.line)) [
    | inl h ↦ subst (λ z. IsPassedBy q (Some z) k) (sym (ap (λ c. cond c b o) h)) (λ s. not_over_higher (leant_total q) (line_of k) o.line b.line (f s) h)
    | inr h ↦ subst (λ z. IsPassedBy q (Some z) k) (sym (ap (λ c. cond c b o) h)) f
  ]

passed_unseen : (q : Point) (o : Option PieceBelow) (k : Piece) → (IsPieceSeen q k → ⊥) → IsPassedBy q o k
passed_unseen q None k f = f
passed_unseen q (Some b) k f = λ s. absurd (f s)

seen_off : (q : Point) (k : Piece) → IsPieceSeen q k → IsPieceThrough q k → ⊥
seen_off q k s t = let a = s.over_line in let b = t.on_line in absurd (omega (arith, ints))

-- ---- what an entry tells
row_of : (rows : List (ℕ × PieceInMemory)) (e : Entry) → Member e (entries_of rows) → (r : ℕ × PieceInMemory) × Member r rows × (e ≡ entry_of r)
row_of rows e m = of_map entry_of e rows m

pub named : (rows : List (ℕ × PieceInMemory)) (e : Entry) → Member e (entries_of rows) → Member e.name (names rows)
named rows e m =
    let r = row_of rows e m in
    subst (λ n. Member n (names rows)) (sym (ap (λ (z : Entry). z.name) r.2)) (in_map (λ (z : ℕ × PieceInMemory). z.0) r.0 rows r.1)

-- its box is that of the piece of its name
pub boxed : (rows : List (ℕ × PieceInMemory)) (e : Entry) → IsDistinct ◌==◌ (names rows) → Member e (entries_of rows) → (k : PieceInMemory) → Member (e.name, k) rows → e.bounds ≡ box_of (piece_of k)
boxed rows e once m k here =
    let r = row_of rows e m in
    let there : Member (e.name, r.0.1) rows = subst (λ n. Member (n, r.0.1) rows) (sym (ap (λ (z : Entry). z.name) r.2)) r.1 in
    ap (λ (z : Entry). z.bounds) r.2 ∙ ap (λ z. box_of (piece_of z)) (same_row rows e.name r.0.1 k once there here)

over_second : (g f y z : ℤ) → f ≤ℤ g → g <ℤ int_max f y → y ≡ z → g <ℤ z
over_second g f y z a b e = omega (arith, ints, int_max_is f y)

-- ---- one look
module _ (h : Highest) (e : Entry) (r : PieceInMemory) (here : Member (e.name, r) h.history.now.rows) (box : e.bounds ≡ box_of (piece_of r)) where
  abbrev found : PieceBelow
  found = record { name = e.name; line = line_of (piece_of r) }

  -- what is below the box of a piece that the point sees needs no look
  raised : IsPoint h.point → IsFitPiece (piece_of r) → IsPieceSeen h.point (piece_of r) → IsFloor h → IsFloor (taken h e (piece_of r) Below)
  raised P f s under = λ m fm sp low b.
      by_lt_z (box_of m).greatest.y h.floor
      (λ l. let w = under m fm sp low l in record { off = w.off; passed = passed_still h.point found h.best m w.passed })
      (λ l.
      let k = piece_of r in
      let Q = point_is_proper h.point P in
      let c : (box_of m).greatest.y <ℤ (box_of k).least.y = over_second (box_of m).greatest.y h.floor e.bounds.least.y (box_of k).least.y l b (ap (λ (z : BoundingBox). z.least.y) box) in
      record {
        off = lower_off h.point Q k m f fm s sp c;
        passed = λ x. not_over_trans (leant_total h.point) (line_of m) (line_of k) (higher_piece h.point h.best found).line (lower_not_higher h.point Q k m f fm s sp c) (passed_new h.point found h.best k refl s);
      })

  taken_may : (lie : Lie) → IsLie h.point (piece_of r) lie → (k : Highest) → MayVisit k h → MayVisit k (taken h e (piece_of r) lie)
  taken_may Below s k m = record { history = m.history; point = m.point; place = m.place; fit = m.fit; once = m.once; through = m.through; best = best_kept h.point found h.history.now h.best m.best (r, here, (s, refl)); floor = λ own. raised m.place (m.fit (e.name, r) here) s (m.floor own) }
  taken_may Through s k m = record { history = m.history; point = m.point; place = m.place; fit = m.fit; once = m.once; through = (r, here, s); best = m.best; floor = λ own. cc }
  taken_may Apart s k m = m

  taken_seen : (lie : Lie) → IsLie h.point (piece_of r) lie → HasSeen (taken h e (piece_of r) lie) e
  taken_seen Below s = λ own. (r, here, record { off = seen_off h.point (piece_of r) s; passed = passed_new h.point found h.best (piece_of r) refl })
  taken_seen Through s = λ own. cc
  taken_seen Apart s = λ own. (r, here, record { off = s.off; passed = passed_unseen h.point h.best (piece_of r) s.unseen })

  taken_still : (lie : Lie) → IsLie h.point (piece_of r) lie → (x : Entry) → HasSeen h x → HasSeen (taken h e (piece_of r) lie) x
  taken_still Below s x seen = λ own. let w = seen own in (w.0, w.1, record { off = w.2.off; passed = passed_still h.point found h.best (piece_of w.0) w.2.passed })
  taken_still Through s x seen = λ own. cc
  taken_still Apart s x seen = seen

-- until a piece through the point was met there is a look
either : (o : Option ℕ) → IsSome o ⊎ (o ≡ None)
either None = inr refl
either (Some n) = inl refl

module _ (h l : Highest) (e : Entry) (look : IsLooked h e l) where
  pub looked_may : (k : Highest) → MayVisit k h → MayVisit k l
  looked_may k m = elim (either h.through) [
    | inl s ↦ subst (MayVisit k) (sym (look.met s)) m
    | inr z ↦ let w = look.found z in subst (MayVisit k) (sym w.5) (taken_may h e w.0 w.1 w.2 w.3 w.4 k m)
  ]

  pub looked_seen : HasSeen l e
  looked_seen = elim (either h.through) [
    | inl s ↦ subst (λ x. HasSeen x e) (sym (look.met s)) (λ own. absurd (not_none h.through s own))
    | inr z ↦ let w = look.found z in subst (λ x. HasSeen x e) (sym w.5) (taken_seen h e w.0 w.1 w.2 w.3 w.4)
  ]

  pub looked_still : (x : Entry) → HasSeen h x → HasSeen l x
  looked_still x seen = elim (either h.through) [
    | inl s ↦ subst (λ y. HasSeen y x) (sym (look.met s)) seen
    | inr z ↦ let w = look.found z in subst (λ y. HasSeen y x) (sym w.5) (taken_still h e w.0 w.1 w.2 w.3 w.4 x seen)
  ]

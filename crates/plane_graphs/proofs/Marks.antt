-- What it is to lie on a piece, to be neighbours on it, and to be a mark.
use Rattle.std.proofs.Common.{◌≡◌, ℕ, List, [], ◌∷◌, true, cond, not, ◌&&◌, refl, sym, ap, subst, inl, inr, ◌⊎◌}
use Rattle.std.specs.List.{list_any, flat_map}
use Rattle.exact_plane.specs.Point.{Point}
use Rattle.exact_plane.specs.PointOrderLaws.{and_true}
use Rattle.plane_graphs.specs.Line.{precedes}
use Rattle.plane_graphs.specs.Piece.{Piece, along, on}
use Rattle.plane_graphs.specs.Graph.{Mark, mark_cmp, is_parted, are_neighbours, marks_on, marks}
use Rattle.plane_graphs.specs.Ascending.{Member, IsAscending}
use Rattle.plane_graphs.proofs.Ascending.{IsAscending-ascending}
use Rattle.plane_graphs.proofs.Lists.{and_in, not_out, not_in, clash, any_out, any_none, one_if, if_one, in_flat_map, of_flat_map, of_ascending, in_ascending}
use Rattle.plane_graphs.proofs.Order.{Lt, lt_out, lt_in, lt_trans, lt_never, lt_both, Tri, tri, mark_cmp_total, mark_cmp_exact}
use Rattle.plane_graphs.proofs.Order.Tri.{less, same, more}

-- q is p or comes later
pub record Le (p q : Point) : Type 0 where
  pub never : Lt q p → ⊥

pub le_same : (p : Point) → Le p p
le_same p = record { never = λ h. lt_never h }

pub le_lt : {p q : Point} → Lt p q → Le p q
le_lt h = record { never = λ k. lt_both h k }

lt_then : (p q r : Point) → Le p q → Lt q r → Tri p q → Lt p r
lt_then p q r h k (less l) = lt_trans l k
lt_then p q r h k (same e) = subst (λ x. Lt x r) (sym e) k
lt_then p q r h k (more l) = absurd (h.never l)

pub le_lt_lt : {p q r : Point} → Le p q → Lt q r → Lt p r
le_lt_lt {p} {q} {r} h k = lt_then p q r h k (tri p q)

then_lt : (p q r : Point) → Lt p q → Le q r → Tri q r → Lt p r
then_lt p q r h k (less l) = lt_trans h l
then_lt p q r h k (same e) = subst (λ x. Lt p x) e h
then_lt p q r h k (more l) = absurd (k.never l)

pub lt_le_lt : {p q r : Point} → Lt p q → Le q r → Lt p r
lt_le_lt {p} {q} {r} h k = then_lt p q r h k (tri q r)

pub le_trans : {p q r : Point} → Le p q → Le q r → Le p r
le_trans h k = record { never = λ l. h.never (le_lt_lt k l) }

le_same_by : (p q : Point) → Le p q → Le q p → Tri p q → p ≡ q
le_same_by p q h k (less l) = absurd (k.never l)
le_same_by p q h k (same e) = e
le_same_by p q h k (more l) = absurd (h.never l)

pub le_both : {p q : Point} → Le p q → Le q p → p ≡ q
le_both {p} {q} h k = le_same_by p q h k (tri p q)

le_cases_by : (p q : Point) → Le p q → Tri p q → (p ≡ q) ⊎ Lt p q
le_cases_by p q h (less l) = inr l
le_cases_by p q h (same e) = inl e
le_cases_by p q h (more l) = absurd (h.never l)

pub le_cases : (p q : Point) → Le p q → (p ≡ q) ⊎ Lt p q
le_cases p q h = le_cases_by p q h (tri p q)

pub le_out : (p q : Point) → not (precedes q p) ≡ true → Le p q
le_out p q h = record { never = λ l. clash (lt_in l) (not_out (precedes q p) h) }

pub le_in : {p q : Point} → Le p q → not (precedes q p) ≡ true
le_in {p} {q} h = not_in (precedes q p) (λ e. h.never (lt_out q p e))

-- ---- on a piece
pub record On (k : Piece) (p : Point) : Type 0 where
  pub line : along k p ≡ true
  pub low : Le k.from p
  pub high : Le p k.to

pub on_out : (k : Piece) (p : Point) → on k p ≡ true → On k p
unfolding on
on_out k p h =
    let a = and_true (along k p) (not (precedes p k.from) && not (precedes k.to p)) h in
    let b = and_true (not (precedes p k.from)) (not (precedes k.to p)) a.1 in
    record { line = a.0; low = le_out k.from p b.0; high = le_out p k.to b.1 }

pub on_in : (k : Piece) (p : Point) → On k p → on k p ≡ true
unfolding on
on_in k p h = and_in h.line (and_in (le_in h.low) (le_in h.high))

-- between two points of the piece
pub on_between : (k : Piece) (p r q : Point) → On k p → On k q → Le p r → Le r q → along k r ≡ true → On k r
on_between k p r q a b pr rq l = record { line = l; low = le_trans a.low pr; high = le_trans rq b.high }

-- ---- neighbours on a piece
pub record Next (vs : List Point) (k : Piece) (p q : Point) : Type 0 where
  pub lt : Lt p q
  pub at_p : On k p
  pub at_q : On k q
  pub none : (r : Point) → Member r vs → Lt p r → Lt r q → along k r ≡ true → ⊥

pub next_out : (vs : List Point) (k : Piece) (p q : Point) → are_neighbours vs k p q ≡ true → Next vs k p q
unfolding are_neighbours is_parted
next_out vs k p q h =
    let a = and_true (precedes p q && (on k p && on k q)) (not (list_any (λ r. (precedes p r && precedes r q) && along k r) vs)) h in
    let b = and_true (precedes p q) (on k p && on k q) a.0 in
    let c = and_true (on k p) (on k q) b.1 in
    record {
      lt = lt_out p q b.0;
      at_p = on_out k p c.0;
      at_q = on_out k q c.1;
      none = λ r m l n e. any_none (λ r. (precedes p r && precedes r q) && along k r) r vs (not_out _ a.1) m (and_in (and_in (lt_in l) (lt_in n)) e);
    }

pub next_in : (vs : List Point) (k : Piece) (p q : Point) → Next vs k p q → are_neighbours vs k p q ≡ true
unfolding are_neighbours is_parted
next_in vs k p q h =
    and_in (and_in (lt_in h.lt) (and_in (on_in k p h.at_p) (on_in k q h.at_q)))
    (not_in (list_any (λ r. (precedes p r && precedes r q) && along k r) vs)
    (λ e.
    let f = any_out (λ r. (precedes p r && precedes r q) && along k r) vs e in
    let a = and_true (precedes p f.0 && precedes f.0 q) (along k f.0) f.2 in
    let b = and_true (precedes p f.0) (precedes f.0 q) a.0 in
    h.none f.0 f.1 (lt_out p f.0 b.0) (lt_out f.0 q b.1) a.1))

-- ---- marks
pub record IsMark (vs : List Point) (ks : List Piece) (m : Mark) : Type 0 where
  pub piece : Piece
  pub here : Member piece ks
  pub curve : m.curve ≡ piece.curve
  pub low_in : Member m.low vs
  pub high_in : Member m.high vs
  pub next : Next vs piece m.low m.high

pub mark_path : (m : Mark) (p q : Point) (c : ℕ) → m.low ≡ p → m.high ≡ q → m.curve ≡ c → m ≡ record { low = p; high = q; curve = c }
mark_path m p q c a b e = λ i. record { low = a i; high = b i; curve = e i }

pub mark_out : (vs : List Point) (ks : List Piece) (m : Mark) → Member m (marks vs ks) → IsMark vs ks m
unfolding marks marks_on
mark_out vs ks m h =
    let a = of_flat_map (marks_on vs) m ks (of_ascending mark_cmp mark_cmp_total mark_cmp_exact m (flat_map (marks_on vs) ks) h) in
    let k = a.0 in
    let b = of_flat_map (λ p. flat_map (λ q. cond (are_neighbours vs k p q) (record { low = p; high = q; curve = k.curve } ∷ []) []) vs) m vs a.2 in
    let p = b.0 in
    let c = of_flat_map (λ q. cond (are_neighbours vs k p q) (record { low = p; high = q; curve = k.curve } ∷ []) []) m vs b.2 in
    let q = c.0 in
    let d = one_if (are_neighbours vs k p q) m (record { low = p; high = q; curve = k.curve }) c.2 in
    let at_low : m.low ≡ p = ap (λ x. x.low) d.1 in
    let at_high : m.high ≡ q = ap (λ x. x.high) d.1 in
    record {
      piece = k;
      here = a.1;
      curve = ap (λ x. x.curve) d.1;
      low_in = subst (λ x. Member x vs) (sym at_low) b.1;
      high_in = subst (λ x. Member x vs) (sym at_high) c.1;
      next = subst (λ x. Next vs k x m.high) (sym at_low) (subst (λ x. Next vs k p x) (sym at_high) (next_out vs k p q d.0));
    }

pub mark_in : (vs : List Point) (ks : List Piece) (m : Mark) → IsMark vs ks m → Member m (marks vs ks)
unfolding marks marks_on
mark_in vs ks m h =
    let k = h.piece in
    in_ascending mark_cmp mark_cmp_total mark_cmp_exact m (flat_map (marks_on vs) ks)
    (in_flat_map (marks_on vs) k m ks h.here
    (in_flat_map (λ p. flat_map (λ q. cond (are_neighbours vs k p q) (record { low = p; high = q; curve = k.curve } ∷ []) []) vs) m.low m vs h.low_in
    (in_flat_map (λ q. cond (are_neighbours vs k m.low q) (record { low = m.low; high = q; curve = k.curve } ∷ []) []) m.high m vs h.high_in
    (if_one (are_neighbours vs k m.low m.high) m (record { low = m.low; high = m.high; curve = k.curve }) (next_in vs k m.low m.high h.next) (mark_path m m.low m.high k.curve refl refl h.curve)))))

pub marks_ascend : (vs : List Point) (ks : List Piece) → IsAscending mark_cmp (marks vs ks)
unfolding marks
marks_ascend vs ks = IsAscending-ascending mark_cmp mark_cmp_total (flat_map (marks_on vs) ks)

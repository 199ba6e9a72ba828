-- The order of the darts round a vertex, as the code tells it.
use Rattle.std.proofs.Common.{◌≡◌, ℕ, ◌<◌, Bool, true, false, not, List, map, get_or, length, nat_lt, refl, sym, ap, ◌∙◌, arith}
use Rattle.std.specs.Prelude.{◌==◌, ◌&&◌, ◌||◌}
use Rattle.std.proofs.Math.Bool.{beq}
use Rattle.std.proofs.lemmas.Bool.Decides.{nat_tests}
use Rattle.std.proofs.lemmas.List.{get_or-map}
use Rattle.exact_plane.specs.Span.{Span}
use Rattle.slab_laws.specs.Skeleton.{below}
use Rattle.slab_laws.specs.declared.rows.ListedDart.{ListedDart}
use Rattle.slab_laws.specs.Darts.{Dart, class}
use Rattle.slab_laws.specs.SpansDrawn.{edge_of}
use Rattle.slab_laws.specs.Rotation.{turn, earlier}
use Rattle.slab_laws.specs.Rows.{no_dart}
use Rattle.dart_orbits.specs.DartRows.{row_dart}
use Rattle.dart_orbits.specs.Turns.{comes_first}

-- the order by quarters m and n, and by whether the first edge is below the second, and the second below the first
earlier_by : ℕ → ℕ → Bool → Bool → Bool
earlier_by m n a b = nat_lt m n || ((m == n) && (((m == 0) && a) || ((m == 2) && b)))

is_by : (d e : Dart) → earlier d e ≡ earlier_by (turn d) (turn e) (below d.edge e.edge) (below e.edge d.edge)
unfolding earlier earlier_by
is_by d e = refl

by_quarters : (m n : ℕ) (a b : Bool) → (m ≡ n → ⊥) → earlier_by m n a b ≡ nat_lt m n
unfolding earlier_by
by_quarters m n a b h = let t : (m == n) ≡ false = grind (arith, nat_tests) in ap (λ s. nat_lt m n || (s && (((m == 0) && a) || ((m == 2) && b)))) t ∙ or_none (nat_lt m n)
  where
    or_none : (s : Bool) → (s || false) ≡ s
    or_none true = refl
    or_none false = refl

on_left : (m n : ℕ) (a b : Bool) → m ≡ n → m ≡ 0 → earlier_by m n a b ≡ a
unfolding earlier_by
on_left m n a b h z = (λ i. earlier_by (z i) ((sym h ∙ z) i) a b) ∙ or_none a
  where
    or_none : (s : Bool) → (s || false) ≡ s
    or_none true = refl
    or_none false = refl

on_right : (m n : ℕ) (a b : Bool) → m ≡ n → m ≡ 2 → earlier_by m n a b ≡ b
unfolding earlier_by
on_right m n a b h z = λ i. earlier_by (z i) ((sym h ∙ z) i) a b

upright : (m n : ℕ) (a b : Bool) → m ≡ n → (m ≡ 0 → ⊥) → (m ≡ 2 → ⊥) → earlier_by m n a b ≡ false
unfolding earlier_by
upright m n a b h p q =
    let s : (m == 0) ≡ false = grind (arith, nat_tests) in
    let t : (m == 2) ≡ false = grind (arith, nat_tests) in
    let l : nat_lt m n ≡ false = grind (arith, nat_tests) in
    (λ i. l i || ((m == n) && ((s i && a) || (t i && b)))) ∙ and_none (m == n)
  where
    and_none : (s : Bool) → (s && false) ≡ false
    and_none true = refl
    and_none false = refl

-- ---- rows
edge_read : (edges : List Span) (k : ℕ) (s : Span) → k < length edges → s ≡ get_or edges k s → get_or (map edge_of edges) k no_dart.edge ≡ edge_of s
edge_read edges k s l e = get_or-map edge_of edges k s no_dart.edge l ∙ ap edge_of (sym e)

-- the two rows that are held against each other, with their edges and quarters
pub record AreRead (edges : List Span) (r s : ListedDart) (e f : Span) (m n : ℕ) : Type 0 where
  pub own : r.edge < length edges
  pub others : s.edge < length edges
  pub own_edge : e ≡ get_or edges r.edge e
  pub others_edge : f ≡ get_or edges s.edge f
  pub own_quarter : m ≡ class (edge_of e) r.forward
  pub others_quarter : n ≡ class (edge_of f) s.forward

module _ (edges : List Span) (r s : ListedDart) (e f : Span) (m n : ℕ) (h : AreRead edges r s e f m n) where
  abbrev One : Dart
  One = row_dart (map edge_of edges) r

  abbrev Other : Dart
  Other = row_dart (map edge_of edges) s

  read_by : earlier One Other ≡ earlier_by m n (below (edge_of e) (edge_of f)) (below (edge_of f) (edge_of e))
  read_by =
      let a : One.edge ≡ edge_of e = edge_read edges r.edge e h.own h.own_edge in
      let b : Other.edge ≡ edge_of f = edge_read edges s.edge f h.others h.others_edge in
      is_by One Other ∙ (λ i. earlier_by ((ap (λ x. class x r.forward) a ∙ sym h.own_quarter) i) ((ap (λ x. class x s.forward) b ∙ sym h.others_quarter) i) (below (a i) (b i)) (below (b i) (a i)))

  pub quarters_tell : (m ≡ n → ⊥) → nat_lt m n ≡ earlier One Other
  quarters_tell d = sym (read_by ∙ by_quarters m n _ _ d)

  pub left_tells : (b : Bool) → m ≡ n → m ≡ 0 → b ≡ below (edge_of e) (edge_of f) → b ≡ earlier One Other
  left_tells b q z t = t ∙ sym (read_by ∙ on_left m n _ _ q z)

  pub right_tells : (b : Bool) → m ≡ n → m ≡ 2 → b ≡ below (edge_of f) (edge_of e) → b ≡ earlier One Other
  right_tells b q z t = t ∙ sym (read_by ∙ on_right m n _ _ q z)

  pub none_tells : m ≡ n → (m ≡ 0 → ⊥) → (m ≡ 2 → ⊥) → false ≡ earlier One Other
  none_tells q a b = sym (read_by ∙ upright m n _ _ q a b)

-- ---- from one dart on
pub sooner_parted : (d a b : Dart) (p q : Bool) → p ≡ earlier d a → q ≡ earlier d b → not (beq p q) ≡ true → p ≡ comes_first d a b
unfolding comes_first
sooner_parted d a b true true e f n = absurd cc
sooner_parted d a b true false e f n = rw (sym e, sym f) refl
sooner_parted d a b false true e f n = rw (sym e, sym f) refl
sooner_parted d a b false false e f n = absurd cc

pub sooner_together : (d a b : Dart) (p q r : Bool) → p ≡ earlier d a → q ≡ earlier d b → r ≡ earlier a b → not (beq p q) ≡ false → r ≡ comes_first d a b
unfolding comes_first
sooner_together d a b true true r e f g n = rw (sym e, sym f) g
sooner_together d a b true false r e f g n = absurd cc
sooner_together d a b false true r e f g n = absurd cc
sooner_together d a b false false r e f g n = rw (sym e, sym f) g

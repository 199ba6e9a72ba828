-- The index over pieces, after each change of them.
use Rattle.std.proofs.Common.{◌≡◌, ◌≢◌, ◌≤ℤ◌, inl, inr, ℕ, ℤ, Bool, true, false, List, [], ◌∷◌, Option, Some, None, is_some, option_map, refl, sym, ap, subst, ◌∙◌, arith, Contains}
use Rattle.std.specs.List.Sorted.{IsPermutation}
use Rattle.std.proofs.lemmas.Bool.{cases_eq}
use Rattle.std.proofs.lemmas.List.Sorted.{All-permutation, Contains-permutation, IsPermutation-append_comm, IsPermutation-append_left, IsPermutation-cons, IsPermutation-map, IsPermutation-refl, IsPermutation-sym, IsPermutation-trans}
use Rattle.plane_graphs.proofs.Lists.{some_mapped}
use Rattle.slab.specs.Slab.{Slab, get, ContainsKey}
use Rattle.slab.proofs.SlabLemmas.{Contains-cons_cases}
use Rattle.slab_laws.specs.declared.present.Piece.{Piece}
use Rattle.exact_plane.specs.declared.whole_parts.BoundingBox.{BoundingBox}
use Rattle.box_tree.specs.declared.entry.Entry.{Entry}
use Rattle.box_tree.specs.Entries.{is_met, AllAbove, AreKnown, AreSeen, IsRemoved, IsReplaced}
use Rattle.box_tree.proofs.Cancelled.{cancelled}
use Rattle.chain_laws.specs.Links.{without}
use Rattle.chain_laws.proofs.Distinct.{nowhere, there, was_there, without_hit, without_miss, without_absent, IsOnce}
use Rattle.linked_chains.specs.Chains.{put_after, put_at}
use Rattle.linked_chains.proofs.PutAfter.{hit_is, put_miss}
use Rattle.curve_pieces.specs.declared.row.Row.{Row}
use Rattle.curve_pieces.specs.declared.row.Ends.{Ends}
use Rattle.curve_pieces.specs.declared.index.PieceIndex.{PieceIndex}
use Rattle.curve_pieces.specs.PieceRows.{entries_of, entry_of}
use Rattle.curve_pieces.specs.PiecesInMemory.{piece_in, order_from, with_piece, rows_of, rows_from, IsIndexOf, IsOrder}
use Rattle.curve_pieces.proofs.Named.{rows_same}
use Rattle.curve_pieces.proofs.Ordered.{once, is_in, not_in}

abbrev Rows : Type 0
Rows = List (ℕ × Piece)

flipped : {X : Type 0} (x y : X) (zs : List X) → IsPermutation (x ∷ y ∷ zs) (y ∷ x ∷ zs)
flipped x y zs = IsPermutation-append_left zs (x ∷ y ∷ []) (y ∷ x ∷ []) (IsPermutation-append_comm (x ∷ []) (y ∷ []))

-- ---- entries, as the tree has them after a call
grown : (es fs : List Entry) (r : ℕ × Piece) (rows more : Rows) → IsPermutation es (entries_of rows) → IsPermutation (entry_of r ∷ es) fs → IsPermutation (r ∷ rows) more → IsPermutation fs (entries_of more)
grown es fs r rows more a b c =
    IsPermutation-trans fs (entry_of r ∷ es) (entries_of more) (IsPermutation-sym (entry_of r ∷ es) fs b)
    (IsPermutation-trans (entry_of r ∷ es) (entry_of r ∷ entries_of rows) (entries_of more) (IsPermutation-cons (entry_of r) es (entries_of rows) a) (IsPermutation-map entry_of (r ∷ rows) more c))

-- the entries, where those of the rows begin with one
fronted : (es : List Entry) (r : ℕ × Piece) (rows others : Rows) → IsPermutation es (entries_of rows) → IsPermutation rows (r ∷ others) → IsPermutation es (entry_of r ∷ entries_of others)
fronted es r rows others a c = IsPermutation-trans es (entries_of rows) (entry_of r ∷ entries_of others) a (IsPermutation-map entry_of rows (r ∷ others) c)

is_there : (es : List Entry) (e : Entry) (others : List Entry) → IsPermutation es (e ∷ others) → Contains es e
is_there es e others p = Contains-permutation (e ∷ others) es e (IsPermutation-sym es (e ∷ others) p) (0, omega arith, refl)

shrunk : (es fs : List Entry) (r : ℕ × Piece) (rows less : Rows) (b : Bool) → IsPermutation es (entries_of rows) → IsRemoved (entry_of r) es fs b → IsPermutation rows (r ∷ less) → IsPermutation fs (entries_of less)
shrunk es fs r rows less true a p c =
    let f = fronted es r rows less a c in
    cancelled (entry_of r) fs (entries_of less) (IsPermutation-trans (entry_of r ∷ fs) es (entry_of r ∷ entries_of less) (IsPermutation-sym es (entry_of r ∷ fs) p) f)
shrunk es fs r rows less false a p c = absurd (p.1 (is_there es (entry_of r) (entries_of less) (fronted es r rows less a c)))

changed : (es fs : List Entry) (o n : ℕ × Piece) (rows others now : Rows) (b : Bool) → IsPermutation es (entries_of rows) → IsReplaced (entry_of o) (entry_of n) es fs b → IsPermutation rows (o ∷ others) → IsPermutation (n ∷ others) now → IsPermutation fs (entries_of now)
changed es fs o n rows others now true a p c d =
    let f = fronted es o rows others a c in
    let eo = entry_of o in
    let en = entry_of n in
    let xs = entries_of others in
    let left : IsPermutation (eo ∷ fs) (eo ∷ en ∷ xs) = IsPermutation-trans (eo ∷ fs) (en ∷ es) (eo ∷ en ∷ xs) (IsPermutation-sym (en ∷ es) (eo ∷ fs) p) (IsPermutation-trans (en ∷ es) (en ∷ eo ∷ xs) (eo ∷ en ∷ xs) (IsPermutation-cons en es (eo ∷ xs) f) (flipped en eo xs)) in
    IsPermutation-trans fs (en ∷ xs) (entries_of now) (cancelled eo fs (en ∷ xs) left) (IsPermutation-map entry_of (n ∷ others) now d)
changed es fs o n rows others now false a p c d = absurd (p.1 (is_there es (entry_of o) (entries_of others) (fronted es o rows others a c)))

-- the same, where the calls have entries that are those of rows
pub has_grown : (es mid fs : List Entry) (x : Entry) (r : ℕ × Piece) → mid ≡ es → x ≡ entry_of r → IsPermutation (x ∷ mid) fs → (rows more : Rows) → IsPermutation es (entries_of rows) → IsPermutation (r ∷ rows) more → IsPermutation fs (entries_of more)
has_grown es mid fs x r e q b rows more a c = grown es fs r rows more a (subst (λ y. IsPermutation (y ∷ es) fs) q (subst (λ ys. IsPermutation (x ∷ ys) fs) e b)) c

pub has_shrunk : (es fs : List Entry) (x : Entry) (r : ℕ × Piece) (b : Bool) → x ≡ entry_of r → IsRemoved x es fs b → (rows less : Rows) → IsPermutation es (entries_of rows) → IsPermutation rows (r ∷ less) → IsPermutation fs (entries_of less)
has_shrunk es fs x r b q p rows less a c = shrunk es fs r rows less b a (subst (λ y. IsRemoved y es fs b) q p) c

pub has_changed : (es fs : List Entry) (x y : Entry) (o n : ℕ × Piece) (b : Bool) → x ≡ entry_of o → y ≡ entry_of n → IsReplaced x y es fs b → (rows others now : Rows) → IsPermutation es (entries_of rows) → IsPermutation rows (o ∷ others) → IsPermutation (n ∷ others) now → IsPermutation fs (entries_of now)
has_changed es fs x y o n b q u p rows others now a c d = changed es fs o n rows others now b a (subst (λ z. IsReplaced (entry_of o) z es fs b) u (subst (λ z. IsReplaced z y es fs b) q p)) c d

-- ---- rows, where one of them is taken out or is new
taken_front : (p : ℕ → Option Piece) (n : ℕ) (k : Piece) → p n ≡ Some k → (ns : List ℕ) → IsOnce ns → Contains ns n → IsPermutation (rows_of p ns) ((n, k) ∷ rows_of p (without n ns))
taken_front p n k e [] o c = absurd (nowhere n c)
taken_front p n k e (x ∷ xs) o c = elim (cases_eq x n) [
  | inl q ↦
      let gone : without n (x ∷ xs) ≡ xs = subst (λ z. without n (z ∷ xs) ≡ xs) (sym q) (without_hit n xs ∙ without_absent n xs (subst (λ z. ¬ Contains xs z) q o.0)) in
      let led : rows_of p (x ∷ xs) ≡ (n, k) ∷ rows_of p xs = ap (λ z. rows_of p (z ∷ xs)) q ∙ ap (λ z. with_piece n z (rows_of p xs)) e in
      subst (λ ys. IsPermutation (rows_of p (x ∷ xs)) ((n, k) ∷ rows_of p ys)) (sym gone) (subst (λ rs. IsPermutation rs ((n, k) ∷ rows_of p xs)) (sym led) (IsPermutation-refl ((n, k) ∷ rows_of p xs)))
  | inr ne ↦ elim (Contains-cons_cases x n xs c) [
    | inl q ↦ absurd (ne q)
    | inr d ↦ subst (λ ys. IsPermutation (rows_of p (x ∷ xs)) ((n, k) ∷ rows_of p ys)) (sym (without_miss n x xs ne)) (by (p x) (taken_front p n k e xs o.1 d))
  ]
]
  where
    by : (z : Option Piece) → IsPermutation (rows_of p xs) ((n, k) ∷ rows_of p (without n xs)) → IsPermutation (with_piece x z (rows_of p xs)) ((n, k) ∷ with_piece x z (rows_of p (without n xs)))
    by None h = h
    by (Some j) h = IsPermutation-trans ((x, j) ∷ rows_of p xs) ((x, j) ∷ (n, k) ∷ rows_of p (without n xs)) ((n, k) ∷ (x, j) ∷ rows_of p (without n xs)) (IsPermutation-cons (x, j) (rows_of p xs) ((n, k) ∷ rows_of p (without n xs)) h) (flipped (x, j) (n, k) (rows_of p (without n xs)))

without_put_after : (m n : ℕ) (xs : List ℕ) → ¬ Contains xs n → without n (put_after m n xs) ≡ xs
unfolding put_after
without_put_after m n [] a = refl
without_put_after m n (x ∷ xs) a = elim (cases_eq x m) [
  | inl q ↦ ap (without n) (hit_is m n x xs q) ∙ without_miss n x (n ∷ xs) other ∙ ap (λ ys. x ∷ ys) (without_hit n xs ∙ without_absent n xs rest)
  | inr ne ↦ ap (without n) (put_miss m n x xs ne) ∙ without_miss n x (put_after m n xs) other ∙ ap (λ ys. x ∷ ys) (without_put_after m n xs rest)
]
  where
    other : x ≢ n
    other e = a (0, omega arith, e)

    rest : ¬ Contains xs n
    rest c = a (there x n xs c)

without_put : (place : Option ℕ) (n : ℕ) (xs : List ℕ) → ¬ Contains xs n → without n (put_at place n xs) ≡ xs
without_put None n xs a = without_hit n xs ∙ without_absent n xs a
without_put (Some m) n xs a = without_put_after m n xs a

-- ---- rows of slabs
-- a name with a piece has a row
has_name : (s : Slab Row) (n : ℕ) (k : Piece) → piece_in s n ≡ Some k → ContainsKey s n
has_name s n k e = sym (some_mapped (λ (r : Row). r.piece) (get s n)) ∙ ap is_some e

module _ (s t : Slab Row) (ends now : Ends) (o : IsOrder s ends) (n : ℕ) (agree : (m : ℕ) → m ≢ n → piece_in t m ≡ piece_in s m) where
  -- one goes
  pub row_fewer : (x : Row) → get s n ≡ Some x → order_from t now.first ≡ without n (order_from s ends.first) → IsPermutation (rows_from s ends.first) ((n, x.piece) ∷ rows_from t now.first)
  row_fewer x was e =
      let left : rows_from t now.first ≡ rows_of (piece_in s) (without n (order_from s ends.first)) = ap (rows_of (piece_in t)) e ∙ rows_same (piece_in s) (piece_in t) (without n (order_from s ends.first)) (λ m c. agree m (was_there n m (order_from s ends.first) c).0) in
      subst (λ rs. IsPermutation (rows_from s ends.first) ((n, x.piece) ∷ rs)) (sym left)
      (taken_front (piece_in s) n x.piece (ap (option_map (λ (r : Row). r.piece)) was) (order_from s ends.first) (once s ends o) (is_in s ends o n (ap is_some was)))

  -- one comes
  pub row_more : (piece : Piece) (place : Option ℕ) → IsOrder t now → get s n ≡ None → piece_in t n ≡ Some piece → order_from t now.first ≡ put_at place n (order_from s ends.first) → IsPermutation ((n, piece) ∷ rows_from s ends.first) (rows_from t now.first)
  row_more piece place u vacant has e =
      let new : ¬ Contains (order_from s ends.first) n = not_in s ends o n vacant in
      let rest : rows_of (piece_in t) (without n (order_from t now.first)) ≡ rows_from s ends.first = ap (λ ns. rows_of (piece_in t) (without n ns)) e ∙ ap (rows_of (piece_in t)) (without_put place n (order_from s ends.first) new) ∙ rows_same (piece_in s) (piece_in t) (order_from s ends.first) (λ m c. agree m (λ q. new (subst (Contains (order_from s ends.first)) q c))) in
      IsPermutation-sym (rows_from t now.first) ((n, piece) ∷ rows_from s ends.first)
      (subst (λ rs. IsPermutation (rows_from t now.first) ((n, piece) ∷ rs)) rest
      (taken_front (piece_in t) n piece has (order_from t now.first) (once t now u) (is_in t now u n (has_name t n piece has))))

-- the piece of a name is another one: what stays, and the two that stand before it
module _ (s t : Slab Row) (ends : Ends) (o : IsOrder s ends) (n : ℕ) (agree : (m : ℕ) → m ≢ n → piece_in t m ≡ piece_in s m) (x : Row) (was : get s n ≡ Some x) (piece : Piece) (has : piece_in t n ≡ Some piece) (same : order_from t ends.first ≡ order_from s ends.first) where
  abbrev pub others : Rows
  others = rows_of (piece_in s) (without n (order_from s ends.first))

  pub row_was : IsPermutation (rows_from s ends.first) ((n, x.piece) ∷ others)
  row_was = taken_front (piece_in s) n x.piece (ap (option_map (λ (r : Row). r.piece)) was) (order_from s ends.first) (once s ends o) (is_in s ends o n (ap is_some was))

  pub row_is : IsPermutation ((n, piece) ∷ others) (rows_from t ends.first)
  row_is =
      let left : rows_of (piece_in t) (without n (order_from s ends.first)) ≡ others = rows_same (piece_in s) (piece_in t) (without n (order_from s ends.first)) (λ m c. agree m (was_there n m (order_from s ends.first) c).0) in
      subst (λ ns. IsPermutation ((n, piece) ∷ others) (rows_of (piece_in t) ns)) (sym same)
      (subst (λ rs. IsPermutation ((n, piece) ∷ rs) (rows_of (piece_in t) (order_from s ends.first))) left
      (IsPermutation-sym (rows_of (piece_in t) (order_from s ends.first)) ((n, piece) ∷ rows_of (piece_in t) (without n (order_from s ends.first)))
      (taken_front (piece_in t) n piece has (order_from s ends.first) (once s ends o) (is_in s ends o n (ap is_some was)))))

-- ---- what is known and seen of the entries of an index is so of the rows' entries
pub rows_are : (i : PieceIndex) (rows now : Rows) → IsIndexOf i rows → rows ≡ now → (b : Bool) → i.whole ≡ b → b ≡ true → IsPermutation i.boxes.entries (entries_of now)
rows_are i rows now h e b w t = subst (λ rs. IsPermutation i.boxes.entries (entries_of rs)) e (h (w ∙ t))

pub known_in : (known : Entry → Type 0) (area : BoundingBox) (es fs : List Entry) → IsPermutation es fs → AreKnown known area fs → AreKnown known area es
known_in known area es fs p all = All-permutation (λ e. is_met area e ≡ true → known e) fs es (IsPermutation-sym es fs p) all

pub seen_in : (seen : Entry → Type 0) (area : BoundingBox) (floor : ℤ) (es fs : List Entry) → IsPermutation es fs → AreSeen seen area floor es → AreSeen seen area floor fs
seen_in seen area floor es fs p all = All-permutation (λ e. is_met area e ≡ true → floor ≤ℤ e.bounds.greatest.y → seen e) es fs p all

pub above_in : (y : ℤ) (es fs : List Entry) → IsPermutation es fs → AllAbove y es → AllAbove y fs
above_in y es fs p all = All-permutation (λ e. y ≤ℤ e.bounds.least.y) es fs p all

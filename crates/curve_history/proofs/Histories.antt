-- What the changes of pairs make of a history.
use Rattle.std.proofs.Common.{◌≡◌, ◌≢◌, ⊎_elim, inl, inr, ℕ, suc, ◌+◌, ◌≤◌, ◌==◌, cond, not, List, [], ◌∷◌, length, map, reverse, Option, Some, refl, sym, ap, subst, ◌∙◌, Ordering, Less, Equal, Greater, arith}
use Rattle.std.specs.List.{filter}
use Rattle.std.specs.Ordering.{nat_cmp, match_ordering}
use Rattle.std.proofs.lemmas.Bool.{cases_eq, eq-eqb}
use Rattle.std.proofs.lemmas.Cmp.{nat_cmp_total}
use Rattle.std.proofs.lemmas.List.{length-map, length-reverse, reverse-reverse}
use Rattle.plane_graphs.specs.Ascending.{ascending, place, Member, IsAscending}
use Rattle.plane_graphs.specs.Graph.{same_curve}
use Rattle.plane_graphs.proofs.Ascending.{IsAscending-ascending, IsAscending-place, ascending_unique}
use Rattle.plane_graphs.proofs.Lists.{in_filter, of_filter, IsAscending-filter, not_in, not_out, clash}
use Rattle.plane_graphs.proofs.Lists as lists
use Rattle.plane_graphs.proofs.Order.{curve_out, curve_in}
use Rattle.slab_laws.specs.declared.names.DartId.{DartId}
use Rattle.slab_laws.specs.FaceLists.{AreOnce}
use Rattle.curve_pieces.specs.PieceRows.{Rowed, items}
use Rattle.curve_history.specs.declared.history.History.TheInside.{Inside}
use Rattle.slab_laws.specs.Pieces.{piece_of}
use Rattle.slab_laws.specs.Tables.{names}
use Rattle.curve_history.specs.Changed.{AreSameKeys, IsPairMore, IsOneLess, AreSidesLess, IsEmptied, IsCopied}
use Rattle.linked_chains.specs.Chains.{Chained, IsWhole, HasKey, chain, entry_at}
use Rattle.curve_history.specs.Past.{Past, curves_on, strands_on, GainsStrand, LosesStrand, LosesSides, LosesStrands, CopiesStrands, SameStrands, SameLayer, IsSpare}
use Rattle.edit_steps.specs.EditLaws.{curve_of}
use Rattle.curve_history.specs.HistoryInMemory.{entry, item_in, Says, ArePairs, AreFilled, named_in, number_of, pairs_in, pair_room, past, items_along, IsDescending, AreOrdered, IsSoundHistory}
use Rattle.curve_history.proofs.Reading.{row_of, of_row, listed, in_listed, of_listed, listed_ascends, listed_from, held_is}
use Rattle.curve_history.proofs.Copying.{says_more}
use Rattle.curve_history.proofs.Descending.{of_reverse, in_reverse, ascends_reverse}
use Rattle.curve_history.proofs.Sides.{in_curves, of_curves}
use Rattle.curve_history.proofs.Twins.{says_there}
use Rattle.curve_history.proofs.Walking.{node_at, says_on}
use Rattle.integers.proofs.Tests.{nat_exact, other_number}

-- ---- numbers that have a name
pub has_of_named : (c : Chained) (k : ℕ) → Member k (named_in c) → HasKey c k
has_of_named c k m = row_of c.heads k (lists.of_ascending nat_cmp nat_cmp_total nat_exact k (names c.heads) m)

pub named_of_has : (c : Chained) (k : ℕ) → HasKey c k → Member k (named_in c)
named_of_has c k h = lists.in_ascending nat_cmp nat_cmp_total nat_exact k (names c.heads) (of_row c.heads k h)

pub named_ascend : (c : Chained) → IsAscending nat_cmp (named_in c)
named_ascend c = IsAscending-ascending nat_cmp nat_cmp_total (names c.heads)

-- an ascending list of all keys
pub named_from : (c : Chained) (ks : List ℕ) → IsAscending nat_cmp ks → ((k : ℕ) → Member k ks → HasKey c k) → ((k : ℕ) → HasKey c k → Member k ks) → named_in c ≡ ks
named_from c ks a f g = ascending_unique nat_cmp nat_cmp_total (named_in c) ks (named_ascend c) a (λ k m. g k (has_of_named c k m)) (λ k m. named_of_has c k (f k m))

pub same_named : (c c' : Chained) → AreSameKeys c c' → named_in c' ≡ named_in c
same_named c c' s = named_from c' (named_in c) (named_ascend c) (λ k m. (s.keys k).0 (has_of_named c k m)) (λ k h. named_of_has c k ((s.keys k).1 h))

-- ---- the history stays one
pub kept_on : (e c e' c' : Chained) (p : Rowed) (n : Option ℕ) → IsSoundHistory e c p n → ArePairs e' c' → AreFilled e' → AreOrdered e' → AreSameKeys c c' → IsSoundHistory e' c' p n
kept_on e c e' c' p n k t f o s = record {
  pairs = t;
  filled = f;
  ordered = o;
  numbers = λ x h. k.numbers x ((s.keys x).1 h);
  last = k.last;
  few = k.few;
}

-- ---- the sides along an edge after a change

pub listed_same : (e e' : Chained) (k : ℕ) → ((i : ℕ) → Says e' k i → Says e k i) → ((i : ℕ) → Says e k i → Says e' k i) → listed e' k ≡ listed e k
listed_same e e' k f g = listed_from e' k (listed e k) (listed_ascends e k) (λ i m. g i (of_listed e k i m)) (λ i s. in_listed e k i (f i s))

pub listed_nodes : (e e' : Chained) (k : ℕ) → e'.nodes ≡ e.nodes → listed e' k ≡ listed e k
listed_nodes e e' k h = listed_same e e' k (λ i s. says_there e' e k i (sym h) s) (λ i s. says_there e e' k i h s)

-- one more side
module _ (e e' : Chained) (edge strand : ℕ) (m : IsPairMore e e' edge strand) where
  more_here : listed e' edge ≡ place nat_cmp strand (listed e edge)
  more_here = listed_from e' edge (place nat_cmp strand (listed e edge)) (IsAscending-place nat_cmp nat_cmp_total strand (listed e edge) (listed_ascends e edge))
      (λ i h. ⊎_elim (λ q. subst (Says e' edge) (sym q) m.said) (λ g. says_more e e' edge strand edge i m (of_listed e edge i g)) (lists.of_place nat_cmp nat_cmp_total nat_exact i strand (listed e edge) h))
      (λ i s. lists.in_place nat_cmp nat_cmp_total nat_exact i strand (listed e edge) (⊎_elim (λ g. inr (in_listed e edge i g)) (λ q. inl q.1) (m.others edge i s)))

  more_there : (k : ℕ) → k ≢ edge → listed e' k ≡ listed e k
  more_there k ne = listed_same e e' k (λ i s. ⊎_elim (λ g. g) (λ q. absurd (ne q.0)) (m.others k i s)) (λ i s. says_more e e' edge strand k i m s)

  pub listed_more : (k : ℕ) → listed e' k ≡ cond (k == edge) (place nat_cmp strand (listed e k)) (listed e k)
  listed_more k = elim (cases_eq k edge) [
    | inl q ↦ rw (eq-eqb k edge q) (subst (λ x. listed e' x ≡ place nat_cmp strand (listed e x)) (sym q) more_here)
    | inr ne ↦ rw (other_number k edge ne) (more_there k ne)
  ]

  pub filled_more : AreFilled e → AreFilled e'
  filled_more f = record { key = λ k h. ⊎_elim (λ o. let s = f.key k o in (s.0, says_more e e' edge strand k s.0 m s.1)) (λ q. (strand, subst (λ x. Says e' x strand) (sym q) m.said)) (m.keys k h) }

-- one side fewer
module _ (e mid e' : Chained) (edge strand : ℕ) (m : IsOneLess e mid edge strand) (h : e'.nodes ≡ mid.nodes) where
  less_here : listed mid edge ≡ filter (λ i. not (same_curve i strand)) (listed e edge)
  less_here = listed_from mid edge (filter (λ i. not (same_curve i strand)) (listed e edge)) (IsAscending-filter nat_cmp (λ i. not (same_curve i strand)) (listed e edge) (listed_ascends e edge))
      (λ i g. let f = of_filter (λ i. not (same_curve i strand)) i (listed e edge) g in ⊎_elim (λ s. s) (λ q. clash (curve_in i strand q.1) (not_out (same_curve i strand) f.1)) (m.others edge i (of_listed e edge i f.0)))
      (λ i s. in_filter (λ i. not (same_curve i strand)) i (listed e edge) (in_listed e edge i (m.stays edge i s)) (not_in (same_curve i strand) (λ q. m.gone (subst (Says mid edge) (curve_out i strand q) s))))

  less_there : (k : ℕ) → k ≢ edge → listed mid k ≡ listed e k
  less_there k ne = listed_same e mid k (λ i s. m.stays k i s) (λ i s. ⊎_elim (λ g. g) (λ q. absurd (ne q.0)) (m.others k i s))

  pub listed_less : (k : ℕ) → listed e' k ≡ cond (k == edge) (filter (λ i. not (same_curve i strand)) (listed e k)) (listed e k)
  listed_less k = listed_nodes mid e' k h ∙ elim (cases_eq k edge) [
    | inl q ↦ rw (eq-eqb k edge q) (subst (λ x. listed mid x ≡ filter (λ i. not (same_curve i strand)) (listed e x)) (sym q) less_here)
    | inr ne ↦ rw (other_number k edge ne) (less_there k ne)
  ]

pub filled_less : (e mid : Chained) (edge strand : ℕ) → IsOneLess e mid edge strand → AreFilled e → (k : ℕ) → k ≢ edge → HasKey mid k → (i : ℕ) × Says mid k i
filled_less e mid edge strand m f k ne h = let s = f.key k (m.keys k h) in (s.0, ⊎_elim (λ g. g) (λ q. absurd (ne q.0)) (m.others k s.0 s.1))

-- the sides of a curve go
module _ (e mid e' : Chained) (edge curve : ℕ) (m : AreSidesLess e mid edge curve) (gone : (i : ℕ) → Says mid edge i → curve_of i ≢ curve) (h : e'.nodes ≡ mid.nodes) where
  sides_here : listed mid edge ≡ filter (λ i. not (same_curve (curve_of i) curve)) (listed e edge)
  sides_here = listed_from mid edge (filter (λ i. not (same_curve (curve_of i) curve)) (listed e edge)) (IsAscending-filter nat_cmp (λ i. not (same_curve (curve_of i) curve)) (listed e edge) (listed_ascends e edge))
      (λ i g. let f = of_filter (λ i. not (same_curve (curve_of i) curve)) i (listed e edge) g in ⊎_elim (λ s. s) (λ q. clash (curve_in (curve_of i) curve q.1) (not_out (same_curve (curve_of i) curve) f.1)) (m.others edge i (of_listed e edge i f.0)))
      (λ i s. in_filter (λ i. not (same_curve (curve_of i) curve)) i (listed e edge) (in_listed e edge i (m.stays edge i s)) (not_in (same_curve (curve_of i) curve) (λ q. gone i s (curve_out (curve_of i) curve q))))

  pub listed_sides : (k : ℕ) → listed e' k ≡ cond (k == edge) (filter (λ i. not (same_curve (curve_of i) curve)) (listed e k)) (listed e k)
  listed_sides k = listed_nodes mid e' k h ∙ elim (cases_eq k edge) [
    | inl q ↦ rw (eq-eqb k edge q) (subst (λ x. listed mid x ≡ filter (λ i. not (same_curve (curve_of i) curve)) (listed e x)) (sym q) sides_here)
    | inr ne ↦ rw (other_number k edge ne) (listed_same e mid k (λ i s. m.stays k i s) (λ i s. ⊎_elim (λ g. g) (λ q. absurd (ne q.0)) (m.others k i s)))
  ]

pub filled_sides : (e mid : Chained) (edge curve : ℕ) → AreSidesLess e mid edge curve → AreFilled e → (k : ℕ) → k ≢ edge → HasKey mid k → (i : ℕ) × Says mid k i
filled_sides e mid edge curve m f k ne h = let s = f.key k (m.keys k h) in (s.0, ⊎_elim (λ g. g) (λ q. absurd (ne q.0)) (m.others k s.0 s.1))

-- no side any more
module _ (e mid e' : Chained) (edge : ℕ) (m : IsEmptied e mid edge) (none : (i : ℕ) → ¬ Says mid edge i) (h : e'.nodes ≡ mid.nodes) where
  pub listed_none : (k : ℕ) → listed e' k ≡ cond (k == edge) [] (listed e k)
  listed_none k = listed_nodes mid e' k h ∙ elim (cases_eq k edge) [
    | inl q ↦ rw (eq-eqb k edge q) (subst (λ x. listed mid x ≡ []) (sym q) (listed_from mid edge [] tt (λ i g. absurd g) (λ i s. absurd (none i s))))
    | inr ne ↦ rw (other_number k edge ne) (listed_same e mid k (λ i s. m.stays k i s) (λ i s. m.others k i s ne))
  ]

pub filled_none : (e mid : Chained) (edge : ℕ) → IsEmptied e mid edge → AreFilled e → (k : ℕ) → k ≢ edge → HasKey mid k → (i : ℕ) × Says mid k i
filled_none e mid edge m f k ne h = let s = f.key k (m.keys k h) in (s.0, m.others k s.0 s.1 ne)

-- the same sides along a part
module _ (e e' : Chained) (edge part : ℕ) (m : IsCopied e e' edge part) (none : (i : ℕ) → ¬ Says e part i) where
  pub listed_copied : (k : ℕ) → listed e' k ≡ cond (k == part) (listed e edge) (listed e k)
  listed_copied k = elim (cases_eq k part) [
    | inl q ↦ rw (eq-eqb k part q) (subst (λ x. listed e' x ≡ listed e edge) (sym q) (listed_from e' part (listed e edge) (listed_ascends e edge) (λ i g. m.said i (of_listed e edge i g)) (λ i s. in_listed e edge i (⊎_elim (λ o. absurd (none i o)) (λ c. c.1) (m.others part i s)))))
    | inr ne ↦ rw (other_number k part ne) (listed_same e e' k (λ i s. ⊎_elim (λ o. o) (λ c. absurd (ne c.0)) (m.others k i s)) (λ i s. m.stays k i s))
  ]

  pub filled_copied : AreFilled e → AreFilled e'
  filled_copied f = record { key = λ k h. ⊎_elim (λ o. let s = f.key k o in (s.0, m.stays k s.0 s.1)) (λ s. s) (m.keys k h) }

-- ---- in the history's words
-- what a caller sees of chains and the rest
pub record IsSeen (i : Inside) (seen : Past) : Type 0 where
  pub pairs : seen.pairs ≡ pairs_in i.by_edge
  pub names : seen.names ≡ named_in i.by_curve
  pub pieces : seen.pieces ≡ map piece_of (items i.pieces)
  pub next : seen.next ≡ number_of i.next
  pub spare_names : seen.spare_names ≡ i.by_curve.spare_keys
  pub spare_pieces : seen.spare_pieces ≡ i.pieces.spare
  pub spare_pairs : seen.spare_pairs ≡ pair_room i.by_edge i.by_curve
  pub capacity_by_edge : seen.capacity_by_edge ≡ i.by_edge.capacity_of_nodes
  pub capacity_by_curve : seen.capacity_by_curve ≡ i.by_curve.capacity_of_nodes
  pub capacity_of_pieces : seen.capacity_of_pieces ≡ i.pieces.capacity
  pub rows : seen.rows ≡ i.pieces.rows
  pub indexed : seen.indexed ≡ i.pieces.indexed

pub sees : (i : Inside) (seen : Past) → past i.by_edge i.by_curve i.pieces i.next ≡ seen → IsSeen i seen
sees i seen h = subst (IsSeen i) h (record { pairs = refl; names = refl; pieces = refl; next = refl; spare_names = refl; spare_pieces = refl; spare_pairs = refl; capacity_by_edge = refl; capacity_by_curve = refl; capacity_of_pieces = refl; rows = refl; indexed = refl })

module _ (i : Inside) (old : Past) (v : IsSeen i old) where
  held_old : (x : DartId) → strands_on old x ≡ listed i.by_edge x.0
  held_old x = held_is old i.by_edge x v.pairs

  pub says_held : (d : DartId) (z : ℕ) → Says i.by_edge d.0 z → Member z (strands_on old d)
  says_held d z s = rw (held_old d) (in_listed i.by_edge d.0 z s)

  pub held_says : (d : DartId) (z : ℕ) → Member z (strands_on old d) → Says i.by_edge d.0 z
  held_says d z m = of_listed i.by_edge d.0 z (subst (Member z) (held_old d) m)

  -- the curves of what is said
  pub says_runs : (d : DartId) (z : ℕ) → Says i.by_edge d.0 z → Member (curve_of z) (curves_on old d)
  unfolding curves_on
  says_runs d z s = in_curves z (strands_on old d) (says_held d z s)

  pub runs_says : (d : DartId) (k : ℕ) → Member k (curves_on old d) → (z : ℕ) × (k ≡ curve_of z) × Says i.by_edge d.0 z
  unfolding curves_on
  runs_says d k m = let z = of_curves k (strands_on old d) m in (z.0, z.2, held_says d z.0 z.1)

  pub has_name : (k : ℕ) → Member k old.names → HasKey i.by_curve k
  has_name k m = has_of_named i.by_curve k (subst (Member k) v.names m)

  pub none_held : (d : DartId) → curves_on old d ≡ [] → (z : ℕ) → ¬ Says i.by_edge d.0 z
  none_held d h z s = subst (Member (curve_of z)) h (says_runs d z s)

  module _ (new : Past) (e' : Chained) (h' : new.pairs ≡ pairs_in e') where
    held_new : (x : DartId) → strands_on new x ≡ listed e' x.0
    held_new x = held_is new e' x h'

    pub held_more : (d : DartId) (strand : ℕ) → IsPairMore i.by_edge e' d.0 strand → GainsStrand old new d strand
    held_more d strand m x = rw (held_old x, held_new x) (listed_more i.by_edge e' d.0 strand m x.0)

    pub held_less : (mid : Chained) (d : DartId) (strand : ℕ) → IsOneLess i.by_edge mid d.0 strand → e'.nodes ≡ mid.nodes → LosesStrand old new d strand
    held_less mid d strand m h x = rw (held_old x, held_new x) (listed_less i.by_edge mid e' d.0 strand m h x.0)

    pub held_sides : (mid : Chained) (d : DartId) (curve : ℕ) → AreSidesLess i.by_edge mid d.0 curve → ((z : ℕ) → Says mid d.0 z → curve_of z ≢ curve) → e'.nodes ≡ mid.nodes → LosesSides old new d curve
    held_sides mid d curve m gone h x = rw (held_old x, held_new x) (listed_sides i.by_edge mid e' d.0 curve m gone h x.0)

    pub held_none : (mid : Chained) (d : DartId) → IsEmptied i.by_edge mid d.0 → ((z : ℕ) → ¬ Says mid d.0 z) → e'.nodes ≡ mid.nodes → LosesStrands old new d
    held_none mid d m none h x = rw (held_old x, held_new x) (listed_none i.by_edge mid e' d.0 m none h x.0)

    pub held_copied : (d part : DartId) → IsCopied i.by_edge e' d.0 part.0 → ((z : ℕ) → ¬ Says i.by_edge part.0 z) → CopiesStrands old new d part
    held_copied d part m none x = rw (held_old x, held_old d, held_new x) (listed_copied i.by_edge e' d.0 part.0 m none x.0)

    pub held_same : e'.nodes ≡ i.by_edge.nodes → SameStrands old new
    held_same h x = rw (held_old x, held_new x) (listed_nodes i.by_edge e' x.0 h)

  -- names, pieces and the next number stay
  pub layer_on : (new : Past) (c' : Chained) → AreSameKeys i.by_curve c' → new.names ≡ named_in c' → new.pieces ≡ map piece_of (items i.pieces) → new.next ≡ number_of i.next → SameLayer old new
  layer_on new c' s a b d = record { names = a ∙ same_named i.by_curve c' s ∙ sym v.names; pieces = b ∙ sym v.pieces; next = d ∙ sym v.next }

-- ---- how many sides there are along an edge
not_equal : (x : ℕ) (xs : List ℕ) (t : Ordering) (y : ℕ) (ys : List ℕ) → nat_cmp x y ≡ t → (x ≡ y → ⊥) → length xs ≡ suc (length ys) → length (match_ordering t (x ∷ y ∷ ys) (y ∷ ys) (y ∷ xs)) ≡ suc (suc (length ys))
not_equal x xs Less y ys e f h = refl
not_equal x xs Equal y ys e f h = absurd (f (nat_exact x y e))
not_equal x xs Greater y ys e f h = ap suc h

longer : (x : ℕ) (ys : List ℕ) → (Member x ys → ⊥) → length (place nat_cmp x ys) ≡ suc (length ys)
unfolding place
longer x [] f = refl
longer x (y ∷ ys) f = not_equal x (place nat_cmp x ys) (nat_cmp x y) y ys refl (λ e. f (inl e)) (longer x ys (λ m. f (inr m)))

pub same_length : (xs : List ℕ) → AreOnce xs → length (ascending nat_cmp xs) ≡ length xs
unfolding ascending
same_length [] a = refl
same_length (x ∷ xs) a = longer x (ascending nat_cmp xs) (λ m. a.0 (lists.of_ascending nat_cmp nat_cmp_total nat_exact x xs m)) ∙ ap suc (same_length xs a.1)

-- the sides along an edge are what its chain's nodes say, from the last to the first
module _ (e : Chained) (k : ℕ) (w : IsWhole e k) (d : IsDescending (items_along e k)) where
  pub listed_is : listed e k ≡ reverse (items_along e k)
  listed_is = listed_from e k (reverse (items_along e k)) (ascends_reverse (items_along e k) d)
      (λ i m. let n = lists.of_map (item_in e) i (chain e k) (of_reverse i (items_along e k) m) in let u = node_at e k n.0 w n.1 in record { node = n.0; twin = u.0; is = subst (λ j. entry_at e n.0 ≡ Some (entry k j u.0)) (sym n.2) u.1 })
      (λ i s. let n = says_on e k i w s in in_reverse i (items_along e k) (subst (λ j. Member j (items_along e k)) n.2 (lists.in_map (item_in e) n.0 (chain e k) n.1)))

  pub listed_length : length (listed e k) ≡ length (chain e k)
  listed_length = ap length listed_is ∙ length-reverse (items_along e k) ∙ length-map (chain e k) (item_in e)

pub held_length : (i : Inside) (old : Past) → IsSeen i old → AreOrdered i.by_edge → (d : DartId) → IsWhole i.by_edge d.0 → length (strands_on old d) ≡ length (chain i.by_edge d.0)
held_length i old v o d w = ap length (held_is old i.by_edge d v.pairs) ∙ listed_length i.by_edge d.0 w (o d.0)

-- ---- room
module _ (i : Inside) (old : Past) (v : IsSeen i old) where
  pub room_in : AreOrdered i.by_edge → (d : DartId) → IsWhole i.by_edge d.0 → length (strands_on old d) ≤ old.spare_pairs → length (chain i.by_edge d.0) ≤ pair_room i.by_edge i.by_curve
  room_in o d w h = subst (λ n. n ≤ pair_room i.by_edge i.by_curve) (held_length i old v o d w) (subst (λ n. length (strands_on old d) ≤ n) v.spare_pairs h)

  pub spare_on : (new : Past) (c' : Chained) → AreSameKeys i.by_curve c' → new.spare_names ≡ c'.spare_keys → new.spare_pieces ≡ i.pieces.spare → pair_room i.by_edge i.by_curve ≤ new.spare_pairs → IsSpare old new 0 0 0
  spare_on new c' s a b h = record {
    of_names = let r = s.room in let q = v.spare_names in omega arith;
    of_pieces = let q = v.spare_pieces in omega arith;
    of_pairs = plus_none old.spare_pairs (pair_room i.by_edge i.by_curve) new.spare_pairs v.spare_pairs h;
  }
    where
      plus_none : (a b c : ℕ) → a ≡ b → b ≤ c → a + 0 ≤ c
      plus_none a b c e h = omega arith

  pub room_after : AreOrdered i.by_edge → (d : DartId) → IsWhole i.by_edge d.0 → (now : ℕ) → pair_room i.by_edge i.by_curve ≤ now + length (chain i.by_edge d.0) → pair_room i.by_edge i.by_curve ≤ now + length (strands_on old d)
  room_after o d w now h = subst (λ n. pair_room i.by_edge i.by_curve ≤ now + n) (sym (held_length i old v o d w)) h

-- as many as nodes in the chain
pub counted_held : (i : Inside) (old : Past) → IsSeen i old → AreOrdered i.by_edge → (d : DartId) → IsWhole i.by_edge d.0 → (n : ℕ) → n ≡ length (chain i.by_edge d.0) → n ≡ length (strands_on old d)
counted_held i old v o d w n e = e ∙ sym (held_length i old v o d w)

-- the same sides run along two edges where their chains say the same
module _ (i : Inside) (old : Past) (v : IsSeen i old) (ordered : AreOrdered i.by_edge) (w : (k : ℕ) → IsWhole i.by_edge k) where
  held_reverse : (d : DartId) → strands_on old d ≡ reverse (items_along i.by_edge d.0)
  held_reverse d = held_is old i.by_edge d v.pairs ∙ listed_is i.by_edge d.0 (w d.0) (ordered d.0)

  pub same_held : (d n : DartId) → items_along i.by_edge d.0 ≡ items_along i.by_edge n.0 → strands_on old d ≡ strands_on old n
  same_held d n e = held_reverse d ∙ ap reverse e ∙ sym (held_reverse n)

  pub held_same_items : (d n : DartId) → strands_on old d ≡ strands_on old n → items_along i.by_edge d.0 ≡ items_along i.by_edge n.0
  held_same_items d n e =
      let q : reverse (items_along i.by_edge d.0) ≡ reverse (items_along i.by_edge n.0) = sym (held_reverse d) ∙ e ∙ held_reverse n in
      sym (reverse-reverse (items_along i.by_edge d.0)) ∙ ap reverse q ∙ reverse-reverse (items_along i.by_edge n.0)

-- Labels of cells that stand in a list, and what the labels of the links' cells say.
use Rattle.std.proofs.Common.{◌≡◌, ℕ, zero, suc, ◌<◌, Bool, true, false, cond, List, [], ◌∷◌, length, get_or, map, Contains, refl, sym, ap, ◌∙◌, subst, arith, ◌⊎◌, inl, inr, Less, Equal, Err}
use Rattle.std.specs.Prelude.{flat_map}
use Rattle.std.specs.List.{All}
use Rattle.std.specs.List.Sorted.{IsBinarySearchResult}
use Rattle.std.proofs.lemmas.List.Elements.{All-from_get_or}
use Rattle.std.proofs.lemmas.Bool.{cases_Bool, cases_order, lt-ltb, le-ltb}
use Rattle.std.proofs.lemmas.List.{length-map, get_or-map, get_or_default}
use Rattle.plane_graphs.specs.Ascending.{ascending, IsAscending}
use Rattle.plane_graphs.proofs.Ascending.{IsAscending-ascending, ascending-Member, to_member, from_member}
use Rattle.slab_laws.specs.declared.slab_cell.SlabCell.{SlabCell}
use Rattle.slab_laws.specs.declared.classes.Link.{Link}
use Rattle.slab_laws.specs.declared.classes.Label.{Label}
use Rattle.slab_laws.specs.Classes.{class_of, classes}
use Rattle.slab_laws.specs.Faces.{same_cell, cell_below}
use Rattle.slab_faces.proofs.Member.{Member, member_in, in_member, map_in, map_out, flat_in}
use Rattle.slab_faces.proofs.FacesLemmas.{cells_exact, cells_order}
use Rattle.dart_orbits.specs.LeastNumbers.{is_less}
use Rattle.plain_slabs.specs.MetNumbers.{AreBelow}
use Rattle.plain_slabs.specs.CellLabels.{cell_cmp, ends, cell_at, link_at, labels}
use Rattle.dart_orbits.proofs.LeastTransport.{least_number, least_number-le, StandsFor, transported}
use Rattle.plain_slabs.proofs.Unlinked.{unlinked}
use Rattle.plain_slabs.proofs.LabelTables.{each_of, all_of}
use Rattle.plain_slabs.proofs.CellOrder.{cell_cmp_total, tied_is, less_below, less_differs}
use Rattle.dart_orbits.proofs.SearchedLists.{at_each, absent}
use Rattle.plane_graphs.proofs.Sorting.{rises}

-- ---- a list of labels
-- the label of the cell at k stands at k
pub label_there : (cs ls : List SlabCell) → IsAscending cell_cmp cs → length ls ≡ length cs → (k : ℕ) (d e : SlabCell) → k < length cs → class_of same_cell (labels cs ls) (get_or cs k d) ≡ get_or ls k e
unfolding class_of
label_there [] ls h n k d e lt = absurd (omega arith)
label_there (c ∷ cs) [] h n k d e lt = absurd (omega arith)
label_there (c ∷ cs) (l ∷ ls) h n zero d e lt = ap (λ (t : Bool). cond t l (class_of same_cell (labels cs ls) c)) (cells_exact.itself c)
label_there (c ∷ cs) (l ∷ ls) h n (suc k) d e lt =
    let differs : same_cell c (get_or cs k d) ≡ false = less_differs c (get_or cs k d) (at_each cell_cmp cell_cmp_total (λ x. cell_cmp c x ≡ Less) cs k d h.0 (omega arith)) in
    ap (λ (t : Bool). cond t l (class_of same_cell (labels cs ls) (get_or cs k d))) differs ∙ label_there cs ls h.1 (omega arith) k d e (omega arith)

-- a cell that isn't in the list has no label
pub no_label : (cs ls : List SlabCell) (x : SlabCell) → (Member cs x → ⊥) → class_of same_cell (labels cs ls) x ≡ x
unfolding class_of
no_label [] ls x h = refl
no_label (c ∷ cs) [] x h = refl
no_label (c ∷ cs) (l ∷ ls) x h =
    elim (cases_Bool (same_cell c x)) [
      | inl e ↦ absurd (h (inl (cells_exact.path c x e)))
      | inr e ↦ ap (λ (t : Bool). cond t l (class_of same_cell (labels cs ls) x)) e ∙ no_label cs ls x (λ m. h (inr m))
    ]

-- ---- the cells of links
-- the cells of the links, ascending, each once
abbrev pub cells_in : List (Link SlabCell) → List SlabCell
cells_in ls = ascending cell_cmp (flat_map ends ls)

pub cells_ascend : (ms : List (Link SlabCell)) → IsAscending cell_cmp (cells_in ms)
cells_ascend ms = IsAscending-ascending cell_cmp cell_cmp_total (flat_map ends ms)

among : (ms : List (Link SlabCell)) (m : Link SlabCell) (c : SlabCell) → Member ms m → Member (ends m) c → Contains (cells_in ms) c
among ms m c i j =
    from_member (cells_in ms) c (ascending-Member cell_cmp cell_cmp_total c (flat_map ends ms) (λ x y _ _ e. tied_is x y e) (to_member (flat_map ends ms) c (member_in (flat_map ends ms) c (flat_in ends ms m c i j))))

pub cells_among : (ms : List (Link SlabCell)) (m : Link SlabCell) → Member ms m → Contains (cells_in ms) m.one × Contains (cells_in ms) m.other
cells_among ms m i = (among ms m m.one i (inl refl), among ms m m.other i (inr (inl refl)))

among_or_not : (cs : List SlabCell) (x : SlabCell) → Member cs x ⊎ (Member cs x → ⊥)
among_or_not [] x = inr (λ h. h)
among_or_not (c ∷ cs) x =
    elim (cases_Bool (same_cell c x)) [
      | inl e ↦ inl (inl (cells_exact.path c x e))
      | inr e ↦ elim (among_or_not cs x) [
        | inl m ↦ inl (inr m)
        | inr n ↦ inr (λ m. elim m [ inl p ↦ apart c x e p | inr q ↦ n q ])
      ]
    ]
  where
    apart : (c x : SlabCell) → same_cell c x ≡ false → c ≡ x → ⊥
    apart c x e p = let t : same_cell c x ≡ true = subst (λ y. same_cell c y ≡ true) p (cells_exact.itself c) in cc

-- ---- the labels by numbers are the model's
module _ (ms : List (Link SlabCell)) (cs : List SlabCell) (is : cs ≡ cells_in ms) (ns : List (Link ℕ)) (below : AreBelow (length cs) ns) (linked : map (link_at cs) ns ≡ ms) where
  up : IsAscending cell_cmp cs
  up = subst (IsAscending cell_cmp) (sym is) (cells_ascend ms)

  in_order : (j k : ℕ) → j < k → k < length cs → cell_below (cell_at cs j) (cell_at cs k) ≡ true
  in_order j k h lt = less_below (cell_at cs j) (cell_at cs k) (rises cell_cmp cs up j k (record { slab = 0; place = 0 }) h lt)

  rise : (j k : ℕ) → j < length cs → k < length cs → cell_below (cell_at cs j) (cell_at cs k) ≡ is_less j k
  rise j k a b =
      elim (cases_order j k) [
        | inl e ↦ ap (λ i. cell_below (cell_at cs i) (cell_at cs k)) e ∙ cells_order.itself (cell_at cs k) ∙ sym (le-ltb j k (omega arith))
        | inr (inl h) ↦ in_order j k h b ∙ sym (lt-ltb j k h)
        | inr (inr h) ↦ cells_order.asym (cell_at cs k) (cell_at cs j) (in_order k j h a) ∙ sym (le-ltb j k (omega arith))
      ]

  stands : StandsFor cell_below (cell_at cs) (length cs) ns ms
  stands = record { rises = rise; inside = each_of (λ l. (l.one < length cs) × (l.other < length cs)) ns below; to = to; from = from }
    where
      to : (l : Link ℕ) → Member ns l → Member ms (link_at cs l)
      to l i = subst (λ xs. Member xs (link_at cs l)) linked (map_in (link_at cs) ns l i)

      from : (m : Link SlabCell) → Member ms m → (l : Link ℕ) × Member ns l × (cell_at cs l.one ≡ m.one) × (cell_at cs l.other ≡ m.other)
      from m i =
          let r = map_out (link_at cs) ns m (subst (λ xs. Member xs m) (sym linked) i) in
          (r.0, r.1, ap (λ (l : Link SlabCell). l.one) r.2, ap (λ (l : Link SlabCell). l.other) r.2)

  pub right_labels : (ks : List ℕ) (ls : List SlabCell) → length ks ≡ length cs → ((k : ℕ) → k < length cs → get_or ks k 0 ≡ least_number ns k) → ls ≡ map (cell_at cs) ks → (c : SlabCell) → class_of same_cell (labels cs ls) c ≡ class_of same_cell (classes same_cell cell_below ms) c
  right_labels ks ls n least e c = elim (among_or_not cs c) [ inl m ↦ here (member_in cs c m) | inr n ↦ no_label cs ls c n ∙ sym (unlinked same_cell cell_below cells_exact ms c (λ m i p. n (there m i p))) ]
    where
      there : (m : Link SlabCell) → Member ms m → ((m.one ≡ c) ⊎ (m.other ≡ c)) → Member cs c
      there m i (inl e) = subst (λ x. Member cs x) e (subst (λ xs. Member xs m.one) (sym is) (in_member (cells_in ms) m.one (cells_among ms m i).0))
      there m i (inr e) = subst (λ x. Member cs x) e (subst (λ xs. Member xs m.other) (sym is) (in_member (cells_in ms) m.other (cells_among ms m i).1))

      as_long : length ls ≡ length cs
      as_long = ap length e ∙ length-map ks (cell_at cs) ∙ n

      here : Contains cs c → class_of same_cell (labels cs ls) c ≡ class_of same_cell (classes same_cell cell_below ms) c
      here (k, lt, p) =
          let at : cell_at cs k ≡ c = get_or_default cs k _ c lt ∙ p in
          ap (class_of same_cell (labels cs ls)) (sym at)
          ∙ label_there cs ls up as_long k _ (cell_at cs 0) lt
          ∙ ap (λ xs. get_or xs k (cell_at cs 0)) e
          ∙ get_or-map (cell_at cs) ks k 0 (cell_at cs 0) (omega arith)
          ∙ ap (cell_at cs) (least k lt)
          ∙ transported same_cell cell_below cells_exact cells_order (cell_at cs) (length cs) ns ms stands k lt
          ∙ ap (class_of same_cell (classes same_cell cell_below ms)) at

-- ---- the same, of the lists as calls see them
pub all_among : (ms : List (Link SlabCell)) (seen : List SlabCell) → seen ≡ cells_in ms → All (λ l. Contains seen l.one × Contains seen l.other) ms
all_among ms seen e = subst (λ xs. All (λ (l : Link SlabCell). Contains xs l.one × Contains xs l.other) ms) (sym e) (all_of (λ l. Contains (cells_in ms) l.one × Contains (cells_in ms) l.other) ms (cells_among ms))

pub numbers_below : (cs seen : List SlabCell) (ns : List (Link ℕ)) (ks seen_ks : List ℕ) (n : ℕ) → seen ≡ cs → seen_ks ≡ ks → n ≡ length cs → length ks ≡ n → ((k : ℕ) → k < n → get_or ks k 0 ≡ least_number ns k) → All (λ k. k < length seen) seen_ks
numbers_below cs seen ns ks seen_ks n e f m long least = All-from_get_or (λ k. k < length seen) seen_ks 0 (λ i h. below i h)
  where
    below : (i : ℕ) → i < length seen_ks → get_or seen_ks i 0 < length seen
    below i h =
        let within : i < n = omega (arith, ap length f) in
        let a : get_or seen_ks i 0 ≡ least_number ns i = ap (λ xs. get_or xs i 0) f ∙ least i within in
        omega (arith, least_number-le ns i, ap length e)

module _ (ms : List (Link SlabCell)) (cs one_seen two_seen : List SlabCell) (ns ns_seen : List (Link ℕ)) (ks ks_seen : List ℕ) (ls : List SlabCell) (n : ℕ)
    (is : cs ≡ cells_in ms) (one : one_seen ≡ cs) (below : AreBelow (length one_seen) ns) (linked : map (link_at one_seen) ns ≡ ms)
    (numbered : ns_seen ≡ ns) (count : n ≡ length cs) (long : length ks ≡ n) (least : (k : ℕ) → k < n → get_or ks k 0 ≡ least_number ns_seen k)
    (two : two_seen ≡ cs) (table : ks_seen ≡ ks) (made : ls ≡ map (cell_at two_seen) ks_seen) where
  pub fields_right : IsAscending cell_cmp cs × (length ls ≡ length cs)
  fields_right = (subst (IsAscending cell_cmp) (sym is) (cells_ascend ms), ap length made ∙ length-map ks_seen (cell_at two_seen) ∙ ap length table ∙ long ∙ count)

  pub labels_right : (c : SlabCell) → class_of same_cell (labels cs ls) c ≡ class_of same_cell (classes same_cell cell_below ms) c
  labels_right =
      right_labels ms cs is ns (subst (λ xs. AreBelow (length xs) ns) one below) (subst (λ xs. map (link_at xs) ns ≡ ms) one linked) ks ls (long ∙ count)
      (λ k h. least k (subst (λ m. k < m) (sym count) h) ∙ ap (λ (xs : List (Link ℕ)). least_number xs k) numbered)
      (made ∙ ap (map (cell_at two_seen)) table ∙ ap (λ xs. map (cell_at xs) ks) two)

module _ (cs ls seen : List SlabCell) (now : List (Label SlabCell)) (x : SlabCell) (view : labels cs ls ≡ now) (fields : IsAscending cell_cmp cs × (length ls ≡ length cs)) (same : seen ≡ cs) where
  -- where a search finds the cell its label stands
  pub found_label : (k : ℕ) (r : SlabCell) → k < length seen → ((d : SlabCell) → cell_cmp (get_or seen k d) x ≡ Equal) → r ≡ get_or ls k r → r ≡ class_of same_cell now x
  found_label k r lt tied e =
      let at : get_or cs k x ≡ x = ap (λ xs. get_or xs k x) (sym same) ∙ tied_is (get_or seen k x) x (tied x) in
      e ∙ sym (label_there cs ls fields.0 fields.1 k x r (omega (arith, ap length same))) ∙ ap (class_of same_cell (labels cs ls)) at ∙ ap (λ t. class_of same_cell t x) view

  -- and where it finds none the cell is alone
  pub absent_label : (k : ℕ) → IsBinarySearchResult (λ y. cell_cmp y x) seen (Err k) → x ≡ class_of same_cell now x
  absent_label k s =
      let up : IsAscending cell_cmp seen = subst (IsAscending cell_cmp) (sym same) fields.0 in
      sym (no_label cs ls x (λ m. absent cell_cmp cell_cmp_total x seen k up s (subst (λ xs. Contains xs x) (sym same) (member_in cs x m)))) ∙ ap (λ t. class_of same_cell t x) view

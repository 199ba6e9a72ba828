-- How many vertices are pinned, before and after each write.
use Rattle.std.proofs.Common.{◌≡◌, ◌≢◌, inl, inr, ℕ, ◌+◌, ◌≤◌, ◌==◌, Bool, true, false, cond, List, [], ◌∷◌, length, Option, Some, None, is_some, option_map, refl, sym, ap, subst, ◌∙◌, arith}
use Rattle.std.specs.List.{filter}
use Rattle.std.proofs.lemmas.Bool.{cases_eq, cases_Bool}
use Rattle.std.proofs.lemmas.List.Sums.{length-filter, count_by-le-length}
use Rattle.exact_plane.specs.Point.{Point}
use Rattle.slab.specs.Slab.{Slab, get, slab_len, with_value, Updates}
use Rattle.slab.proofs.SlabLemmas.{Updates-with_value}
use Rattle.slab_laws.specs.Tables.{row_at, names, NamesAscend}
use Rattle.slab_laws.specs.View.{View, VertexRecord}
use Rattle.arr_notes.specs.NamedRows.{del}
use Rattle.arr_notes.proofs.RowLaws.{row_at-del, ascend-del, one_table}
use Rattle.chain_laws.specs.Rows.{tabled}
use Rattle.chain_laws.proofs.Tabled.{row-tabled, ascend-tabled, length-tabled}
use Rattle.dcel_records.specs.declared.rows.StoredVertex.{StoredVertex}
use Rattle.dcel_records.specs.declared.rows.StoredDart.{StoredDart}
use Rattle.dcel_records.specs.RecordsView.{GraphView}
use Rattle.dcel_records.specs.StoredRows.{vertex_of, graph_in, graph_view, pins_among, AreSoundRows, AreSoundGraphs}
use Rattle.dcel_records.specs.declared.vertex_map.VertexMap.{VertexMap}
use Rattle.dcel_records.specs.VertexMaps.{IsMapOf}
use Rattle.dcel_records.proofs.Holding.{vertices_are}
use Rattle.dcel_records.proofs.Writing.{row_pinned}
use Rattle.integers.proofs.Tests.{same_number}

abbrev Row : Type 0
Row = ℕ × VertexRecord

-- what a pin adds to their number
abbrev pub one_if : Bool → ℕ
one_if true = 1
one_if false = 0

abbrev pub pin_of : Option VertexRecord → ℕ
pin_of None = 0
pin_of (Some r) = one_if r.pinned

-- ---- tables
first_counts : (r : Row) (rs : List Row) → pins_among (r ∷ rs) ≡ one_if r.1.pinned + pins_among rs
first_counts r rs = step r.1.pinned
  where
    step : (b : Bool) → length (cond b (r ∷ filter (λ s. s.1.pinned) rs) (filter (λ s. s.1.pinned) rs)) ≡ one_if b + length (filter (λ s. s.1.pinned) rs)
    step true = omega arith
    step false = omega arith

-- a row that goes takes its pin along
pins_less : (k : ℕ) (rs : List Row) → pins_among rs ≡ pins_among (del k rs) + pin_of (row_at rs k)
unfolding row_at del
pins_less k [] = refl
pins_less k (r ∷ rs) =
    let f = first_counts r rs in
    elim (cases_Bool (r.0 == k)) [
      | inl q ↦ rw q (omega arith)
      | inr q ↦ rw q (let g = first_counts r (del k rs) in let h = pins_less k rs in omega arith)
    ]

-- two tables that differ at one name alone differ by its pin
pins_moved : (k : ℕ) (rs ss : List Row) → NamesAscend (names rs) → NamesAscend (names ss) → ((n : ℕ) → n ≢ k → row_at ss n ≡ row_at rs n) → pins_among ss + pin_of (row_at rs k) ≡ pins_among rs + pin_of (row_at ss k)
pins_moved k rs ss a b h =
    let e : del k ss ≡ del k rs = one_table _ _ (ascend-del k ss b) (ascend-del k rs a) (λ n. row_at-del k ss n b ∙ found n ∙ sym (row_at-del k rs n a)) in
    let m = ap pins_among e in
    let p = pins_less k rs in
    let q = pins_less k ss in
    omega arith
  where
    found : (n : ℕ) → cond (k == n) None (row_at ss n) ≡ cond (k == n) None (row_at rs n)
    found n = elim (cases_eq n k) [
      | inl q ↦ rw (q, same_number k) refl
      | inr ne ↦ ap (λ (o : Option VertexRecord). cond (k == n) None o) (h n ne)
    ]

-- ---- slabs
pub pins_updated : (s t : Slab StoredVertex) (k : ℕ) (o : Option StoredVertex) → Updates s t k o → pins_among (tabled vertex_of t) + pin_of (option_map vertex_of (get s k)) ≡ pins_among (tabled vertex_of s) + pin_of (option_map vertex_of o)
pins_updated s t k o u =
    let m = pins_moved k (tabled vertex_of s) (tabled vertex_of t) (ascend-tabled vertex_of s) (ascend-tabled vertex_of t) (λ n ne. row-tabled vertex_of t n ∙ ap (option_map vertex_of) (u.others n ne) ∙ sym (row-tabled vertex_of s n)) in
    let a = ap pin_of (row-tabled vertex_of s k) in
    let b = ap pin_of (row-tabled vertex_of t k ∙ ap (option_map vertex_of) u.changed) in
    omega arith

-- no more are pinned than there are
pub pins_fit : (s : Slab StoredVertex) → pins_among (tabled vertex_of s) ≤ slab_len s
pins_fit s =
    let a = length-filter (λ (r : Row). r.1.pinned) (tabled vertex_of s) in
    let b = count_by-le-length (λ (r : Row). r.1.pinned) (tabled vertex_of s) in
    let c = length-tabled vertex_of s in
    omega arith

-- a vertex more, which isn't pinned
pub pins_put : (s t : Slab StoredVertex) (k : ℕ) (p : Point) (pins : ℕ) → get s k ≡ None → Updates s t k (Some (record { point = p; pinned = false; out = None; place = None })) → pins ≡ pins_among (tabled vertex_of s) → pins ≡ pins_among (tabled vertex_of t)
pins_put s t k p pins free u e =
    let m = pins_updated s t k _ u in
    let f = ap (λ (o : Option StoredVertex). pin_of (option_map vertex_of o)) free in
    omega arith

-- a vertex fewer
pub pins_gone : (s t : Slab StoredVertex) (k : ℕ) (r : StoredVertex) → get s k ≡ Some r → Updates s t k None → pins_among (tabled vertex_of s) ≡ pins_among (tabled vertex_of t) + one_if r.pinned
pins_gone s t k r g u =
    let m = pins_updated s t k None u in
    let f = ap (λ (o : Option StoredVertex). pin_of (option_map vertex_of o)) g in
    omega arith

-- a pin written; the row is read twice
module _ (s : Slab StoredVertex) (k : ℕ) (r q : StoredVertex) (g : get s k ≡ Some r) (f : get s k ≡ Some q) where
  pins_written : (b : Bool) → pins_among (tabled vertex_of (with_value s k (row_pinned b q))) + one_if r.pinned ≡ pins_among (tabled vertex_of s) + one_if b
  pins_written b =
      let m = pins_updated s (with_value s k (row_pinned b q)) k _ (Updates-with_value s k (row_pinned b q) (ap is_some f)) in
      let e = ap (λ (o : Option StoredVertex). pin_of (option_map vertex_of o)) g in
      omega arith

  pub pin_more : r.pinned ≡ false → pins_among (tabled vertex_of s) + 1 ≡ pins_among (tabled vertex_of (with_value s k (row_pinned true q)))
  pin_more e = let m = pins_written true in let o = ap one_if e in omega arith

  pub pin_less : r.pinned ≡ true → pins_among (tabled vertex_of s) ≡ pins_among (tabled vertex_of (with_value s k (row_pinned false q))) + 1
  pin_less e = let m = pins_written false in let o = ap one_if e in omega arith

-- what leaves the table of vertices leaves their map and their pins
pub pins_kept : {at : VertexMap} (vs : Slab StoredVertex) (ds : Slab StoredDart) (h : GraphView) (pins : ℕ) → graph_view vs ds ≡ h → AreSoundGraphs vs ds at pins → (xs : Slab StoredVertex) (es : Slab StoredDart) (g : View) → graph_in xs es ≡ g → g.vertices ≡ h.graph.vertices → AreSoundRows xs es → AreSoundGraphs xs es at pins
pins_kept {at} vs ds h pins is k xs es g e same rows =
    let table : (graph_in vs ds).vertices ≡ (graph_in xs es).vertices = vertices_are vs ds h is ∙ sym same ∙ sym (ap (λ (v : View). v.vertices) e) in
    record { rows = rows; mapped = subst (λ (rs : List Row). IsMapOf at rs) table k.mapped; counted = k.counted ∙ ap pins_among table }

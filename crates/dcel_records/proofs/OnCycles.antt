-- The cycle of each dart has a row, whose box the dart is in: what keeps it, and what it tells a caller.
use Rattle.std.proofs.Common.{◌≡◌, ◌≢◌, inl, inr, ℕ, [], slice_index_or, Option, Some, None, is_some, IsSome, option_map, refl, sym, ap, subst, ◌∙◌}
use Rattle.std.proofs.lemmas.Bool.{cases_eq, false≢true}
use Rattle.exact_plane.specs.WholeParts.{whole_parts}
use Rattle.exact_plane.specs.declared.whole_parts.BoundingBox.{BoundingBox}
use Rattle.exact_plane.specs.declared.whole_parts.WholeParts.{WholeParts}
use Rattle.plane_graphs.proofs.Lists.{some_mapped}
use Rattle.slab.specs.Slab.{Slab, get, with_value, ContainsKey, Updates}
use Rattle.slab.proofs.SlabLemmas.{Updates-with_value}
use Rattle.slab_laws.specs.declared.names.CycleId.{CycleId}
use Rattle.slab_laws.specs.declared.names.DartId.{DartId}
use Rattle.slab_laws.specs.Tables.{row_at}
use Rattle.slab_laws.specs.View.{Faces, HasDart, HasCycle, cycle_in, cycle_or, point_in, source_in}
use Rattle.chain_laws.proofs.Tabled.{row-tabled}
use Rattle.dcel_records.specs.declared.records.Records.TheInside.{Inside}
use Rattle.dcel_records.specs.declared.rows.StoredCycle.{StoredCycle}
use Rattle.dcel_records.specs.declared.rows.StoredDart.{StoredDart}
use Rattle.dcel_records.specs.Areas.{Covers, HasParts}
use Rattle.dcel_records.specs.RecordsView.{RecordsView, tables_of}
use Rattle.dcel_records.specs.StoredRows.{dart_of, cycle_record, records_view, AreMarked, AreOnCycles}
use Rattle.dcel_records.proofs.CycleColumn.{cycle_read}
use Rattle.dcel_records.proofs.EachRow.{each_put, each_less, each_write}
use Rattle.dcel_records.proofs.Holding.{dart_key, graph_seen}
use Rattle.dcel_records.proofs.Marked.{source_marked}

-- who has parts has a row
pub parts_key : (o : Option StoredCycle) (p : WholeParts) → HasParts o p → IsSome o
parts_key None p h = absurd h
parts_key (Some r) p h = refl

-- a row that is read twice has one place
pub one_row_parts : (ds : Slab StoredDart) (d : ℕ) (r q : StoredDart) (o : Option StoredCycle) → get ds d ≡ Some r → get ds d ≡ Some q → HasParts o r.parts → HasParts o q.parts
one_row_parts ds d r q o e f h = let z : Some r ≡ Some q = sym e ∙ f in let i : r.parts ≡ q.parts = cc in subst (λ (p : WholeParts). HasParts o p) i h

-- ---- darts written
abbrev IsOn : Slab StoredCycle → StoredDart → Type 0
IsOn cs r = HasParts (get cs r.cycle.0) r.parts

module _ (ds es : Slab StoredDart) (cs : Slab StoredCycle) (d : ℕ) where
  -- a dart put on a cycle whose box it is in
  pub on_put : (r : StoredDart) → Updates ds es d (Some r) → HasParts (get cs r.cycle.0) r.parts → AreOnCycles ds cs → AreOnCycles es cs
  on_put = each_put (IsOn cs) ds es d

  -- a dart that goes
  pub on_less : Updates ds es d None → AreOnCycles ds cs → AreOnCycles es cs
  on_less = each_less (IsOn cs) ds es d

module _ (ds : Slab StoredDart) (cs : Slab StoredCycle) (d : ℕ) (r q : StoredDart) (g : get ds d ≡ Some r) where
  pub on_write : HasParts (get cs q.cycle.0) q.parts → AreOnCycles ds cs → AreOnCycles (with_value ds d q) cs
  on_write = each_write (IsOn cs) ds d r q g

  -- a dart that keeps its cycle and its place
  pub on_same : q.cycle ≡ r.cycle → q.parts ≡ r.parts → AreOnCycles ds cs → AreOnCycles (with_value ds d q) cs
  on_same e f k = on_write (subst (λ (p : WholeParts). HasParts (get cs q.cycle.0) p) (sym f) (subst (λ (c : CycleId). HasParts (get cs c.0) r.parts) (sym e) (k d r g))) k

-- two darts more, of which the first is written again
pub on_pair : (ds es bs : Slab StoredDart) (cs : Slab StoredCycle) (d m : ℕ) (x y z q : StoredDart) → Updates ds es d (Some x) → Updates es bs m (Some y) → get bs d ≡ Some z → y.cycle ≡ x.cycle → q.cycle ≡ z.cycle → q.parts ≡ z.parts → HasParts (get cs x.cycle.0) x.parts → HasParts (get cs x.cycle.0) y.parts → AreOnCycles ds cs → AreOnCycles (with_value bs d q) cs
on_pair ds es bs cs d m x y z q u w g e f i has hast k = on_same bs cs d z q g f i (on_put es bs cs m y w (subst (λ (c : CycleId). HasParts (get cs c.0) y.parts) (sym e) hast) (on_put ds es cs d x u has k))

-- ---- cycles written
-- each cycle keeps all that is in its box
abbrev AreKept : Slab StoredCycle → Slab StoredCycle → Type 0
AreKept cs es = (n : ℕ) (p : WholeParts) → HasParts (get cs n) p → HasParts (get es n) p

pub on_kept : (ds : Slab StoredDart) (cs es : Slab StoredCycle) → AreKept cs es → AreOnCycles ds cs → AreOnCycles ds es
on_kept ds cs es f k n r e = f r.cycle.0 r.parts (k n r e)

abbrev areas_of : Option StoredCycle → Option BoundingBox
areas_of o = option_map (λ r. r.area) o

pub parts_same : (o q : Option StoredCycle) → areas_of q ≡ areas_of o → (p : WholeParts) → HasParts o p → HasParts q p
parts_same None q e p h = absurd h
parts_same (Some r) None e p h = absurd (cc)
parts_same (Some r) (Some t) e p h = let i : t.area ≡ r.area = cc in subst (λ (k : BoundingBox). Covers k p) (sym i) h

pub kept_put : (cs es : Slab StoredCycle) (c : ℕ) (r : StoredCycle) → get cs c ≡ None → Updates cs es c (Some r) → AreKept cs es
kept_put cs es c r free u n p h = elim (cases_eq n c) [
  | inl i ↦ absurd (subst (λ (o : Option StoredCycle). HasParts o p) (ap (get cs) i ∙ free) h)
  | inr ne ↦ subst (λ (o : Option StoredCycle). HasParts o p) (sym (u.others n ne)) h
]

pub on_written : (ds : Slab StoredDart) (cs : Slab StoredCycle) (c : ℕ) (r q : StoredCycle) → get cs c ≡ Some r → q.area ≡ r.area → AreOnCycles ds cs → AreOnCycles ds (with_value cs c q)
on_written ds cs c r q g e = on_kept ds cs (with_value cs c q) kept
  where
    u : Updates cs (with_value cs c q) c (Some q)
    u = Updates-with_value cs c q (ap is_some g)

    kept : AreKept cs (with_value cs c q)
    kept n p h = parts_same (get cs n) (get (with_value cs c q) n) (elim (cases_eq n c) [
      | inl i ↦ ap (λ m. areas_of (get (with_value cs c q) m)) i ∙ ap areas_of u.changed ∙ ap Some e ∙ sym (ap areas_of g) ∙ sym (ap (λ m. areas_of (get cs m)) i)
      | inr ne ↦ ap areas_of (u.others n ne)
    ]) p h

-- a cycle goes that no dart is on
pub on_others : (ds : Slab StoredDart) (cs es : Slab StoredCycle) (c : ℕ) → Updates cs es c None → ((n : ℕ) (r : StoredDart) → get ds n ≡ Some r → r.cycle.0 ≢ c) → AreOnCycles ds cs → AreOnCycles ds es
on_others ds cs es c u off k n r e = subst (λ (o : Option StoredCycle). HasParts o r.parts) (sym (u.others r.cycle.0 (off n r e))) (k n r e)

-- ---- slabs as they were, or without rows
pub on_slots : (ds es : Slab StoredDart) (cs os : Slab StoredCycle) → es.slots ≡ ds.slots → os.slots ≡ cs.slots → AreOnCycles ds cs → AreOnCycles es os
on_slots ds es cs os a b k n r e = subst (λ (o : Option StoredCycle). HasParts o r.parts) (sym (ap (λ s. slice_index_or s r.cycle.0 None) b)) (k n r (ap (λ s. slice_index_or s n None) (sym a) ∙ e))

pub on_none : (ds : Slab StoredDart) (cs : Slab StoredCycle) → ds.slots ≡ [] → AreOnCycles ds cs
on_none ds cs a n r e = let z : None ≡ Some r = ap (λ s. slice_index_or s n None) (sym a) ∙ e in absurd (cc)

-- ---- what a caller sees
module _ (store : Inside) (h : RecordsView) (is : records_view store ≡ h) where
  cycle_has : (c : CycleId) → ContainsKey store.cycles c.0 → HasCycle h.faces.tables c
  cycle_has c k = subst (λ (t : Faces). HasCycle t c) (ap tables_of is) (ap is_some (row-tabled cycle_record store.cycles c.0) ∙ some_mapped cycle_record (get store.cycles c.0) ∙ k)

  pub row_cycle_has : AreOnCycles store.darts store.cycles → (d : DartId) (r : StoredDart) → get store.darts d.0 ≡ Some r → HasCycle h.faces.tables r.cycle
  row_cycle_has k d r e = cycle_has r.cycle (parts_key (get store.cycles r.cycle.0) r.parts (k d.0 r e))

  cycle_seen : (d : DartId) (r : StoredDart) → get store.darts d.0 ≡ Some r → cycle_in h.faces.tables d ≡ r.cycle
  cycle_seen d r e = sym (ap cycle_or (cycle_read store h is d (Some r) e))

  -- no dart is on a cycle, if no row is
  pub none_on : (c : CycleId) → ((d : DartId) → HasDart h.graph d → cycle_in h.faces.tables d ≢ c) → (n : ℕ) (r : StoredDart) → get store.darts n ≡ Some r → r.cycle.0 ≢ c.0
  none_on c off n r e q = off (record { 0 = n }) has (cycle_seen (record { 0 = n }) r e ∙ (λ i. record { 0 = q i }))
    where
      has : HasDart h.graph (record { 0 = n })
      has = sym (ap (λ v. is_some (row_at v.graph.darts n)) is) ∙ ap is_some (row-tabled dart_of store.darts n) ∙ ap (λ o. is_some (option_map dart_of o)) e

  -- the box of a cycle has the points of its darts
  pub area_covers : AreOnCycles store.darts store.cycles → AreMarked store.vertices store.darts → (c : CycleId) (q : StoredCycle) → get store.cycles c.0 ≡ Some q → (d : DartId) → HasDart h.graph d → cycle_in h.faces.tables d ≡ c → Covers q.area (whole_parts (point_in h.graph (source_in h.graph d)))
  area_covers k marked c q g d has on = by (get store.darts d.0) refl (dart_key store.vertices store.darts _ (graph_seen store h is) d has)
    where
      by : (o : Option StoredDart) → get store.darts d.0 ≡ o → IsSome o → Covers q.area (whole_parts (point_in h.graph (source_in h.graph d)))
      by None e s = absurd (false≢true s)
      by (Some r) e s =
          let i : get store.cycles r.cycle.0 ≡ Some q = ap (λ (x : CycleId). get store.cycles x.0) (sym (cycle_seen d r e) ∙ on) ∙ g in
          let j : HasParts (Some q) r.parts = subst (λ (o : Option StoredCycle). HasParts o r.parts) i (k d.0 r e) in
          subst (λ (p : WholeParts). Covers q.area p) (source_marked store.vertices store.darts _ (graph_seen store h is) marked d r e) j

-- What is there for the writers that take a dart away or move it.
use Rattle.std.proofs.Common.{◌≡◌, ◌≢◌, ℕ, ◌+◌, ◌≤◌, arith, length, Option, Some, None, is_some, IsSome, inl, inr, refl, sym, ap, subst, ◌∙◌}
use Rattle.std.proofs.lemmas.Bool.{cases_eq}
use Rattle.slab.specs.Slab.{Slab, get, slab_len, with_value, Updates}
use Rattle.slab.proofs.SlabLemmas.{Updates-with_value}
use Rattle.slab_laws.specs.declared.names.DartId.{DartId}
use Rattle.slab_laws.specs.View.{HasDart, target_in}
use Rattle.chain_laws.proofs.Tabled.{length-tabled}
use Rattle.dcel_records.specs.declared.records.Records.TheInside.{Inside}
use Rattle.dcel_records.specs.declared.rows.StoredVertex.{StoredVertex}
use Rattle.dcel_records.specs.declared.rows.StoredDart.{StoredDart}
use Rattle.dcel_records.specs.RecordsView.{GraphView, RecordsView, IsSpare}
use Rattle.dcel_records.specs.StoredRows.{graph_view, records_view, AreSoundRows}
use Rattle.dcel_records.proofs.Tabled.{tabled_same}
use Rattle.dcel_records.proofs.Holding.{source_is, twin_is, target_is, twinned, twin_key, out_key}
use Rattle.dcel_records.proofs.Writing.{row_out}

module _ {X : Type 0} (s : Slab X) (k : ℕ) (x y : X) (g : get s k ≡ Some x) where
  -- a row written leaves the number of rows, and their keys
  pub len_written : slab_len (with_value s k y) ≡ slab_len s
  len_written = sym (length-tabled {Y = ℕ} (λ z. 0) (with_value s k y)) ∙ ap length (tabled_same {Y = ℕ} (λ z. 0) s (with_value s k y) k x y g refl (Updates-with_value s k y (ap is_some g))) ∙ length-tabled {Y = ℕ} (λ z. 0) s

  pub key_written : (j : ℕ) → IsSome (get s j) → IsSome (get (with_value s k y) j)
  key_written j h =
      let u = Updates-with_value s k y (ap is_some g) in
      elim (cases_eq j k) [
        | inl q ↦ ap (λ i. is_some (get (with_value s k y) i)) q ∙ ap is_some u.changed
        | inr ne ↦ ap is_some (u.others j ne) ∙ h
      ]

module _ (vs : Slab StoredVertex) (ds : Slab StoredDart) (h : GraphView) (is : graph_view vs ds ≡ h) (k : AreSoundRows vs ds) (d : DartId) (r : StoredDart) (o : HasDart h.graph d) (e : get ds d.0 ≡ Some r) where
  -- the source of a dart has a row
  pub source_key : IsSome (get vs r.source.0)
  source_key = out_key vs ds h is k r.source d (o, sym (source_is vs ds h is d r e))

  pub twin_other : r.twin.0 ≢ d.0
  twin_other q = (twinned vs ds h is k).other d o (sym (twin_is vs ds h is d r e) ∙ (λ i. record { 0 = q i }))

  twin_has : HasDart h.graph r.twin
  twin_has = subst (λ (x : DartId). HasDart h.graph x) (sym (twin_is vs ds h is d r e)) ((twinned vs ds h is k).has d o)

  module _ (s : Slab StoredDart) (u : Updates ds s d.0 None) where
    -- once a dart is away, its twin is still there
    pub twin_there : IsSome (get s r.twin.0)
    twin_there = ap is_some (u.others r.twin.0 twin_other) ∙ twin_key vs ds h is k d r o e

    module _ (q : StoredDart) (f : get s r.twin.0 ≡ Some q) where
      twin_row : get ds r.twin.0 ≡ Some q
      twin_row = sym (u.others r.twin.0 twin_other) ∙ f

      pub twin_source : q.source ≡ target_in h.graph d
      twin_source = target_is vs ds h is d r q e twin_row

      -- and so is the row of the vertex that it leaves
      pub target_key : IsSome (get vs q.source.0)
      target_key = out_key vs ds h is k q.source r.twin (twin_has, sym (source_is vs ds h is r.twin q twin_row))

-- two vertices written leave the number of rows
pub len_out_twice : (s : Slab StoredVertex) (u v : ℕ) (a b : Option DartId) (x y : StoredVertex) → get s u ≡ Some x → get (with_value s u (row_out a x)) v ≡ Some y → slab_len (with_value (with_value s u (row_out a x)) v (row_out b y)) ≡ slab_len s
len_out_twice s u v a b x y f g = len_written (with_value s u (row_out a x)) v y (row_out b y) g ∙ len_written s u x (row_out a x) f

-- two darts away, and two vertices written
module _ (store : Inside) (h : RecordsView) (is : records_view store ≡ h) where
  pub less_spare : (s t : Slab StoredDart) (u v : ℕ) (a b : Option DartId) (x y : StoredVertex) → get store.vertices u ≡ Some x → get (with_value store.vertices u (row_out a x)) v ≡ Some y → slab_len s + 1 ≡ slab_len store.darts → slab_len s + 1 ≤ s.capacity → s.capacity ≡ store.darts.capacity → slab_len t + 1 ≡ slab_len s → t.capacity ≡ s.capacity → IsSpare h (records_view (record store { vertices = with_value (with_value store.vertices u (row_out a x)) v (row_out b y); darts = t })) 0 2
  less_spare s t u v a b x y f g l room sm m tm =
      let e = len_out_twice store.vertices u v a b x y f g in
      let z = ap (λ k. k.spare_vertices) is in
      let w = ap (λ k. k.spare_darts) is in
      let p = ap (λ k. k.capacity_of_vertices) is in
      let q = ap (λ k. k.capacity_of_darts) is in
      record { of_vertices = omega arith; of_darts = omega arith; capacity_of_vertices = omega arith; capacity_of_darts = omega arith }

-- The next name in a table is the next key of the slab.
use Rattle.std.proofs.Common.{◌≡◌, ℕ, ◌+◌, ◌<◌, true, List, [], ◌∷◌, map, length, Option, Some, None, is_some, IsSome, option_map, refl, sym, ap, ◌∙◌}
use Rattle.std.proofs.lemmas.List.{length-map}
use Rattle.slab.specs.Slab.{Slab, get, entries, entries_from, slab_len}
use Rattle.slab.proofs.SlabLemmas.{length-entries}
use Rattle.slab_laws.specs.Tables.{names, is_after, name_after}
use Rattle.slab_laws.specs.View.{VertexRecord, DartRecord}
use Rattle.chain_laws.specs.Rows.{tabled}
use Rattle.chain_laws.proofs.Tabled.{row-tabled, ascend-tabled}
use Rattle.dcel_records.specs.declared.rows.StoredVertex.{StoredVertex}
use Rattle.dcel_records.specs.declared.rows.StoredDart.{StoredDart}
use Rattle.dcel_records.specs.RecordsView.{GraphView}
use Rattle.dcel_records.specs.StoredRows.{vertex_of, dart_of, graph_view}
use Rattle.dcel_records.proofs.Holding.{vertices_are, darts_are}
use Rattle.arr_notes.proofs.NamedTables.{none_after, least_after}

module _ {X : Type 0} where
  names_from : {Y : Type 0} (f : X → Y) (k : ℕ) (os : List (Option X)) → names (map (λ e. (e.0, f e.1)) (entries_from k os)) ≡ names (entries_from k os)
  names_from f k [] = refl
  names_from f k (None ∷ os) = names_from f (k + 1) os
  names_from f k (Some x ∷ os) = ap (λ ns. k ∷ ns) (names_from f (k + 1) os)

  -- a slab's table has the slab's keys
  pub names_tabled : {Y : Type 0} (f : X → Y) (s : Slab X) → names (tabled f s) ≡ names (entries s)
  unfolding tabled
  names_tabled f s = names_from f 0 s.slots

  -- and as many
  pub length-keys : (s : Slab X) → length (names (entries s)) ≡ slab_len s
  length-keys s = length-map (entries s) (λ e. e.0) ∙ length-entries s

  pub key_found : (s : Slab X) (at : Option ℕ) (n : ℕ) → is_after at n ≡ true → IsSome (get s n) → ((j : ℕ) → j < n → is_after at j ≡ true → get s j ≡ None) → Some n ≡ name_after (names (entries s)) at
  key_found s at n a k h =
      sym (ap (λ ns. name_after ns at) (sym (names_tabled (λ x. x) s)) ∙ least_after (tabled (λ x. x) s) at n (ascend-tabled (λ x. x) s) a (ap is_some (row-tabled (λ x. x) s n) ∙ mapped (get s n) ∙ k) (λ j l b. row-tabled (λ x. x) s j ∙ ap (option_map (λ x. x)) (h j l b)))
    where
      mapped : (o : Option X) → is_some (option_map (λ x. x) o) ≡ is_some o
      mapped None = refl
      mapped (Some x) = refl

  pub key_none : (s : Slab X) (at : Option ℕ) → ((n : ℕ) → is_after at n ≡ true → get s n ≡ None) → None ≡ name_after (names (entries s)) at
  key_none s at h =
      sym (ap (λ ns. name_after ns at) (sym (names_tabled (λ x. x) s)) ∙ none_after (tabled (λ x. x) s) at (λ n b. row-tabled (λ x. x) s n ∙ ap (option_map (λ x. x)) (h n b)))

-- the names in the graph are the slabs' keys
module _ (vs : Slab StoredVertex) (ds : Slab StoredDart) (h : GraphView) (is : graph_view vs ds ≡ h) where
  pub vertex_keys : names (entries vs) ≡ names h.graph.vertices
  vertex_keys = sym (names_tabled vertex_of vs) ∙ ap (λ (rs : List (ℕ × VertexRecord)). names rs) (vertices_are vs ds h is)

  pub dart_keys : names (entries ds) ≡ names h.graph.darts
  dart_keys = sym (names_tabled dart_of ds) ∙ ap (λ (rs : List (ℕ × DartRecord)). names rs) (darts_are vs ds h is)

-- Darts by the vertices that they leave, one look after the other.
use Rattle.std.proofs.Common.{◌≡◌, inl, inr, ℕ, List, [], ◌∷◌, Option, Some, None, is_some, IsSome, IfSome, IfNone, option_map, ◌⊎◌, refl, sym, ap, ◌∙◌, subst}
use Rattle.std.proofs.lemmas.Bool.{false≢true, cases_eq}
use Rattle.plane_graphs.specs.Ascending.{Member}
use Rattle.slab_laws.specs.declared.names.DartId.{DartId}
use Rattle.slab_laws.specs.declared.names.VertexId.{VertexId}
use Rattle.slab_laws.specs.Tables.{row_at, names}
use Rattle.slab_laws.specs.View.{IsOutOf, source_in, source_or, vertex_id}
use Rattle.arr_notes.specs.NamedRows.{put}
use Rattle.arr_notes.proofs.VertexReads.{put_hit, put_miss}
use Rattle.mirror_observer.specs.declared.tables.DartEntry.{DartEntry}
use Rattle.mirror_observer.specs.declared.tables.Tables.{Tables}
use Rattle.mirror_observer.specs.DartsOut.{AreOuts, put_out}
use Rattle.mirror_observer.specs.Standing.{view_in}
use Rattle.mirror_observer.specs.Tables.{darts_of, dart_of}
use Rattle.mirror_observer.proofs.Entries.{name_member}
use Rattle.mirror_observer.proofs.Readers.{has_is, is_has, source_is}

-- the same, but for the darts of these names, which are looked at yet
pub record AreOutsBut (ns : List ℕ) (ds : List (ℕ × DartEntry)) (os : List (ℕ × DartId)) : Type 0 where
  pub out : (v : VertexId) (d : DartId) → row_at os v.0 ≡ Some d → IsOutOf (darts_of ds) v d
  pub known : (v : VertexId) (d : DartId) → IsOutOf (darts_of ds) v d → Member d.0 ns ⊎ IsSome (row_at os v.0)

none_known : (v : VertexId) (d : DartId) (os : List (ℕ × DartId)) → os ≡ [] → row_at os v.0 ≡ Some d → ⊥
unfolding row_at
none_known v d os q r = false≢true (ap is_some (ap (λ z. row_at z v.0) (sym q) ∙ r))

pub outs_none : (ds : List (ℕ × DartEntry)) (os : List (ℕ × DartId)) → os ≡ [] → AreOutsBut (names ds) ds os
outs_none ds os q = record {
  out = λ v d r. absurd (none_known v d os q r);
  known = λ v d u. inl (name_member ds d.0 (is_has ds d u.0));
}

pub outs_all : (ds : List (ℕ × DartEntry)) (os : List (ℕ × DartId)) → AreOutsBut [] ds os → AreOuts ds os
outs_all ds os h = record {
  out = h.out;
  known = λ v d u. elim (h.known v d u) [
    | inl m ↦ absurd m
    | inr s ↦ s
  ];
}

-- the first of the names is done
first_done : {A B C D : Type 0} → (A ⊎ B) ⊎ C → (A → D) → (C → D) → B ⊎ D
first_done (inl m) f g = elim m [
  | inl a ↦ inr (f a)
  | inr b ↦ inl b
]
first_done (inr c) f g = inr (g c)

one_dart : (o : Option DartId) (d e : DartId) → o ≡ Some d → o ≡ Some e → d ≡ e
one_dart o d e p q = let g : Some d ≡ Some e = sym p ∙ q in cc

module _ (ds : List (ℕ × DartEntry)) (os : List (ℕ × DartId)) (d : DartId) where
  -- the source by the entry
  source_read : (e : DartId) (x : DartEntry) → row_at ds e.0 ≡ Some x → source_in (darts_of ds) e ≡ x.source
  source_read e x q = source_is ds e ∙ ap (λ o. source_or (option_map dart_of o)) q

  module _ (x : DartEntry) (q : row_at ds d.0 ≡ Some x) where
    at_source : (v : VertexId) → x.source.0 ≡ v.0 → row_at (put x.source.0 d os) v.0 ≡ Some d
    at_source v same = ap (row_at (put x.source.0 d os)) (sym same) ∙ put_hit x.source.0 d os

    out_more : (v : VertexId) (e : DartId) → ((w : VertexId) (f : DartId) → row_at os w.0 ≡ Some f → IsOutOf (darts_of ds) w f) → row_at (put x.source.0 d os) v.0 ≡ Some e → IsOutOf (darts_of ds) v e
    out_more v e h r = elim (cases_eq x.source.0 v.0) [
      | inl same ↦ subst (λ z. IsOutOf (darts_of ds) v z) (one_dart (row_at (put x.source.0 d os) v.0) d e (at_source v same) r) (has_is ds d (ap is_some q), source_read d x q ∙ ap vertex_id same)
      | inr other ↦ h v e (sym (put_miss x.source.0 d os v.0 (λ z. other (sym z))) ∙ r)
    ]

    known_new : (v : VertexId) (e : DartId) → IsOutOf (darts_of ds) v e → e.0 ≡ d.0 → IsSome (row_at (put x.source.0 d os) v.0)
    known_new v e u same = ap is_some (at_source v (ap (λ w. w.0) (sym (source_read e x (ap (row_at ds) same ∙ q)) ∙ u.1)))

    known_still : (v : VertexId) → IsSome (row_at os v.0) → IsSome (row_at (put x.source.0 d os) v.0)
    known_still v s = elim (cases_eq x.source.0 v.0) [
      | inl same ↦ ap is_some (at_source v same)
      | inr other ↦ ap is_some (put_miss x.source.0 d os v.0 (λ z. other (sym z))) ∙ s
    ]

  outs_with : (o : Option DartEntry) → row_at ds d.0 ≡ o → (ns : List ℕ) → AreOutsBut (d.0 ∷ ns) ds os → AreOutsBut ns ds (put_out o d os)
  outs_with None q ns h = record {
    out = h.out;
    known = λ v e u. first_done (h.known v e u) (λ same. absurd (false≢true (sym (ap is_some (ap (row_at ds) same ∙ q)) ∙ is_has ds e u.0))) (λ s. s);
  }
  outs_with (Some x) q ns h = record {
    out = λ v e r. out_more x q v e h.out r;
    known = λ v e u. first_done (h.known v e u) (known_new x q v e u) (known_still x q v);
  }

  -- one dart more is looked at
  pub outs_more : (fs : List (ℕ × DartId)) (ns ms : List ℕ) → ms ≡ d.0 ∷ ns → fs ≡ put_out (row_at ds d.0) d os → AreOutsBut ms ds os → AreOutsBut ns ds fs
  outs_more fs ns ms m f h = subst (λ z. AreOutsBut ns ds z) (sym f) (outs_with (row_at ds d.0) refl ns (subst (λ z. AreOutsBut z ds os) m h))

-- ---- what is found by a vertex
module _ (t : Tables) (os : List (ℕ × DartId)) (h : AreOuts t.darts.entries os) (v : VertexId) where
  pub outs_found : (o : Option DartId) → o ≡ row_at os v.0 → IfSome o (IsOutOf (view_in t).graph v)
  outs_found None q = tt
  outs_found (Some d) q = h.out v d (sym q)

  pub outs_missed : (o : Option DartId) → o ≡ row_at os v.0 → IfNone o ((d : DartId) → ¬ IsOutOf (view_in t).graph v d)
  outs_missed None q = λ d u. false≢true (ap is_some q ∙ h.known v d u)
  outs_missed (Some d) q = tt

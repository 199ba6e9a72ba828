-- Going through vertices or darts by the next greater name: each has been met, or is left.
use Rattle.std.proofs.Common.{◌≡◌, ℕ, ◌<◌, List, length, map, Option, Some, None, refl, sym, ap, ◌∙◌, subst, ◌⊎◌, inl, inr, ⊎_elim}
use Rattle.std.specs.Prelude.{IsSome}
use Rattle.std.specs.Option.{option_map}
use Rattle.plane_graphs.specs.Ascending.{Member}
use Rattle.plane_graphs.proofs.Lists.{in_map, of_map, of_filter}
use Rattle.slab_laws.specs.declared.names.DartId.{DartId}
use Rattle.slab_laws.specs.declared.names.VertexId.{VertexId}
use Rattle.slab_laws.specs.Tables.{row_at, names, name_after, is_after, NamesAscend}
use Rattle.slab_laws.specs.View.{View, HasVertex, HasDart, vertex_id, dart_id, vertex_after_in, dart_after_in}
use Rattle.sound_views.proofs.NameTables.{has_name, name_has}
use Rattle.arr_notes.proofs.After.{left, all_left, left-next, later, later-none, fewer}

no_name : {A : Type 0} (make : ℕ → A) (o : Option ℕ) → None ≡ option_map make o → o ≡ None
no_name make None e = refl
no_name make (Some n) e = absurd cc

-- every name with a row has P, or is left after the last one
pub record AllMet {X A : Type 0} (make : ℕ → A) (number : A → ℕ) (back : (n : ℕ) → number (make n) ≡ n) (rs : List (ℕ × X)) (P : A → Type 0) (last : Option A) : Type 0 where
  pub met : (a : A) → IsSome (row_at rs (number a)) → P a ⊎ Member a (left make number back (names rs) last)

module _ {X A : Type 0} (make : ℕ → A) (number : A → ℕ) (back : (n : ℕ) → number (make n) ≡ n) (again : (a : A) → a ≡ make (number a)) (rs : List (ℕ × X)) where
  pub none_met : (P : A → Type 0) → AllMet make number back rs P None
  none_met P = record {
    met = λ a has. inr (subst (λ ys. Member a ys) (all_left make number back (names rs)) (subst (λ b. Member b (map make (names rs))) (sym (again a)) (in_map make (number a) (names rs) (has_name rs (number a) has))));
  }

  pub one_more : (P : A → Type 0) (last : Option A) (a : A) → NamesAscend (names rs) → Some a ≡ option_map make (name_after (names rs) (option_map number last)) → AllMet make number back rs P last → P a → AllMet make number back rs P (Some a)
  one_more P last a s e h p = record {
    met = λ b has.
        ⊎_elim (λ q. inl q)
        (λ m. ⊎_elim (λ i. inl (subst P (sym i) p)) (λ n. inr n) (subst (λ bs. Member b bs) (left-next make number back (names rs) last a s e) m))
        (h.met b has);
  }

  pub all_met : (P : A → Type 0) (last : Option A) → None ≡ option_map make (name_after (names rs) (option_map number last)) → AllMet make number back rs P last → (a : A) → IsSome (row_at rs (number a)) → P a
  all_met P last e h a has =
      ⊎_elim (λ q. q)
      (λ m. absurd (subst (λ ns. Member a (map make ns)) (later-none (names rs) (option_map number last) (no_name make (name_after (names rs) (option_map number last)) e)) m))
      (h.met a has)

  pub still_met : (P Q : A → Type 0) (last : Option A) → ((a : A) → P a → Q a) → AllMet make number back rs P last → AllMet make number back rs Q last
  still_met P Q last f h = record { met = λ a has. ⊎_elim (λ p. inl (f a p)) (λ m. inr m) (h.met a has) }

  -- the next one has a row
  pub next_has : (last : Option A) (a : A) → NamesAscend (names rs) → Some a ≡ option_map make (name_after (names rs) (option_map number last)) → IsSome (row_at rs (number a))
  next_has last a s e =
      let w = of_map make a (later (names rs) (option_map number last)) (subst (λ ys. Member a ys) (sym (left-next make number back (names rs) last a s e)) (inl refl)) in
      let m = (of_filter (is_after (option_map number last)) w.0 (names rs) w.1).0 in
      name_has rs (number a) (subst (λ n. Member n (names rs)) (sym (ap number w.2 ∙ back w.0)) m)

-- ---- vertices
abbrev pub AllVertices : View → (VertexId → Type 0) → Option VertexId → Type 0
AllVertices v P last = AllMet vertex_id (λ (u : VertexId). u.0) (λ n. refl) v.vertices P last

abbrev pub vertices_left : View → Option VertexId → List VertexId
vertices_left v last = left vertex_id (λ (u : VertexId). u.0) (λ n. refl) (names v.vertices) last

module _ (v : View) where
  pub no_vertex_yet : (P : VertexId → Type 0) → AllVertices v P None
  no_vertex_yet P = none_met vertex_id (λ (u : VertexId). u.0) (λ n. refl) (λ u. refl) v.vertices P

  module _ (last : Option VertexId) (u : VertexId) (ascend : NamesAscend (names v.vertices)) (e : Some u ≡ vertex_after_in v last) where
    pub vertex_has : HasVertex v u
    vertex_has = next_has vertex_id (λ (u : VertexId). u.0) (λ n. refl) (λ u. refl) v.vertices last u ascend e

    pub one_vertex_more : (P : VertexId → Type 0) → AllVertices v P last → P u → AllVertices v P (Some u)
    one_vertex_more P h p = one_more vertex_id (λ (u : VertexId). u.0) (λ n. refl) (λ u. refl) v.vertices P last u ascend e h p

    pub fewer_vertices : length (vertices_left v (Some u)) < length (vertices_left v last)
    fewer_vertices = fewer vertex_id (λ (u : VertexId). u.0) (λ n. refl) (names v.vertices) last u ascend e

  pub vertices_still : (P Q : VertexId → Type 0) (last : Option VertexId) → ((u : VertexId) → P u → Q u) → AllVertices v P last → AllVertices v Q last
  vertices_still P Q last f h = still_met vertex_id (λ (u : VertexId). u.0) (λ n. refl) (λ u. refl) v.vertices P Q last f h

  pub all_vertices : (P : VertexId → Type 0) (last : Option VertexId) → None ≡ vertex_after_in v last → AllVertices v P last → (u : VertexId) → HasVertex v u → P u
  all_vertices P last e h u has = all_met vertex_id (λ (u : VertexId). u.0) (λ n. refl) (λ u. refl) v.vertices P last e h u has

-- ---- darts
abbrev pub AllDarts : View → (DartId → Type 0) → Option DartId → Type 0
AllDarts v P last = AllMet dart_id (λ (u : DartId). u.0) (λ n. refl) v.darts P last

abbrev pub darts_left : View → Option DartId → List DartId
darts_left v last = left dart_id (λ (u : DartId). u.0) (λ n. refl) (names v.darts) last

module _ (v : View) where
  pub no_dart_yet : (P : DartId → Type 0) → AllDarts v P None
  no_dart_yet P = none_met dart_id (λ (u : DartId). u.0) (λ n. refl) (λ u. refl) v.darts P

  module _ (last : Option DartId) (u : DartId) (ascend : NamesAscend (names v.darts)) (e : Some u ≡ dart_after_in v last) where
    pub dart_has : HasDart v u
    dart_has = next_has dart_id (λ (u : DartId). u.0) (λ n. refl) (λ u. refl) v.darts last u ascend e

    pub one_dart_more : (P : DartId → Type 0) → AllDarts v P last → P u → AllDarts v P (Some u)
    one_dart_more P h p = one_more dart_id (λ (u : DartId). u.0) (λ n. refl) (λ u. refl) v.darts P last u ascend e h p

    pub fewer_darts : length (darts_left v (Some u)) < length (darts_left v last)
    fewer_darts = fewer dart_id (λ (u : DartId). u.0) (λ n. refl) (names v.darts) last u ascend e

  pub darts_still : (P Q : DartId → Type 0) (last : Option DartId) → ((u : DartId) → P u → Q u) → AllDarts v P last → AllDarts v Q last
  darts_still P Q last f h = still_met dart_id (λ (u : DartId). u.0) (λ n. refl) (λ u. refl) v.darts P Q last f h

  pub all_darts : (P : DartId → Type 0) (last : Option DartId) → None ≡ dart_after_in v last → AllDarts v P last → (u : DartId) → HasDart v u → P u
  all_darts P last e h u has = all_met dart_id (λ (u : DartId). u.0) (λ n. refl) (λ u. refl) v.darts P last e h u has

-- A row written where it stands, one after another: what the tables hold is what they hold where all move at once.
use Rattle.std.proofs.Common.{◌≡◌, ◌≢◌, ℕ, ◌==◌, Bool, true, false, cond, List, [], ◌∷◌, ◌++◌, Option, Some, None, IsSome, option_map, refl, sym, ap, subst, ◌∙◌, inl, inr, ◌⊎◌}
use Rattle.std.specs.Prelude.{◌||◌}
use Rattle.std.proofs.lemmas.Bool.{cases_eq, false≢true}
use Rattle.std.proofs.lemmas.List.Folds.{list_any-append}
use Rattle.integers.proofs.Tests.{other_number, same_number}
use Rattle.slab_laws.specs.declared.names.CycleId.{CycleId}
use Rattle.slab_laws.specs.declared.names.FaceId.{FaceId}
use Rattle.slab_laws.specs.declared.names.VertexId.{VertexId}
use Rattle.slab_laws.specs.Tables.{row_at, names, NamesAscend}
use Rattle.slab_laws.specs.View.{Faces, CycleRecord, HasCycle, HasBareFace, kind_in, kind_or}
use Rattle.arr_notes.specs.FaceWriters.{moved_to, with_cycle, bare_in, lists_cycle, lists_vertex}
use Rattle.arr_notes.specs.NamedRows.{put, each}
use Rattle.arr_notes.proofs.RowLaws.{row_at-put, row_at-each, ascend-put, ascend-each, names-each, one_table}

module _ {X : Type 0} (F G : ℕ → X → X) (c : ℕ) (x : X) (rs : List (ℕ × X)) (asc : NamesAscend (names rs)) (has : IsSome (row_at rs c)) (hit : (y : X) → row_at rs c ≡ Some y → G c y ≡ x) (miss : (n : ℕ) (y : X) → n ≢ c → G n y ≡ F n y) where
  at_row : (o : Option X) → row_at rs c ≡ o → IsSome o → Some x ≡ option_map (G c) o
  at_row None e s = absurd (false≢true s)
  at_row (Some y) e s = ap Some (sym (hit y e))

  off_row : (n : ℕ) → n ≢ c → (o : Option X) → option_map (F n) o ≡ option_map (G n) o
  off_row n d None = refl
  off_row n d (Some y) = ap Some (sym (miss n y d))

  pub put_each : put c x (each F rs) ≡ each G rs
  put_each = one_table _ _ (ascend-put c x _ (ascend-each F rs asc)) (ascend-each G rs asc) (λ n. row_at-put c x (each F rs) n ∙ by n (cases_eq c n) ∙ sym (row_at-each G rs n))
    where
      by : (n : ℕ) → (c ≡ n) ⊎ (c ≢ n) → cond (c == n) (Some x) (row_at (each F rs) n) ≡ option_map (G n) (row_at rs n)
      by n (inl e) = ap (λ b. cond b (Some x) (row_at (each F rs) n)) (ap (λ z. c == z) (sym e) ∙ same_number c) ∙ subst (λ z. Some x ≡ option_map (G z) (row_at rs z)) e (at_row (row_at rs c) refl has)
      by n (inr d) = ap (λ b. cond b (Some x) (row_at (each F rs) n)) (other_number c n d) ∙ row_at-each F rs n ∙ off_row n (λ e. d (sym e)) (row_at rs n)

some_below : {X : Type 0} (F : X → X) (o : Option X) → IsSome (option_map F o) → IsSome o
some_below F None h = h
some_below F (Some x) h = refl

-- ---- one name more in a list
more_hit : (b : Bool) → (b || (true || false)) ≡ true
more_hit true = refl
more_hit false = refl

more_miss : (b : Bool) → (b || (false || false)) ≡ b
more_miss true = refl
more_miss false = refl

cycle_hit : (cs : List CycleId) (c : CycleId) → lists_cycle (cs ++ c ∷ []) c.0 ≡ true
cycle_hit cs c = list_any-append (λ (z : CycleId). z.0 == c.0) cs (c ∷ []) ∙ ap (λ b. lists_cycle cs c.0 || (b || false)) (same_number c.0) ∙ more_hit (lists_cycle cs c.0)

cycle_miss : (cs : List CycleId) (c : CycleId) (n : ℕ) → n ≢ c.0 → lists_cycle (cs ++ c ∷ []) n ≡ lists_cycle cs n
cycle_miss cs c n d = list_any-append (λ (z : CycleId). z.0 == n) cs (c ∷ []) ∙ ap (λ b. lists_cycle cs n || (b || false)) (other_number c.0 n (λ e. d (sym e))) ∙ more_miss (lists_cycle cs n)

vertex_hit : (us : List VertexId) (u : VertexId) → lists_vertex (us ++ u ∷ []) u.0 ≡ true
vertex_hit us u = list_any-append (λ (z : VertexId). z.0 == u.0) us (u ∷ []) ∙ ap (λ b. lists_vertex us u.0 || (b || false)) (same_number u.0) ∙ more_hit (lists_vertex us u.0)

vertex_miss : (us : List VertexId) (u : VertexId) (n : ℕ) → n ≢ u.0 → lists_vertex (us ++ u ∷ []) n ≡ lists_vertex us n
vertex_miss us u n d = list_any-append (λ (z : VertexId). z.0 == n) us (u ∷ []) ∙ ap (λ b. lists_vertex us n || (b || false)) (other_number u.0 n (λ e. d (sym e))) ∙ more_miss (lists_vertex us n)

-- ---- a cycle
abbrev in_face : FaceId → List CycleId → ℕ → CycleRecord → CycleRecord
in_face a cs n r = cond (lists_cycle cs n) (record { kind = r.kind; face = a }) r

module _ (cs : List CycleId) (c : CycleId) (a : FaceId) (f : Faces) where
  kind_mapped : (y : CycleRecord) → row_at f.cycles c.0 ≡ Some y → kind_in (moved_to cs [] a f) c ≡ y.kind
  kind_mapped y e = ap kind_or (row_at-each (in_face a cs) f.cycles c.0 ∙ ap (option_map (in_face a cs c.0)) e) ∙ by (lists_cycle cs c.0)
    where
      by : (b : Bool) → (cond {A = CycleRecord} b (record { kind = y.kind; face = a }) y).kind ≡ y.kind
      by true = refl
      by false = refl

  cycle_put : HasCycle (moved_to cs [] a f) c → NamesAscend (names (moved_to cs [] a f).cycles) → with_cycle c (kind_in (moved_to cs [] a f) c) a (moved_to cs [] a f) ≡ moved_to (cs ++ c ∷ []) [] a f
  cycle_put h asc =
      let r : put c.0 (record { kind = kind_in (moved_to cs [] a f) c; face = a }) (each (in_face a cs) f.cycles) ≡ each (in_face a (cs ++ c ∷ [])) f.cycles =
      put_each (in_face a cs) (in_face a (cs ++ c ∷ [])) c.0 (record { kind = kind_in (moved_to cs [] a f) c; face = a }) f.cycles (subst (λ ns. NamesAscend ns) (names-each (in_face a cs) f.cycles) asc)
      (some_below (in_face a cs c.0) (row_at f.cycles c.0) (subst IsSome (row_at-each (in_face a cs) f.cycles c.0) h))
      (λ y q. ap (λ b. cond {A = CycleRecord} b (record { kind = y.kind; face = a }) y) (cycle_hit cs c) ∙ (λ i. record { kind = sym (kind_mapped y q) i; face = a }))
      (λ n y d. ap (λ b. cond {A = CycleRecord} b (record { kind = y.kind; face = a }) y) (cycle_miss cs c n d)) in
      λ i. record { cycle_of = f.cycle_of; bare = (moved_to cs [] a f).bare; cycles = r i; faces = f.faces }

  pub cycle_moved : (now : Faces) → now ≡ moved_to cs [] a f → HasCycle now c → NamesAscend (names now.cycles) → with_cycle c (kind_in now c) a now ≡ moved_to (cs ++ c ∷ []) [] a f
  cycle_moved now e = subst (λ t. HasCycle t c → NamesAscend (names t.cycles) → with_cycle c (kind_in t c) a t ≡ moved_to (cs ++ c ∷ []) [] a f) (sym e) cycle_put

-- ---- a vertex
abbrev other_face : FaceId → List VertexId → ℕ → FaceId → FaceId
other_face a us n b = cond (lists_vertex us n) a b

module _ (us : List VertexId) (u : VertexId) (a : FaceId) (f : Faces) where
  vertex_put : HasBareFace (moved_to [] us a f) u → NamesAscend (names (moved_to [] us a f).bare) → bare_in u a (moved_to [] us a f) ≡ moved_to [] (us ++ u ∷ []) a f
  vertex_put h asc =
      let r : put u.0 a (each (other_face a us) f.bare) ≡ each (other_face a (us ++ u ∷ [])) f.bare =
      put_each (other_face a us) (other_face a (us ++ u ∷ [])) u.0 a f.bare (subst (λ ns. NamesAscend ns) (names-each (other_face a us) f.bare) asc)
      (some_below (other_face a us u.0) (row_at f.bare u.0) (subst IsSome (row_at-each (other_face a us) f.bare u.0) h))
      (λ y q. ap (λ b. cond b a y) (vertex_hit us u))
      (λ n y d. ap (λ b. cond b a y) (vertex_miss us u n d)) in
      λ i. record { cycle_of = f.cycle_of; bare = r i; cycles = (moved_to [] us a f).cycles; faces = f.faces }

  pub vertex_moved : (now : Faces) → now ≡ moved_to [] us a f → HasBareFace now u → NamesAscend (names now.bare) → bare_in u a now ≡ moved_to [] (us ++ u ∷ []) a f
  vertex_moved now e = subst (λ t. HasBareFace t u → NamesAscend (names t.bare) → bare_in u a t ≡ moved_to [] (us ++ u ∷ []) a f) (sym e) vertex_put
